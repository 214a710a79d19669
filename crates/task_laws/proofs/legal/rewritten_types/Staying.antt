-- The declarations but tasks, objects of task types and bodies are first declarations.
use Rattle.std.proofs.Common.{◌≡◌, ℕ, Bool, true, false, Option, Some, None, refl, sym, ◌∙◌, true≢false}
use Rattle.ada_tree.specs.declared.static_types.Kind.{Kind}
use Rattle.ada_tree.specs.declared.static_types.Kind.TheVariants.{Integer, Truth, Enumeration, Array}
use Rattle.ada_tree.specs.declared.static_types.Mark.{Mark}
use Rattle.ada_tree.specs.TypeTable.{TypeTable}
use Rattle.ada_tree.specs.PlainDecl.{DNumber, DObject, DEnumeration, DArray, DSubtype, DException, DIntIo, DPragma, DTask, DTaskBody, PDecls, no_decl, decl_then}
use Rattle.ada_static_rules.specs.Scope.{Scope, Thing, TypeMark, TaskType, SingleTask, TaskObject, TaskArray, Variable, ConstantObject, Parameter, LoopParameter, Literal, AnException, MainProcedure, AnotherUnit, Unclear, kind_at, mark_at, marking_of_kind, marking_of_mark, marking_of, marking, meaning}
use Rattle.ada_tree.specs.WellPlaced.{AreLater, BodiesLast}
use Rattle.ada_static_rules.specs.Declaring.{first_scope, after_decl}
use Rattle.task_laws.specs.legal.rewritten_types.Rewriting.{valued, mark_of, Behind, behind_none, behind_task, behind_body, behind_instance, Front, front_none, front_stays, front_task, front_object, front_body, if_stays, is_no_task, staying, DeclareOnce}
use Rattle.task_laws.specs.legal.rewritten_types.Laws.{StayingIsFront}
use Rattle.task_laws.proofs.legal.rewritten_types.Fresh.{InHere, first-here, here-decl, unused-free, unused-all, meaning-used}
use Rattle.task_laws.proofs.legal.rewritten_types.Refused.{declared_once}

-- what stands behind a body
behind-staying : (ds : PDecls) (s : Scope) → AreLater ds → Behind ds (staying s ds)
behind-staying no_decl s h = behind_none
behind-staying (decl_then (DTask t sp) rest) s h = behind_task (behind-staying rest _ h.1)
behind-staying (decl_then (DTaskBody w objects its sp) rest) s h = behind_body (behind-staying rest _ h.1)
behind-staying (decl_then (DIntIo w sp) rest) s h = behind_instance (behind-staying rest _ h.1)
behind-staying (decl_then (DNumber name e sp) rest) s h = absurd h.0
behind-staying (decl_then (DObject names constant shape init sp) rest) s h = absurd h.0
behind-staying (decl_then (DEnumeration name literals sp) rest) s h = absurd h.0
behind-staying (decl_then (DArray name index x sp) rest) s h = absurd h.0
behind-staying (decl_then (DSubtype name x sp) rest) s h = absurd h.0
behind-staying (decl_then (DException names sp) rest) s h = absurd h.0
behind-staying (decl_then (DPragma e sp) rest) s h = absurd h.0

-- the name of a task type means no value
pub scalar-no-task : (m k : ℕ) (o : Option Kind) → is_no_task (marking_of_kind m k o) ≡ true
scalar-no-task m k (Some (Array index first last part)) = refl
scalar-no-task m k (Some Integer) = refl
scalar-no-task m k (Some Truth) = refl
scalar-no-task m k (Some (Enumeration names)) = refl
scalar-no-task m k None = refl

pub mark-no-task : (T : TypeTable) (m : ℕ) (o : Option Mark) → is_no_task (marking_of_mark T m o) ≡ true
mark-no-task T m (Some x) = scalar-no-task m x.kind (kind_at T x.kind)
mark-no-task T m None = refl

-- the thing is there, and means no value
abbrev IsThere : Option Thing → Type 0
IsThere o = (thing : Thing) × (o ≡ Some thing) × (valued o ≡ None)

task-there : (T : TypeTable) (o : Option Thing) → is_no_task (marking_of T o) ≡ false → IsThere o
task-there T (Some (TypeMark m)) e = absurd (true≢false (sym (mark-no-task T m (mark_at T m)) ∙ e))
task-there T (Some (TaskType entries)) e = (TaskType entries, refl, refl)
task-there T (Some (SingleTask entries)) e = absurd (true≢false e)
task-there T (Some (TaskObject entries)) e = absurd (true≢false e)
task-there T (Some (TaskArray r entries)) e = absurd (true≢false e)
task-there T (Some (Variable m)) e = absurd (true≢false e)
task-there T (Some (ConstantObject m)) e = absurd (true≢false e)
task-there T (Some (Parameter mode m)) e = absurd (true≢false e)
task-there T (Some (LoopParameter m)) e = absurd (true≢false e)
task-there T (Some (Literal k)) e = absurd (true≢false e)
task-there T (Some AnException) e = absurd (true≢false e)
task-there T (Some MainProcedure) e = absurd (true≢false e)
task-there T (Some AnotherUnit) e = absurd (true≢false e)
task-there T (Some Unclear) e = absurd (true≢false e)
task-there T None e = absurd (true≢false e)

pub front-staying : (ds : PDecls) (s : Scope) → InHere s → DeclareOnce s ds → BodiesLast ds → Front s ds (staying s ds)
front-staying no_decl s here once last = front_none
front-staying (decl_then (DTaskBody w objects its sp) rest) s here once last = front_body (behind-staying rest _ last)
front-staying (decl_then (DTask t sp) rest) s here once last =
    front_task (unused-free s t.name here once.0.0) (front-staying rest _ (here-decl (DTask t sp) s here) once.1 last)
front-staying (decl_then (DObject names constant shape init sp) rest) s here once last =
    by_test (is_no_task (marking s (mark_of shape))) refl (front-staying rest _ (here-decl (DObject names constant shape init sp) s here) once.1 last)
  where
    by_test : (b : Bool) → is_no_task (marking s (mark_of shape)) ≡ b →
        Front (after_decl s (DObject names constant shape init sp)) rest (staying (after_decl s (DObject names constant shape init sp)) rest) →
        Front s (decl_then (DObject names constant shape init sp) rest) (if_stays b (DObject names constant shape init sp) (staying (after_decl s (DObject names constant shape init sp)) rest))
    by_test true e f = front_stays tt f
    by_test false e f =
        let there = task-there s.types (meaning s (mark_of shape)) e in
        front_object (meaning-used s (mark_of shape) there.0 here there.1) there.2 (unused-all s names here once.0) f
front-staying (decl_then (DNumber name e sp) rest) s here once last = front_stays tt (front-staying rest _ (here-decl (DNumber name e sp) s here) once.1 last)
front-staying (decl_then (DEnumeration name literals sp) rest) s here once last = front_stays tt (front-staying rest _ (here-decl (DEnumeration name literals sp) s here) once.1 last)
front-staying (decl_then (DArray name index x sp) rest) s here once last = front_stays tt (front-staying rest _ (here-decl (DArray name index x sp) s here) once.1 last)
front-staying (decl_then (DSubtype name x sp) rest) s here once last = front_stays tt (front-staying rest _ (here-decl (DSubtype name x sp) s here) once.1 last)
front-staying (decl_then (DException names sp) rest) s here once last = front_stays tt (front-staying rest _ (here-decl (DException names sp) s here) once.1 last)
front-staying (decl_then (DIntIo w sp) rest) s here once last = front_stays tt (front-staying rest _ (here-decl (DIntIo w sp) s here) once.1 last)
front-staying (decl_then (DPragma e sp) rest) s here once last = front_stays tt (front-staying rest _ (here-decl (DPragma e sp) s here) once.1 last)

pub staying_is_front : StayingIsFront
staying_is_front p rules last = front-staying p.decls (first_scope p.name) (first-here p.name) (declared_once p rules).1 last
