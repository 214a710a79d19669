-- The first declarations of a normal form are such as may stay.
use Rattle.std.proofs.Common.{◌≡◌, ℕ, ◌==◌, Bool, true, false, if◌then◌else◌, List, [], ◌∷◌, map, find, is_some, option_map, Some, None, refl, sym, ap, ◌∙◌, subst, true≢false}
use Rattle.std.specs.List.{AllByRecursion}
use Rattle.std.proofs.lemmas.Bool.{or_left, or_right, eqb-true, eq-eqb}
use Rattle.ada_tree.specs.declared.naming.NameId.{NameId}
use Rattle.ada_tree.specs.declared.naming.Span.{Span}
use Rattle.ada_tree.specs.PlainDecl.{PShape, OPlain, OArray, PTask, PDecl, DNumber, DObject, DEnumeration, DArray, DSubtype, DException, DIntIo, DPragma, DTask, DTaskBody, PDecls, no_decl, decl_then}
use Rattle.ada_static_rules.specs.Scope.{Scope, NameMeaning, EntryPart}
use Rattle.ada_tree.specs.WellPlaced.{AreLater, BodiesLast}
use Rattle.ada_static_rules.specs.RuleDuplicate.{is_predefined, is_among}
use Rattle.ada_static_rules.specs.Declaring.{seen_as, first_scope, entry_part, task_thing, after_decl}
use Rattle.syn_event.specs.NamedTasks.{type_named, with_type}
use Rattle.normal_model.specs.NormalTree.{mark_of, unless_left, first_decls}
use Rattle.task_laws.specs.legal.rewritten_types.Rewriting.{valued, Behind, behind_none, behind_task, behind_body, behind_instance, Front, front_none, front_stays, front_task, front_object, front_body, names_declared, IsUnused, DeclareOnce}
use Rattle.task_laws.specs.legal.rewritten_types.Rewriting as rewriting
use Rattle.task_laws.proofs.legal.rewritten_types.Fresh.{InHere, first-here, here-decl, unused-free, unused-all, IsTaken, taken-decl}
use Rattle.task_laws.proofs.legal.rewritten_types.Refused.{declared_once}
use Rattle.normal_laws.specs.structure.types.Laws.{FirstDeclsAreFront}

-- the mark of an object is the same in the words of both crates
same-mark : (shape : PShape) → rewriting.mark_of shape ≡ mark_of shape
same-mark (OPlain x) = refl
same-mark (OArray index x) = refl

-- ---- task types

-- each task type is declared, and its name means no value
abbrev AreTaken : Scope → List PTask → Type 0
AreTaken s kinds = AllByRecursion (λ (t : PTask). IsTaken s t.name.name) kinds

still-taken : (d : PDecl) (s : Scope) (kinds : List PTask) → AllByRecursion (IsUnused s) (names_declared d) → AreTaken s kinds → AreTaken (after_decl s d) kinds
still-taken d s [] u h = tt
still-taken d s (t ∷ kinds) u h = (taken-decl d s t.name.name u h.0, still-taken d s kinds u h.1)

no_task_thing : (b : Bool) (entries : List EntryPart) → valued (Some (task_thing b entries)) ≡ None
no_task_thing true entries = refl
no_task_thing false entries = refl

-- a task is declared, and means no value
pub task-taken : (t : PTask) (s : Scope) (sp : Span) → IsTaken (after_decl s (DTask t sp)) t.name.name
task-taken t s sp = record {
  used = or_right (is_predefined n) _ (or_left (n == n) (is_among s.here n) same);
  free = ap (λ b. valued (option_map (λ (x : NameMeaning). x.thing) (if b then Some (seen_as (task_thing t.of_kind entries) n) else find (λ (x : NameMeaning). x.name == n) s.names))) same ∙ no_task_thing t.of_kind entries;
}
  where
    n : ℕ
    n = t.name.name.0

    entries : List EntryPart
    entries = map (entry_part s) t.entries

    same : (n == n) ≡ true
    same = eq-eqb n n refl

type-taken : (b : Bool) (t : PTask) (s : Scope) (kinds : List PTask) → IsTaken s t.name.name → AreTaken s kinds → AreTaken s (with_type kinds b t)
type-taken true t s kinds h k = (h, k)
type-taken false t s kinds h k = k

-- a name of one of them
named-taken : (s : Scope) (kinds : List PTask) (id : NameId) → is_some (type_named kinds id) ≡ true → AreTaken s kinds → IsTaken s id
named-taken s [] id e h = absurd (true≢false (sym e))
named-taken s (t ∷ kinds) id e h = by_test (t.name.name.0 == id.0) refl e (λ f. named-taken s kinds id f h.1)
  where
    by_test : (b : Bool) → (t.name.name.0 == id.0) ≡ b → is_some (if b then Some t else type_named kinds id) ≡ true → (is_some (type_named kinds id) ≡ true → IsTaken s id) → IsTaken s id
    by_test true f g rest = subst (λ n. IsTaken s record { 0 = n }) (eqb-true t.name.name.0 id.0 f) h.0
    by_test false f g rest = rest g

-- ---- the declarations

behind-first : (ds : PDecls) (kinds : List PTask) → AreLater ds → Behind ds (first_decls kinds ds)
behind-first no_decl kinds h = behind_none
behind-first (decl_then (DTask t sp) rest) kinds h = behind_task (behind-first rest _ h.1)
behind-first (decl_then (DTaskBody w objects its sp) rest) kinds h = behind_body (behind-first rest kinds h.1)
behind-first (decl_then (DIntIo w sp) rest) kinds h = behind_instance (behind-first rest kinds h.1)
behind-first (decl_then (DNumber name e sp) rest) kinds h = absurd h.0
behind-first (decl_then (DObject names constant shape init sp) rest) kinds h = absurd h.0
behind-first (decl_then (DEnumeration name literals sp) rest) kinds h = absurd h.0
behind-first (decl_then (DArray name index x sp) rest) kinds h = absurd h.0
behind-first (decl_then (DSubtype name x sp) rest) kinds h = absurd h.0
behind-first (decl_then (DException names sp) rest) kinds h = absurd h.0
behind-first (decl_then (DPragma e sp) rest) kinds h = absurd h.0

first-front : (ds : PDecls) (kinds : List PTask) (s : Scope) → InHere s → AreTaken s kinds → DeclareOnce s ds → BodiesLast ds → Front s ds (first_decls kinds ds)
first-front no_decl kinds s here taken once last = front_none
first-front (decl_then (DTaskBody w objects its sp) rest) kinds s here taken once last = front_body (behind-first rest kinds last)
first-front (decl_then (DTask t sp) rest) kinds s here taken once last =
    front_task (unused-free s t.name here once.0.0)
    (first-front rest (with_type kinds t.of_kind t) _ (here-decl (DTask t sp) s here)
    (type-taken t.of_kind t (after_decl s (DTask t sp)) kinds (task-taken t s sp) (still-taken (DTask t sp) s kinds once.0 taken)) once.1 last)
first-front (decl_then (DObject names constant shape init sp) rest) kinds s here taken once last =
    by_test (is_some (type_named kinds (mark_of shape))) refl
    (first-front rest kinds _ (here-decl (DObject names constant shape init sp) s here) (still-taken (DObject names constant shape init sp) s kinds once.0 taken) once.1 last)
  where
    by_test : (b : Bool) → is_some (type_named kinds (mark_of shape)) ≡ b → Front (after_decl s (DObject names constant shape init sp)) rest (first_decls kinds rest) →
        Front s (decl_then (DObject names constant shape init sp) rest) (unless_left b (DObject names constant shape init sp) (first_decls kinds rest))
    by_test false e f = front_stays tt f
    by_test true e f =
        let h : IsTaken s (rewriting.mark_of shape) = subst (IsTaken s) (sym (same-mark shape)) (named-taken s kinds (mark_of shape) e taken) in
        front_object h.used h.free (unused-all s names here once.0) f
first-front (decl_then (DNumber name e sp) rest) kinds s here taken once last =
    front_stays tt (first-front rest kinds _ (here-decl (DNumber name e sp) s here) (still-taken (DNumber name e sp) s kinds once.0 taken) once.1 last)
first-front (decl_then (DEnumeration name literals sp) rest) kinds s here taken once last =
    front_stays tt (first-front rest kinds _ (here-decl (DEnumeration name literals sp) s here) (still-taken (DEnumeration name literals sp) s kinds once.0 taken) once.1 last)
first-front (decl_then (DArray name index x sp) rest) kinds s here taken once last =
    front_stays tt (first-front rest kinds _ (here-decl (DArray name index x sp) s here) (still-taken (DArray name index x sp) s kinds once.0 taken) once.1 last)
first-front (decl_then (DSubtype name x sp) rest) kinds s here taken once last =
    front_stays tt (first-front rest kinds _ (here-decl (DSubtype name x sp) s here) (still-taken (DSubtype name x sp) s kinds once.0 taken) once.1 last)
first-front (decl_then (DException names sp) rest) kinds s here taken once last =
    front_stays tt (first-front rest kinds _ (here-decl (DException names sp) s here) (still-taken (DException names sp) s kinds once.0 taken) once.1 last)
first-front (decl_then (DIntIo w sp) rest) kinds s here taken once last =
    front_stays tt (first-front rest kinds _ (here-decl (DIntIo w sp) s here) (still-taken (DIntIo w sp) s kinds once.0 taken) once.1 last)
first-front (decl_then (DPragma e sp) rest) kinds s here taken once last =
    front_stays tt (first-front rest kinds _ (here-decl (DPragma e sp) s here) (still-taken (DPragma e sp) s kinds tt taken) once.1 last)

pub first_decls_are_front : FirstDeclsAreFront
first_decls_are_front p ordered = first-front p.decls [] (first_scope p.name) (first-here p.name) tt (declared_once p ordered.rules).1 ordered.last
