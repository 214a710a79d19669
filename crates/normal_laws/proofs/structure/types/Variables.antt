-- What a normal form adds: variables of new names, tasks and bodies.
use Rattle.std.proofs.Common.{◌≡◌, ℕ, ◌+◌, ◌==◌, Bool, true, false, if◌then◌else◌, List, [], ◌∷◌, length, map, flat_map}
use Rattle.std.specs.List.{AllByRecursion}
use Rattle.ada_tree.specs.declared.naming.NameId.{NameId}
use Rattle.ada_tree.specs.declared.naming.Span.{Span}
use Rattle.ada_tree.specs.PlainExpr.{PSubind}
use Rattle.ada_tree.specs.PlainStmt.{PStmt, SNull, SAssign, SDelay, SExit, SRaise, SAbort, SCall, SAccept, SWait, SConditional, STimed, SPut, SPutLine, SNewLine, SGet, SIf, SCase, SBlock, SLoop, PBody}
use Rattle.ada_tree.specs.PlainDecl.{PDecl, DNumber, DObject, DEnumeration, DArray, DSubtype, DException, DIntIo, DPragma, DTask, DTaskBody, decls_of}
use Rattle.syn_event.specs.declared.numbering.TaskInfo.{TaskInfo}
use Rattle.syn_event.specs.DeclaredTasks.{decl_list}
use Rattle.task_model.specs.Setting.{Setting}
use Rattle.normal_model.specs.Names.{variable_name, task_name}
use Rattle.normal_model.specs.RewrittenUnit.{RewrittenUnit}
use Rattle.normal_model.specs.Variables.{variable_declared, variables_declared, more_variables, statement_variables}
use Rattle.normal_model.specs.NormalStmts.{normal_rewriter, unit_variables}
use Rattle.normal_model.specs.NormalTree.{tasks_beside, task_under, declared_under, task_declared, bodies_of}
use Rattle.task_laws.specs.legal.rewritten_types.Rewriting.{IsAdded, AreAdded}
use Rattle.normal_laws.proofs.structure.types.Walking.{body-keeps}
use Rattle.common_lemmas.proofs.Lists.{all_joined}

-- ---- lists

pub all-flat : {A B : Type 0} (P : B → Type 0) (f : A → List B) → ((x : A) → AllByRecursion P (f x)) → (xs : List A) → AllByRecursion P (flat_map f xs)
all-flat P f h [] = tt
all-flat P f h (x ∷ xs) = all_joined P (f x) (flat_map f xs) (h x) (all-flat P f h xs)

pub all-mapped : {A B : Type 0} (P : B → Type 0) (f : A → B) → ((x : A) → P (f x)) → (xs : List A) → AllByRecursion P (map f xs)
all-mapped P f h [] = tt
all-mapped P f h (x ∷ xs) = (h x, all-mapped P f h xs)

pub are-added : (old : ℕ → Bool) (xs : List PDecl) → AllByRecursion (IsAdded old) xs → AreAdded old (decls_of xs)
are-added old [] h = tt
are-added old (x ∷ xs) h = (h.0, are-added old xs h.1)

-- ---- tasks and bodies

-- a task or a body
abbrev pub IsTaskOrBody : PDecl → Type 0
IsTaskOrBody (DTask t s) = Prim.Unit {0}
IsTaskOrBody (DTaskBody w objects its s) = Prim.Unit {0}
IsTaskOrBody _ = ⊥

pub task-added : (old : ℕ → Bool) (d : PDecl) → IsTaskOrBody d → IsAdded old d
task-added old (DTask t s) h = tt
task-added old (DTaskBody w objects its s) h = tt
task-added old (DNumber w e s) h = absurd h
task-added old (DObject ws c x i s) h = absurd h
task-added old (DEnumeration w ws s) h = absurd h
task-added old (DArray w r x s) h = absurd h
task-added old (DSubtype w x s) h = absurd h
task-added old (DException ws s) h = absurd h
task-added old (DIntIo w s) h = absurd h
task-added old (DPragma e s) h = absurd h

under-task : (unit name : NameId) (d : PDecl) → AllByRecursion IsTaskOrBody (declared_under unit name d)
under-task unit name (DTask t s) = by_test (t.name.name.0 == unit.0)
  where
    by_test : (b : Bool) → AllByRecursion IsTaskOrBody (if b then DTask (task_under name t) s ∷ [] else [])
    by_test true = (tt, tt)
    by_test false = tt
under-task unit name (DTaskBody w objects its s) = tt
under-task unit name (DNumber w e s) = tt
under-task unit name (DObject ws c x i s) = tt
under-task unit name (DEnumeration w ws s) = tt
under-task unit name (DArray w r x s) = tt
under-task unit name (DSubtype w x s) = tt
under-task unit name (DException ws s) = tt
under-task unit name (DIntIo w s) = tt
under-task unit name (DPragma e s) = tt

pub tasks-only : (g : Setting) → AllByRecursion IsTaskOrBody (flat_map (task_declared g) (tasks_beside g))
tasks-only g = all-flat IsTaskOrBody (task_declared g) (λ info. all-flat IsTaskOrBody (declared_under info.unit (task_name g info)) (under-task info.unit (task_name g info)) (decl_list g.program.decls)) (tasks_beside g)

copies-only : (g : Setting) (d : PDecl) → AllByRecursion IsTaskOrBody (bodies_of g d)
copies-only g (DTaskBody w objects its s) = all-mapped IsTaskOrBody _ (λ (info : TaskInfo). tt) _
copies-only g (DTask t s) = tt
copies-only g (DNumber w e s) = tt
copies-only g (DObject ws c x i s) = tt
copies-only g (DEnumeration w ws s) = tt
copies-only g (DArray w r x s) = tt
copies-only g (DSubtype w x s) = tt
copies-only g (DException ws s) = tt
copies-only g (DIntIo w s) = tt
copies-only g (DPragma e s) = tt

pub bodies-only : (g : Setting) → AllByRecursion IsTaskOrBody (flat_map (bodies_of g) (decl_list g.program.decls))
bodies-only g = all-flat IsTaskOrBody (bodies_of g) (copies-only g) (decl_list g.program.decls)

-- ---- variables

-- what holds of each declaration of a variable holds of all that a unit gets
module _ (P : PDecl → Type 0) (u : RewrittenUnit) (each : (s : Span) (x : PSubind) (k : ℕ) → P (variable_declared u.setting s x k)) where
  declared-all : (s : Span) (xs : List PSubind) (k : ℕ) → AllByRecursion P (variables_declared u.setting s xs k)
  declared-all s [] k = tt
  declared-all s (x ∷ xs) k = (each s x k, declared-all s xs (k + 1))

  more-all : (s : Span) (xs : List PSubind) (vars : List PDecl) → AllByRecursion P vars → AllByRecursion P (more_variables u s xs vars)
  more-all s xs vars h = all_joined P vars _ h (declared-all s xs (length vars))

  statement-all : (vars : List PDecl) (x : PStmt) → AllByRecursion P vars → AllByRecursion P (statement_variables u vars x)
  statement-all vars (SCall c s) h = more-all s _ vars h
  statement-all vars (SConditional c b o s) h = more-all s _ vars h
  statement-all vars (STimed c b d a s) h = more-all s _ vars h
  statement-all vars (SAccept a s) h = more-all s _ vars h
  statement-all vars (SAbort cs s) h = more-all s _ vars h
  statement-all vars (SWait x o s) h = h
  statement-all vars (SNull s) h = h
  statement-all vars (SAssign x e s) h = h
  statement-all vars (SDelay d s) h = h
  statement-all vars (SExit w e s) h = h
  statement-all vars (SRaise w s) h = h
  statement-all vars (SPut ps s) h = h
  statement-all vars (SPutLine ps s) h = h
  statement-all vars (SNewLine s) h = h
  statement-all vars (SGet x s) h = h
  statement-all vars (SIf x o s) h = h
  statement-all vars (SCase e x o s) h = h
  statement-all vars (SBlock b s) h = h
  statement-all vars (SLoop w c l s) h = h

  pub unit-all : (b : PBody) → AllByRecursion P (unit_variables u b)
  unit-all b = body-keeps (normal_rewriter u) (normal_rewriter u) (λ v w. AllByRecursion P v) (λ v w x h. statement-all v x h) (λ v w x h. more-all _ _ v h) b [] [] tt

-- the variables of a unit have new names
pub unit-new : (old : ℕ → Bool) (u : RewrittenUnit) → ((k : ℕ) → old (variable_name u.setting k).0 ≡ false) → (b : PBody) → AllByRecursion (IsAdded old) (unit_variables u b)
unit-new old u new b = unit-all (IsAdded old) u (λ s x k. (new k, tt)) b
