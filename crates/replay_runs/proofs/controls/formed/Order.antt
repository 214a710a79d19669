-- The declarations of a normal form stand in order, whatever the program, and no task type is one of them.
use Rattle.std.proofs.Common.{◌≡◌, Bool, true, false, List, [], ◌∷◌, ◌++◌, if◌then◌else◌, refl, ap, ◌∙◌, ◌==◌}
use Rattle.std.specs.Prelude.{map, flat_map}
use Rattle.std.specs.List.{AllByRecursion}
use Rattle.common_lemmas.proofs.Lists.{all_joined}
use Rattle.ada_tree.specs.declared.naming.NameId.{NameId}
use Rattle.ada_tree.specs.PlainDecl.{PTask, PDecl, DNumber, DObject, DEnumeration, DArray, DSubtype, DException, DIntIo, DPragma, DTask, DTaskBody, PDecls, no_decl, decl_then, decls_of}
use Rattle.syn_event.specs.DeclaredTasks.{decl_list}
use Rattle.syn_event.proofs.DeclLists.{listed_back}
use Rattle.task_model.specs.Setting.{Setting}
use Rattle.normal_model.specs.NormalTree.{unless_left, first_decls, task_under, declared_under, task_declared, tasks_beside, running, bodies_of, main_unit, main_variables}
use Rattle.normal_laws.proofs.structure.types.Variables.{unit-all}
use Rattle.normal_laws.proofs.structure.units.Tasks.{list-front}
use Rattle.normal_laws.specs.runs.forms.Normalisable.{setting_for}
use Rattle.replay_runs.specs.controls.formed.NormalForm.{IsPlain, IsTask, IsTaskBody, LegalNormalForms}
use Rattle.replay_runs.proofs.controls.formed.Bodies.{legal_bodies_are_formed}

-- what holds of all that is made of each holds of all
all-made : {A : Type 0} (P : PDecl → Type 0) (f : A → List PDecl) (xs : List A) → ((x : A) → AllByRecursion P (f x)) → AllByRecursion P (flat_map f xs)
all-made P f [] h = tt
all-made P f (x ∷ xs) h = all_joined P (f x) (flat_map f xs) (h x) (all-made P f xs h)

all-mapped : {A : Type 0} (P : PDecl → Type 0) (f : A → PDecl) (xs : List A) → ((x : A) → P (f x)) → AllByRecursion P (map f xs)
all-mapped P f [] h = tt
all-mapped P f (x ∷ xs) h = (h x, all-mapped P f xs h)

-- the first declarations are plain
first-plain : (ds : PDecls) (kinds : List PTask) → AllByRecursion IsPlain (decl_list (first_decls kinds ds))
first-plain no_decl kinds = tt
first-plain (decl_then (DTask t s) rest) kinds = first-plain rest _
first-plain (decl_then (DTaskBody w ds b s) rest) kinds = first-plain rest kinds
first-plain (decl_then (DObject ws c x i s) rest) kinds = by_test _ (first-plain rest kinds)
  where
    by_test : (b : Bool) → AllByRecursion IsPlain (decl_list (first_decls kinds rest)) → AllByRecursion IsPlain (decl_list (unless_left b (DObject ws c x i s) (first_decls kinds rest)))
    by_test true h = h
    by_test false h = (tt, h)
first-plain (decl_then (DNumber w e s) rest) kinds = (tt, first-plain rest kinds)
first-plain (decl_then (DEnumeration w ws s) rest) kinds = (tt, first-plain rest kinds)
first-plain (decl_then (DArray w r x s) rest) kinds = (tt, first-plain rest kinds)
first-plain (decl_then (DSubtype w x s) rest) kinds = (tt, first-plain rest kinds)
first-plain (decl_then (DException ws s) rest) kinds = (tt, first-plain rest kinds)
first-plain (decl_then (DIntIo w s) rest) kinds = (tt, first-plain rest kinds)
first-plain (decl_then (DPragma e s) rest) kinds = (tt, first-plain rest kinds)

-- a task of the normal form is no task type
task-single : (unit name : NameId) (d : PDecl) → AllByRecursion IsTask (declared_under unit name d)
task-single unit name (DTask t s) = by_test (t.name.name.0 == unit.0)
  where
    by_test : (b : Bool) → AllByRecursion IsTask (if b then DTask (task_under name t) s ∷ [] else [])
    by_test true = (refl, tt)
    by_test false = tt
task-single unit name (DTaskBody w ds b s) = tt
task-single unit name (DObject ws c x i s) = tt
task-single unit name (DNumber w e s) = tt
task-single unit name (DEnumeration w ws s) = tt
task-single unit name (DArray w r x s) = tt
task-single unit name (DSubtype w x s) = tt
task-single unit name (DException ws s) = tt
task-single unit name (DIntIo w s) = tt
task-single unit name (DPragma e s) = tt

-- a copy of a body is one
body-copied : (g : Setting) (d : PDecl) → AllByRecursion IsTaskBody (bodies_of g d)
body-copied g (DTaskBody w ds b s) = all-mapped IsTaskBody _ (running g w.name) (λ info. tt)
body-copied g (DTask t s) = tt
body-copied g (DObject ws c x i s) = tt
body-copied g (DNumber w e s) = tt
body-copied g (DEnumeration w ws s) = tt
body-copied g (DArray w r x s) = tt
body-copied g (DSubtype w x s) = tt
body-copied g (DException ws s) = tt
body-copied g (DIntIo w s) = tt
body-copied g (DPragma e s) = tt

joined-again : {A : Type 0} (xs vs ys zs : List A) → xs ++ (vs ++ ys ++ zs) ≡ xs ++ vs ++ ys ++ zs
joined-again [] vs ys zs = refl
joined-again (x ∷ xs) vs ys zs = ap (λ l. x ∷ l) (joined-again xs vs ys zs)

pub legal_normal_forms : LegalNormalForms
legal_normal_forms p h =
    let g = setting_for p in
    let first = decl_list (first_decls [] p.decls) in
    let vars = main_variables g in
    let tasks = flat_map (task_declared g) (tasks_beside g) in
    let bodies = flat_map (bodies_of g) (decl_list p.decls) in
    record {
      order = record {
        first = first ++ vars;
        tasks = tasks;
        bodies = bodies;
        joined = list-front (first_decls [] p.decls) (decls_of (vars ++ tasks ++ bodies)) ∙ ap (λ l. first ++ l) (listed_back (vars ++ tasks ++ bodies)) ∙ joined-again first vars tasks bodies;
        plain = all_joined IsPlain first vars (first-plain p.decls []) (unit-all IsPlain (main_unit g) (λ s x k. tt) p.body);
        single = all-made IsTask (task_declared g) (tasks_beside g) (λ info. all-made IsTask _ (decl_list p.decls) (task-single info.unit _));
        last = all-made IsTaskBody (bodies_of g) (decl_list p.decls) (body-copied g);
      };
      units = legal_bodies_are_formed p h;
    }
