-- The units of a legal program's tasks are declared once.
use Rattle.std.proofs.Common.{◌≡◌, ℕ, ◌==◌, ◌||◌, Bool, true, false, cond, List, [], ◌∷◌, length, map, flat_map, Option, Some, None, refl, sym, ap, ◌∙◌, subst, true≢false}
use Rattle.std.specs.List.{AllByRecursion, filter, list_any}
use Rattle.std.proofs.lemmas.Bool.{or_left, or_right, eqb-true, eq-eqb}
use Rattle.ada_tree.specs.declared.naming.NameId.{NameId}
use Rattle.ada_tree.specs.declared.naming.Span.{Span}
use Rattle.ada_tree.specs.declared.naming.Word.{Word}
use Rattle.ada_tree.specs.TypeTable.{TypeTable}
use Rattle.ada_tree.specs.PlainExpr.{PDrange}
use Rattle.ada_tree.specs.PlainDecl.{PShape, OPlain, OArray, PTask, DNumber, DObject, DEnumeration, DArray, DSubtype, DException, DIntIo, DPragma, DTask, DTaskBody, PDecls, no_decl, decl_then}
use Rattle.ada_static_rules.specs.Scope.{Scope}
use Rattle.ada_static_rules.specs.Declaring.{first_scope, after_decl}
use Rattle.syn_event.specs.declared.numbering.TaskInfo.{TaskInfo}
use Rattle.syn_event.specs.Extents.{extent}
use Rattle.syn_event.specs.NamedTasks.{NamedTasks, named_tasks, type_named, task_names_of_type, object_task_names, with_type, single_task_name, task_names_in, task_names_of, NumberedTask, numbered_task, indices, tasks_of_range, tasks_of_name, numbered_tasks}
use Rattle.syn_event.specs.AllNumbers.{info_of_task}
use Rattle.syn_event.specs.DeclaredTasks.{decl_list, tasks_in, tasks_of}
use Rattle.task_laws.specs.legal.rewritten_types.Rewriting.{DeclareOnce}
use Rattle.task_laws.proofs.legal.rewritten_types.Lookups.{find-all}
use Rattle.task_laws.proofs.legal.rewritten_types.Fresh.{IsTaken, taken-decl, unused-others}
use Rattle.task_laws.proofs.legal.rewritten_types.Refused.{declared_once}
use Rattle.normal_laws.proofs.structure.types.Variables.{all-mapped}
use Rattle.normal_laws.proofs.structure.types.Fronts.{task-taken}
use Rattle.normal_laws.specs.structure.units.Laws.{count_named, UnitsAreDeclared}
use Rattle.common_lemmas.proofs.Lists.{all_joined, all_weaker}

-- the test of a name
abbrev pub has_name : NameId → PTask → Bool
has_name id t = t.name.name.0 == id.0

-- ---- once

-- the tasks of a name among declarations
abbrev pub named_in : NameId → PDecls → List PTask
named_in id ds = filter (has_name id) (tasks_in (decl_list ds))

-- no task has a name that is taken
none-more : (ds : PDecls) (s : Scope) (id : NameId) → IsTaken s id → DeclareOnce s ds → named_in id ds ≡ []
none-more no_decl s id taken once = refl
none-more (decl_then (DTask t sp) rest) s id taken once =
    ap (λ b. cond b (t ∷ named_in id rest) (named_in id rest)) (unused-others s (t.name ∷ []) id taken once.0).0
    ∙ none-more rest _ id (taken-decl (DTask t sp) s id once.0 taken) once.1
none-more (decl_then (DTaskBody w objects its sp) rest) s id taken once = none-more rest _ id (taken-decl (DTaskBody w objects its sp) s id tt taken) once.1
none-more (decl_then (DNumber name e sp) rest) s id taken once = none-more rest _ id (taken-decl (DNumber name e sp) s id once.0 taken) once.1
none-more (decl_then (DObject names c x i sp) rest) s id taken once = none-more rest _ id (taken-decl (DObject names c x i sp) s id once.0 taken) once.1
none-more (decl_then (DEnumeration name ws sp) rest) s id taken once = none-more rest _ id (taken-decl (DEnumeration name ws sp) s id once.0 taken) once.1
none-more (decl_then (DArray name r x sp) rest) s id taken once = none-more rest _ id (taken-decl (DArray name r x sp) s id once.0 taken) once.1
none-more (decl_then (DSubtype name x sp) rest) s id taken once = none-more rest _ id (taken-decl (DSubtype name x sp) s id once.0 taken) once.1
none-more (decl_then (DException names sp) rest) s id taken once = none-more rest _ id (taken-decl (DException names sp) s id once.0 taken) once.1
none-more (decl_then (DIntIo w sp) rest) s id taken once = none-more rest _ id (taken-decl (DIntIo w sp) s id once.0 taken) once.1
none-more (decl_then (DPragma e sp) rest) s id taken once = none-more rest _ id (taken-decl (DPragma e sp) s id tt taken) once.1

-- a task that is declared is declared once
pub one-there : (ds : PDecls) (s : Scope) (id : NameId) → DeclareOnce s ds → list_any (has_name id) (tasks_in (decl_list ds)) ≡ true → length (named_in id ds) ≡ 1
one-there no_decl s id once there = absurd (true≢false (sym there))
one-there (decl_then (DTask t sp) rest) s id once there = by_test (t.name.name.0 == id.0) refl there (λ any. one-there rest (after_decl s (DTask t sp)) id once.1 any)
  where
    by_test : (b : Bool) → (t.name.name.0 == id.0) ≡ b → (b || list_any (has_name id) (tasks_in (decl_list rest))) ≡ true →
        (list_any (has_name id) (tasks_in (decl_list rest)) ≡ true → length (named_in id rest) ≡ 1) → length (cond b (t ∷ named_in id rest) (named_in id rest)) ≡ 1
    by_test true e any later =
        ap (λ l. length (t ∷ l)) (none-more rest (after_decl s (DTask t sp)) id (subst (λ n. IsTaken (after_decl s (DTask t sp)) record { 0 = n }) (eqb-true t.name.name.0 id.0 e) (task-taken t s sp)) once.1)
    by_test false e any later = later any
one-there (decl_then (DTaskBody w objects its sp) rest) s id once there = one-there rest _ id once.1 there
one-there (decl_then (DNumber name e sp) rest) s id once there = one-there rest _ id once.1 there
one-there (decl_then (DObject names c x i sp) rest) s id once there = one-there rest _ id once.1 there
one-there (decl_then (DEnumeration name ws sp) rest) s id once there = one-there rest _ id once.1 there
one-there (decl_then (DArray name r x sp) rest) s id once there = one-there rest _ id once.1 there
one-there (decl_then (DSubtype name x sp) rest) s id once there = one-there rest _ id once.1 there
one-there (decl_then (DException names sp) rest) s id once there = one-there rest _ id once.1 there
one-there (decl_then (DIntIo w sp) rest) s id once there = one-there rest _ id once.1 there
one-there (decl_then (DPragma e sp) rest) s id once there = one-there rest _ id once.1 there

-- ---- there

-- each of a list has a name that one of them has
pub each-there : (xs : List PTask) → AllByRecursion (λ (t : PTask). list_any (has_name t.name.name) xs ≡ true) xs
each-there [] = tt
each-there (x ∷ xs) = (
  or_left (x.name.name.0 == x.name.name.0) (list_any (has_name x.name.name) xs) (eq-eqb x.name.name.0 x.name.name.0 refl),
  all_weaker (λ (t : PTask). list_any (has_name t.name.name) xs ≡ true) _ xs (λ t e. or_right (x.name.name.0 == t.name.name.0) (list_any (has_name t.name.name) xs) e) (each-there xs),
)

-- what holds of the tasks among declarations holds of the units of the names that stand for tasks
module _ (Q : PTask → Type 0) where
  found-all : (kinds : List PTask) (id : NameId) (t : PTask) → AllByRecursion Q kinds → type_named kinds id ≡ Some t → Q t
  found-all kinds id t h e = find-all Q (λ x. x.name.name.0 == id.0) kinds t h e

  typed-all : (o : Option PTask) (names : List Word) (row : Option PDrange) → ((t : PTask) → o ≡ Some t → Q t) → AllByRecursion (λ (x : NamedTasks). Q x.unit) (task_names_of_type o names row)
  typed-all (Some t) names row h = all-mapped (λ (x : NamedTasks). Q x.unit) (λ w. named_tasks w w.span t row) (λ w. h t refl) names
  typed-all None names row h = tt

  object-all : (kinds : List PTask) (names : List Word) (shape : PShape) → AllByRecursion Q kinds → AllByRecursion (λ (x : NamedTasks). Q x.unit) (object_task_names kinds names shape)
  object-all kinds names (OPlain x) h = typed-all (type_named kinds x.mark.name) names None (λ t e. found-all kinds x.mark.name t h e)
  object-all kinds names (OArray index x) h = typed-all (type_named kinds x.mark.name) names (Some index) (λ t e. found-all kinds x.mark.name t h e)

  single-all : (b : Bool) (t : PTask) (sp : Span) → Q t → AllByRecursion (λ (x : NamedTasks). Q x.unit) (single_task_name b t sp)
  single-all true t sp h = tt
  single-all false t sp h = (h, tt)

  type-all : (b : Bool) (t : PTask) (kinds : List PTask) → Q t → AllByRecursion Q kinds → AllByRecursion Q (with_type kinds b t)
  type-all true t kinds h k = (h, k)
  type-all false t kinds h k = k

  pub parts-all : (ds : PDecls) (kinds : List PTask) → AllByRecursion Q kinds → AllByRecursion Q (tasks_in (decl_list ds)) → AllByRecursion (λ (x : NamedTasks). Q x.unit) (task_names_in kinds ds)
  parts-all no_decl kinds k h = tt
  parts-all (decl_then (DTask t sp) rest) kinds k h =
      all_joined (λ (x : NamedTasks). Q x.unit) (single_task_name t.of_kind t sp) _ (single-all t.of_kind t sp h.0) (parts-all rest (with_type kinds t.of_kind t) (type-all t.of_kind t kinds h.0 k) h.1)
  parts-all (decl_then (DObject names c x i sp) rest) kinds k h = all_joined (λ (y : NamedTasks). Q y.unit) (object_task_names kinds names x) _ (object-all kinds names x k) (parts-all rest kinds k h)
  parts-all (decl_then (DTaskBody w objects its sp) rest) kinds k h = parts-all rest kinds k h
  parts-all (decl_then (DNumber name e sp) rest) kinds k h = parts-all rest kinds k h
  parts-all (decl_then (DEnumeration name ws sp) rest) kinds k h = parts-all rest kinds k h
  parts-all (decl_then (DArray name r x sp) rest) kinds k h = parts-all rest kinds k h
  parts-all (decl_then (DSubtype name x sp) rest) kinds k h = parts-all rest kinds k h
  parts-all (decl_then (DException names sp) rest) kinds k h = parts-all rest kinds k h
  parts-all (decl_then (DIntIo w sp) rest) kinds k h = parts-all rest kinds k h
  parts-all (decl_then (DPragma e sp) rest) kinds k h = parts-all rest kinds k h

  row-all : (types : TypeTable) (x : NamedTasks) (row : Option PDrange) → Q x.unit → AllByRecursion (λ (y : NumberedTask). Q y.unit) (tasks_of_range types x row)
  row-all types x (Some r) h = all-mapped (λ (y : NumberedTask). Q y.unit) (λ i. numbered_task x (Some i)) (λ i. h) (indices (extent types r))
  row-all types x None h = (h, tt)

  pub numbered-tasks-all : (types : TypeTable) (xs : List NamedTasks) → AllByRecursion (λ (x : NamedTasks). Q x.unit) xs → AllByRecursion (λ (y : NumberedTask). Q y.unit) (flat_map (tasks_of_name types) xs)
  numbered-tasks-all types [] h = tt
  numbered-tasks-all types (x ∷ xs) h = all_joined (λ (y : NumberedTask). Q y.unit) (tasks_of_name types x) _ (row-all types x x.index_range h.0) (numbered-tasks-all types xs h.1)

-- what holds of numbered tasks holds of the tasks in the numbers
infos-all : (P : NameId → Type 0) (names : List (List ℕ)) (xs : List NumberedTask) → AllByRecursion (λ (x : NumberedTask). P x.unit.name.name) xs → AllByRecursion (λ (i : TaskInfo). P i.unit) (map (info_of_task names) xs)
infos-all P names [] h = tt
infos-all P names (x ∷ xs) h = (h.0, infos-all P names xs h.1)

pub units_are_declared : UnitsAreDeclared
units_are_declared p types ordered =
    infos-all (λ id. count_named p id ≡ 1) p.names (numbered_tasks types p)
    (all_weaker (λ (x : NumberedTask). list_any (has_name x.unit.name.name) (tasks_of p) ≡ true) _ (numbered_tasks types p)
    (λ x e. one-there p.decls (first_scope p.name) x.unit.name.name (declared_once p ordered.rules).1 e)
    (numbered-tasks-all (λ (t : PTask). list_any (has_name t.name.name) (tasks_of p) ≡ true) types (task_names_of p)
    (parts-all (λ (t : PTask). list_any (has_name t.name.name) (tasks_of p) ≡ true) p.decls [] tt (each-there (tasks_of p)))))
