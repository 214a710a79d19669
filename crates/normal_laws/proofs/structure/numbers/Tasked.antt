-- The tasks of a normal form are those of the program, in the order of their numbers.
use Rattle.std.proofs.Common.{◌≡◌, ℕ, zero, suc, Bool, true, false, cond, List, [], ◌∷◌, ◌++◌, length, map, flat_map, slice_get, Some, refl, ap, ◌∙◌, arith}
use Rattle.std.specs.List.{AllByRecursion, filter, list_any}
use Rattle.std.proofs.lemmas.Bool.{eq-eqb}
use Rattle.std.proofs.lemmas.Option.{none-some}
use Rattle.ada_tree.specs.TypeTable.{TypeTable}
use Rattle.ada_tree.specs.PlainDecl.{PTask}
use Rattle.ada_tree.specs.PlainProgram.{PProgram}
use Rattle.ada_static_rules.specs.Declaring.{first_scope}
use Rattle.syn_event.specs.NamedTasks.{task_names_of, NumberedTask, numbered_tasks}
use Rattle.syn_event.specs.AllNumbers.{info_of_task, all_numbers}
use Rattle.syn_event.specs.DeclaredTasks.{tasks_of}
use Rattle.task_model.specs.Setting.{Setting}
use Rattle.normal_model.specs.Names.{task_name}
use Rattle.normal_model.specs.NormalTree.{task_under, normal_tree}
use Rattle.task_laws.proofs.legal.rewritten_types.Lookups.{place-all}
use Rattle.task_laws.proofs.legal.rewritten_types.Refused.{declared_once}
use Rattle.normal_laws.specs.structure.types.Laws.{IsOrdered, setting_of}
use Rattle.normal_laws.proofs.structure.units.Tasks.{tasks_made, tasks-of}
use Rattle.normal_laws.proofs.structure.units.Declared.{has_name, one-there, each-there, parts-all, numbered-tasks-all}
use Rattle.common_lemmas.proofs.Lists.{all_by_place}
use Rattle.common_lemmas.proofs.Options.{some_same}

-- ---- lists

-- what passes is among those that do
filter-has : {A : Type 0} (f : A → Bool) (xs : List A) (k : ℕ) (x : A) → slice_get xs k ≡ Some x → f x ≡ true → (j : ℕ) × (slice_get (filter f xs) j ≡ Some x)
filter-has f [] k x at e = absurd (none-some x at)
filter-has f (y ∷ xs) zero x at e = (0, ap (λ b. slice_get (cond b (y ∷ filter f xs) (filter f xs)) 0) (ap f (some_same at) ∙ e) ∙ at)
filter-has f (y ∷ xs) (suc k) x at e = by_test (f y) (filter-has f xs k x at e)
  where
    by_test : (b : Bool) → (j : ℕ) × (slice_get (filter f xs) j ≡ Some x) → (j : ℕ) × (slice_get (cond b (y ∷ filter f xs) (filter f xs)) j ≡ Some x)
    by_test true h = (suc h.0, h.1)
    by_test false h = h

one-only : {A : Type 0} (xs : List A) (j : ℕ) (x : A) → length xs ≡ 1 → slice_get xs j ≡ Some x → xs ≡ x ∷ []
one-only [] j x one at = absurd (none-some x at)
one-only (y ∷ []) zero x one at = ap (λ z. z ∷ []) (some_same at)
one-only (y ∷ []) (suc j) x one at = absurd (none-some x at)
one-only (y ∷ z ∷ xs) j x one at = let h : ⊥ = omega (arith, one) in absurd h

-- ---- units

-- the unit is the one task of its name
abbrev pub IsOne : PProgram → PTask → Type 0
IsOne p t = filter (has_name t.name.name) (tasks_of p) ≡ t ∷ []

tasks-one : (p : PProgram) → IsOrdered p → AllByRecursion (IsOne p) (tasks_of p)
tasks-one p ordered = all_by_place (IsOne p) (tasks_of p) (λ k t at. one k t at)
  where
    one : (k : ℕ) (t : PTask) → slice_get (tasks_of p) k ≡ Some t → IsOne p t
    one k t at =
        let there : list_any (has_name t.name.name) (tasks_of p) ≡ true = place-all (λ (x : PTask). list_any (has_name x.name.name) (tasks_of p) ≡ true) (tasks_of p) k t (each-there (tasks_of p)) at in
        let among = filter-has (has_name t.name.name) (tasks_of p) k t at (eq-eqb t.name.name.0 t.name.name.0 refl) in
        one-only (filter (has_name t.name.name) (tasks_of p)) among.0 t (one-there p.decls (first_scope p.name) t.name.name (declared_once p ordered.rules).1 there) among.1

pub numbered-tasks-one : (p : PProgram) (types : TypeTable) → IsOrdered p → AllByRecursion (λ (y : NumberedTask). IsOne p y.unit) (numbered_tasks types p)
numbered-tasks-one p types ordered = numbered-tasks-all (IsOne p) types (task_names_of p) (parts-all (IsOne p) p.decls [] tt (tasks-one p ordered))

-- ---- the tasks of the normal form

-- the task of a numbered task, under its name in the normal form
abbrev pub under : Setting → NumberedTask → PTask
under g y = task_under (task_name g (info_of_task g.program.names y)) y.unit

made-one : (g : Setting) (ys : List NumberedTask) → AllByRecursion (λ (y : NumberedTask). IsOne g.program y.unit) ys → flat_map (tasks_made g) (map (info_of_task g.program.names) ys) ≡ map (under g) ys
made-one g [] h = refl
made-one g (y ∷ ys) h = λ i. map (task_under (task_name g (info_of_task g.program.names y))) (h.0 i) ++ made-one g ys h.1 i

pub normal-tasks-of : (p : PProgram) (types : TypeTable) → IsOrdered p →
    tasks_of (normal_tree p types (all_numbers types p)) ≡ map (under (setting_of p types (all_numbers types p))) (numbered_tasks types p)
normal-tasks-of p types ordered = tasks-of p types (all_numbers types p) ∙ made-one (setting_of p types (all_numbers types p)) (numbered_tasks types p) (numbered-tasks-one p types ordered)
