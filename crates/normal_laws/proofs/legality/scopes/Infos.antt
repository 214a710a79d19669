-- What is known of each task beside main of a legal program: its unit, its name, and how its name is seen in the scopes of the program.
use Rattle.std.proofs.Common.{◌≡◌, ℕ, ℤ, Bool, true, false, cond, if◌then◌else◌, List, [], ◌∷◌, length, find, Option, Some, refl, ap, ◌∙◌, arith}
use Rattle.std.specs.List.{AllByRecursion, filter}
use Rattle.std.proofs.lemmas.List.Elements.{recursion_from_All}
use Rattle.common_lemmas.proofs.Lists.{all_weaker}
use Rattle.common_lemmas.proofs.Options.{some_same, not_missing}
use Rattle.ada_tree.specs.declared.naming.NameId.{NameId}
use Rattle.ada_tree.specs.TypeTable.{TypeTable}
use Rattle.ada_tree.specs.PlainDecl.{PTask}
use Rattle.ada_tree.specs.PlainProgram.{PProgram}
use Rattle.ada_tree.specs.Every.{EveryEntry, EveryTask, EveryDecls}
use Rattle.ada_static_rules.specs.Scope.{Scope}
use Rattle.ada_static_rules.specs.Declaring.{first_scope}
use Rattle.syn_event.specs.declared.numbering.TaskInfo.{TaskInfo}
use Rattle.syn_event.specs.NamedTasks.{NamedTasks, task_names_of}
use Rattle.syn_event.specs.AllNumbers.{all_numbers}
use Rattle.syn_event.specs.DeclaredTasks.{tasks_of}
use Rattle.task_model.specs.Setting.{Setting}
use Rattle.normal_model.specs.Names.{member_name}
use Rattle.normal_model.specs.NormalTree.{tasks_beside}
use Rattle.task_laws.specs.legal.rewritten_types.Rewriting.{DeclareOnce}
use Rattle.task_laws.specs.legal.rewritten_values.Values.{old_names}
use Rattle.task_laws.specs.legal.types.Typed.{IsFirstTask}
use Rattle.task_laws.proofs.legal.types.TaskTypes.{part-units}
use Rattle.normal_laws.specs.structure.types.Laws.{setting_of}
use Rattle.normal_laws.proofs.structure.units.Declared.{one-there, each-there}
use Rattle.normal_laws.proofs.structure.units.Pairs.{part-infos}
use Rattle.normal_laws.proofs.existence.variable_types.Subtypes.{tasks-every}
use Rattle.normal_laws.proofs.existence.units.TasksApart.{IsNamed}
use Rattle.normal_laws.specs.legality.scopes.Plain.{plain_name}
use Rattle.normal_laws.proofs.legality.scopes.Places.{IsSeenOrHidden, IsPlaced}
use Rattle.normal_laws.proofs.legality.scopes.Names.{plain-task}
use Rattle.normal_laws.proofs.legality.scopes.Tasks.{has_name}
use Rattle.normal_laws.proofs.legality.scopes.Formed.{IsSeenAs, HasUnit}

-- ---- lists

-- the one that is found is the only one
filter-found : {A : Type 0} (p : A → Bool) (xs : List A) (x : A) → find p xs ≡ Some x → length (filter p xs) ≡ 1 → filter p xs ≡ x ∷ []
filter-found p [] x e one = absurd (not_missing x e)
filter-found p (y ∷ xs) x e one = by_test (p y) refl e one (filter-found p xs x)
  where
    alone : (ys : List _) → length (y ∷ ys) ≡ 1 → y ∷ ys ≡ y ∷ []
    alone [] q = refl
    alone (z ∷ zs) q = let no : ⊥ = omega (arith, q) in absurd no

    by_test : (b : Bool) → p y ≡ b → (if b then Some y else find p xs) ≡ Some x → length (cond b (y ∷ filter p xs) (filter p xs)) ≡ 1 → (find p xs ≡ Some x → length (filter p xs) ≡ 1 → filter p xs ≡ x ∷ []) →
        cond b (y ∷ filter p xs) (filter p xs) ≡ x ∷ []
    by_test true f g k later = alone (filter p xs) k ∙ ap (λ z. z ∷ []) (some_same g)
    by_test false f g k later = later g k

both-all : {A : Type 0} (P Q R : A → Type 0) (xs : List A) → ((x : A) → P x → Q x → R x) → AllByRecursion P xs → AllByRecursion Q xs → AllByRecursion R xs
both-all P Q R [] f h k = tt
both-all P Q R (x ∷ xs) f h k = (f x h.0 k.0, both-all P Q R xs f h.1 k.1)

-- what holds of all elements whenever something holds
swapped : {A B : Type 0} (P : B → Type 0) (Q : B → A → Type 0) (xs : List A) → ((s : B) → P s → AllByRecursion (Q s) xs) → AllByRecursion (λ x. (s : B) → P s → Q s x) xs
swapped P Q [] h = tt
swapped P Q (x ∷ xs) h = (λ s p. (h s p).0, swapped P Q xs (λ s p. (h s p).1))

-- ---- the units

module _ (p : PProgram) (S r : Scope) where
  abbrev old : ℕ → Bool
  old = plain_name p

  -- a unit is declared once, with entries of plain names
  record IsOneUnit (t : PTask) : Type 0 where
    alone : filter (has_name t.name.name) (tasks_of p) ≡ t ∷ []
    entries : AllByRecursion (EveryEntry (old_names old)) t.entries

  one-unit : DeclareOnce (first_scope p.name) p.decls → AllByRecursion (IsFirstTask (tasks_of p)) (tasks_of p) → EveryDecls (old_names old) p.decls → AllByRecursion IsOneUnit (tasks_of p)
  one-unit once first every =
      both-all (λ (t : PTask). filter (has_name t.name.name) (tasks_of p) ≡ t ∷ []) (EveryTask (old_names old)) IsOneUnit (tasks_of p) (λ t a e. record { alone = a; entries = recursion_from_All _ t.entries e.1 })
      (both-all (IsFirstTask (tasks_of p)) (λ (t : PTask). length (filter (has_name t.name.name) (tasks_of p)) ≡ 1) _ (tasks_of p) (λ t f l. filter-found (has_name t.name.name) (tasks_of p) t f l) first
      (all_weaker _ _ (tasks_of p) (λ t e. one-there p.decls (first_scope p.name) t.name.name once e) (each-there (tasks_of p))))
      (tasks-every (old_names old) p.decls every)

  -- what is known of a name and of the name of its unit
  record IsUnitSeen (id unit : NameId) : Type 0 where
    task : PTask
    alone : filter (has_name unit) (tasks_of p) ≡ task ∷ []
    entries : AllByRecursion (EveryEntry (old_names old)) task.entries
    seen : (s : Scope) → IsPlaced S (task_names_of p) r s → IsSeenAs S s id task

  parts-seen : AllByRecursion IsOneUnit (tasks_of p) → AllByRecursion (λ (x : NamedTasks). IsUnitSeen x.name.name x.unit.name.name) (task_names_of p)
  parts-seen units =
      both-all (λ (x : NamedTasks). IsOneUnit x.unit) (λ (x : NamedTasks). (s : Scope) → IsPlaced S (task_names_of p) r s → IsSeenOrHidden S s x) _ (task_names_of p)
      (λ x u k. record { task = x.unit; alone = u.alone; entries = u.entries; seen = k })
      (part-units IsOneUnit p.decls [] tt units) (swapped (IsPlaced S (task_names_of p) r) (IsSeenOrHidden S) (task_names_of p) (λ s pl. pl.parts))

  -- each task beside main has a unit
  pub infos-known : (types : TypeTable) → DeclareOnce (first_scope p.name) p.decls → AllByRecursion (IsFirstTask (tasks_of p)) (tasks_of p) → EveryDecls (old_names old) p.decls →
      AllByRecursion (IsNamed (setting_of p types (all_numbers types p))) (tasks_beside (setting_of p types (all_numbers types p))) →
      AllByRecursion (HasUnit old (setting_of p types (all_numbers types p)) S r (task_names_of p)) (tasks_beside (setting_of p types (all_numbers types p)))
  infos-known types once first every named =
      both-all (λ (i : TaskInfo). IsUnitSeen i.name i.unit) (IsNamed g) (HasUnit old g S r (task_names_of p)) (tasks_beside g) known
      (part-infos IsUnitSeen types p.names (task_names_of p) (parts-seen (one-unit once first every))) named
    where
      g : Setting
      g = setting_of p types (all_numbers types p)

      known : (i : TaskInfo) → IsUnitSeen i.name i.unit → IsNamed g i → HasUnit old g S r (task_names_of p) i
      known i u n = record {
        unit = u.task;
        declared = u.alone;
        entries = u.entries;
        name = λ o. ap (λ (m : Option ℤ). (member_name g i.name m).0) (plain-task g i n o);
        seen = u.seen;
      }
