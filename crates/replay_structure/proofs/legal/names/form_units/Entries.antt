-- The entries of a task beside main, as they are seen in the normal form of a legal program, are in its numbers those of its unit.
use Rattle.std.proofs.Common.{◌≡◌, ℕ, suc, ◌==◌, true, [], slice_get, Some, refl, sym, ap, subst, ◌∙◌}
use Rattle.std.specs.List.{AllByRecursion}
use Rattle.common_lemmas.proofs.Numbers.{equal_is}
use Rattle.common_lemmas.proofs.Lists.{all_kept, all_by_place}
use Rattle.ada_tree.specs.declared.naming.NameId.{NameId}
use Rattle.ada_tree.specs.TypeTable.{TypeTable}
use Rattle.ada_tree.specs.PlainDecl.{PTask}
use Rattle.ada_tree.specs.PlainProgram.{PProgram}
use Rattle.ada_static_rules.specs.Refusals.{types_in}
use Rattle.ada_static_rules.specs.Scope.{Scope, EntryPart, entry_named}
use Rattle.syn_event.specs.declared.numbering.TaskInfo.{TaskInfo}
use Rattle.syn_event.specs.NamedTasks.{NumberedTask, numbered_tasks}
use Rattle.syn_event.specs.Numbering.{task_named}
use Rattle.syn_event.specs.DeclaredTasks.{tasks_of}
use Rattle.task_model.specs.Setting.{Setting, entry_of}
use Rattle.task_laws.proofs.legal.rewritten_types.Lookups.{place-all}
use Rattle.normal_model.specs.Names.{task_name, name_of_task}
use Rattle.normal_model.specs.Ranges.{family_range}
use Rattle.normal_model.specs.NormalTree.{tasks_beside, unit_for}
use Rattle.normal_laws.specs.structure.units.Laws.{TellUnits}
use Rattle.normal_laws.proofs.structure.units.Declared.{units_are_declared}
use Rattle.normal_laws.specs.runs.forms.Normalisable.{numbers_of, setting_for}
use Rattle.task_laws.specs.legal.types.Typed.{IsFirstTask}
use Rattle.task_laws.proofs.legal.types.TaskTypes.{tasks-have-types}
use Rattle.task_laws.proofs.legal.types.MainScopes.{StandsWhole}
use Rattle.normal_laws.proofs.structure.entries.Entries.{IsTaskOf}
use Rattle.normal_laws.proofs.existence.seen_tasks.Parts.{IsUnit}
use Rattle.normal_laws.proofs.existence.seen_tasks.Finding.{all-filtered}
use Rattle.normal_laws.proofs.existence.seen_tasks.Tasks.{mapped-place, numbered-tasks-units, one-unit}
use Rattle.normal_laws.proofs.existence.units.Fields.{legal_is_ordered, legal_names_tell}
use Rattle.normal_laws.proofs.existence.body_forms.Joined as joined
use Rattle.normal_laws.proofs.existence.body_forms.Fields as fields
use Rattle.normal_laws.specs.existence.Laws.{IsLegalOriginal}
use Rattle.normal_laws.specs.structure.asked.Pieces.{IsAmong}
use Rattle.normal_laws.proofs.structure.placed.Made.{among}
use Rattle.normal_laws.specs.structure.typed.ScopeOf.{IsEntryOf}
use Rattle.normal_laws.proofs.legality.scopes.Seeing.{entries_in}
use Rattle.normal_laws.proofs.legality.scopes.Tasks.{has_name}
use Rattle.normal_laws.proofs.legality.scopes.Matched.{IsTaskMatched}
use Rattle.normal_laws.proofs.legality.scopes.Main.{last, matched, unit-of}
use Rattle.normal_laws.proofs.legality.scopes.Called.{entry-numbered}
use Rattle.normal_laws.proofs.legality.checks.Facts as facts
use Rattle.replay_structure.specs.checkable.Prepared.{form_for}
use Rattle.replay_structure.proofs.legal.placed.Families.{family-kept, unit-number}
use Rattle.replay_structure.proofs.legal.names.form_units.Seen.{entries_of_task}

module _ (p : PProgram) (h : IsLegalOriginal p) where
  abbrev T : TypeTable
  T = types_in p

  abbrev G : Setting
  G = setting_for p

  abbrev S : Scope
  S = last p h

  abbrev F : Setting
  F = form_for p

  pub tell : TellUnits G
  tell = record { declared = units_are_declared p T (legal_is_ordered p T (numbers_of p) h.legal h.placed); named = legal_names_tell p T (numbers_of p) h.legal h.placed h.names }

  -- each stands at a place
  pub place-of : (info : TaskInfo) → IsAmong info (tasks_beside G) → (k : ℕ) × (slice_get (tasks_beside G) k ≡ Some info)
  place-of info i =
      among (λ (x : TaskInfo). (k : ℕ) × (slice_get (tasks_beside G) k ≡ Some x)) info (tasks_beside G) i (all_by_place (λ (x : TaskInfo). (k : ℕ) × (slice_get (tasks_beside G) k ≡ Some x)) (tasks_beside G) (λ k x e. (k, e)))

  -- ---- a task of a number

  -- the task of a number is one of this unit
  record IsNumberedOf (k : ℕ) (u : PTask) : Type 0 where
    numbered : NumberedTask
    is : IsTaskOf p T (suc k) numbered
    unit : numbered.unit ≡ u

  numbered-of : (k : ℕ) (info : TaskInfo) (i : IsAmong info (tasks_beside G)) → slice_get (tasks_beside G) k ≡ Some info → IsNumberedOf k (unit-of p h info i).unit
  numbered-of k info i at =
      let u = unit-of p h info i in
      let x = mapped-place p T (facts.known p h) (numbered_tasks T p) k info at in
      let is : IsUnit p T x.0.unit = place-all (λ (y : NumberedTask). IsUnit p T y.unit) (numbered_tasks T p) k x.0 (numbered-tasks-units p T (facts.known p h)) x.1 in
      let first : IsFirstTask (tasks_of p) u.unit = (subst (AllByRecursion (IsFirstTask (tasks_of p))) u.declared (all_kept (IsFirstTask (tasks_of p)) (has_name info.unit) (tasks_of p) (tasks-have-types p h.legal.type_rules h.placed h.small).found)).0 in
      let named : (u.unit.name.name.0 == info.unit.0) ≡ true =
      (subst (AllByRecursion (λ (y : PTask). has_name info.unit y ≡ true)) u.declared (all-filtered (λ (y : PTask). has_name info.unit y ≡ true) (has_name info.unit) (tasks_of p) (all_by_place _ (tasks_of p) (λ j y e f. f)))).0 in
      record {
        numbered = x.0;
        is = record { place = k; number = refl; numbered_task = x.1; unit = is };
        unit = one-unit p T (facts.known p h) x.0.unit u.unit is first (ap (λ (y : TaskInfo). y.unit.0) (sym x.2) ∙ sym (equal_is u.unit.name.name.0 info.unit.0 named));
      }

  -- ---- its name

  -- each task is found by its own name in the normal form
  pub named-number : (k : ℕ) (info : TaskInfo) → IsAmong info (tasks_beside G) → slice_get (tasks_beside G) k ≡ Some info → task_named F.numbers (task_name G info) ≡ Some (suc k)
  named-number k info i at =
      let x = numbered-of k info i at in
      let its = joined.facts p T (numbers_of p) h.legal h.placed h.names [] (StandsWhole T) (fields.premises p T (numbers_of p) h.legal h.placed h.names h.small []) in
      ap (λ o. task_named F.numbers (name_of_task G o)) (sym at) ∙ its.named (suc k) x.numbered x.is

  -- and its body has its number
  pub unit-numbered : (k : ℕ) (info : TaskInfo) → IsAmong info (tasks_beside G) → slice_get (tasks_beside G) k ≡ Some info → (unit_for F (task_name G info)).task ≡ suc k
  unit-numbered k info i at = unit-number p T (numbers_of p) tell (task_name G info) (suc k) (named-number k info i at)

  -- ---- its entries

  -- an entry of its unit is that of the number
  pub entry-is : (k : ℕ) (info : TaskInfo) (i : IsAmong info (tasks_beside G)) → slice_get (tasks_beside G) k ≡ Some info → (name : NameId) (part : EntryPart) → entry_named (entries_of_task p h info i) name ≡ Some part →
      IsEntryOf G (entry_of G.numbers (suc k) name) part
  entry-is k info i at name part e =
      let u = unit-of p h info i in
      let x = numbered-of k info i at in
      let m : IsTaskMatched T S u.unit = (subst (AllByRecursion (IsTaskMatched T S)) u.declared (all_kept (IsTaskMatched T S) (has_name info.unit) (tasks_of p) (matched p h))).0 in
      entry-numbered p h (suc k) x.numbered name part x.is (subst (IsTaskMatched T S) (sym x.unit) m) (ap (λ (t : PTask). entry_named (entries_in S t) name) x.unit ∙ e)

  -- the range of a family is the same in the normal form
  pub range-is : (k : ℕ) (info : TaskInfo) (name : NameId) → slice_get (tasks_beside G) k ≡ Some info → family_range F (entry_of F.numbers (suc k) name) ≡ family_range G (entry_of G.numbers (suc k) name)
  range-is k info name at = family-kept p T (numbers_of p) tell k info name at at
