-- The entries of a task have in the normal form the family ranges that they have in the program, and a unit of the normal form has the number of its task.
use Rattle.std.proofs.Common.{◌≡◌, ℕ, suc, ◌+◌, ◌-◌, ◌==◌, ◌&&◌, nat_lt, Bool, not, cond, if◌then◌else◌, List, [], ◌∷◌, length, map, slice_get, get_or, Option, Some, None, option_map, unwrap_or, position, find, refl, sym, ap, ◌∙◌, eqb-true, arith}
use Rattle.std.specs.List.{position_or_len}
use Rattle.std.proofs.lemmas.List.Quantifiers.{position-Some}
use Rattle.std.proofs.lemmas.Option.{slice_get-get_or}
use Rattle.common_lemmas.proofs.Truth.{and_left}
use Rattle.common_lemmas.proofs.Options.{some_same}
use Rattle.common_lemmas.proofs.Numbers.{unequal}
use Rattle.ada_tree.specs.declared.naming.NameId.{NameId}
use Rattle.ada_tree.specs.TypeTable.{TypeTable}
use Rattle.ada_tree.specs.PlainDecl.{PTask}
use Rattle.ada_tree.specs.PlainProgram.{PProgram}
use Rattle.syn_event.specs.declared.numbering.TaskInfo.{TaskInfo}
use Rattle.syn_event.specs.declared.numbering.EntryInfo.{EntryInfo}
use Rattle.syn_event.specs.Numbering.{Numbering, task_at, entry_at, task_named}
use Rattle.syn_event.specs.AddedNames.{task_info}
use Rattle.syn_event.specs.DeclaredTasks.{tasks_of}
use Rattle.task_model.specs.Setting.{Setting, entry_of, unit_named}
use Rattle.normal_laws.specs.structure.types.Laws.{setting_of}
use Rattle.normal_model.specs.Names.{task_name}
use Rattle.normal_model.specs.Ranges.{range_in, range_of_unit, range_of_info, family_range}
use Rattle.normal_model.specs.NormalTree.{unit_for, tasks_beside}
use Rattle.normal_laws.specs.structure.units.Laws.{TellUnits}
use Rattle.normal_laws.proofs.structure.units.Tasks.{tasks-of, tasks_keep_numbers, tell-at, entries_in, find-first, unit-found, with_entries}
use Rattle.replay_structure.specs.legal.fits.Ready.{normal_of}

-- ---- ranges by entries

range-by : (o : Option PTask) (name : NameId) → range_in o name ≡ range_in (option_map with_entries (entries_in o)) name
range-by (Some t) name = refl
range-by None name = refl

-- ---- the owner of an entry

-- an entry that is looked up for a task is that task's
owner-is : (numbers : Numbering) (t : ℕ) (name : NameId) (e : EntryInfo) → entry_at numbers (entry_of numbers t name) ≡ Some e → e.owner ≡ t
owner-is numbers t name e = go (position test numbers.entries) refl
  where
    test : EntryInfo → Bool
    test = λ info. (info.owner == t) && (info.name.0 == name.0)

    at-next : (k : ℕ) → entry_at numbers (k + 1) ≡ slice_get numbers.entries k
    at-next k = ap (λ b. if b then None else slice_get numbers.entries ((k + 1) - 1)) (unequal (k + 1) 0 (λ q. omega (arith, q))) ∙ ap (slice_get numbers.entries) (less k)
      where
        less : (m : ℕ) → (m + 1) - 1 ≡ m
        less m = omega arith

    go : (o : Option ℕ) → position test numbers.entries ≡ o → entry_at numbers (unwrap_or (option_map (λ k. k + 1) o) 0) ≡ Some e → e.owner ≡ t
    go None p q = cc
    go (Some k) p q =
        let found = position-Some test numbers.entries k e p in
        let there : slice_get numbers.entries k ≡ Some (get_or numbers.entries k e) = slice_get-get_or numbers.entries k e found.0 in
        let same : get_or numbers.entries k e ≡ e = some_same (sym there ∙ sym (at-next k) ∙ q) in
        eqb-true e.owner t (and_left (e.owner == t) (e.name.0 == name.0) (ap test (sym same) ∙ found.1))

-- ---- families

module _ (p : PProgram) (T : TypeTable) (numbers : Numbering) (tell : TellUnits (setting_of p T numbers)) where
  abbrev g : Setting
  g = setting_of p T numbers

  abbrev n : Setting
  n = normal_of g

  unit-ranges : (k : ℕ) (info : TaskInfo) (name : NameId) → slice_get (tasks_beside g) k ≡ Some info → range_of_unit n.program (task_at n.numbers (suc k)) name ≡ range_of_unit p (Some info) name
  unit-ranges k info name at =
      ap (λ o. range_of_unit n.program o name) (tasks_keep_numbers p T numbers tell k ∙ ap (option_map (λ i. task_info n.program.names (task_name g i))) at)
      ∙ range-by (unit_named n.program (task_name g info)) name
      ∙ ap (λ o. range_in (option_map with_entries o) name)
      (ap (λ l. entries_in (find (λ (t : PTask). t.name.name.0 == (task_name g info).0) l)) (tasks-of p T numbers)
      ∙ unit-found g info (tasks_beside g) k at tell.declared (tell-at g info (tasks_beside g) (tasks_beside g) k at tell.named)
      ∙ ap entries_in (sym (find-first (λ (t : PTask). t.name.name.0 == info.unit.0) (tasks_of p))))
      ∙ sym (range-by (unit_named p info.unit) name)

  -- the range of an entry of a task beside main
  pub family-kept : (k : ℕ) (info : TaskInfo) (name : NameId) → slice_get (tasks_beside g) k ≡ Some info → task_at numbers (suc k) ≡ Some info → family_range n (entry_of numbers (suc k) name) ≡ family_range g (entry_of numbers (suc k) name)
  family-kept k info name at beside = go (entry_at numbers (entry_of numbers (suc k) name)) refl
    where
      go : (o : Option EntryInfo) → entry_at numbers (entry_of numbers (suc k) name) ≡ o → range_of_info n o ≡ range_of_info g o
      go None e = refl
      go (Some x) e =
          let owner : x.owner ≡ suc k = owner-is numbers (suc k) name x e in
          ap (λ m. range_of_unit n.program (task_at n.numbers m) x.name) owner ∙ unit-ranges k info x.name at
          ∙ sym (ap (λ m. range_of_unit p (task_at numbers m) x.name) owner ∙ ap (λ o. range_of_unit p o x.name) beside)

  -- ---- the number of a unit

  units-named : (names : List (List ℕ)) (m : ℕ) (ts : List PTask) →
      position_or_len (λ (x : TaskInfo). x.unit.0 == m) (map (λ (t : PTask). task_info names t.name.name) ts) ≡ position_or_len (λ (x : TaskInfo). x.name.0 == m) (map (λ (t : PTask). task_info names t.name.name) ts)
  units-named names m [] = refl
  units-named names m (t ∷ ts) = ap (λ k. cond (not (t.name.name.0 == m)) (1 + k) 0) (units-named names m ts)

  -- the unit of a name has the number of the task of that name
  pub unit-number : (name : NameId) (t : ℕ) → task_named n.numbers name ≡ Some t → (unit_for n name).task ≡ t
  unit-number name t e =
      let whole : position_or_len (λ (x : TaskInfo). x.unit.0 == name.0) n.numbers.tasks ≡ position_or_len (λ (x : TaskInfo). x.name.0 == name.0) n.numbers.tasks =
      ap (λ k. cond (not (n.program.name.name.0 == name.0)) (1 + k) 0) (units-named n.program.names name.0 (tasks_of n.program)) in
      ap (λ k. unwrap_or (cond (nat_lt k (length n.numbers.tasks)) (Some k) None) 0) whole ∙ ap (λ o. unwrap_or o 0) e
