-- The tasks that the controller waits for.
use Rattle.std.proofs.Common.{◌≡◌, ℕ, suc, drop, ◌<◌, ◌==◌, Bool, List, [], ◌∷◌, ◌++◌, length, option_map, unwrap_or, position, slice_get, Some, None, if◌then◌else◌, refl, sym, ap, ◌∙◌, arith}
use Rattle.std.specs.Prelude.{ℤ}
use Rattle.std.proofs.lemmas.List.{append_assoc}
use Rattle.std.proofs.lemmas.Option.{slice_get_within}
use Rattle.common_lemmas.proofs.Lists.{element_at}
use Rattle.common_lemmas.proofs.Options.{some_same}
use Rattle.ada_static_rules.proofs.found_twice.FirstOfTwo.{position_push}
use Rattle.event_machine.specs.declared.Event.{Event}
use Rattle.ada_static_rules.specs.StaticValue.{first_of_two}
use Rattle.ada_tree.specs.TypeTable.{TypeTable}
use Rattle.ada_tree.specs.PlainProgram.{PProgram}
use Rattle.ada_static_rules.specs.Refusals.{types_in}
use Rattle.syn_event.specs.declared.numbering.TaskInfo.{TaskInfo}
use Rattle.syn_event.specs.Numbering.{Numbering, task_at, task_named}
use Rattle.syn_event.specs.AllNumbers.{all_numbers, info_of_task}
use Rattle.syn_event.specs.AddedNames.{task_info}
use Rattle.syn_event.specs.NamedTasks.{NumberedTask, numbered_tasks}
use Rattle.task_model.specs.Setting.{Setting}
use Rattle.normal_model.specs.Names.{task_name}
use Rattle.normal_model.specs.NormalTree.{normal_tree}
use Rattle.normal_laws.specs.structure.types.Laws.{IsOrdered, setting_of}
use Rattle.task_laws.specs.translation.Translations.{Programs}
use Rattle.normal_laws.specs.runs.runs.Premises.{programs_of}
use Rattle.normal_laws.specs.runs.forms.Normalisable.{normal_rewrite}
use Rattle.normal_laws.specs.structure.units.Laws.{TellUnits}
use Rattle.normal_laws.proofs.structure.units.Tasks.{tasks_keep_numbers}
use Rattle.normal_laws.proofs.structure.units.Declared.{units_are_declared}
use Rattle.normal_laws.proofs.structure.entries.Entries.{mapped-at}
use Rattle.task_laws.proofs.legal.types.MainScopes.{StandsWhole}
use Rattle.normal_laws.specs.existence.Laws.{IsLegalOriginal}
use Rattle.normal_laws.proofs.existence.units.Fields.{legal_is_ordered, legal_has_tokens, legal_names_tell}
use Rattle.normal_laws.proofs.existence.statement_forms.Text.{parts-known}
use Rattle.normal_laws.proofs.existence.body_forms.Fields as fields
use Rattle.normal_laws.proofs.existence.body_forms.Joined as joins
use Rattle.normal_laws.proofs.existence.body_forms.Named.{beside-found}
use Rattle.run_laws.specs.replaying.Copies.{Spots}
use Rattle.replay_model.specs.ReplayTree.{last_task}
use Rattle.replay_model.specs.ReplayNumbers.{numbers_replayed}
use Rattle.table_law.specs.Controllers.{HasJoin}
use Rattle.replay_structure.specs.spots.Places.{text_spots}
use Rattle.replay_runs.proofs.found.Legal.{legal_more_are_found}
use Rattle.replay_runs.specs.starts.Laws.{form_in}
use Rattle.replay_runs.proofs.starts.Legal.{legal_has_formals}
use Rattle.replay_runs.specs.controls.Laws.{controller}
use Rattle.replay_runs.proofs.controls.Offers.{as-many-tasks}
use Rattle.normal_laws.proofs.runs.forms.Making.{beside as beside-first}

-- what is found among the first stays found where two more stand behind them
pub found-before : {A : Type 0} (test : A → Bool) (xs : List A) (a b : A) (k : ℕ) → position test xs ≡ Some k → position test (xs ++ a ∷ b ∷ []) ≡ Some k
found-before test xs a b k h =
    let first : position test (xs ++ a ∷ []) ≡ Some k = position_push test xs a ∙ ap (λ o. first_of_two o (if test a then Some (length xs) else None)) h in
    ap (position test) (sym (append_assoc xs (a ∷ []) (b ∷ []))) ∙ position_push test (xs ++ a ∷ []) b ∙ ap (λ o. first_of_two o (if test b then Some (length (xs ++ a ∷ [])) else None)) first

-- ---- the task that is called

module _ (p : PProgram) (h : IsLegalOriginal p) where
  abbrev T : TypeTable
  T = types_in p

  abbrev numbers : Numbering
  numbers = all_numbers T p

  abbrev old : Setting
  old = setting_of p T numbers

  abbrev g : Setting
  g = form_in p

  ordered : IsOrdered p
  ordered = legal_is_ordered p T numbers h.legal h.placed

  tell : TellUnits old
  tell = record { declared = units_are_declared p T ordered; named = legal_names_tell p T numbers h.legal h.placed h.names }

  typed : joins.TypePremises p T numbers h.legal h.placed h.names [] (StandsWhole T)
  typed = fields.premises p T numbers h.legal h.placed h.names h.small []

  -- each task of the normal form is found by its name
  found-in-form : (k : ℕ) (y : NumberedTask) → slice_get (numbered_tasks T p) k ≡ Some y → task_named g.numbers (task_name old (info_of_task p.names y)) ≡ Some (suc k)
  found-in-form k y at =
      let b : Programs = programs_of (normal_rewrite p []) in
      beside-found p ordered h.legal.check_rules (legal_has_tokens p h.placed) h.names
      (parts-known p b.made b.is_old b.is_fixed (StandsWhole T) (joins.premises p T numbers h.legal h.placed h.names [] (StandsWhole T) typed)) tell typed.short k y at

  -- and so it is in the text
  task-found : (k : ℕ) (info : TaskInfo) → k < last_task g.numbers → task_at g.numbers (suc k) ≡ Some info → task_named (numbers_replayed g) info.name ≡ Some (suc k)
  task-found k info l is =
      let ys : List NumberedTask = numbered_tasks T p in
      let as_many = as-many-tasks p h in
      let there = element_at ys k (omega (arith, l, as_many)) in
      let own : TaskInfo = info_of_task p.names there.0 in
      let at : task_at g.numbers (suc k) ≡ Some (task_info (normal_tree p T numbers).names (task_name old own)) =
      (tasks_keep_numbers p T numbers tell k ∙ ap (option_map (λ (i : TaskInfo). task_info (normal_tree p T numbers).names (task_name old i))) (mapped-at p T ys k there.0 there.1)) in
      ap (λ (i : TaskInfo). task_named (numbers_replayed g) i.name) (some_same (sym is ∙ at))
      ∙ found-before (λ (i : TaskInfo). i.name.0 == (task_name old own).0) g.numbers.tasks _ _ (suc k) (found-in-form k there.0 there.1)

-- ---- the call

-- Each task beside main is found by its name, and has a DED_JOIN without formals.
pub has-join :
    (far : Spots) (p : PProgram) (events : List Event) (input : List ℤ) → IsLegalOriginal p → (j : ℕ) (info : TaskInfo) → slice_get (drop 1 (form_in p).numbers.tasks) j ≡ Some info →
    HasJoin (controller p events input) (suc j) info.name ((text_spots far (form_in p)).join (suc j))
has-join far p events input h j info at =
    let there : task_at (form_in p).numbers (suc j) ≡ Some info = beside-first (form_in p).numbers.tasks j ∙ at in
    let within : suc j < length (form_in p).numbers.tasks = slice_get_within (form_in p).numbers.tasks (suc j) info there in
    let many : length (form_in p).numbers.tasks ≡ suc (last_task (form_in p).numbers) = refl in
    let l : j < last_task (form_in p).numbers = omega (arith, within, many) in
    record {
      task = task-found p h j info l there;
      found = ap (λ o. unwrap_or o 0) ((legal_more_are_found far p h).join j l);
      plain = (legal_has_formals p events far h).join j l;
    }
