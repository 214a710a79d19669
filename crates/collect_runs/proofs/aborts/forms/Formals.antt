-- The entries of the program have one formal more in the collecting text with abort statements of a legal program, that of their caller.
use Rattle.std.proofs.Common.{◌≡◌, ◌==◌, ◌-◌, ◌+◌, ℕ, Bool, true, List, [], ◌∷◌, ◌++◌, map, find}
use Rattle.std.proofs.Common.{Some, option_map, refl, sym, ap, ap₂, ◌∙◌}
use Rattle.std.specs.List.{AllByRecursion}
use Rattle.std.proofs.lemmas.List.Elements.{recursion_from_All}
use Rattle.common_lemmas.proofs.Lists.{find_front}
use Rattle.ada_tree.specs.declared.naming.NameId.{NameId}
use Rattle.ada_tree.specs.PlainStmt.{PFormal}
use Rattle.ada_tree.specs.PlainDecl.{PEntry, PTask}
use Rattle.ada_tree.specs.PlainProgram.{PProgram}
use Rattle.ada_tree.specs.Every.{Rules, EveryEntry, EveryFormal}
use Rattle.ada_static_rules.specs.Refusals.{types_in}
use Rattle.ada_static_rules.specs.StaticValue.{mark_named}
use Rattle.ada_value.specs.declared.values.Limits.{Limits}
use Rattle.ada_value.specs.Values.{limits_or}
use Rattle.syn_event.specs.declared.numbering.TaskInfo.{TaskInfo}
use Rattle.syn_event.specs.declared.numbering.EntryInfo.{EntryInfo}
use Rattle.syn_event.specs.Numbering.{Numbering, task_at, entry_at}
use Rattle.syn_event.specs.AddedNames.{task_info}
use Rattle.syn_event.specs.NamedTasks.{NumberedTask, numbered_tasks}
use Rattle.syn_event.specs.AllNumbers.{info_of_task}
use Rattle.syn_event.specs.DeclaredTasks.{tasks_of}
use Rattle.task_model.specs.declared.parameters.FormalParameter.{FormalParameter}
use Rattle.task_model.specs.Setting.{Setting, unit_named, formals_of_entry, formals_in, formals_of_unit, formals_of_info, parameters_of, entry_parameters}
use Rattle.task_laws.proofs.legal.rewritten_types.Lookups.{find-all, place-all}
use Rattle.task_laws.specs.legal.rewritten_values.Values.{old_names}
use Rattle.normal_model.specs.Names.{task_name}
use Rattle.normal_laws.specs.structure.types.Own.{own_name}
use Rattle.normal_laws.proofs.structure.numbers.TaskNames.{entries-own}
use Rattle.normal_laws.proofs.structure.units.Tasks.{has_name}
use Rattle.normal_laws.proofs.structure.entries.Lists.{find-mapped}
use Rattle.normal_laws.specs.runs.forms.Normalisable.{made_for, numbers_of}
use Rattle.normal_laws.proofs.legality.checks.Facts as facts
use Rattle.normal_laws.specs.existence.Laws.{IsLegalOriginal}
use Rattle.replay_runs.specs.starts.Laws.{form_in}
use Rattle.replay_runs.specs.starts.Formals.{form_setting}
use Rattle.collect_model.specs.declared.AddedNames.{AddedNames}
use Rattle.collect_model.specs.CollectTree.{entry_telling, task_telling}
use Rattle.collect_runs.specs.translation.Floors.{caller_parameter}
use Rattle.collect_structure.proofs.texts.Telling.{recorder_tasks}
use Rattle.collect_structure.proofs.aborts.texts.Rooted.{abort_agrees}
use Rattle.collect_runs.specs.aborts.starts.Texts.{abort_setting}
use Rattle.collect_runs.specs.aborts.forms.Texts.{names_added}
use Rattle.collect_runs.proofs.aborts.forms.Numbers.{entry-stays, task-stays}
use Rattle.collect_runs.proofs.aborts.forms.Finding.{text-tasks}
use Rattle.collect_runs.proofs.forms.Formals.{is-of, task-there, unit-there}

module _ (p : PProgram) (h : IsLegalOriginal p) where
  abbrev r : Rules
  r = old_names (own_name p)

  abbrev numbers : Numbering
  numbers = numbers_of p

  abbrev s : Setting
  s = record { program = p; types = types_in p; numbers = numbers }

  abbrev normal : PProgram
  normal = made_for p

  abbrev F : Numbering
  F = (form_in p).numbers

  abbrev U : Setting
  U = abort_setting p

  abbrev n : AddedNames
  n = names_added p

  abbrev ys : List NumberedTask
  ys = numbered_tasks (types_in p) p

  abbrev named : NameId → PEntry → Bool
  named id e = e.name.name.0 == id.0

  -- ---- units

  abbrev unit_name : NumberedTask → NameId
  unit_name y = task_name s (info_of_task p.names y)

  -- in the text it has a formal more in each entry
  unit-stays : (id : NameId) (t : PTask) → unit_named normal id ≡ Some t → unit_named U.program id ≡ Some (task_telling n t)
  unit-stays id t e =
      ap (find (has_name id)) (text-tasks p h)
      ∙ find_front (has_name id) (map (task_telling n) (tasks_of normal)) (recorder_tasks n normal) (task_telling n t)
      (find-mapped (has_name id) (has_name id) (task_telling n) (λ z. refl) (tasks_of normal) ∙ ap (option_map (task_telling n)) e)

  -- ---- formals

  limits-alike : (id : NameId) → own_name p id.0 ≡ true → limits_or (mark_named U.types id) ≡ limits_or (mark_named (types_in normal) id)
  limits-alike id o = ap limits_or (sym ((abort_agrees p (types_in p) numbers (facts.ordered p h) (facts.olds p h).2).marks id o)
      ∙ (facts.alike p h).marks id o)

  parameters-alike : (fs : List PFormal) → AllByRecursion (EveryFormal r) fs → parameters_of U.types fs ≡ parameters_of (types_in normal) fs
  parameters-alike [] k = refl
  parameters-alike (f ∷ fs) k =
      ap₂ (λ (l : Limits) (rest : List FormalParameter). map (λ w. record { name = w.name; mode = f.mode; limits = l }) f.names ++ rest)
      (limits-alike f.mark.name k.0.1) (parameters-alike fs k.1)

  -- Each entry of the normal form has one formal more in the text, that of its caller.
  pub legal_formals : (e : ℕ) (x : EntryInfo) → entry_at F e ≡ Some x → entry_parameters U e ≡ caller_parameter n U.types ∷ entry_parameters (form_setting p) e
  legal_formals e x at =
      let i = is-of p h e x at in
      let unit = unit-there p h i.k i.y i.at in
      let t : PTask = unit.0 in
      let info : TaskInfo = task_info normal.names (unit_name i.y) in
      let there : task_at F x.owner ≡ Some info = (ap (task_at F) i.owner ∙ task-there p h i.k i.y i.at) in
      let found : find (named x.name) t.entries ≡ Some i.entry = (ap (find (named x.name)) unit.2 ∙ i.found) in
      let own : EveryEntry r i.entry = find-all (EveryEntry r) (named x.name) i.y.unit.entries i.entry (place-all
      (λ (y : NumberedTask). AllByRecursion (EveryEntry r) y.unit.entries) ys i.k i.y (entries-own p (facts.olds p h).2 (types_in p)) i.at) i.found in
      let before : entry_parameters (form_setting p) e ≡ parameters_of (types_in normal) i.entry.formals =
      (ap (λ o. parameters_of (types_in normal) (formals_of_info (form_setting p) o)) at
      ∙ ap (λ o. parameters_of (types_in normal) (formals_of_unit normal o x.name)) there
      ∙ ap (λ o. parameters_of (types_in normal) (formals_in o x.name)) unit.1
      ∙ ap (λ o. parameters_of (types_in normal) (formals_of_entry o)) found) in
      ap (λ o. parameters_of U.types (formals_of_info U o)) (entry-stays p h e x at)
      ∙ ap (λ o. parameters_of U.types (formals_of_unit U.program o x.name)) (task-stays p h x.owner info there)
      ∙ ap (λ o. parameters_of U.types (formals_in o x.name)) (unit-stays (unit_name i.y) t unit.1)
      ∙ ap (λ o. parameters_of U.types (formals_of_entry o)) (find-mapped (named x.name) (named x.name) (entry_telling n) (λ z. refl) t.entries ∙ ap
      (option_map (entry_telling n)) found)
      ∙ ap (λ l. caller_parameter n U.types ∷ l) (parameters-alike i.entry.formals (recursion_from_All (EveryFormal r) i.entry.formals own.3) ∙ sym before)
