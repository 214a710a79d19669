-- What is asked of a program and a sequence of its events, so that the normal form is as its replay text asks (this project's rule).
use Rattle.std.specs.Prelude.{◌≡◌, ◌≤◌, true, List, length, drop}
use Rattle.std.specs.List.{AllByRecursion}
use Rattle.event_machine.specs.declared.Event.{Event}
use Rattle.ada_tree.specs.Attributes.{false_name}
use Rattle.ada_tree.specs.PlainProgram.{PProgram}
use Rattle.ada_tree.specs.Every.{EveryDecl, EveryBody}
use Rattle.ada_static_rules.specs.Refusals.{types_in}
use Rattle.syn_event.specs.declared.numbering.Mode.TheVariants.{Original}
use Rattle.syn_event.specs.AllNumbers.{all_numbers}
use Rattle.syn_event.specs.CheckRefusals.{MeetsCheckRules}
use Rattle.syn_event.specs.DeclaredTasks.{decl_list, tasks_of}
use Rattle.task_model.specs.Setting.{Setting}
use Rattle.normal_laws.specs.structure.types.Own.{own_name}
use Rattle.normal_laws.specs.structure.types.Laws.{IsOrdered, AreOwn}
use Rattle.replay_model.specs.ReplayTree.{normal_setting}
use Rattle.replay_structure.specs.checked.Around.{kept_names}
use Rattle.replay_structure.specs.checked.Checkable.{IsOtherThanTruth, entries_count, IsBeside}

-- the setting of the normal form of a program, with the program's own types and numbers
abbrev pub form_for : PProgram → Setting
form_for p = normal_setting p (types_in p) (all_numbers (types_in p) p)

-- What is asked of the program and of the events.
pub record IsPrepared (p : PProgram) (events : List Event) : Type 0 where
  -- the rules 13 to 23, the order of declarations, and own names
  pub checks : MeetsCheckRules p Original
  pub ordered : IsOrdered p
  pub own : AreOwn p p.decls
  pub main : own_name p p.name.name.0 ≡ true
  pub truth : own_name p false_name ≡ true
  -- of the normal form: its names are kept in the text, FALSE is no object, it is not too large, and no task has the program's name
  pub declared : AllByRecursion (EveryDecl (kept_names (form_for p).program)) (decl_list (form_for p).program.decls)
  pub named : EveryBody (kept_names (form_for p).program) 1 (form_for p).program.body
  pub untrue : AllByRecursion IsOtherThanTruth (decl_list (form_for p).program.decls)
  pub few_tasks : length (tasks_of (form_for p).program) ≤ 200
  pub few_entries : entries_count (tasks_of (form_for p).program) ≤ 1000
  pub apart : AllByRecursion (IsBeside (form_for p).program) (drop 1 (form_for p).numbers.tasks)
  -- a sequence has at most 200,000 events, and a program 201 tasks with main
  pub few_events : length events ≤ 200000
  pub few_numbered : length (all_numbers (types_in p) p).tasks ≤ 201
