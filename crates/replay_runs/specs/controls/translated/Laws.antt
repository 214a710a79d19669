-- The replay text of each legal program is a translation of its normal form. So each task starts alike in both, and takes local steps alike between
-- synchronizing statements (this project's rule).
use Rattle.std.specs.Prelude.{ℕ, ℤ, ◌≤◌, List, is_some}
use Rattle.event_machine.specs.declared.Event.{Event}
use Rattle.ada_tree.specs.PlainProgram.{PProgram}
use Rattle.ada_static_rules.specs.Refusals.{types_in}
use Rattle.ada_static_rules.specs.StaticValue.{value_named}
use Rattle.task_model.specs.Tasks.{Task, rest_of, place_of}
use Rattle.task_model.specs.Starting.{unit_of, started}
use Rattle.task_laws.specs.statements.Each.{HoldsOf}
use Rattle.task_laws.specs.statements.Laws.{ExitLeaves}
use Rattle.task_laws.specs.legal.rewritten_values.Values.{is_known}
use Rattle.task_laws.specs.translation.Scopes.{AgreeOnTypes}
use Rattle.task_laws.specs.translation.OldTexts.{only_names, OldBody}
use Rattle.task_laws.specs.translation.Translations.{Programs, Translation}
use Rattle.task_laws.specs.translation.Controls.{IsAtLocal, AreInside, StepAlike}
use Rattle.normal_laws.specs.runs.floors.NormalFloors.{Extends}
use Rattle.normal_laws.specs.existence.Laws.{IsLegalOriginal}
use Rattle.replay_model.specs.ReplayTree.{last_task}
use Rattle.replay_runs.specs.starts.Laws.{form_in, start_before, start_after}
use Rattle.replay_runs.specs.starts.Formals.{form_setting, text_setting}
use Rattle.replay_structure.specs.scopes.Names.{old_name}
use Rattle.replay_runs.specs.translation.Rows.{replayed_rows}
use Rattle.replay_runs.specs.translation.Floors.{HasPermit, IsPermitAdded, into_replay}
use Rattle.replay_runs.specs.translation.Laws.{StartAlike}
use Rattle.replay_runs.specs.controls.Asking.{unit_of_task}

-- ---- the two programs

-- The normal form and its replay text, each by its own types and numbers. A name of the normal form is old unless the text declares it anew; the
-- entries of the controller and of the idle task do not count, as they are found by their task alone (9.5). Fixed are FALSE, TRUE, and the names of
-- constants, named numbers and enumeration literals in the types of the normal form. A kind is known where the types of the normal form have a scalar
-- type at its place.
abbrev pub form_and_text : PProgram → List Event → Programs
form_and_text p events = record {
  original = form_setting p;
  made = text_setting p events;
  is_old = old_name (form_in p).program;
  is_fixed = λ n. is_some (value_named (types_in (form_in p).program) record { 0 = n });
  is_known = is_known (types_in (form_in p).program);
}

-- the translation of the unit that a task runs; of its statements only old names are asked
abbrev pub unit_translation : PProgram → List Event → ℕ → Translation
unit_translation p events t = into_replay (replayed_rows (only_names (form_and_text p events)) (unit_of_task p t)) (unit_of_task p t)

-- ---- what the translation asks

-- The tables of types of the normal form and of the text agree.
abbrev pub LegalTypesAgree : Type 0
LegalTypesAgree = (p : PProgram) (events : List Event) → IsLegalOriginal p → AgreeOnTypes (form_and_text p events)

-- Only old names stand in what the statements of main and of each task of the normal form evaluate, assign, open or count.
abbrev pub LegalNamesAreOld : Type 0
LegalNamesAreOld = (p : PProgram) (events : List Event) → IsLegalOriginal p → (t : ℕ) → OldBody (only_names (form_and_text p events)) (unit_of (form_in p).program (form_in p).numbers t).body

-- The names of a permit are added ones, in each program.
abbrev pub PermitIsAdded : Type 0
PermitIsAdded = (p : PProgram) (events : List Event) (t : ℕ) → IsPermitAdded (form_and_text p events) (unit_of_task p t)

-- A task starts in the text with the objects that it has in the normal form, in their order, and with added variables among them. The variables of a
-- permit are there. Each object of the normal form has an old name that is not fixed, and its values are of known kinds.
pub record StartsWithPermit (p : PProgram) (events : List Event) (t : ℕ) : Type 0 where
  pub extends : Extends (form_and_text p events) (start_before p t) (start_after p events t)
  pub permit : HasPermit (unit_of_task p t) (start_after p events t)

-- So do main and each task of the normal form.
abbrev pub LegalStartsWithPermit : Type 0
LegalStartsWithPermit = (p : PProgram) (events : List Event) → IsLegalOriginal p → (t : ℕ) → t ≤ last_task (form_in p).numbers → StartsWithPermit p events t

-- ---- what follows

-- Each of these tasks comes in the text, by finitely many local steps that write nothing, to a place where it is alike with the task of the normal
-- form at its start. Both have the same inputs.
abbrev pub LegalStartsAlike : Type 0
LegalStartsAlike =
    (p : PProgram) (events : List Event) → IsLegalOriginal p → (inputs : List (List ℤ)) (t : ℕ) → t ≤ last_task (form_in p).numbers →
    StartAlike (form_and_text p events) (unit_of_task p t) (started (form_setting p) inputs t) (started (text_setting p events) inputs t)

-- Each exit of a task of the normal form leaves a loop, as the task starts; that it stays so is a law of `task_laws: statements` (5.7).
abbrev pub LegalExitsLeaveAtStart : Type 0
LegalExitsLeaveAtStart = (p : PProgram) → IsLegalOriginal p → (inputs : List (List ℤ)) (t : ℕ) → HoldsOf ExitLeaves (started (form_setting p) inputs t)

-- A task of the normal form stands at a statement that does not synchronize, or at the end of a loop's statements. Its image stands in the images of
-- these statements, and each exit of the task leaves a loop. Then both have a local step, and behind it they are alike again.
abbrev pub LegalStepsAlike : Type 0
LegalStepsAlike =
    (p : PProgram) (events : List Event) → IsLegalOriginal p → (t : ℕ) (σ κ : Task) → AreInside (unit_translation p events t) σ κ → IsAtLocal (rest_of σ) (place_of σ) → HoldsOf ExitLeaves σ →
    StepAlike (unit_translation p events t) σ κ
