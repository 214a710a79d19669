-- At what the controller and the idle task of a replay text stand (this project's rule).
use Rattle.std.specs.Prelude.{◌≡◌, ℕ, ℤ, pos, suc, List, [], ◌∷◌, None, slice_index_or}
use Rattle.event_machine.specs.declared.Choice.TheVariants.{Accept, Terminate}
use Rattle.event_machine.specs.declared.Event.{Event}
use Rattle.event_machine.specs.Offers.{Waits}
use Rattle.ada_tree.specs.PlainStmt.{no_handler}
use Rattle.ada_tree.specs.PlainProgram.{PProgram}
use Rattle.ada_static_rules.specs.Refusals.{types_in}
use Rattle.syn_event.specs.AllNumbers.{all_numbers}
use Rattle.task_model.specs.Frames.{OwnBody, control}
use Rattle.task_model.specs.Tasks.{Task}
use Rattle.task_model.specs.Steps.{block_stmts}
use Rattle.task_model.specs.Starting.{started}
use Rattle.normal_laws.specs.runs.forms.Normalisable.{numbers_of}
use Rattle.normal_laws.specs.existence.Laws.{IsLegalOriginal}
use Rattle.run_laws.specs.replaying.Copies.{Spots}
use Rattle.replay_model.specs.tables.Columns.{acts}
use Rattle.replay_model.specs.Controlling.{control_ids, idle_body}
use Rattle.replay_model.specs.ReplayTree.{last_task, script_of}
use Rattle.table_law.specs.Controllers.{Controller, Entries, IsController, CanMakeAll}
use Rattle.table_law.specs.States.{starting, Offers}
use Rattle.replay_structure.specs.spots.Places.{text_spots}
use Rattle.replay_structure.specs.bodies.Laws.{unit_in}
use Rattle.replay_structure.specs.legal.known.Laws.{AreKnown}
use Rattle.replay_runs.specs.starts.Laws.{form_in}
use Rattle.replay_runs.specs.starts.Formals.{text_setting}

-- ---- the controller

-- its number, behind those of the program's tasks; the idle task has the next one
abbrev pub control_number : PProgram → ℕ
control_number p = suc (last_task (form_in p).numbers)

-- The controller of a replay text with its input, as the laws of tables have it.
abbrev pub controller : PProgram → List Event → List ℤ → Controller
controller p events input = record {
  setting = text_setting p events;
  number = control_number p;
  names = control_ids (form_in p).program;
  tasks = (form_in p).numbers.tasks;
  span = (form_in p).program.name.span;
  input = input;
  output = [];
}

-- the numbers of the entries that it accepts and calls
abbrev pub control_entries : Spots → PProgram → Entries
control_entries far p = record {
  go = (text_spots far (form_in p)).go;
  done = (text_spots far (form_in p)).done;
  hold = (text_spots far (form_in p)).hold;
  join = (text_spots far (form_in p)).join;
}

-- ---- the idle task

-- The idle task before its wait.
abbrev pub idler : PProgram → List Event → List ℤ → Task
idler p events input = record {
  setting = text_setting p events;
  number = suc (control_number p);
  control = control (block_stmts (unit_in (idle_body (form_in p).program (form_in p).program.name.span)).body) (OwnBody no_handler None) [] [];
  input = input;
  output = [];
}

-- ---- laws

-- The controller starts as the one that makes the operations of the script, and the idle task before its wait.
pub record StartsThere (p : PProgram) (events : List Event) (inputs : List (List ℤ)) : Type 0 where
  pub control : started (text_setting p events) inputs (control_number p) ≡ starting (controller p events (slice_index_or inputs (control_number p) [])) (script_of (all_numbers (types_in p) p) events)
  pub idle : started (text_setting p events) inputs (suc (control_number p)) ≡ idler p events (slice_index_or inputs (suc (control_number p)) [])

abbrev pub LegalStartsThere : Type 0
LegalStartsThere = (p : PProgram) (events : List Event) (inputs : List (List ℤ)) → IsLegalOriginal p → StartsThere p events inputs

-- The idle task waits for a call of an entry that nobody calls, or terminates (9.7.1).
abbrev pub IdleWaits : Type 0
IdleWaits = (far : Spots) (p : PProgram) (events : List Event) (input : List ℤ) → Offers (idler p events input) (Waits (Accept (text_spots far (form_in p)).rest (pos 0) ∷ Terminate ∷ []))

-- Each replay text of a legal program is as the laws of tables ask of a program with a controller.
abbrev pub LegalHasController : Type 0
LegalHasController = (far : Spots) (p : PProgram) (events : List Event) (input : List ℤ) → IsLegalOriginal p → IsController (controller p events input) (control_entries far p)

-- Where the events are known, the controller can make the operations of their script.
abbrev pub LegalMakesScript : Type 0
LegalMakesScript =
    (p : PProgram) (events : List Event) (input : List ℤ) → IsLegalOriginal p → AreKnown p events → CanMakeAll (controller p events input) (acts (script_of (numbers_of p) events))
