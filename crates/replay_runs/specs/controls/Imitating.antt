-- What the law of replaying asks of the controller of a replay text (this project's rule).
use Rattle.std.specs.Prelude.{◌≡◌, ℕ, ℤ, pos, Bool, List, [], ◌∷◌, ◌++◌, map, length, None, slice_index_or}
use Rattle.event_machine.specs.declared.Event.{Event}
use Rattle.event_machine.specs.Offers.{Finishes}
use Rattle.event_machine.specs.progress.Known.{known_at_start}
use Rattle.ada_tree.specs.PlainProgram.{PProgram}
use Rattle.ada_value.specs.declared.values.Value.{Value}
use Rattle.ada_value.specs.declared.values.Value.TheVariants.{Number}
use Rattle.syn_event.specs.Numbering.{owner_of}
use Rattle.task_model.specs.Frames.{callers_in}
use Rattle.task_model.specs.Tasks.{Task}
use Rattle.task_model.specs.Rendezvous.{accepted, finished, call_failed, pending_of, finals_of}
use Rattle.task_model.specs.Starting.{started}
use Rattle.normal_laws.specs.runs.forms.Normalisable.{numbers_of}
use Rattle.normal_laws.specs.existence.Laws.{IsLegalOriginal}
use Rattle.control_script.specs.declared.Op.{Op}
use Rattle.run_laws.specs.replaying.Permits as law
use Rattle.run_laws.specs.replaying.Scripts as scripts
use Rattle.run_laws.specs.replaying.Copies.{Spots, ops_offer, op_callers}
use Rattle.run_laws.specs.telling.ByEvents.{by_events}
use Rattle.replay_model.specs.tables.Columns.{acts, holds}
use Rattle.table_law.specs.Controllers.{CanMakeAll}
use Rattle.table_law.specs.States as tables
use Rattle.table_law.specs.States.{before, LeadsTo, Offers}
use Rattle.replay_structure.specs.spots.Places.{text_spots}
use Rattle.replay_structure.specs.legal.known.Laws.{AreKnown}
use Rattle.replay_runs.specs.script.Spelling.{kind, arg, index, spelled}
use Rattle.replay_runs.specs.starts.Laws.{form_in}
use Rattle.replay_runs.specs.starts.Formals.{text_setting}
use Rattle.replay_runs.specs.controls.Laws.{control_number, controller}

-- ---- operations

-- the law's script of a sequence
abbrev pub law_script : PProgram → List Event → List law.Op
law_script p events = scripts.script (by_events (owner_of (numbers_of p)) (length (numbers_of p).tasks)) (owner_of (numbers_of p)) (known_at_start (length (numbers_of p).tasks)) events

-- Of operations of the law: those that the controller makes, and whether it waits for ever behind them.
abbrev pub made_of : List law.Op → List Op
made_of ops = acts (map spelled ops)

abbrev pub ends_held : List law.Op → Bool
ends_held ops = holds (map spelled ops)

-- the task of an operation
abbrev pub task_of : law.Op → ℕ
task_of (law.Go task permit) = task
task_of (law.Done task) = task
task_of (law.Join task) = task
task_of law.Hold = 0

-- ---- states

-- The task is the controller with these operations left, where some are made, and it can make them all.
pub record IsBefore (p : PProgram) (events : List Event) (input : List ℤ) (ops : List law.Op) (t : Task) : Type 0 where
  pub made : List Op
  pub is : t ≡ before (controller p events input) (ends_held ops) made (made_of ops)
  pub can : CanMakeAll (controller p events input) (made ++ made_of ops)

-- The task is the controller at the end of the accept body of an operation, with these left behind it, where some are made, and it can make them all.
pub record IsWithin (p : PProgram) (events : List Event) (input : List ℤ) (op : law.Op) (ops : List law.Op) (t : Task) : Type 0 where
  pub made : List Op
  pub is : tables.IsWithin (controller p events input) (ends_held ops) made (spelled op) (made_of ops) (task_of op) t
  pub can : CanMakeAll (controller p events input) (made ++ spelled op ∷ made_of ops)

-- After finitely many local steps that write nothing the task is so.
abbrev pub LeadsInto : (Task → Type 0) → Task → Type 0
LeadsInto P t = (n : ℕ) × (u : Task) × LeadsTo n t u × P u

-- the values that go back with a permit
abbrev pub permit_values : law.Permit → List Value
permit_values permit = Number (pos (kind permit)) ∷ Number (pos (arg permit)) ∷ Number (index permit) ∷ []

-- ---- laws

-- The controller does what the law of replaying asks of it. Before its operations it has written nothing, and offers what the law's controller
-- offers. At the end of an accept body it has the same callers, and hands back the permit's numbers, or nothing. What each event makes of it leads to
-- what the event makes of the law's.
pub record ImitatesController (far : Spots) (p : PProgram) (events : List Event) (input : List ℤ) : Type 0 where
  pub output : (ops : List law.Op) (j : Task) → IsBefore p events input ops j → j.output ≡ []
  pub offers : (ops : List law.Op) (j : Task) → IsBefore p events input ops j → Offers j (ops_offer (text_spots far (form_in p)) ops)
  pub asked : (task : ℕ) (permit : law.Permit) (ops : List law.Op) (calling j : Task) → IsBefore p events input (law.Go task permit ∷ ops) j →
      LeadsInto (IsWithin p events input (law.Go task permit) ops) (accepted (text_spots far (form_in p)).go (pos task) task calling j)
  pub told : (task : ℕ) (ops : List law.Op) (calling j : Task) → IsBefore p events input (law.Done task ∷ ops) j →
      LeadsInto (IsWithin p events input (law.Done task) ops) (accepted (text_spots far (form_in p)).done (pos task) task calling j)
  pub joined : (task : ℕ) (ops : List law.Op) (j : Task) → IsBefore p events input (law.Join task ∷ ops) j → LeadsInto (IsBefore p events input ops) (call_failed j)
  -- at the end of an accept body
  pub silent : (op : law.Op) (ops : List law.Op) (j : Task) → IsWithin p events input op ops j → j.output ≡ []
  pub ends : (op : law.Op) (ops : List law.Op) (j : Task) → IsWithin p events input op ops j → Offers j Finishes
  pub callers : (op : law.Op) (ops : List law.Op) (j : Task) → IsWithin p events input op ops j → callers_in j.control ≡ op_callers op
  pub grants : (task : ℕ) (permit : law.Permit) (ops : List law.Op) (j : Task) → IsWithin p events input (law.Go task permit) ops j → (pending_of j ≡ None) × (finals_of j ≡ permit_values permit)
  pub hears : (task : ℕ) (ops : List law.Op) (j : Task) → IsWithin p events input (law.Done task) ops j → (pending_of j ≡ None) × (finals_of j ≡ [])
  pub handed : (op : law.Op) (ops : List law.Op) (j : Task) → IsWithin p events input op ops j → LeadsInto (IsBefore p events input ops) (finished j)

-- So it is in each replay text of a legal program.
abbrev pub LegalImitatesController : Type 0
LegalImitatesController = (far : Spots) (p : PProgram) (events : List Event) (input : List ℤ) → IsLegalOriginal p → ImitatesController far p events input

-- Where the events are known, the controller starts with the law's script left.
abbrev pub LegalStartsWithScript : Type 0
LegalStartsWithScript =
    (p : PProgram) (events : List Event) (inputs : List (List ℤ)) → IsLegalOriginal p → AreKnown p events →
    LeadsInto (IsBefore p events (slice_index_or inputs (control_number p) []) (law_script p events)) (started (text_setting p events) inputs (control_number p))
