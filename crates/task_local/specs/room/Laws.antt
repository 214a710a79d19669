-- Room that is taken once is enough: no statement at which a task ever stands has a wider wait than the widest in its unit's body (this project's rule; 9.5, 9.7.1).
use Rattle.std.specs.Prelude.{◌≡◌, ℕ, ℤ, ◌≤◌, List, Option}
use Rattle.ada_tree.specs.PlainStmt.{PStmt, PStmts, stmt_then}
use Rattle.ada_value.specs.declared.values.Value.{Value}
use Rattle.ada_value.specs.declared.values.Raised.{Raised}
use Rattle.syn_event.specs.Numbering.{Numbering}
use Rattle.event_machine.specs.Worlds.{World, Move, world_after}
use Rattle.task_model.specs.Setting.{Setting}
use Rattle.task_model.specs.Tasks.{Task, rest_of, gone_to, raised_there}
use Rattle.task_model.specs.Waits.{alternative_for}
use Rattle.task_model.specs.Rendezvous.{behind_of, alternative_opened, accepted, finished, returned, resumed_with, call_failed, took_else, took_delay, past_name}
use Rattle.task_model.specs.Stands.{Stand, stepped, stepped_by}
use Rattle.task_model.specs.Starting.{Unit, unit_of, started_in}
use Rattle.task_model.specs.Machine.{ProgramWithInputs}
use Rattle.task_model.specs.Laws.{program_in, first_world}
use Rattle.task_waits.specs.Room.{room_at, widest_body}
use Rattle.task_steps.specs.Sequential.{sequential_step}
use Rattle.task_local.specs.room.Fitting.{HasRoom, room_next}

-- ---- one task

-- What is enough for a task is enough for the statement at which it stands.
abbrev pub StandsWithin : Type 0
StandsWithin = (n : ℕ) (t : Task) (s : PStmt) (behind : PStmts) → HasRoom n t → rest_of t ≡ stmt_then s behind → room_at s ≤ n

-- The widest wait of a unit's body is enough for a task that starts with it.
abbrev pub StartsWithin : Type 0
StartsWithin = (n : ℕ) (g : Setting) (t : ℕ) (unit : Unit) (input : List ℤ) → widest_body unit.body ≤ n → HasRoom n (started_in g t unit input)

-- More is enough too.
abbrev pub GrowsWithin : Type 0
GrowsWithin = (n m : ℕ) (t : Task) → HasRoom n t → n ≤ m → HasRoom m t

-- It hangs on the frames alone.
abbrev pub HangsOnFrames : Type 0
HangsOnFrames = (n : ℕ) (t u : Task) → t.control.top ≡ u.control.top → t.control.outer ≡ u.control.outer → HasRoom n t → HasRoom n u

-- what is enough for each task before is enough behind
abbrev pub IsKeptBy : (Task → Task) → Type 0
IsKeptBy moves = (n : ℕ) (t : Task) → HasRoom n t → HasRoom n (moves t)

-- What is enough for a task stays enough, whatever it does by itself and whatever is done to it.
pub record IsKept : Type 0 where
  pub stepped : IsKeptBy stepped
  pub stepped_by : (stand : Stand) → IsKeptBy (stepped_by stand)
  pub sequential : IsKeptBy sequential_step
  pub raised : (x : Raised) → IsKeptBy (raised_there x)
  pub behind : IsKeptBy (λ t. gone_to (behind_of t) t)
  pub opened : (caller e : ℕ) (i : ℤ) (values : List Value) → IsKeptBy (λ t. alternative_opened caller (alternative_for t e i) values t)
  pub accepted : (e : ℕ) (i : ℤ) (caller : ℕ) (calling : Task) → IsKeptBy (accepted e i caller calling)
  pub finished : IsKeptBy finished
  pub returned : (values : List Value) → IsKeptBy (returned values)
  pub resumed : (o : Option Raised) (values : List Value) → IsKeptBy (resumed_with o values)
  pub failed : IsKeptBy call_failed
  pub took_else : IsKeptBy took_else
  pub took_delay : (k : ℕ) → IsKeptBy (took_delay k)
  pub passed : IsKeptBy past_name

-- ---- all tasks

-- so much room is enough for each task of a world, by their numbers
abbrev pub EachHasRoom : (ℕ → ℕ) → World Task → Type 0
EachHasRoom room w = (t : ℕ) → HasRoom (room t) (w.tasks t).local

-- the room for the widest wait of each task's body
abbrev pub room_of : ProgramWithInputs → Numbering → ℕ → ℕ
room_of setup numbers t = widest_body (unit_of setup.program numbers t).body

-- It is enough after each list of moves of the machine without queues, whether they can be made or not.
abbrev pub StaysWithin : Type 0
StaysWithin = (setup : ProgramWithInputs) (numbers : Numbering) (moves : List Move) → EachHasRoom (room_of setup numbers) (world_after (program_in setup numbers) (first_world setup numbers) moves)

-- So no statement at which a task ever stands has a wider wait than the widest in its unit's body.
abbrev pub NeverWider : Type 0
NeverWider = (setup : ProgramWithInputs) (numbers : Numbering) (moves : List Move) (t : ℕ) →
    room_next (rest_of ((world_after (program_in setup numbers) (first_world setup numbers) moves).tasks t).local) ≤ room_of setup numbers t
