-- What the runs of two programs have in common, and what is so in all runs of one (this project's rule).
use Rattle.std.specs.Prelude.{◌≡◌, ℕ, ◌<◌, List}
use Rattle.event_machine.specs.declared.Action.{Action}
use Rattle.event_machine.specs.declared.Standing.TheVariants.{Live}
use Rattle.event_machine.specs.States.{Seat, State}
use Rattle.event_machine.specs.Runs.{IsRun, end_of, events_of}
use Rattle.event_machine.specs.Programs.{Program, numbered}
use Rattle.event_machine.specs.Laws.{IsQuiet}
use Rattle.event_machine.specs.Worlds.{Move, still, world_of, AreMoves, world_after}

-- A program with its opening state and what its tasks have written.
pub record Opened (L : Type 0) : Type 0 where
  pub program : Program L
  pub out : L → List ℕ
  pub at : State (ℕ → Seat L)

-- the state after these actions
abbrev pub end_from : {L : Type 0} → Opened L → List Action → State (ℕ → Seat L)
end_from o actions = end_of (numbered o.program) o.at actions

-- Some run of the other program shows what this run of the one shows: the same events, and the same output of each task; and where this one ends
-- quiet the other does too.
pub record IsShownBy {L K : Type 0} (one : Opened L) (other : Opened K) (actions : List Action) : Type 0 where
  pub others : List Action
  pub applies : IsRun (numbered other.program) other.at others
  pub events : events_of (numbered other.program) other.at others ≡ events_of (numbered one.program) one.at actions
  pub outputs : (t : ℕ) → t < one.program.size → other.out ((end_from other others).seats t).local ≡ one.out ((end_from one actions).seats t).local
  pub quiet : IsQuiet one.program.ops (end_from one actions).seats → IsQuiet other.program.ops (end_from other others).seats

-- Whatever a run of the one program shows, some run of the other shows.
abbrev pub AllShownBy : {L K : Type 0} → Opened L → Opened K → Type 0
AllShownBy one other = (actions : List Action) → IsRun (numbered one.program) one.at actions → IsShownBy one other actions

-- The two programs show the same.
abbrev pub ShowSame : {L K : Type 0} → Opened L → Opened K → Type 0
ShowSame one other = AllShownBy one other × AllShownBy other one

-- Whatever the program does from its start, each free task is so: in each world that moves without queues come to, and after each run, where one that
-- waits or is queued is free too.
pub record AllFreeAre {L : Type 0} (IsSo : L → Type 0) (one : Opened L) : Type 0 where
  pub after_moves : (moves : List Move) → AreMoves one.program (world_of one.at) moves → (t : ℕ) → ((world_after one.program (world_of one.at) moves).tasks t).standing ≡ Live →
      IsSo ((world_after one.program (world_of one.at) moves).tasks t).local
  pub after_runs : (actions : List Action) → IsRun (numbered one.program) one.at actions → (t : ℕ) → still ((end_from one actions).seats t).standing ≡ Live → IsSo ((end_from one actions).seats t).local
