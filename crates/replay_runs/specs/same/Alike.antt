-- Two programs whose tasks are alike at each number do the same (this project's rule).
use Rattle.std.specs.Prelude.{◌↔◌, ◌≡◌, List, ℕ, ℤ}
use Rattle.event_machine.specs.Applying.{can}
use Rattle.event_machine.specs.Laws.{IsQuiet}
use Rattle.event_machine.specs.Programs.{Program, numbered}
use Rattle.event_machine.specs.Runs.{IsRun, events_of}
use Rattle.event_machine.specs.States.{Ops, Seat, State}
use Rattle.event_machine.specs.declared.Action.{Action}
use Rattle.run_laws.specs.imitation.Shown.{Opened, end_from}

-- A relation of the states of tasks that all respects that is asked of tasks and done to them: related states have the same local step, offer and callers,
-- and go on to related ones.
pub record Respects {L K : Type 0} (one : Ops L) (other : Ops K) (R : L → K → Type 0) : Type 0 where
  pub can_step : (l : L) (k : K) → R l k → one.can_step l ≡ other.can_step k
  pub offer : (l : L) (k : K) → R l k → one.offer l ≡ other.offer k
  pub callers : (l : L) (k : K) → R l k → one.callers l ≡ other.callers k
  pub stepped : (l : L) (k : K) → R l k → R (one.stepped l) (other.stepped k)
  pub accepted : (e : ℕ) (i : ℤ) (c : ℕ) (a : L) (b : K) (l : L) (k : K) → R a b → R l k → R (one.accepted e i c a l) (other.accepted e i c b k)
  pub finished : (l : L) (k : K) → R l k → R (one.finished l) (other.finished k)
  pub resumed : (a : L) (b : K) (l : L) (k : K) → R a b → R l k → R (one.resumed a l) (other.resumed b k)
  pub raised : (l : L) (k : K) → R l k → R (one.raised l) (other.raised k)
  pub took_else : (l : L) (k : K) → R l k → R (one.took_else l) (other.took_else k)
  pub took_delay : (d : ℕ) (l : L) (k : K) → R l k → R (one.took_delay d l) (other.took_delay d k)
  pub passed : (l : L) (k : K) → R l k → R (one.passed l) (other.passed k)

-- two tasks stand alike, in related states
pub record SeatsAlike {L K : Type 0} (R : L → K → Type 0) (a : Seat L) (b : Seat K) : Type 0 where
  pub local : R a.local b.local
  pub standing : a.standing ≡ b.standing

-- two states are alike: task by task, with one line, and both have ended or neither
pub record StatesAlike {L K : Type 0} (R : L → K → Type 0) (s : State (ℕ → Seat L)) (u : State (ℕ → Seat K)) : Type 0 where
  pub seats : (t : ℕ) → SeatsAlike R (s.seats t) (u.seats t)
  pub line : s.line ≡ u.line
  pub ended : s.ended ≡ u.ended

-- two programs are alike: as many tasks, one owner for each entry, and tasks that do related things
pub record ProgramsAlike {L K : Type 0} (R : L → K → Type 0) (p : Program L) (q : Program K) : Type 0 where
  pub ops : Respects p.ops q.ops R
  pub owner : (e : ℕ) → p.owner e ≡ q.owner e
  pub size : p.size ≡ q.size

-- Two programs run alike from their starts: a list of actions is a run of both or of neither, with the same events and the same output of each task. Behind
-- it the same actions apply, the same further actions are runs, with the same events, and both are quiet or neither.
pub record RunAlike {L K : Type 0} (one : Opened L) (other : Opened K) : Type 0 where
  pub size : one.program.size ≡ other.program.size
  pub run : (actions : List Action) → IsRun (numbered one.program) one.at actions ↔ IsRun (numbered other.program) other.at actions
  pub events : (actions : List Action) → events_of (numbered one.program) one.at actions ≡ events_of (numbered other.program) other.at actions
  pub outputs : (actions : List Action) (t : ℕ) → one.out ((end_from one actions).seats t).local ≡ other.out ((end_from other actions).seats t).local
  pub applies : (actions : List Action) (action : Action) → can (numbered one.program) (end_from one actions) action ≡ can (numbered other.program) (end_from other actions) action
  pub further : (actions more : List Action) → IsRun (numbered one.program) (end_from one actions) more ↔ IsRun (numbered other.program) (end_from other actions) more
  pub further_events : (actions more : List Action) → events_of (numbered one.program) (end_from one actions) more ≡ events_of (numbered other.program) (end_from other actions) more
  pub quiet : (actions : List Action) → IsQuiet one.program.ops (end_from one actions).seats ↔ IsQuiet other.program.ops (end_from other actions).seats
