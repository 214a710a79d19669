-- How a task stands after a list of events, in the words of runs: a run is one of the program from its opening. A task does no more after the end of
-- the program, so an end at the end of the events is left out (this project's rule).
use Rattle.std.specs.Prelude.{◌≡◌, ℕ, Bool, true, false, not, ◌&&◌, if◌then◌else◌, List}
use Rattle.event_machine.specs.declared.Event.{Event}
use Rattle.event_machine.specs.declared.Standing.{Standing}
use Rattle.event_machine.specs.declared.Standing.TheVariants as standing
use Rattle.event_machine.specs.Offers.{Offer}
use Rattle.event_machine.specs.States.{Seat, is_completed, is_served, is_abnormal}
use Rattle.event_machine.specs.Runs.{Feasible}
use Rattle.event_machine.specs.Tallies.{RestIs, StandsAfter, before_end}
use Rattle.syn_event.specs.Numbering.{Numbering}
use Rattle.task_model.specs.Tasks.{Task}
use Rattle.task_model.specs.Stands.{can_step, offer_of}
use Rattle.task_model.specs.Machine.{ProgramWithInputs, rules_of, opening_of}

-- Some run has exactly these events.
abbrev pub IsFeasible : ProgramWithInputs → Numbering → List Event → Type 0
IsFeasible setup numbers events = Feasible (rules_of numbers) (opening_of setup numbers).state events

-- Rest: in some run with these events t is free, has made n local steps since the last event that changed it, and is in this state.
abbrev pub IsRest : ProgramWithInputs → Numbering → List Event → ℕ → ℕ → Task → Type 0
IsRest setup numbers events t n task = RestIs (rules_of numbers) (opening_of setup numbers).state (before_end events) t n task

-- In some run with these events t stands so, where one that waits or is queued is called live.
abbrev pub StandsInSomeRun : ProgramWithInputs → Numbering → List Event → ℕ → Standing → Type 0
StandsInSomeRun setup numbers events t z = StandsAfter (rules_of numbers) (opening_of setup numbers).state (before_end events) t z

-- In some run with these events the standing of t passes the test.
abbrev pub StandsIn : ProgramWithInputs → Numbering → List Event → ℕ → (Standing → Bool) → Type 0
StandsIn setup numbers events t test = (z : Standing) × StandsInSomeRun setup numbers events t z × (test z ≡ true)

-- t is open at n: in some run with these events it is free, has made n local steps since the last event that changed it, and has one more.
abbrev pub IsOpenAt : ProgramWithInputs → Numbering → List Event → ℕ → ℕ → Type 0
IsOpenAt setup numbers events t n = (task : Task) × IsRest setup numbers events t n task × (can_step task ≡ true)

-- What is seen of a task that is closed, in a rendezvous, or free and at rest.
pub data View : Type 0 where
  -- it has completed, by itself or by an abort
  Completed : View
  -- it is an abnormal caller: closed, and in its rendezvous still
  Abnormal : View
  -- it is a caller in a rendezvous, and not abnormal
  Busy : View
  -- it is free, has no local step left, and offers this
  At : Offer → View

-- a caller in a rendezvous that is not abnormal
abbrev pub is_busy : Standing → Bool
is_busy z = is_served z && not (is_abnormal z)

-- The task is seen so after the events.
abbrev pub ViewIs : ProgramWithInputs → Numbering → List Event → ℕ → View → Type 0
ViewIs setup numbers events t Completed = StandsIn setup numbers events t is_completed
ViewIs setup numbers events t Abnormal = StandsIn setup numbers events t is_abnormal
ViewIs setup numbers events t Busy = StandsIn setup numbers events t is_busy
ViewIs setup numbers events t (At offer) =
    (n : ℕ) × (task : Task) × IsRest setup numbers events t n task × (can_step task ≡ false) × (offer_of task ≡ offer)

-- the view of a task with this standing, which offers this
abbrev pub view_in : Standing → Offer → View
view_in standing.Live offer = At offer
view_in standing.Waiting offer = At offer
view_in standing.Queued offer = At offer
view_in (standing.Served by abnormal) offer = if abnormal then Abnormal else Busy
view_in standing.Completed offer = Completed
view_in standing.Killed offer = Completed

-- What is seen of a task that is kept so.
abbrev pub view_of : Seat Task → View
view_of seat = view_in seat.standing (offer_of seat.local)
