-- What is known by events alone is so of every run with these events (this project's rule).
use Rattle.std.specs.Prelude.{◌≡◌, ℕ, ◌<◌, Bool, true, if◌then◌else◌, List, [], ◌∷◌, ◌++◌, length, slice_index_or, Option, Some, None}
use Rattle.event_machine.specs.declared.Standing.{Standing}
use Rattle.event_machine.specs.declared.Standing.TheVariants.{Live, Waiting, Queued, Served, Completed, Killed}
use Rattle.event_machine.specs.declared.Event.{Event}
use Rattle.event_machine.specs.States.{Ops, Seat, State, completed, is_closed}
use Rattle.event_machine.specs.Lawful.{IsLawful}
use Rattle.event_machine.specs.Programs.{Program, listed, IsOpening}
use Rattle.event_machine.specs.Runs.{Feasible}
use Rattle.event_machine.specs.Tallies.{ComesTo}
use Rattle.event_machine.specs.progress.Known.{Party, party, known, admits}

-- the acceptor that serves a task that stands so
abbrev pub server_of : Standing → Option ℕ
server_of Live = None
server_of Waiting = None
server_of Queued = None
server_of (Served by abnormal) = Some by
server_of Completed = None
server_of Killed = None

-- What there is to be known of a task: whether it is closed, who serves it, and its callers, where it is not closed.
abbrev pub told : {L : Type 0} → Ops L → Seat L → Party
told ops seat = record {
  closed = is_closed seat.standing;
  server = server_of seat.standing;
  callers = if is_closed seat.standing then [] else ops.callers seat.local;
}

-- what a test says
abbrev pub IsYes : {A : Type 0} → (A → Bool) → A → Type 0
IsYes test a = test a ≡ true

-- the program whose tasks these are
abbrev pub program_with : {L : Type 0} → Ops L → (ℕ → ℕ) → State (List (Seat L)) → Program L
program_with ops owner s = record { ops = ops; owner = owner; size = length s.seats }

-- A program whose tasks keep the rules of tasks, in its opening state.
pub record Opened (L : Type 0) : Type 0 where
  pub ops : Ops L
  pub owner : ℕ → ℕ
  pub proper : L → Bool
  pub lawful : IsLawful ops (IsYes proper)
  pub state : State (List (Seat L))
  pub opens_so : IsOpening (listed (program_with ops owner state)) state
  pub starts_proper : (t : ℕ) → t < length state.seats → IsYes proper (slice_index_or state.seats t (completed ops.nobody)).local

-- After each run each task is as its events tell.
abbrev pub ToldByEvents : Type 0 → Type 0
ToldByEvents L =
    (o : Opened L) (events : List Event) (tasks : ℕ → Seat L) (tally : ℕ → ℕ) →
    ComesTo (listed (program_with o.ops o.owner o.state)) o.state events tasks tally →
    (t : ℕ) → party (known o.owner (length o.state.seats) events) t ≡ told o.ops (tasks t)

-- An event that can happen after a feasible sequence is admitted by what is known after it.
abbrev pub FeasibleIsAdmitted : Type 0 → Type 0
FeasibleIsAdmitted L =
    (o : Opened L) (events : List Event) (e : Event) →
    Feasible (listed (program_with o.ops o.owner o.state)) o.state (events ++ e ∷ []) → admits o.owner (known o.owner (length o.state.seats) events) e ≡ true
