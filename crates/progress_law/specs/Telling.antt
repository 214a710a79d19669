-- What earlier events tell of the tasks of a program, and what it is for that to be so in a state of its machine (this project's rule).
use Rattle.std.specs.Prelude.{◌≡◌, ℕ, if◌then◌else◌, List, [], length}
use Rattle.event_machine.specs.declared.Event.{Event}
use Rattle.event_machine.specs.States as seats
use Rattle.event_machine.specs.progress.Known as known
use Rattle.event_machine.specs.progress.Known.{Known, party}
use Rattle.syn_event.specs.Numbering.{Numbering, owner_of}
use Rattle.task_model.specs.Frames.{callers_in}
use Rattle.task_model.specs.Machine.{Tasks}
use Rattle.task_machine.specs.Table.{seat_of}

-- What is known of a program with these numbers after the events.
abbrev pub known_in : Numbering → List Event → Known
known_in numbers events = known.known (owner_of numbers) (length numbers.tasks) events

-- What is known is so of the tasks in this state; past the last task stands a completed one.
pub record IsSoIn (k : Known) (s : seats.State Tasks) : Type 0 where
  -- a task is closed: it has completed, or it is abnormal
  pub closed : (t : ℕ) → known.is_closed k t ≡ seats.is_closed (seat_of s.seats t).standing
  -- it is the caller in a rendezvous with the acceptor a
  pub served : (t a : ℕ) → known.is_served_by a (party k t) ≡ seats.is_served_by a (seat_of s.seats t).standing
  -- its callers are those of its opened accept bodies, innermost first; a closed task has none
  pub callers : (t : ℕ) → (party k t).callers ≡ (if seats.is_closed (seat_of s.seats t).standing then [] else callers_in (seat_of s.seats t).local.control)
  -- the program has ended
  pub ended : k.ended ≡ s.ended
