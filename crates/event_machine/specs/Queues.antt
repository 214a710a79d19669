-- Waits and queues: a task that waits stands at a wait, a queued one at a plain or timed call, and each queued task stands in the line once (9.5).
use Rattle.std.specs.Prelude.{◌≡◌, ℕ, Bool, true, false, if◌then◌else◌}
use Rattle.event_machine.specs.declared.Standing.{Standing}
use Rattle.event_machine.specs.declared.Standing.TheVariants.{Live, Waiting, Queued, Served, Completed, Killed}
use Rattle.event_machine.specs.Offers.{Offer, Nothing, Calls, Waits, Finishes, Ends, Aborts, queues_up}
use Rattle.event_machine.specs.States.{Ops, Seat, State, is_queued}
use Rattle.event_machine.specs.Soundness.{times}

abbrev pub is_wait : Offer → Bool
is_wait Nothing = false
is_wait (Calls form e i) = false
is_wait (Waits choices) = true
is_wait Finishes = false
is_wait Ends = false
is_wait (Aborts x) = false

-- a call that can stand in a queue
abbrev pub is_queueing : Offer → Bool
is_queueing Nothing = false
is_queueing (Calls form e i) = queues_up form
is_queueing (Waits choices) = false
is_queueing Finishes = false
is_queueing Ends = false
is_queueing (Aborts x) = false

-- A task that stands so can offer this.
abbrev pub suits : Standing → Offer → Bool
suits Live offer = true
suits Waiting offer = is_wait offer
suits Queued offer = is_queueing offer
suits (Served by abnormal) offer = true
suits Completed offer = true
suits Killed offer = true

-- Each task offers what suits its standing.
abbrev pub IsSuited : {L : Type 0} → Ops L → (ℕ → Seat L) → Type 0
IsSuited ops seats = (t : ℕ) → suits (seats t).standing (ops.offer (seats t).local) ≡ true

-- Each queued task stands in the line once, and no other does.
abbrev pub IsLined : {L : Type 0} → State (ℕ → Seat L) → Type 0
IsLined s = (t : ℕ) → times t s.line ≡ (if is_queued (s.seats t).standing then 1 else 0)
