-- What each action does: the state after it and its event, one clause for each (9.4, 9.5, 9.7, 9.10, 11.4.1, 11.5; the rules of abort are this project's).
use Rattle.std.specs.Prelude.{ℕ, ℤ, true, false, not, ◌==◌, if◌then◌else◌, List, [], ◌∷◌, ◌++◌, filter, Option, Some, None}
use Rattle.event_machine.specs.declared.Standing.{Standing}
use Rattle.event_machine.specs.declared.Standing.TheVariants.{Live, Waiting, Queued, Served, Completed, Killed}
use Rattle.event_machine.specs.declared.Action.{Action}
use Rattle.event_machine.specs.declared.Action.TheVariants.{Local, Arrive, Start, Finish, Else, Delay, CallElse, Expire, Fail, Complete, Abort, End}
use Rattle.event_machine.specs.declared.Event.{Event}
use Rattle.event_machine.specs.declared.Event.TheVariants.{R, E, S, D, C as CallElseEvent, T as ExpireEvent, F, X, B, Z}
use Rattle.event_machine.specs.Offers.{Offer, Nothing, Calls, Waits, Finishes, Ends, Aborts, aborted_by}
use Rattle.event_machine.specs.States.{Ops, Seat, State, Store, Rules, live, completed, is_closed, is_abnormal, is_served_by}

-- the line without c
abbrev pub without : ℕ → List ℕ → List ℕ
without c line = filter (λ x. not (x == c)) line

-- t is live, changed by f
abbrev pub freed : {L C : Type 0} → Store L C → (L → L) → C → ℕ → C
freed store f seats t = store.put seats t (live (f (store.at seats t).local))

-- t stands so, with its control as it was
abbrev pub stand : {L C : Type 0} → Store L C → C → ℕ → Standing → C
stand store seats t standing = store.put seats t (record { local = (store.at seats t).local; standing = standing })

-- what arriving makes of the standing and of the line
abbrev pub arrived_standing : Offer → Standing
arrived_standing Nothing = Live
arrived_standing (Calls form e i) = Queued
arrived_standing (Waits choices) = Waiting
arrived_standing Finishes = Live
arrived_standing Ends = Live
arrived_standing (Aborts x) = Live

-- what arriving makes of the line: a caller joins it at the end, another task does not (9.5)
abbrev pub arrived_line : ℕ → Offer → List ℕ → List ℕ
arrived_line t Nothing line = line
arrived_line t (Calls form e i) line = line ++ t ∷ []
arrived_line t (Waits choices) line = line
arrived_line t Finishes line = line
arrived_line t Ends line = line
arrived_line t (Aborts x) line = line

-- The owner of the called entry is live in the accept body, and c is served by it.
abbrev pub met_at : {L C : Type 0} → Rules L C → C → ℕ → ℕ → ℤ → C
met_at rules seats c e i =
    stand rules.store (freed rules.store (λ l. rules.ops.accepted e i c (rules.store.at seats c).local l) seats (rules.owner e))
    c (Served (rules.owner e) false)

-- the tasks after the rendezvous that c calls has started; without a call nothing changes (9.5)
abbrev pub met : {L C : Type 0} → Rules L C → C → ℕ → Offer → C
met rules seats c Nothing = seats
met rules seats c (Calls form e i) = met_at rules seats c e i
met rules seats c (Waits choices) = seats
met rules seats c Finishes = seats
met rules seats c Ends = seats
met rules seats c (Aborts x) = seats

-- A caller as its rendezvous with the acceptor a, in this state, ends: an abnormal one completes, and else it is live again. Who is not served by a stays as it is.
abbrev pub parted : {L : Type 0} → Ops L → ℕ → L → Seat L → Seat L
parted ops a acceptor seat =
    if is_served_by a seat.standing
    then (if is_abnormal seat.standing then completed seat.local else live (ops.resumed acceptor seat.local))
    else seat

-- the innermost rendezvous of the acceptor a, in this state and with these callers, has ended for its caller
abbrev pub released_first : {L C : Type 0} → Rules L C → ℕ → L → List ℕ → C → C
released_first rules a acceptor [] seats = seats
released_first rules a acceptor (c ∷ callers) seats = rules.store.put seats c (parted rules.ops a acceptor (rules.store.at seats c))

-- The innermost rendezvous of a has ended on both sides.
abbrev pub parted_both : {L C : Type 0} → Rules L C → C → ℕ → C
parted_both rules seats a =
    released_first rules a (rules.store.at seats a).local (rules.ops.callers (rules.store.at seats a).local)
    (freed rules.store rules.ops.finished seats a)

-- A task as the task x closes: a caller in a rendezvous with x gets TASKING_ERROR at its call, or completes where it is abnormal.
abbrev pub released : {L : Type 0} → Ops L → ℕ → Seat L → Seat L
released ops x seat =
    if is_served_by x seat.standing
    then (if is_abnormal seat.standing then completed seat.local else live (ops.raised seat.local))
    else seat

-- How an aborted task stands: a served one becomes abnormal, a closed one stays; else it is closed in this way.
abbrev pub fallen : Standing → Standing → Standing
fallen closing Live = closing
fallen closing Waiting = closing
fallen closing Queued = closing
fallen closing (Served by abnormal) = Served by true
fallen closing Completed = Completed
fallen closing Killed = Killed

-- The task x, which is not closed, is aborted.
abbrev pub aborted : {L C : Type 0} → Rules L C → C → ℕ → Standing → C
aborted rules seats x closing =
    let freed_callers = rules.store.each (released rules.ops x) seats in
    stand rules.store freed_callers x (fallen closing (rules.store.at freed_callers x).standing)

-- t has gone on to its next name, but where it aborts itself
abbrev pub went_on : {L C : Type 0} → Rules L C → C → ℕ → ℕ → C
went_on rules seats t x = if x == t then seats else freed rules.store rules.ops.passed seats t

-- t has aborted x; a closed x stays as it is
abbrev pub abort_seats : {L C : Type 0} → Rules L C → C → ℕ → ℕ → C
abort_seats rules seats t x =
    if is_closed (rules.store.at seats x).standing
    then went_on rules seats t x
    else aborted rules (went_on rules seats t x) x (if x == t then Completed else Killed)

-- the line after an abort of x: an x that is not closed leaves it (9.10)
abbrev pub abort_line : {L C : Type 0} → Rules L C → State C → ℕ → List ℕ
abort_line rules s x = if is_closed (rules.store.at s.seats x).standing then s.line else without x s.line

-- the state after t aborts the task that is named; where none is named nothing changes (9.10)
abbrev pub after_abort : {L C : Type 0} → Rules L C → State C → ℕ → Option ℕ → State C
after_abort rules s t None = s
after_abort rules s t (Some x) = record { seats = abort_seats rules s.seats t x; line = abort_line rules s x; ended = s.ended }

-- only the tasks change
abbrev pub with_seats : {C : Type 0} → State C → C → State C
with_seats s seats = record { seats = seats; line = s.line; ended = s.ended }

-- the tasks change, and c leaves its queue
abbrev pub with_left : {C : Type 0} → State C → C → ℕ → State C
with_left s seats c = record { seats = seats; line = without c s.line; ended = s.ended }

-- what the task t offers in this state
abbrev pub offer_of_task : {L C : Type 0} → Rules L C → State C → ℕ → Offer
offer_of_task rules s t = rules.ops.offer (rules.store.at s.seats t).local

-- The state after an action that applies.
abbrev pub after : {L C : Type 0} → Rules L C → State C → Action → State C
after rules s (Local t) = with_seats s (freed rules.store rules.ops.stepped s.seats t)
after rules s (Arrive t) = record {
  seats = stand rules.store s.seats t (arrived_standing (offer_of_task rules s t));
  line = arrived_line t (offer_of_task rules s t) s.line;
  ended = s.ended;
}
after rules s (Start c) = with_left s (met rules s.seats c (offer_of_task rules s c)) c
after rules s (Finish a) = with_seats s (parted_both rules s.seats a)
after rules s (Else a) = with_seats s (freed rules.store rules.ops.took_else s.seats a)
after rules s (Delay a k) = with_seats s (freed rules.store (rules.ops.took_delay k) s.seats a)
after rules s (CallElse c) = with_seats s (freed rules.store rules.ops.took_else s.seats c)
after rules s (Expire c) = with_left s (freed rules.store (rules.ops.took_delay 1) s.seats c) c
after rules s (Fail c) = with_left s (freed rules.store rules.ops.raised s.seats c) c
after rules s (Complete a) = with_seats s (stand rules.store s.seats a Completed)
after rules s (Abort t) = after_abort rules s t (aborted_by (offer_of_task rules s t))
after rules s End = record { seats = s.seats; line = s.line; ended = true }

-- the event of a call, made of its entry and index
abbrev pub call_event : (ℕ → ℤ → Event) → Offer → Option Event
call_event make Nothing = None
call_event make (Calls form e i) = Some (make e i)
call_event make (Waits choices) = None
call_event make Finishes = None
call_event make Ends = None
call_event make (Aborts x) = None

-- the event that t aborts x; none where no task is named (9.10)
abbrev pub abort_event : ℕ → Option ℕ → Option Event
abort_event t None = None
abort_event t (Some x) = Some (B t x)

-- The event of an action in a state, if it has one.
abbrev pub event_of : {L C : Type 0} → Rules L C → State C → Action → Option Event
event_of rules s (Local t) = None
event_of rules s (Arrive t) = None
event_of rules s (Start c) = call_event (λ e i. R c e i) (offer_of_task rules s c)
event_of rules s (Finish a) = Some (E a)
event_of rules s (Else a) = Some (S a)
event_of rules s (Delay a k) = Some (D a k)
event_of rules s (CallElse c) = call_event (λ e i. CallElseEvent c e i) (offer_of_task rules s c)
event_of rules s (Expire c) = call_event (λ e i. ExpireEvent c e i) (offer_of_task rules s c)
event_of rules s (Fail c) = call_event (λ e i. F c e i) (offer_of_task rules s c)
event_of rules s (Complete a) = Some (X a)
event_of rules s (Abort t) = abort_event t (aborted_by (offer_of_task rules s t))
event_of rules s End = Some Z
