-- The machine without queues: no task waits or is queued, and what happens is one local step, or one event whose conditions hold of the tasks
-- where they stand. Its effects are those of the table of actions.
use Rattle.std.specs.Prelude.{◌≡◌, ℕ, Bool, true, false, not, ◌&&◌, ◌||◌, ◌==◌, if◌then◌else◌, nat_le, suc, pred, zero, List, [], ◌∷◌}
use Rattle.event_machine.specs.declared.Standing.{Standing}
use Rattle.event_machine.specs.declared.Standing.TheVariants.{Live, Waiting, Queued, Served, Completed, Killed}
use Rattle.event_machine.specs.declared.Event.{Event}
use Rattle.event_machine.specs.declared.Event.TheVariants.{R, E, S, D, C, T, F, X, B, Z}
use Rattle.event_machine.specs.Offers.{Offer, Nothing, Calls, Waits, Finishes, Ends, Aborts, calls_in, is_any_form, is_conditional, is_timed, waits_with, is_finish, is_end, opens, is_else, is_delay, is_terminate}
use Rattle.event_machine.specs.States.{Ops, Seat, State, Rules, is_live, is_completed, is_closed, is_served_by}
use Rattle.event_machine.specs.Applying.{is_first}
use Rattle.event_machine.specs.Effects.{freed, stand, met_at, parted_both, abort_seats}
use Rattle.event_machine.specs.Programs.{Program, numbered}

-- A world: the tasks, of which the free ones are live, and whether the program has ended.
pub record World (L : Type 0) : Type 0 where
  pub tasks : ℕ → Seat L
  pub ended : Bool

-- How a task stands where it neither waits nor is queued, but is live.
abbrev pub still : Standing → Standing
still Live = Live
still Waiting = Live
still Queued = Live
still (Served by abnormal) = Served by abnormal
still Completed = Completed
still Killed = Killed

abbrev pub still_seat : {L : Type 0} → Seat L → Seat L
still_seat seat = record { local = seat.local; standing = still seat.standing }

-- The world of a state: its queues and waits are forgotten.
abbrev pub world_of : {L : Type 0} → State (ℕ → Seat L) → World L
world_of s = record { tasks = λ t. still_seat (s.seats t); ended = s.ended }

-- The state of a world: each free task is live, and nobody is queued.
abbrev pub state_of : {L : Type 0} → World L → State (ℕ → Seat L)
state_of w = record { seats = w.tasks; line = []; ended = w.ended }

-- No task of the world waits or is queued.
abbrev pub IsStill : {L : Type 0} → World L → Type 0
IsStill w = (t : ℕ) → still (w.tasks t).standing ≡ (w.tasks t).standing

-- the offer is an abort of x
abbrev pub aborts : ℕ → Offer → Bool
aborts x Nothing = false
aborts x (Calls form e i) = false
aborts x (Waits choices) = false
aborts x Finishes = false
aborts x Ends = false
aborts x (Aborts y) = x == y

-- The task is free, and its offer passes the test.
abbrev pub offers : {L : Type 0} → Ops L → (Offer → Bool) → Seat L → Bool
offers ops test seat = is_live seat.standing && test (ops.offer seat.local)

-- each task from 1 up and below 1 + n has completed, or offers to terminate
abbrev pub others_end : {L : Type 0} → Ops L → (ℕ → Seat L) → ℕ → Bool
others_end ops tasks zero = true
others_end ops tasks (suc n) = others_end ops tasks n && (is_completed (tasks (suc n)).standing || offers ops (waits_with is_terminate) (tasks (suc n)))

-- The conditions of an event (the main program, task 0, ends by Z alone).
abbrev pub happens : {L : Type 0} → Program L → (ℕ → Seat L) → Event → Bool
happens p tasks (R c e i) = offers p.ops (calls_in is_any_form e i) (tasks c) && offers p.ops (waits_with (opens e i)) (tasks (p.owner e))
happens p tasks (E a) = offers p.ops is_finish (tasks a)
happens p tasks (S a) = offers p.ops (waits_with is_else) (tasks a)
happens p tasks (D a k) = offers p.ops (waits_with (is_delay k)) (tasks a)
happens p tasks (C c e i) = offers p.ops (calls_in is_conditional e i) (tasks c) && not (is_closed (tasks (p.owner e)).standing)
happens p tasks (T c e i) = offers p.ops (calls_in is_timed e i) (tasks c) && not (is_closed (tasks (p.owner e)).standing)
happens p tasks (F c e i) = offers p.ops (calls_in is_any_form e i) (tasks c) && is_closed (tasks (p.owner e)).standing
happens p tasks (X a) = not (a == 0) && offers p.ops is_end (tasks a)
happens p tasks (B t x) = offers p.ops (aborts x) (tasks t)
happens p tasks Z = offers p.ops is_end (tasks 0) && others_end p.ops tasks (pred p.size)

-- What an event does to the tasks.
abbrev pub acted : {L C : Type 0} → Rules L C → C → Event → C
acted rules seats (R c e i) = met_at rules seats c e i
acted rules seats (E a) = parted_both rules seats a
acted rules seats (S a) = freed rules.store rules.ops.took_else seats a
acted rules seats (D a k) = freed rules.store (rules.ops.took_delay k) seats a
acted rules seats (C c e i) = freed rules.store rules.ops.took_else seats c
acted rules seats (T c e i) = freed rules.store (rules.ops.took_delay 1) seats c
acted rules seats (F c e i) = freed rules.store rules.ops.raised seats c
acted rules seats (X a) = stand rules.store seats a Completed
acted rules seats (B t x) = abort_seats rules seats t x
acted rules seats Z = seats

-- The tasks whose being at rest an event needs, where they are free.
abbrev pub needs : {L : Type 0} → Program L → Event → ℕ → Bool
needs p (R c e i) t = (t == c) || (t == p.owner e)
needs p (E a) t = t == a
needs p (S a) t = t == a
needs p (D a k) t = t == a
needs p (C c e i) t = t == c
needs p (T c e i) t = t == c
needs p (F c e i) t = t == c
needs p (X a) t = t == a
needs p (B u x) t = t == u
needs p Z t = nat_le t (pred p.size)

-- The tasks that an event changes: its parties, the caller whose rendezvous ends, and, where it closes a task, that task and its callers.
abbrev pub changes : {L : Type 0} → Ops L → (ℕ → ℕ) → (ℕ → Seat L) → Event → ℕ → Bool
changes ops owner tasks (R c e i) t = (t == c) || (t == owner e)
changes ops owner tasks (E a) t = (t == a) || is_first t (ops.callers (tasks a).local)
changes ops owner tasks (S a) t = t == a
changes ops owner tasks (D a k) t = t == a
changes ops owner tasks (C c e i) t = t == c
changes ops owner tasks (T c e i) t = t == c
changes ops owner tasks (F c e i) t = t == c
changes ops owner tasks (X a) t = t == a
changes ops owner tasks (B u x) t = (t == u) || (not (is_closed (tasks x).standing) && ((t == x) || is_served_by x (tasks t).standing))
changes ops owner tasks Z t = false

-- the event is the end of the program
abbrev pub is_last : Event → Bool
is_last (R c e i) = false
is_last (E a) = false
is_last (S a) = false
is_last (D a k) = false
is_last (C c e i) = false
is_last (T c e i) = false
is_last (F c e i) = false
is_last (X a) = false
is_last (B t x) = false
is_last Z = true

-- A move: one local step of a task, or one event.
pub data Move : Type 0 where
  Step : ℕ → Move
  Happen : Event → Move

-- The move can be made.
abbrev pub can_move : {L : Type 0} → Program L → World L → Move → Bool
can_move p w (Step t) = not w.ended && (is_live (w.tasks t).standing && p.ops.can_step (w.tasks t).local)
can_move p w (Happen e) = not w.ended && happens p w.tasks e

-- The world after the move.
abbrev pub moved : {L : Type 0} → Program L → World L → Move → World L
moved p w (Step t) = record { tasks = freed (numbered p).store p.ops.stepped w.tasks t; ended = w.ended }
moved p w (Happen e) = record { tasks = acted (numbered p) w.tasks e; ended = is_last e || w.ended }

-- All moves can be made, one after the other.
abbrev pub AreMoves : {L : Type 0} → Program L → World L → List Move → Type 0
AreMoves p w [] = Unit {0}
AreMoves p w (move ∷ moves) = (can_move p w move ≡ true) × AreMoves p (moved p w move) moves

-- the world after the moves
abbrev pub world_after : {L : Type 0} → Program L → World L → List Move → World L
world_after p w [] = w
world_after p w (move ∷ moves) = world_after p (moved p w move) moves

-- the events among the moves, in order
abbrev pub happened : List Move → List Event
happened [] = []
happened (Step t ∷ moves) = happened moves
happened (Happen e ∷ moves) = e ∷ happened moves

-- The count of local steps of each task since the last event that changed it, after one more move.
abbrev pub recount : {L : Type 0} → Program L → World L → Move → (ℕ → ℕ) → ℕ → ℕ
recount p w (Step t) count u = if u == t then suc (count u) else count u
recount p w (Happen e) count u = if changes p.ops p.owner w.tasks e u then 0 else count u

-- the counts after the moves
abbrev pub counts_after : {L : Type 0} → Program L → World L → List Move → (ℕ → ℕ) → ℕ → ℕ
counts_after p w [] count = count
counts_after p w (move ∷ moves) count = counts_after p (moved p w move) moves (recount p w move count)
