-- When each action applies: the conditions of the table of actions, one clause for each (9.5, 9.7, 9.10, 9.4; that a conditional call may meet
-- a selective wait with an else part, and what abort does, are this project's rules).
use Rattle.std.specs.Prelude.{ℕ, ℤ, Bool, true, false, not, ◌&&◌, ◌||◌, ◌==◌, suc, pred, zero, List, [], ◌∷◌, ◌++◌, filter, Option, Some, None, is_some}
use Rattle.std.specs.List.{filter_map}
use Rattle.event_machine.specs.declared.CallForm.{CallForm}
use Rattle.event_machine.specs.declared.Choice.{Choice}
use Rattle.event_machine.specs.declared.Choice.TheVariants.{Accept, Else as ElseChoice, Delay as DelayChoice, Terminate}
use Rattle.event_machine.specs.declared.Action.{Action}
use Rattle.event_machine.specs.declared.Action.TheVariants.{Local, Arrive, Start, Finish, Else, Delay, CallElse, Expire, Fail, Complete, Abort, End}
use Rattle.event_machine.specs.Offers.{Offer, Nothing, Calls, Waits, Finishes, Ends, Aborts, calls_in, is_any_form, queues_up, is_conditional, is_timed, waits_with, is_finish, is_end, aborted_by, opens, is_else, is_delay, is_terminate}
use Rattle.event_machine.specs.States.{Ops, Seat, State, Rules, Seen, seen, is_live, is_waiting, is_queued, is_completed, is_closed}

-- what the task with this number offers
abbrev pub offer_at : {L : Type 0} → Ops L → Seen L → ℕ → Offer
offer_at ops s t = ops.offer (s.tasks t).local

-- c stands in the queue of the member i of e
abbrev pub queues_at : {L : Type 0} → Ops L → Seen L → ℕ → ℤ → ℕ → Bool
queues_at ops s e i c = is_queued (s.tasks c).standing && calls_in is_any_form e i (offer_at ops s c)

-- The queue of a member: its callers, in order of arrival.
abbrev pub queue_of : {L : Type 0} → Ops L → Seen L → ℕ → ℤ → List ℕ
queue_of ops s e i = filter (queues_at ops s e i) s.line

-- c is the first of the queue
abbrev pub is_first : ℕ → List ℕ → Bool
is_first c [] = false
is_first c (x ∷ xs) = x == c

-- no caller stands in the queue (9.5)
abbrev pub is_empty : List ℕ → Bool
is_empty [] = true
is_empty (x ∷ xs) = false

-- t can begin to wait, or to queue at an entry whose owner is not closed
abbrev pub arrives : {L : Type 0} → (ℕ → ℕ) → Seen L → Offer → Bool
arrives owner s Nothing = false
arrives owner s (Calls form e i) = queues_up form && not (is_closed (s.tasks (owner e)).standing)
arrives owner s (Waits choices) = true
arrives owner s Finishes = false
arrives owner s Ends = false
arrives owner s (Aborts x) = false

-- The owner waits with an open accept of the member, and c is the first in its queue, or is live at a conditional call and that queue is empty.
abbrev pub starts_at : {L : Type 0} → Ops L → (ℕ → ℕ) → Seen L → ℕ → CallForm → ℕ → ℤ → Bool
starts_at ops owner s c form e i =
    (is_waiting (s.tasks (owner e)).standing && waits_with (opens e i) (offer_at ops s (owner e)))
    && (is_first c (queue_of ops s e i) || ((is_live (s.tasks c).standing && is_conditional form) && is_empty (queue_of ops s e i)))

-- the rendezvous of c, which offers this, can start
abbrev pub starts : {L : Type 0} → Ops L → (ℕ → ℕ) → Seen L → ℕ → Offer → Bool
starts ops owner s c Nothing = false
starts ops owner s c (Calls form e i) = starts_at ops owner s c form e i
starts ops owner s c (Waits choices) = false
starts ops owner s c Finishes = false
starts ops owner s c Ends = false
starts ops owner s c (Aborts x) = false

-- a caller is queued at the member that the choice opens
abbrev pub has_caller : {L : Type 0} → Ops L → Seen L → Choice → Bool
has_caller ops s (Accept e i) = not (is_empty (queue_of ops s e i))
has_caller ops s ElseChoice = false
has_caller ops s (DelayChoice k) = false
has_caller ops s Terminate = false

-- No open accept alternative of the wait has a queued caller.
abbrev pub has_no_caller : {L : Type 0} → Ops L → Seen L → Offer → Bool
has_no_caller ops s offer = not (waits_with (has_caller ops s) offer)

-- the call is in a form that passes the test, and its owner's being closed passes the other
abbrev pub calls_owner : {L : Type 0} → (CallForm → Bool) → (Bool → Bool) → (ℕ → ℕ) → Seen L → Offer → Bool
calls_owner form_test closed_test owner s Nothing = false
calls_owner form_test closed_test owner s (Calls form e i) = form_test form && closed_test (is_closed (s.tasks (owner e)).standing)
calls_owner form_test closed_test owner s (Waits choices) = false
calls_owner form_test closed_test owner s Finishes = false
calls_owner form_test closed_test owner s Ends = false
calls_owner form_test closed_test owner s (Aborts x) = false

-- the test that the truth value is true, where `not` is the test that it is false
abbrev pub same : Bool → Bool
same b = b

-- the task has completed, or waits with an open terminate alternative
abbrev pub can_end : {L : Type 0} → Ops L → Seat L → Bool
can_end ops seat = is_completed seat.standing || (is_waiting seat.standing && waits_with is_terminate (ops.offer seat.local))

-- each task from 1 up and below 1 + n has completed, or waits with an open terminate alternative
abbrev pub others_can_end : {L : Type 0} → Ops L → Seen L → ℕ → Bool
others_can_end ops s zero = true
others_can_end ops s (suc n) = others_can_end ops s n && can_end ops (s.tasks (suc n))

-- The action applies, where the program has not ended.
abbrev pub action_applies : {L : Type 0} → Ops L → (ℕ → ℕ) → Seen L → Action → Bool
action_applies ops owner s (Local t) = is_live (s.tasks t).standing && ops.can_step (s.tasks t).local
action_applies ops owner s (Arrive t) = is_live (s.tasks t).standing && arrives owner s (offer_at ops s t)
action_applies ops owner s (Start c) = starts ops owner s c (offer_at ops s c)
action_applies ops owner s (Finish a) = is_live (s.tasks a).standing && is_finish (offer_at ops s a)
action_applies ops owner s (Else a) = is_waiting (s.tasks a).standing && (waits_with is_else (offer_at ops s a) && has_no_caller ops s (offer_at ops s a))
action_applies ops owner s (Delay a k) = is_waiting (s.tasks a).standing && (waits_with (is_delay k) (offer_at ops s a) && has_no_caller ops s (offer_at ops s a))
action_applies ops owner s (CallElse c) = is_live (s.tasks c).standing && (calls_owner is_conditional not owner s (offer_at ops s c) && not (starts ops owner s c (offer_at ops s c)))
action_applies ops owner s (Expire c) = is_queued (s.tasks c).standing && calls_owner is_timed not owner s (offer_at ops s c)
action_applies ops owner s (Fail c) = (is_live (s.tasks c).standing || is_queued (s.tasks c).standing) && calls_owner is_any_form same owner s (offer_at ops s c)
action_applies ops owner s (Complete a) = not (a == 0) && (is_live (s.tasks a).standing && is_end (offer_at ops s a))
action_applies ops owner s (Abort t) = is_live (s.tasks t).standing && is_some (aborted_by (offer_at ops s t))
action_applies ops owner s End = is_live (s.tasks 0).standing && (is_end (offer_at ops s 0) && others_can_end ops s (pred s.size))

-- The action applies.
abbrev pub can : {L C : Type 0} → Rules L C → State C → Action → Bool
can rules s action = not s.ended && action_applies rules.ops rules.owner (seen rules s) action

-- the action that takes the delay of the choice
abbrev pub delay_action : ℕ → Choice → Option Action
delay_action a (Accept e i) = None
delay_action a ElseChoice = None
delay_action a (DelayChoice k) = Some (Delay a k)
delay_action a Terminate = None

-- the actions that take a delay of the wait, in its order
abbrev pub delay_actions : ℕ → Offer → List Action
delay_actions a Nothing = []
delay_actions a (Calls form e i) = []
delay_actions a (Waits choices) = filter_map (delay_action a) choices
delay_actions a Finishes = []
delay_actions a Ends = []
delay_actions a (Aborts x) = []

-- The actions of one task, in the order in which they are listed.
abbrev pub actions_of : {L : Type 0} → Ops L → Seen L → ℕ → List Action
actions_of ops s t =
    (Local t ∷ Arrive t ∷ Start t ∷ Finish t ∷ Else t ∷ []) ++
    (delay_actions t (offer_at ops s t) ++ (CallElse t ∷ Expire t ∷ Fail t ∷ Complete t ∷ Abort t ∷ []))

-- The actions of the tasks below n, in ascending order of their tasks.
abbrev pub actions_below : {L : Type 0} → Ops L → Seen L → ℕ → List Action
actions_below ops s zero = []
actions_below ops s (suc n) = actions_below ops s n ++ actions_of ops s n

-- The enabled list: all actions that apply, by ascending tasks, the end of the program last.
abbrev pub enabled_of : {L C : Type 0} → Rules L C → State C → List Action
enabled_of rules s =
    filter (can rules s) (actions_below rules.ops (seen rules s) (rules.store.size s.seats) ++ End ∷ [])
