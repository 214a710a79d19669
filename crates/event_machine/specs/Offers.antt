-- What a task offers: what it can do with others where it stands (9.5, 9.7, 9.10), and tests on offers.
use Rattle.std.specs.Prelude.{ℕ, ℤ, Bool, true, false, ◌&&◌, ◌==◌, List, Option, Some, None}
use Rattle.std.specs.List.{list_any}
use Rattle.std.specs.Ordering.{int_eq}
use Rattle.event_machine.specs.declared.CallForm.{CallForm}
use Rattle.event_machine.specs.declared.CallForm.TheVariants.{Plain, Conditional, Timed}
use Rattle.event_machine.specs.declared.Choice.{Choice}
use Rattle.event_machine.specs.declared.Choice.TheVariants.{Accept, Else, Delay, Terminate}

-- What a task offers.
pub data Offer : Type 0 where
  -- nothing: it has a local step left
  Nothing : Offer
  -- a call, in a form, of the member i of the entry e
  Calls : CallForm → ℕ → ℤ → Offer
  -- a wait with the choices that can be taken: the open accept alternatives in written order, the else part, the open delays of least
  -- duration (each once, the earlier written ones first), and an open terminate
  Waits : List Choice → Offer
  -- it stands at the end of its innermost accept body
  Finishes : Offer
  -- it stands at the end of its own body
  Ends : Offer
  -- it stands at an abort statement whose next name is x
  Aborts : ℕ → Offer

-- Two members are the same: one entry, one index.
abbrev pub same_member : ℕ → ℤ → ℕ → ℤ → Bool
same_member e i f j = (e == f) && int_eq i j

-- a call that waits in a queue, if need be: a plain or a timed one
abbrev pub queues_up : CallForm → Bool
queues_up Plain = true
queues_up Conditional = false
queues_up Timed = true

-- the call is a conditional entry call (9.7.2)
abbrev pub is_conditional : CallForm → Bool
is_conditional Plain = false
is_conditional Conditional = true
is_conditional Timed = false

-- the call is a timed entry call (9.7.3)
abbrev pub is_timed : CallForm → Bool
is_timed Plain = false
is_timed Conditional = false
is_timed Timed = true

-- any form of call
abbrev pub is_any_form : CallForm → Bool
is_any_form _ = true

-- The offer is a call of the member i of e, in a form that passes the test.
abbrev pub calls_in : (CallForm → Bool) → ℕ → ℤ → Offer → Bool
calls_in test e i Nothing = false
calls_in test e i (Calls form f j) = test form && same_member e i f j
calls_in test e i (Waits choices) = false
calls_in test e i Finishes = false
calls_in test e i Ends = false
calls_in test e i (Aborts x) = false

-- The offer is a wait with a choice that passes the test.
abbrev pub waits_with : (Choice → Bool) → Offer → Bool
waits_with test Nothing = false
waits_with test (Calls form e i) = false
waits_with test (Waits choices) = list_any test choices
waits_with test Finishes = false
waits_with test Ends = false
waits_with test (Aborts x) = false

-- the offer is that of a task at the end of its innermost accept body (9.5)
abbrev pub is_finish : Offer → Bool
is_finish Nothing = false
is_finish (Calls form e i) = false
is_finish (Waits choices) = false
is_finish Finishes = true
is_finish Ends = false
is_finish (Aborts x) = false

-- the offer is that of a task at the end of its own body (9.4)
abbrev pub is_end : Offer → Bool
is_end Nothing = false
is_end (Calls form e i) = false
is_end (Waits choices) = false
is_end Finishes = false
is_end Ends = true
is_end (Aborts x) = false

-- The task that the offer aborts, if it aborts one.
abbrev pub aborted_by : Offer → Option ℕ
aborted_by Nothing = None
aborted_by (Calls form e i) = None
aborted_by (Waits choices) = None
aborted_by Finishes = None
aborted_by Ends = None
aborted_by (Aborts x) = Some x

-- The choice accepts the member i of e.
abbrev pub opens : ℕ → ℤ → Choice → Bool
opens e i (Accept f j) = same_member e i f j
opens e i Else = false
opens e i (Delay k) = false
opens e i Terminate = false

-- the choice is the else part (9.7.1)
abbrev pub is_else : Choice → Bool
is_else (Accept e i) = false
is_else Else = true
is_else (Delay k) = false
is_else Terminate = false

-- the choice is the delay alternative with the number k (9.7.1)
abbrev pub is_delay : ℕ → Choice → Bool
is_delay k (Accept e i) = false
is_delay k Else = false
is_delay k (Delay l) = k == l
is_delay k Terminate = false

-- the choice is the terminate alternative (9.7.1)
abbrev pub is_terminate : Choice → Bool
is_terminate (Accept e i) = false
is_terminate Else = false
is_terminate (Delay k) = false
is_terminate Terminate = true
