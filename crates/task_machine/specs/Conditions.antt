-- What each event asks of the tasks, as one table: its conditions in their order, each with the task that it asks of and the cause where it fails
-- (9.4, 9.5, 9.7, 9.10; the order is this project's rule).
use Rattle.std.specs.Prelude.{ℕ, Bool, true, false, not, ◌&&◌, ◌||◌, ◌==◌, zero, suc, pred, List, [], ◌∷◌, ◌++◌, length, find, Option, option_map}
use Rattle.std.specs.List.{list_all}
use Rattle.event_machine.specs.declared.Event.{Event}
use Rattle.event_machine.specs.declared.Event.TheVariants.{R, E, S, D, C, T, F, X, B, Z}
use Rattle.event_machine.specs.Offers.{Offer, calls_in, is_any_form, is_conditional, is_timed, waits_with, opens, is_else, is_delay, is_terminate, is_finish, is_end}
use Rattle.event_machine.specs.Worlds.{aborts}
use Rattle.syn_event.specs.Numbering.{Numbering, owner_of}
use Rattle.task_machine.specs.declared.verdict.Cause.{Cause}
use Rattle.task_machine.specs.declared.verdict.Cause.TheVariants as cause
use Rattle.task_machine.specs.declared.verdict.Why.{Why}
use Rattle.task_machine.specs.Views.{View, Completed, Abnormal, Busy, At}

-- ---- what can be asked of a view

-- completed or abnormal
abbrev pub is_closed_view : View → Bool
is_closed_view Completed = true
is_closed_view Abnormal = true
is_closed_view Busy = false
is_closed_view (At offer) = false

-- in a rendezvous, abnormal or not
abbrev pub is_served_view : View → Bool
is_served_view Completed = false
is_served_view Abnormal = true
is_served_view Busy = true
is_served_view (At offer) = false

-- it has completed (9.4)
abbrev pub is_completed_view : View → Bool
is_completed_view Completed = true
is_completed_view Abnormal = false
is_completed_view Busy = false
is_completed_view (At offer) = false

-- it is at an offer that passes the test
abbrev pub is_at : (Offer → Bool) → View → Bool
is_at test Completed = false
is_at test Abnormal = false
is_at test Busy = false
is_at test (At offer) = test offer

-- ---- conditions

-- A condition: what is asked, of which task, and what it means that it fails.
pub record Condition : Type 0 where
  pub task : ℕ
  pub test : View → Bool
  pub cause : Cause

-- t is neither completed nor abnormal; where it is, the cause is that it is closed (9.4, 9.10)
abbrev pub not_closed : ℕ → Condition
not_closed t = record { task = t; test = λ v. not (is_closed_view v); cause = cause.Closed }

-- t is no caller in a rendezvous; where it is one, the cause is that it is busy (9.5)
abbrev pub not_served : ℕ → Condition
not_served t = record { task = t; test = λ v. not (is_served_view v); cause = cause.Busy }

-- t is closed; where it is not, the cause is that it is open (9.5, 9.10)
abbrev pub closed : ℕ → Condition
closed t = record { task = t; test = is_closed_view; cause = cause.NotClosed }

-- t makes an offer that passes the test; where it does not, the cause is the offer
abbrev pub at_offer : ℕ → (Offer → Bool) → Condition
at_offer t test = record { task = t; test = is_at test; cause = cause.Offer }

-- it has completed, or offers to terminate
abbrev pub may_end : ℕ → Condition
may_end t = record { task = t; test = λ v. is_completed_view v || is_at (waits_with is_terminate) v; cause = cause.Offer }

-- The task acts: it is neither closed nor served, and makes an offer that passes the test.
abbrev pub acts : ℕ → (Offer → Bool) → List Condition
acts t test = not_closed t ∷ not_served t ∷ at_offer t test ∷ []

-- each task from 1 up to n can end
abbrev pub others_may_end : ℕ → List Condition
others_may_end zero = []
others_may_end (suc n) = others_may_end n ++ not_served (suc n) ∷ may_end (suc n) ∷ []

-- the end of the body of the task a, which is not the main program: this ends with the whole program alone
abbrev pub is_end_of : ℕ → Offer → Bool
is_end_of a offer = not (a == 0) && is_end offer

-- The table: the conditions of each event.
abbrev pub conditions_of : Numbering → Event → List Condition
conditions_of numbers (R c e i) = acts c (calls_in is_any_form e i) ++ acts (owner_of numbers e) (waits_with (opens e i))
conditions_of numbers (E a) = acts a is_finish
conditions_of numbers (S a) = acts a (waits_with is_else)
conditions_of numbers (D a k) = acts a (waits_with (is_delay k))
conditions_of numbers (C c e i) = acts c (calls_in is_conditional e i) ++ not_closed (owner_of numbers e) ∷ []
conditions_of numbers (T c e i) = acts c (calls_in is_timed e i) ++ not_closed (owner_of numbers e) ∷ []
conditions_of numbers (F c e i) = acts c (calls_in is_any_form e i) ++ closed (owner_of numbers e) ∷ []
conditions_of numbers (X a) = acts a (is_end_of a)
conditions_of numbers (B t x) = acts t (aborts x)
conditions_of numbers Z = not_served 0 ∷ at_offer 0 is_end ∷ others_may_end (pred (length numbers.tasks))

-- ---- needed tasks

-- the tasks from 0 up to n
abbrev pub tasks_to : ℕ → List ℕ
tasks_to zero = 0 ∷ []
tasks_to (suc n) = tasks_to n ++ suc n ∷ []

-- The tasks that an event needs at rest, in order.
abbrev pub needed_of : Numbering → Event → List ℕ
needed_of numbers (R c e i) = c ∷ owner_of numbers e ∷ []
needed_of numbers (E a) = a ∷ []
needed_of numbers (S a) = a ∷ []
needed_of numbers (D a k) = a ∷ []
needed_of numbers (C c e i) = c ∷ []
needed_of numbers (T c e i) = c ∷ []
needed_of numbers (F c e i) = c ∷ []
needed_of numbers (X a) = a ∷ []
needed_of numbers (B t x) = t ∷ []
needed_of numbers Z = tasks_to (pred (length numbers.tasks))

-- ---- the table asked of tasks

-- The condition holds where the tasks are seen so.
abbrev pub holds : (ℕ → View) → Condition → Bool
holds views condition = condition.test (views condition.task)

-- All conditions of the event hold.
abbrev pub all_hold : Numbering → (ℕ → View) → Event → Bool
all_hold numbers views e = list_all (holds views) (conditions_of numbers e)

-- what is told of a condition that fails: its cause and its task
abbrev pub why_of : Condition → Why
why_of condition = record { cause = condition.cause; task = condition.task }

-- The first condition that fails.
abbrev pub failing_in : (ℕ → View) → List Condition → Option Why
failing_in views conditions = option_map why_of (find (λ condition. not (holds views condition)) conditions)

-- The first condition of the event that fails, if one does.
abbrev pub first_failing : Numbering → (ℕ → View) → Event → Option Why
first_failing numbers views e = failing_in views (conditions_of numbers e)
