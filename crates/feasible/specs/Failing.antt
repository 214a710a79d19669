-- The conditions of an event as the code asks them, task by task: the first that fails.
use Rattle.std.specs.Prelude.{ℕ, Bool, pred, length, Option, Some, None, if◌then◌else◌}
use Rattle.event_machine.specs.declared.Event.{Event}
use Rattle.event_machine.specs.declared.Event.TheVariants.{R, E, S, D, C, T, F, X, B, Z}
use Rattle.event_machine.specs.Offers.{Offer, calls_in, is_any_form, is_conditional, is_timed, waits_with, opens, is_else, is_delay, is_finish, is_end}
use Rattle.event_machine.specs.Worlds.{aborts}
use Rattle.syn_event.specs.Numbering.{Numbering, owner_of}
use Rattle.task_model.specs.Machine.{Tasks}
use Rattle.task_machine.specs.Conditions.{failing_in, others_may_end, is_end_of}
use Rattle.task_machine.specs.declared.verdict.Cause.{Cause}
use Rattle.task_machine.specs.declared.verdict.Cause.TheVariants as cause
use Rattle.task_machine.specs.declared.verdict.Why.{Why}
use Rattle.task_machine.specs.Table.{seat_of, offer_in_seat}
use Rattle.task_machine.specs.Views.{View, Completed, Abnormal, Busy, At, view_of}

-- what is seen of each task of a list
abbrev pub view_at : Tasks → ℕ → View
view_at tasks t = view_of (seat_of tasks t)

abbrev pub why : Cause → ℕ → Option Why
why cause t = Some (record { cause = cause; task = t })

-- the first, or the second where there is no first
abbrev pub first_of : Option Why → Option Why → Option Why
first_of (Some w) other = Some w
first_of None other = other

-- why a task does not act that is seen so, and whose offer passes its test or not
abbrev pub act_fails : View → ℕ → Bool → Option Why
act_fails Completed t passes = why cause.Closed t
act_fails Abnormal t passes = why cause.Closed t
act_fails Busy t passes = why cause.Busy t
act_fails (At offer) t passes = if passes then None else why cause.Offer t

-- it had not to be closed, or had to be
abbrev pub closed_fails : View → ℕ → Option Why
closed_fails Completed t = why cause.Closed t
closed_fails Abnormal t = why cause.Closed t
closed_fails Busy t = None
closed_fails (At offer) t = None

abbrev pub open_fails : View → ℕ → Option Why
open_fails Completed t = None
open_fails Abnormal t = None
open_fails Busy t = why cause.NotClosed t
open_fails (At offer) t = why cause.NotClosed t

-- why the main program is not at its end
abbrev pub main_fails : View → Bool → Option Why
main_fails Completed ends = why cause.Offer 0
main_fails Abnormal ends = why cause.Busy 0
main_fails Busy ends = why cause.Busy 0
main_fails (At offer) ends = if ends then None else why cause.Offer 0

-- why another task can't end with it
abbrev pub other_fails : View → ℕ → Bool → Option Why
other_fails Completed t terminates = None
other_fails Abnormal t terminates = why cause.Busy t
other_fails Busy t terminates = why cause.Busy t
other_fails (At offer) t terminates = if terminates then None else why cause.Offer t

-- ---- the conditions of each event, task by task

abbrev pub act_asked : Tasks → ℕ → (Offer → Bool) → Option Why
act_asked tasks t test = act_fails (view_at tasks t) t (test (offer_in_seat (seat_of tasks t)))

abbrev pub end_asked : Tasks → Option Why
end_asked tasks = first_of (main_fails (view_at tasks 0) (is_end (offer_in_seat (seat_of tasks 0)))) (failing_in (view_at tasks) (others_may_end (pred (length tasks))))

abbrev pub asked : Numbering → Tasks → Event → Option Why
asked numbers tasks (R c e i) = first_of (act_asked tasks c (calls_in is_any_form e i)) (act_asked tasks (owner_of numbers e) (waits_with (opens e i)))
asked numbers tasks (E a) = act_asked tasks a is_finish
asked numbers tasks (S a) = act_asked tasks a (waits_with is_else)
asked numbers tasks (D a k) = act_asked tasks a (waits_with (is_delay k))
asked numbers tasks (C c e i) = first_of (act_asked tasks c (calls_in is_conditional e i)) (closed_fails (view_at tasks (owner_of numbers e)) (owner_of numbers e))
asked numbers tasks (T c e i) = first_of (act_asked tasks c (calls_in is_timed e i)) (closed_fails (view_at tasks (owner_of numbers e)) (owner_of numbers e))
asked numbers tasks (F c e i) = first_of (act_asked tasks c (calls_in is_any_form e i)) (open_fails (view_at tasks (owner_of numbers e)) (owner_of numbers e))
asked numbers tasks (X a) = act_asked tasks a (is_end_of a)
asked numbers tasks (B t x) = act_asked tasks t (aborts x)
asked numbers tasks Z = end_asked tasks
