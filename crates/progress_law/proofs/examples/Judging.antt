-- A judge by computation (this project's rule): each event in turn settles the tasks that it needs, by at most so many local steps since the last
-- event that changed them, and then its conditions are asked of them in order. It is a plain reading of the rules, for the examples.
use Rattle.std.specs.Prelude.{ℕ, ◌-◌, zero, suc, pred, ◌==◌, Bool, true, false, not, ◌||◌, if◌then◌else◌, List, [], ◌∷◌, ◌++◌, length, map, find, slice_index_or, slice_set, Option, Some, None}
use Rattle.event_machine.specs.declared.Standing.{Standing}
use Rattle.event_machine.specs.declared.Standing.TheVariants as standing
use Rattle.event_machine.specs.declared.Event.{Event}
use Rattle.event_machine.specs.declared.Event.TheVariants.{R, E, S, D, C, T, F, X, B, Z}
use Rattle.event_machine.specs.Offers.{Offer, calls_in, is_any_form, is_conditional, is_timed, waits_with, opens, is_else, is_delay, is_terminate, is_finish, is_end}
use Rattle.event_machine.specs.Worlds.{aborts, acted, changes}
use Rattle.event_machine.specs.States.{Seat, completed, live}
use Rattle.syn_event.specs.Numbering.{Numbering, owner_of}
use Rattle.task_model.specs.Tasks.{Task}
use Rattle.task_model.specs.Stands.{can_step, stepped, offer_of}
use Rattle.task_model.specs.Starting.{nobody}
use Rattle.task_model.specs.TaskOps.{task_ops}
use Rattle.task_model.specs.Machine.{ProgramWithInputs, Tasks, rules_of, opening_of}

-- ---- what is seen of a task

-- A task is closed, an abnormal caller in its rendezvous, another caller in a rendezvous, or at an offer.
pub data Sight : Type 0 where
  SeenClosed : Sight
  SeenAbnormal : Sight
  SeenBusy : Sight
  SeenAt : Offer → Sight

abbrev pub sight_in : Standing → Offer → Sight
sight_in standing.Live offer = SeenAt offer
sight_in standing.Waiting offer = SeenAt offer
sight_in standing.Queued offer = SeenAt offer
sight_in (standing.Served by true) offer = SeenAbnormal
sight_in (standing.Served by false) offer = SeenBusy
sight_in standing.Completed offer = SeenClosed
sight_in standing.Killed offer = SeenClosed

-- What the judge keeps: the tasks, and how many local steps each has made since the last event that changed it.
pub record Kept : Type 0 where
  pub seats : Tasks
  pub counts : List ℕ

abbrev pub seat_in : Kept → ℕ → Seat Task
seat_in k t = slice_index_or k.seats t (completed nobody)

abbrev pub sight_of : Kept → ℕ → Sight
sight_of k t = sight_in (seat_in k t).standing (offer_of (seat_in k t).local)

abbrev pub is_closed_sight : Sight → Bool
is_closed_sight SeenClosed = true
is_closed_sight SeenAbnormal = true
is_closed_sight SeenBusy = false
is_closed_sight (SeenAt offer) = false

abbrev pub is_served_sight : Sight → Bool
is_served_sight SeenClosed = false
is_served_sight SeenAbnormal = true
is_served_sight SeenBusy = true
is_served_sight (SeenAt offer) = false

abbrev pub is_completed_sight : Sight → Bool
is_completed_sight SeenClosed = true
is_completed_sight _ = false

abbrev pub is_at : (Offer → Bool) → Sight → Bool
is_at test (SeenAt offer) = test offer
is_at test _ = false

-- ---- settling

-- a task after some local steps, with its count
pub record Rested : Type 0 where
  pub task : Task
  pub count : ℕ

-- The task after at most n local steps more.
abbrev pub run_more : ℕ → Task → ℕ → Rested
run_more zero t c = record { task = t; count = c }
run_more (suc n) t c = elim (can_step t) [ true ↦ run_more n (stepped t) (suc c) | false ↦ record { task = t; count = c } ]

abbrev pub with_rested : Kept → ℕ → Rested → Kept
with_rested k t r = record { seats = slice_set k.seats t (live r.task); counts = slice_set k.counts t r.count }

-- a free task is settled
abbrev pub settle_if : ℕ → Kept → ℕ → Standing → Kept
settle_if bound k t standing.Live = with_rested k t (run_more (bound - slice_index_or k.counts t 0) (seat_in k t).local (slice_index_or k.counts t 0))
settle_if bound k t _ = k

abbrev pub settle_all : ℕ → Kept → List ℕ → Kept
settle_all bound k [] = k
settle_all bound k (t ∷ ts) = settle_all bound (settle_if bound k t (seat_in k t).standing) ts

-- a free task that has a local step still
abbrev pub is_open_in : Standing → Task → Bool
is_open_in standing.Live t = can_step t
is_open_in _ t = false

abbrev pub first_open : Kept → List ℕ → Option ℕ
first_open k ts = find (λ t. is_open_in (seat_in k t).standing (seat_in k t).local) ts

-- ---- conditions

-- Why a condition fails: the task is closed, is in a rendezvous, is not closed, or makes another offer.
pub data Cause : Type 0 where
  cause_closed : Cause
  cause_busy : Cause
  cause_open : Cause
  cause_offer : Cause

pub record Condition : Type 0 where
  pub task : ℕ
  pub test : Sight → Bool
  pub cause : Cause

abbrev pub not_closed : ℕ → Condition
not_closed t = record { task = t; test = λ v. not (is_closed_sight v); cause = cause_closed }

abbrev pub not_served : ℕ → Condition
not_served t = record { task = t; test = λ v. not (is_served_sight v); cause = cause_busy }

abbrev pub closed : ℕ → Condition
closed t = record { task = t; test = is_closed_sight; cause = cause_open }

abbrev pub at_offer : ℕ → (Offer → Bool) → Condition
at_offer t test = record { task = t; test = is_at test; cause = cause_offer }

-- it has completed, or offers to terminate
abbrev pub may_end : ℕ → Condition
may_end t = record { task = t; test = λ v. is_completed_sight v || is_at (waits_with is_terminate) v; cause = cause_offer }

-- it is neither closed nor served, and makes an offer that passes the test
abbrev pub acts : ℕ → (Offer → Bool) → List Condition
acts t test = not_closed t ∷ not_served t ∷ at_offer t test ∷ []

abbrev pub others_may_end : ℕ → List Condition
others_may_end zero = []
others_may_end (suc n) = others_may_end n ++ not_served (suc n) ∷ may_end (suc n) ∷ []

-- The conditions of each event, in order.
abbrev pub conditions_of : Numbering → Event → List Condition
conditions_of numbers (R c e i) = acts c (calls_in is_any_form e i) ++ acts (owner_of numbers e) (waits_with (opens e i))
conditions_of numbers (E a) = acts a is_finish
conditions_of numbers (S a) = acts a (waits_with is_else)
conditions_of numbers (D a k) = acts a (waits_with (is_delay k))
conditions_of numbers (C c e i) = acts c (calls_in is_conditional e i) ++ not_closed (owner_of numbers e) ∷ []
conditions_of numbers (T c e i) = acts c (calls_in is_timed e i) ++ not_closed (owner_of numbers e) ∷ []
conditions_of numbers (F c e i) = acts c (calls_in is_any_form e i) ++ closed (owner_of numbers e) ∷ []
conditions_of numbers (X a) = acts a is_end
conditions_of numbers (B t x) = acts t (aborts x)
conditions_of numbers Z = not_served 0 ∷ at_offer 0 is_end ∷ others_may_end (pred (length numbers.tasks))

-- the tasks from 0 up to n
abbrev pub tasks_to : ℕ → List ℕ
tasks_to zero = 0 ∷ []
tasks_to (suc n) = tasks_to n ++ suc n ∷ []

-- The tasks that an event needs at rest, in order, each once.
abbrev pub needed_of : Numbering → Event → List ℕ
needed_of numbers (R c e i) = if c == owner_of numbers e then c ∷ [] else c ∷ owner_of numbers e ∷ []
needed_of numbers (E a) = a ∷ []
needed_of numbers (S a) = a ∷ []
needed_of numbers (D a k) = a ∷ []
needed_of numbers (C c e i) = c ∷ []
needed_of numbers (T c e i) = c ∷ []
needed_of numbers (F c e i) = c ∷ []
needed_of numbers (X a) = a ∷ []
needed_of numbers (B t x) = t ∷ []
needed_of numbers Z = tasks_to (pred (length numbers.tasks))

abbrev pub failing : Numbering → Kept → Event → Option Condition
failing numbers k e = find (λ c. not (c.test (sight_of k c.task))) (conditions_of numbers e)

-- ---- verdicts

-- a task and what is seen of it; an abnormal caller is shown as closed
pub record Viewed : Type 0 where
  pub task : ℕ
  pub sight : Sight

abbrev pub seen : ℕ → Sight → Viewed
seen t sight = record { task = t; sight = sight }

abbrev pub shown_sight : Sight → Sight
shown_sight SeenClosed = SeenClosed
shown_sight SeenAbnormal = SeenClosed
shown_sight SeenBusy = SeenBusy
shown_sight (SeenAt offer) = SeenAt offer

abbrev pub views_of : Kept → List ℕ → List Viewed
views_of k ts = map (λ t. seen t (shown_sight (sight_of k t))) ts

-- A list of so many events is feasible; the event at a place, from 1, is not, for a cause at a task, with the views of the tasks that it needs; or a
-- task that it needs is open.
pub data Judgement : Type 0 where
  IsFeasible : ℕ → Judgement
  IsInfeasible : ℕ → Cause → ℕ → List Viewed → Judgement
  IsUnsettled : ℕ → ℕ → Judgement

-- the counts begin anew for the tasks that the event changes
abbrev pub recounted : Numbering → Kept → Event → ℕ → List ℕ → List ℕ
recounted numbers k e t [] = []
recounted numbers k e t (c ∷ cs) = (if changes task_ops (owner_of numbers) (λ u. seat_in k u) e t then 0 else c) ∷ recounted numbers k e (suc t) cs

abbrev pub happened : Numbering → Kept → Event → Kept
happened numbers k e = record { seats = acted (rules_of numbers) k.seats e; counts = recounted numbers k e 0 k.counts }

abbrev pub decided : Option ℕ → Option Condition → List Viewed → ℕ → Judgement → Judgement
decided (Some t) fails views at rest = IsUnsettled at t
decided None (Some c) views at rest = IsInfeasible at c.cause c.task views
decided None None views at rest = rest

-- what an event at a place comes to behind settled tasks, and what comes after it
abbrev pub judged_at : Numbering → Event → ℕ → Kept → (Kept → Judgement) → Judgement
judged_at numbers e at k more = decided (first_open k (needed_of numbers e)) (failing numbers k e) (views_of k (needed_of numbers e)) at (more (happened numbers k e))

abbrev pub judged_on : Numbering → ℕ → List Event → Kept → ℕ → Judgement
judged_on numbers bound [] k at = IsFeasible (pred at)
judged_on numbers bound (e ∷ es) k at =
    judged_at numbers e at (settle_all bound k (needed_of numbers e)) (λ later. judged_on numbers bound es later (suc at))

-- The verdict of a list of events, from the opening of a program.
abbrev pub judged : ProgramWithInputs → Numbering → ℕ → List Event → Judgement
judged setup numbers bound events =
    judged_on numbers bound events (record { seats = (opening_of setup numbers).state.seats; counts = map (λ t. 0) numbers.tasks }) 1
