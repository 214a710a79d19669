-- A task in the machine: what it does by itself, how it stands, and where the machine keeps its tasks.
use Rattle.std.specs.Prelude.{ℕ, ℤ, Bool, true, false, ◌==◌, if◌then◌else◌, List, map, length, slice_index_or, slice_set}
use Rattle.event_machine.specs.declared.Standing.{Standing}
use Rattle.event_machine.specs.declared.Standing.TheVariants.{Live, Waiting, Queued, Served, Completed, Killed}
use Rattle.event_machine.specs.Offers.{Offer}

-- What one task does, for tasks whose states are the values of L.
pub record Ops (L : Type 0) : Type 0 where
  -- it has a local step, and the state after that step
  pub can_step : L → Bool
  pub stepped : L → L
  -- what it offers, where it has no local step
  pub offer : L → Offer
  -- the callers of its opened accept bodies, innermost first
  pub callers : L → List ℕ
  -- it has accepted at the member i of e the caller with this number and this state (which gives the formals)
  pub accepted : ℕ → ℤ → ℕ → L → L → L
  -- its innermost rendezvous has ended: a pending exception is raised behind the accept
  pub finished : L → L
  -- its call's rendezvous with this acceptor has ended: values come back, or the pending exception is raised
  pub resumed : L → L → L
  -- TASKING_ERROR is raised at its call
  pub raised : L → L
  -- it has taken the else part of its call or wait
  pub took_else : L → L
  -- it has taken the k-th delay alternative of its wait, or the delay of its timed call
  pub took_delay : ℕ → L → L
  -- it has gone on behind the next name of its abort statement
  pub passed : L → L
  -- what stands at a number that no task has
  pub nobody : L

-- A task and its standing.
pub record Seat (L : Type 0) : Type 0 where
  pub local : L
  pub standing : Standing

-- a task with this state that is live
abbrev pub live : {L : Type 0} → L → Seat L
live l = record { local = l; standing = Live }

-- a task with this state that has completed (9.4)
abbrev pub completed : {L : Type 0} → L → Seat L
completed l = record { local = l; standing = Completed }

-- it is live: it does not wait, is in no queue and no caller in a rendezvous, and has not completed
abbrev pub is_live : Standing → Bool
is_live Live = true
is_live Waiting = false
is_live Queued = false
is_live (Served by abnormal) = false
is_live Completed = false
is_live Killed = false

-- it waits to accept: at an accept statement or a selective wait (9.5, 9.7.1)
abbrev pub is_waiting : Standing → Bool
is_waiting Live = false
is_waiting Waiting = true
is_waiting Queued = false
is_waiting (Served by abnormal) = false
is_waiting Completed = false
is_waiting Killed = false

-- it is a caller in an entry's queue (9.5)
abbrev pub is_queued : Standing → Bool
is_queued Live = false
is_queued Waiting = false
is_queued Queued = true
is_queued (Served by abnormal) = false
is_queued Completed = false
is_queued Killed = false

-- it has completed, by itself or by an abort
abbrev pub is_completed : Standing → Bool
is_completed Live = false
is_completed Waiting = false
is_completed Queued = false
is_completed (Served by abnormal) = false
is_completed Completed = true
is_completed Killed = true

-- closed: completed or abnormal
abbrev pub is_closed : Standing → Bool
is_closed Live = false
is_closed Waiting = false
is_closed Queued = false
is_closed (Served by abnormal) = abnormal
is_closed Completed = true
is_closed Killed = true

-- it is the caller in a rendezvous, abnormal or not
abbrev pub is_served : Standing → Bool
is_served Live = false
is_served Waiting = false
is_served Queued = false
is_served (Served by abnormal) = true
is_served Completed = false
is_served Killed = false

-- it is the caller in a rendezvous with the acceptor a, abnormal or not
abbrev pub is_served_by : ℕ → Standing → Bool
is_served_by a Live = false
is_served_by a Waiting = false
is_served_by a Queued = false
is_served_by a (Served by abnormal) = by == a
is_served_by a Completed = false
is_served_by a Killed = false

-- it is an abnormal caller
abbrev pub is_abnormal : Standing → Bool
is_abnormal Live = false
is_abnormal Waiting = false
is_abnormal Queued = false
is_abnormal (Served by abnormal) = abnormal
is_abnormal Completed = false
is_abnormal Killed = false

-- The whole state: the tasks, kept as a C; the callers in all queues in order of arrival; whether the program has ended.
pub record State (C : Type 0) : Type 0 where
  pub seats : C
  pub line : List ℕ
  pub ended : Bool

-- How the tasks are kept: read one, write one, change each, and how many there are.
pub record Store (L C : Type 0) : Type 0 where
  pub at : C → ℕ → Seat L
  pub put : C → ℕ → Seat L → C
  pub each : (Seat L → Seat L) → C → C
  pub size : C → ℕ

-- The tasks in a list, by their numbers: past its end stands nobody, completed, and a write there changes nothing.
abbrev pub on_list : {L : Type 0} → Ops L → Store L (List (Seat L))
on_list ops = record {
  at = λ seats t. slice_index_or seats t (completed ops.nobody);
  put = λ seats t seat. slice_set seats t seat;
  each = λ f seats. map f seats;
  size = λ seats. length seats;
}

-- The n tasks as a function of their numbers.
abbrev pub on_numbers : {L : Type 0} → ℕ → Store L (ℕ → Seat L)
on_numbers n = record {
  at = λ seats t. seats t;
  put = λ seats t seat u. if u == t then seat else seats u;
  each = λ f seats u. f (seats u);
  size = λ seats. n;
}

-- The rules of one program: what its tasks do, how they are kept, and which task owns each entry.
pub record Rules (L C : Type 0) : Type 0 where
  pub ops : Ops L
  pub store : Store L C
  pub owner : ℕ → ℕ

-- All that the conditions of actions read of a state.
pub record Seen (L : Type 0) : Type 0 where
  pub tasks : ℕ → Seat L
  pub size : ℕ
  pub line : List ℕ

-- what the conditions of actions read of this state
abbrev pub seen : {L C : Type 0} → Rules L C → State C → Seen L
seen rules s = record { tasks = λ t. rules.store.at s.seats t; size = rules.store.size s.seats; line = s.line }
