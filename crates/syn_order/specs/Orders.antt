-- Sequences of events by tasks: the lists into which a sequence splits, and the sequence into which lists join (this project's rule). `owner` gives the task
-- that owns an entry, k says what is known before the first event, and the tasks are those below n.
use Rattle.std.specs.Prelude.{◌≡◌, ◌≢◌, ℕ, ◌<◌, true, if◌then◌else◌, List, [], ◌∷◌, map, slice_index_or, Option, Some, None}
use Rattle.std.specs.List.{range_with_len}
use Rattle.event_machine.specs.declared.Event.{Event}
use Rattle.event_machine.specs.progress.Known.{Known, admits, advanced, touches, known_from}

-- Each event is admitted by what is known after those before it.
abbrev pub AreAdmitted : (ℕ → ℕ) → Known → List Event → Type 0
AreAdmitted owner k [] = Unit {0}
AreAdmitted owner k (e ∷ events) = (admits owner k e ≡ true) × AreAdmitted owner (advanced owner k e) events

-- ---- the list of a task

-- The events that touch the task t, each by what is known before it, in order.
abbrev pub split : (ℕ → ℕ) → Known → List Event → ℕ → List Event
split owner k [] t = []
split owner k (e ∷ events) t = if touches owner k e t then e ∷ split owner (advanced owner k e) events t else split owner (advanced owner k e) events t

-- the lists of the tasks below n
abbrev pub splits : (ℕ → ℕ) → ℕ → Known → List Event → List (List Event)
splits owner n k events = map (split owner k events) (range_with_len 0 n)

-- ---- the order of lists

-- the list of a task
abbrev pub list_at : List (List Event) → ℕ → List Event
list_at lists t = slice_index_or lists t []

abbrev pub first : List Event → Option Event
first [] = None
first (e ∷ events) = Some e

abbrev pub rest : List Event → List Event
rest [] = []
rest (e ∷ events) = events

-- Ready: admitted, and the first left in the list of each task below n that it touches.
pub record IsReady (owner : ℕ → ℕ) (n : ℕ) (k : Known) (lists : ℕ → List Event) (e : Event) : Type 0 where
  pub admitted : admits owner k e ≡ true
  pub first_in_each : (t : ℕ) → t < n → touches owner k e t ≡ true → first (lists t) ≡ Some e

-- The event that is picked: ready, and first in the list of the least task whose first event is ready. It need not touch that task.
pub record IsPicked (owner : ℕ → ℕ) (n : ℕ) (k : Known) (lists : ℕ → List Event) (e : Event) : Type 0 where
  pub task : ℕ
  pub below : task < n
  pub is_first : first (lists task) ≡ Some e
  pub ready : IsReady owner n k lists e
  pub least : (t : ℕ) → t < task → (f : Event) → first (lists t) ≡ Some f → IsReady owner n k lists f → ⊥

-- the list of a task once the event is taken: each task that it touches has one event less
abbrev pub taken : (ℕ → ℕ) → Known → (ℕ → List Event) → Event → ℕ → List Event
taken owner k lists e t = if touches owner k e t then rest (lists t) else lists t

-- Each event is picked after those before it.
abbrev pub ArePicked : (ℕ → ℕ) → ℕ → Known → (ℕ → List Event) → List Event → Type 0
ArePicked owner n k lists [] = Unit {0}
ArePicked owner n k lists (e ∷ events) = IsPicked owner n k lists e × ArePicked owner n (advanced owner k e) (taken owner k lists e) events

-- the list of a task once the events are taken
abbrev pub left_after : (ℕ → ℕ) → Known → (ℕ → List Event) → List Event → ℕ → List Event
left_after owner k lists [] = lists
left_after owner k lists (e ∷ events) = left_after owner (advanced owner k e) (taken owner k lists e) events

-- The lists join into these events: they are picked one after the other, and all lists are used up.
pub record IsJoin (owner : ℕ → ℕ) (n : ℕ) (k : Known) (lists : ℕ → List Event) (events : List Event) : Type 0 where
  pub picked : ArePicked owner n k lists events
  pub used_up : (t : ℕ) → t < n → left_after owner k lists events t ≡ []

-- The lists have no order: some events are picked one after the other, then no event is ready, and `task` is the first whose list is not used up.
pub record HasNoOrder (owner : ℕ → ℕ) (n : ℕ) (k : Known) (lists : ℕ → List Event) (task : ℕ) : Type 0 where
  pub events : List Event
  pub picked : ArePicked owner n k lists events
  pub none_ready : (e : Event) → IsReady owner n (known_from owner k events) (left_after owner k lists events) e → ⊥
  pub below : task < n
  pub not_used_up : left_after owner k lists events task ≢ []
  pub used_up_before : (t : ℕ) → t < task → left_after owner k lists events t ≡ []
