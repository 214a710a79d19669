-- Lists of which the first events are taken, by a place in each.
use Rattle.std.specs.Prelude.{◌≡◌, ◌≢◌, ℕ, ◌+◌, ◌<◌, if◌then◌else◌, List, [], drop, slice_index_or, nat_lt, Some}
use Rattle.event_machine.specs.declared.Event.{Event}
use Rattle.event_machine.specs.progress.Known.{Known, known_at_start, known}
use Rattle.syn_order.specs.Orders.{list_at, first, IsReady, ArePicked, left_after}

-- what is left of the list of a task
abbrev pub left : List (List Event) → List ℕ → ℕ → List Event
left lists places t = drop (slice_index_or places t 0) (list_at lists t)

-- the place behind, if there is one
abbrev pub next_place : ℕ → ℕ → ℕ
next_place place count = if nat_lt place count then place + 1 else place

-- no task below m has a first event that is ready
abbrev pub NoneReady : (ℕ → ℕ) → ℕ → Known → (ℕ → List Event) → ℕ → Type 0
NoneReady owner n k lists m = (t : ℕ) → t < m → (f : Event) → first (lists t) ≡ Some f → IsReady owner n k lists f → ⊥

-- The events are picked one after the other, then none is ready, and this is left.
pub record IsRun (owner : ℕ → ℕ) (n : ℕ) (lists : ℕ → List Event) (left : ℕ → List Event) (events : List Event) : Type 0 where
  pub picked : ArePicked owner n (known_at_start n) lists events
  pub left_is : (t : ℕ) → t < n → left t ≡ left_after owner (known_at_start n) lists events t
  pub over : NoneReady owner n (known owner n events) left n

-- t is the first task below n whose list is not used up
pub record IsFirstLeft (n : ℕ) (left : ℕ → List Event) (t : ℕ) : Type 0 where
  pub below : t < n
  pub not_used_up : left t ≢ []
  pub used_up_before : (u : ℕ) → u < t → left u ≡ []
