-- Which error comes when (this project's rule).
use Rattle.std.specs.Prelude.{ℕ, ◌-◌, ◌≤◌, List, length, take, slice_index_or}
use Rattle.event_machine.specs.declared.Event.{Event}
use Rattle.event_machine.specs.declared.Event.TheVariants.{Z}
use Rattle.event_machine.specs.progress.Known.{known_at_start, known}
use Rattle.syn_order.specs.declared.errors.OrderError.{OrderError}
use Rattle.syn_order.specs.declared.errors.OrderError.TheVariants.{NotAdmitted, NoOrder, Memory}
use Rattle.syn_order.specs.Orders.{AreAdmitted}
use Rattle.syn_order.specs.Apart.{AreApart}
use Rattle.syn_order.specs.Laws.{NoOrder as HaveNoOrder}

-- The event at this place, from 1, is the first that is not admitted: those before it are, and those up to it are not.
pub record IsFirstRefused (owner : ℕ → ℕ) (n : ℕ) (events : List Event) (at : ℕ) : Type 0 where
  pub from_one : 1 ≤ at
  pub within : at ≤ length events
  pub before : AreAdmitted owner (known_at_start n) (take (at - 1) events)
  pub refused : AreAdmitted owner (known_at_start n) (take at events) → ⊥

-- why events are not split
abbrev pub IsSplitError : (ℕ → ℕ) → ℕ → List Event → OrderError → Type 0
IsSplitError owner n events (NotAdmitted at) = IsFirstRefused owner n events at
IsSplitError owner n events (NoOrder task) = ⊥
IsSplitError owner n events Memory = Unit {0}

-- why lists are not joined
abbrev pub IsJoinError : (ℕ → ℕ) → ℕ → List (List Event) → OrderError → Type 0
IsJoinError owner n lists (NotAdmitted at) = ⊥
IsJoinError owner n lists (NoOrder task) = HaveNoOrder owner n lists task
IsJoinError owner n lists Memory = Unit {0}

-- The event at the place k, from 1, and the next touch no common task, by what is known before either.
abbrev pub AreNeighboursApart : (ℕ → ℕ) → ℕ → List Event → ℕ → Type 0
AreNeighboursApart owner n events k = AreApart owner n (known owner n (take (k - 1) events)) (slice_index_or events (k - 1) Z) (slice_index_or events k Z)
