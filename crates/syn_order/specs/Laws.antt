-- What splitting and joining are to each other (this project's rule).
use Rattle.std.specs.Prelude.{◌≡◌, ℕ, ◌<◌, List, length, ◌⊎◌, ◌↔◌}
use Rattle.event_machine.specs.declared.Event.{Event}
use Rattle.event_machine.specs.progress.Known.{known_at_start}
use Rattle.syn_order.specs.Orders.{AreAdmitted, splits, list_at, IsJoin, HasNoOrder}
use Rattle.syn_order.specs.Apart.{AreAlike}

-- an order of the lists of n tasks
abbrev pub IsOrder : (ℕ → ℕ) → ℕ → List (List Event) → List Event → Type 0
IsOrder owner n lists events = IsJoin owner n (known_at_start n) (list_at lists) events

abbrev pub NoOrder : (ℕ → ℕ) → ℕ → List (List Event) → ℕ → Type 0
NoOrder owner n lists task = HasNoOrder owner n (known_at_start n) (list_at lists) task

-- The lists are those of this sequence.
pub record IsSource (owner : ℕ → ℕ) (n : ℕ) (lists : List (List Event)) (events : List Event) : Type 0 where
  pub admitted : AreAdmitted owner (known_at_start n) events
  pub lists_are : splits owner n (known_at_start n) events ≡ lists

-- The law of orders, for the lists of n tasks.
pub record LawOfOrders (owner : ℕ → ℕ) (n : ℕ) (lists : List (List Event)) : Type 0 where
  -- lists that come from a sequence have an order
  pub joins : (events : List Event) → IsSource owner n lists events → (order : List Event) × IsOrder owner n lists order
  -- an order is a sequence from which the lists come
  pub splits_back : (order : List Event) → IsOrder owner n lists order → IsSource owner n lists order
  -- there is one order at most
  pub one_order : (xs ys : List Event) → IsOrder owner n lists xs → IsOrder owner n lists ys → xs ≡ ys
  -- there is an order, or a task whose list is the first that is not used up
  pub either : ((order : List Event) × IsOrder owner n lists order) ⊎ ((task : ℕ) × NoOrder owner n lists task)
  pub not_both : (order : List Event) (task : ℕ) → IsOrder owner n lists order → NoOrder owner n lists task → ⊥
  pub one_task : (t u : ℕ) → NoOrder owner n lists t → NoOrder owner n lists u → t ≡ u

abbrev pub OrdersOfAll : Type 0
OrdersOfAll = (owner : ℕ → ℕ) (n : ℕ) (lists : List (List Event)) → length lists ≡ n → LawOfOrders owner n lists

-- Of two sequences the first is admitted: the second is admitted and has the same lists exactly where they differ only in the order of neighbours that are apart.
abbrev pub SameListsAreAlike : Type 0
SameListsAreAlike =
    (owner : ℕ → ℕ) (n : ℕ) (xs ys : List Event) → 0 < n → AreAdmitted owner (known_at_start n) xs →
    (AreAdmitted owner (known_at_start n) ys × (splits owner n (known_at_start n) xs ≡ splits owner n (known_at_start n) ys)) ↔ AreAlike owner n (known_at_start n) xs ys
