use Rattle.std.proofs.Common.{◌≡◌, ◌<◌, ℕ, length, map, take, Some}
use Rattle.event_machine.specs.Soundness.{times}
use Rattle.syn_order.specs.Orders.{first}
use Rattle.syn_order.specs.inner.Places.{left}
use Rattle.syn_order.proofs.readiness.is_first_of_each.Given as goal

-- so of the tasks up to here
abbrev pub invariant-loop-t : goal.invariant-loop-t
invariant-loop-t l = (u : ℕ) → u < length l.lists → 0 < times u (take l.t-index l.tasks) → first (left (map (λ v. v.items) l.lists) l.places u) ≡ Some l.e
