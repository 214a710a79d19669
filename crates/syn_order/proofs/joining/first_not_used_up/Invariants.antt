use Rattle.std.proofs.Common.{◌≡◌, ◌<◌, ℕ, [], map}
use Rattle.syn_order.specs.inner.Places.{left}
use Rattle.syn_order.proofs.joining.first_not_used_up.Given as goal

-- the lists up to here are used up
abbrev pub invariant-loop-t : goal.invariant-loop-t
invariant-loop-t l = (u : ℕ) → u < l.t → left (map (λ v. v.items) l.lists) l.places u ≡ []
