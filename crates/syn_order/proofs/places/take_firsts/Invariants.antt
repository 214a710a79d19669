use Rattle.std.proofs.Common.{◌≡◌, ℕ, length, map, drop, take}
use Rattle.event_machine.specs.Soundness.{times}
use Rattle.syn_order.specs.inner.Places.{left}
use Rattle.syn_order.proofs.places.take_firsts.Given as goal

-- the first event of each task up to here is taken
abbrev pub invariant-loop-t : goal.invariant-loop-t
invariant-loop-t l = record {
  many : length l.places ≡ length l.lists;
  taken : (u : ℕ) → left (map (λ v. v.items) l.lists) l.places u ≡ drop (times u (take l.t-index l.tasks)) (left (map (λ v. v.items) l.lists) l.fn.places u);
}
