use Rattle.std.proofs.Common.{◌≡◌, ◌<◌, ◌++◌, ℕ, length, map, replicate, take}
use Rattle.event_machine.specs.Soundness.{times}
use Rattle.syn_order.specs.inner.Lists.{at_place}
use Rattle.syn_order.proofs.splitting.put_for_each.Given as goal

-- the event stands behind the lists of the tasks up to here
abbrev pub invariant-loop-t : goal.invariant-loop-t
invariant-loop-t l = record {
  many : length l.lists.items ≡ length l.fn.lists.items;
  each : (u : ℕ) → u < length l.fn.lists.items →
      at_place (map (λ v. v.items) l.lists.items) u ≡ at_place (map (λ v. v.items) l.fn.lists.items) u ++ replicate (times u (take l.t-index l.tasks)) l.e;
}
