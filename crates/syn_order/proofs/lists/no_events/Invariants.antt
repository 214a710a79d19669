use Rattle.std.proofs.Common.{◌≡◌, [], map, replicate}
use Rattle.syn_order.proofs.lists.no_events.Given as goal

abbrev pub invariant-loop-place : goal.invariant-loop-place
invariant-loop-place l = map (λ v. v.items) l.lists.items ≡ replicate l.place []
