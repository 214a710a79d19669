use Rattle.std.proofs.Common.{◌≡◌, [], map, replicate}
use Rattle.syn_order.proofs.lists.no_callers.Given as goal

abbrev pub invariant-loop-place : goal.invariant-loop-place
invariant-loop-place l = map (λ v. v.items) l.lists.items ≡ replicate l.place []
