use Rattle.std.proofs.Common.{◌≡◌, [], map, replicate}
use Rattle.replay_xform.proofs.numbering.owners.empty_lists.Given as goal

abbrev pub invariant-loop-place : goal.invariant-loop-place
invariant-loop-place l = map (λ l. l.items) l.lists.items ≡ replicate l.place []
