use Rattle.std.proofs.Common.{◌≡◌, map, take}
use Rattle.replay_xform.specs.numbering.Replayed.{lists_from}
use Rattle.replay_xform.proofs.numbering.owners.lists_of.Given as goal

abbrev pub invariant-loop-info : goal.invariant-loop-info
invariant-loop-info l = map (λ l. l.items) l.lists.items ≡ lists_from (take l.info-index l.entries) l.count 1
