use Rattle.std.proofs.Common.{◌≡◌, map, take}
use Rattle.syn_event.specs.AddedNames.{with_origin}
use Rattle.replay_xform.proofs.numbering.origins.with_origins.Given as goal

abbrev pub invariant-loop-info : goal.invariant-loop-info
invariant-loop-info l = l.entries.items ≡ map (with_origin l.names l.all) (take l.info-index l.all)
