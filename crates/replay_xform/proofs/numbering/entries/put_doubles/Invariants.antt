use Rattle.std.proofs.Common.{◌≡◌, ◌++◌, map, take}
use Rattle.replay_asking.specs.Looked.{voice_of}
use Rattle.replay_xform.specs.numbering.Replayed.{double_info}
use Rattle.replay_xform.proofs.numbering.entries.put_doubles.Given as goal

abbrev pub invariant-loop-info : goal.invariant-loop-info
invariant-loop-info l = l.out.items ≡ l.initial.out.items ++ map (double_info (voice_of l.x)) (take l.info-index l.own)
