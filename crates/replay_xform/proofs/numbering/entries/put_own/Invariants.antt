use Rattle.std.proofs.Common.{◌≡◌, ◌++◌, take}
use Rattle.replay_xform.proofs.numbering.entries.put_own.Given as goal

abbrev pub invariant-loop-info : goal.invariant-loop-info
invariant-loop-info l = l.out.items ≡ l.initial.out.items ++ take l.info-index l.own
