use Rattle.std.proofs.Common.{◌≡◌, take}
use Rattle.replay_asking.specs.Looked.{voice_of}
use Rattle.replay_xform.proofs.numbering.numbers.tasks_of.Given as goal

abbrev pub invariant-loop-info : goal.invariant-loop-info
invariant-loop-info l = l.tasks.items ≡ take l.info-index (voice_of l.x).numbers.tasks
