use Rattle.std.proofs.Common.{◌≡◌, ◌++◌, map, take}
use Rattle.replay_asking.specs.Looked.{voice_of}
use Rattle.replay_xform.specs.numbering.Replayed.{infos_from}
use Rattle.replay_xform.proofs.numbering.entries.put_tasks.Given as goal

abbrev pub invariant-loop-own : goal.invariant-loop-own
invariant-loop-own l = record {
  infos : l.out.items ≡ l.initial.out.items ++ infos_from (voice_of l.x) 1 (map (λ l. l.items) (take l.own-index l.lists));
  number : l.task ≡ l.own-index;
}
