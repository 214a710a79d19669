use Rattle.std.proofs.Common.{◌≡◌, ◌++◌, map, take}
use Rattle.ada_tree.specs.PlainStmt.{plain_alt, plain_arm}
use Rattle.replay_asking.specs.Looked.{voice_of}
use Rattle.replay_statements.specs.waiting.Waited.{plain_pause, branches, number_behind}
use Rattle.replay_statements.proofs.waiting.Turning.{Left}
use Rattle.replay_statements.proofs.waiting.branching.put_branches.Given as goal

abbrev pub invariant-loop-alt : goal.invariant-loop-alt
invariant-loop-alt l = record {
  arms : map plain_arm l.out.items ≡ map plain_arm l.initial.out.items ++ branches (voice_of l.x) (map plain_pause l.pauses) (map plain_alt (take l.alt-index l.initial.alt-items)) 1;
  number : l.k ≡ number_behind (map plain_alt (take l.alt-index l.initial.alt-items)) 1;
  left : Left l.alt-index l.alt-items l.initial.alt-items;
}
