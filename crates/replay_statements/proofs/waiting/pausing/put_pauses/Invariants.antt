use Rattle.std.proofs.Common.{◌≡◌, ◌+◌, ◌++◌, map, take}
use Rattle.ada_tree.specs.PlainStmt.{plain_alt}
use Rattle.replay_statements.specs.waiting.Waited.{plain_pause, pause_alts}
use Rattle.replay_statements.proofs.waiting.pausing.put_pauses.Given as goal

abbrev pub invariant-loop-pause : goal.invariant-loop-pause
invariant-loop-pause l = record {
  alts : map plain_alt l.out.items ≡ map plain_alt l.initial.out.items ++ pause_alts l.s l.k (map plain_pause (take l.pause-index l.pauses)) 1;
  number : l.n ≡ l.pause-index + 1;
}
