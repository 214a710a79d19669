use Rattle.std.proofs.Common.{◌≡◌, map, take}
use Rattle.ada_tree.specs.PlainStmt.{plain_alt, alts_of}
use Rattle.replay_model.specs.Waiting.{pauses_of}
use Rattle.replay_statements.specs.waiting.Waited.{plain_pause}
use Rattle.replay_statements.proofs.waiting.branching.pauses_of.Given as goal

abbrev pub invariant-loop-alt : goal.invariant-loop-alt
invariant-loop-alt l = map plain_pause l.pauses.items ≡ pauses_of (alts_of (map plain_alt (take l.alt-index l.alts)))
