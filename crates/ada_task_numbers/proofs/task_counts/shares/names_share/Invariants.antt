use Rattle.std.proofs.Common.{◌≡◌, map, take}
use Rattle.std.specs.Prelude.{flat_map}
use Rattle.ada_tree.specs.PlainStmt.{plain_callee}
use Rattle.ada_task_numbers.specs.task_counts.inner.Shares.{shared}
use Rattle.ada_task_numbers.proofs.task_counts.Sharing.{itself}
use Rattle.ada_task_numbers.proofs.task_counts.shares.names_share.Given as goal

-- so many names are gone through
abbrev pub invariant-loop-name : goal.invariant-loop-name
invariant-loop-name l = l.share ≡ shared l.rates (flat_map itself (map plain_callee (take l.name-index l.names)))
