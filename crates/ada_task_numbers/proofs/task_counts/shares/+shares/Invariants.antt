use Rattle.std.proofs.Common.{◌≡◌, map, take}
use Rattle.std.specs.Prelude.{flat_map}
use Rattle.ada_tree.specs.PlainStmt.{plain_stmt, plain_alt, plain_arm, plain_case_arm, plain_handler}
use Rattle.syn_event.specs.Callees.{stmt_callees}
use Rattle.ada_task_numbers.specs.task_counts.inner.Shares.{shared}
use Rattle.ada_task_numbers.specs.task_counts.inner.Copied.{each_alt, each_arm, each_case_arm, each_handler}
use Rattle.ada_task_numbers.proofs.task_counts.shares.+shares.Given as goal

-- so much of the list is gone through
abbrev pub invariant-stmts_share-loop-stmt : goal.invariant-stmts_share-loop-stmt
invariant-stmts_share-loop-stmt l = l.share ≡ shared l.rates (flat_map stmt_callees (map plain_stmt (take l.stmt-index l.list)))

abbrev pub invariant-alts_share-loop-alt : goal.invariant-alts_share-loop-alt
invariant-alts_share-loop-alt l = l.share ≡ shared l.rates (flat_map each_alt (map plain_alt (take l.alt-index l.alts)))

abbrev pub invariant-arms_share-loop-arm : goal.invariant-arms_share-loop-arm
invariant-arms_share-loop-arm l = l.share ≡ shared l.rates (flat_map each_arm (map plain_arm (take l.arm-index l.arms)))

abbrev pub invariant-case_arms_share-loop-arm : goal.invariant-case_arms_share-loop-arm
invariant-case_arms_share-loop-arm l = l.share ≡ shared l.rates (flat_map each_case_arm (map plain_case_arm (take l.arm-index l.arms)))

abbrev pub invariant-handlers_share-loop-handler : goal.invariant-handlers_share-loop-handler
invariant-handlers_share-loop-handler l = l.share ≡ shared l.rates (flat_map each_handler (map plain_handler (take l.handler-index l.handlers)))
