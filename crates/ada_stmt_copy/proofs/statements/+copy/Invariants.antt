use Rattle.std.proofs.Common.{◌≡◌, map, take}
use Rattle.ada_tree.specs.PlainStmt.{plain_alt, plain_arm, plain_case_arm, plain_handler, plain_stmt}
use Rattle.ada_stmt_copy.proofs.statements.+copy.Given as goal

abbrev pub invariant-copy_alts-loop-alt :
    goal.invariant-copy_alts-loop-alt
invariant-copy_alts-loop-alt l = map plain_alt l.copies.items ≡ map plain_alt (take l.alt-index l.alts)

abbrev pub invariant-copy_arms-loop-arm :
    goal.invariant-copy_arms-loop-arm
invariant-copy_arms-loop-arm l = map plain_arm l.copies.items ≡ map plain_arm (take l.arm-index l.arms)

abbrev pub invariant-copy_case_arms-loop-arm :
    goal.invariant-copy_case_arms-loop-arm
invariant-copy_case_arms-loop-arm l = map plain_case_arm l.copies.items ≡ map plain_case_arm (take l.arm-index l.arms)

abbrev pub invariant-copy_handlers-loop-handler :
    goal.invariant-copy_handlers-loop-handler
invariant-copy_handlers-loop-handler l = map plain_handler l.copies.items ≡ map plain_handler (take l.handler-index l.handlers)

abbrev pub invariant-copy_stmts-loop-stmt :
    goal.invariant-copy_stmts-loop-stmt
invariant-copy_stmts-loop-stmt l = map plain_stmt l.copies.items ≡ map plain_stmt (take l.stmt-index l.stmts)
