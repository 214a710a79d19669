use Rattle.std.proofs.Common.{map, take}
use Rattle.ada_tree.specs.PlainStmt.{stmts_of, alts_of, arms_of, case_arms_of, handlers_of, plain_stmt, plain_alt, plain_arm, plain_case_arm, plain_handler}
use Rattle.ada_tree.specs.Same.{SameStmts, SameAlts, SameArms, SameCaseArms, SameHandlers}
use Rattle.ada_tree_same.proofs.statements.statements.+same.Given as goal

abbrev pub invariant-same_stmts-loop-i :
    goal.invariant-same_stmts-loop-i
invariant-same_stmts-loop-i l = SameStmts l.left l.right (stmts_of (map plain_stmt (take l.i l.a))) (stmts_of (map plain_stmt (take l.i l.b)))

abbrev pub invariant-same_alts-loop-i :
    goal.invariant-same_alts-loop-i
invariant-same_alts-loop-i l = SameAlts l.left l.right (alts_of (map plain_alt (take l.i l.a))) (alts_of (map plain_alt (take l.i l.b)))

abbrev pub invariant-same_arms-loop-i :
    goal.invariant-same_arms-loop-i
invariant-same_arms-loop-i l = SameArms l.left l.right (arms_of (map plain_arm (take l.i l.a))) (arms_of (map plain_arm (take l.i l.b)))

abbrev pub invariant-same_case_arms-loop-i :
    goal.invariant-same_case_arms-loop-i
invariant-same_case_arms-loop-i l = SameCaseArms l.left l.right (case_arms_of (map plain_case_arm (take l.i l.a))) (case_arms_of (map plain_case_arm (take l.i l.b)))

abbrev pub invariant-same_handlers-loop-i :
    goal.invariant-same_handlers-loop-i
invariant-same_handlers-loop-i l = SameHandlers l.left l.right (handlers_of (map plain_handler (take l.i l.a))) (handlers_of (map plain_handler (take l.i l.b)))
