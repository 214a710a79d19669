use Rattle.std.proofs.Common.{◌≡◌, map, take}
use Rattle.ada_tree.specs.PlainStmt.{plain_callee}
use Rattle.ada_stmt_copy.proofs.expressions.calls.copy_callees.Given as goal

abbrev pub invariant-loop-callee : goal.invariant-loop-callee
invariant-loop-callee l = map plain_callee l.copies.items ≡ map plain_callee (take l.callee-index l.callees)
