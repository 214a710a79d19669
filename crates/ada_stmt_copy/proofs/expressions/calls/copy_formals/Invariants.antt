use Rattle.std.proofs.Common.{◌≡◌, map, take}
use Rattle.ada_tree.specs.PlainStmt.{plain_formal}
use Rattle.ada_stmt_copy.proofs.expressions.calls.copy_formals.Given as goal

abbrev pub invariant-loop-formal : goal.invariant-loop-formal
invariant-loop-formal l = map plain_formal l.copies.items ≡ map plain_formal (take l.formal-index l.formals)
