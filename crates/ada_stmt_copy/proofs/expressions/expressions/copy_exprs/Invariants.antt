use Rattle.std.proofs.Common.{◌≡◌, map, take}
use Rattle.ada_tree.specs.PlainExpr.{plain_expr}
use Rattle.ada_stmt_copy.proofs.expressions.expressions.copy_exprs.Given as goal

abbrev pub invariant-loop-expr : goal.invariant-loop-expr
invariant-loop-expr l = map plain_expr l.copies.items ≡ map plain_expr (take l.expr-index l.exprs)
