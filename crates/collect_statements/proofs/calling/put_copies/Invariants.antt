use Rattle.std.proofs.Common.{◌≡◌, ◌++◌, map, take}
use Rattle.ada_tree.specs.PlainExpr.{plain_expr}
use Rattle.collect_statements.proofs.calling.put_copies.Given as goal

abbrev pub invariant-loop-expr : goal.invariant-loop-expr
invariant-loop-expr l = map plain_expr l.out.items ≡ map plain_expr l.initial.out.items ++ map plain_expr (take l.expr-index l.exprs)
