use Rattle.std.proofs.Common.{map}
use Rattle.ada_tree.specs.PlainExpr.{plain_expr}
use Rattle.collect_statements.proofs.Copied.{plain-turn}
use Rattle.collect_statements.proofs.calling.put_copies.Goals as goal

pub loop-expr-preserved : goal.loop-expr-preserved
loop-expr-preserved c =
    plain-turn plain_expr (map plain_expr c.args.out.now.items) c.loop-expr.out.items c.push_expr.new.list.items c.args.exprs.now c.loop-expr.expr-index c.expr-item.result c.copy.result c.loop-expr-test.true c.expr-item.is c.loop-expr.invariant c.in_ok-push_expr.ensures c.copy.ensures
