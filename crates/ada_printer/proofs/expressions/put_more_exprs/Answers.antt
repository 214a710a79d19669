use Rattle.std.proofs.Common.{codes}
use Rattle.ded_io.specs.Written.{◌⧺◌}
use Rattle.ada_tree.specs.PlainExpr.{plain_expr}
use Rattle.ada_printer.specs.ExprText.{expr_text}
use Rattle.ded_io.proofs.pages.Drawn.{drew_then}
use Rattle.ada_printer.proofs.Listed.{drew_seen_member}
use Rattle.ada_printer.proofs.expressions.put_more_exprs.Goals as goal

pub loop-expr-preserved : goal.loop-expr-preserved
loop-expr-preserved g c =
    drew_seen_member _ _ plain_expr (λ x. codes ", " ⧺ expr_text c.args.names.now x) c.args.exprs.now c.loop-expr.expr-index c.expr-item.result _ _ _ c.loop-expr-test.true c.expr-item.is c.loop-expr.invariant
    (drew_then _ _ _ _ _ c.put.ensures c.put_expr.ensures)
