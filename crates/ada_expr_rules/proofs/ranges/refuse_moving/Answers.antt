use Rattle.ada_tree.specs.PlainExpr.{plain_expr}
use Rattle.ada_expr_rules.proofs.Bounding.{fixed_met, moving_met}
use Rattle.ada_expr_rules.proofs.ranges.refuse_moving.Goals as goal

pub returns-then-fixed : goal.returns-then-fixed
returns-then-fixed c = fixed_met c.args.fixed c.args.scope.now (plain_expr c.args.e.now) _ c.if-fixed.true c.refuse_not_static.ensures

pub returns-else-fixed : goal.returns-else-fixed
returns-else-fixed c = moving_met c.args.fixed c.args.scope.now (plain_expr c.args.e.now) c.if-fixed.false
