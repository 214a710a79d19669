use Rattle.std.proofs.Common.{ap, ◌∙◌}
use Rattle.ada_tree.specs.PlainExpr.{plain_expr}
use Rattle.ada_static_rules.specs.Sooner.{found}
use Rattle.ada_expr_rules.specs.Known.{emptied}
use Rattle.ada_expr_rules.proofs.Knowing.{empty_met}
use Rattle.ada_expr_rules.proofs.ranges.refuse_empty.Goals as goal

pub returns : goal.returns
returns c =
    c.refuse_below.ensures
    ∙ ap (λ s. found 5 (emptied c.args.low.kind c.args.low c.args.high s)) c.place.ensures
    ∙ empty_met c.args.scope.now (plain_expr c.args.first.now) (plain_expr c.args.last.now) c.args.low c.args.high c.requires.first c.requires.last
