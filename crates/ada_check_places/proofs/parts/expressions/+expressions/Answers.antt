use Rattle.std.proofs.Common.{◌∙◌, ap}
use Rattle.ada_tree.specs.PlainExpr.{plain_expr}
use Rattle.ada_check_rules.specs.rules.Sooner.{sooner}
use Rattle.ada_check_places.specs.parts.inner.WalkedExpr.{own_expr_met, operands_met}
use Rattle.ada_check_places.proofs.parts.Walking.{expr_is_met}
use Rattle.ada_check_places.proofs.parts.expressions.+expressions.Goals as goal

pub walk_expr-returns : goal.walk_expr-returns
walk_expr-returns t c =
    let e = plain_expr c.args.e.now in
    c.first.ensures
    ∙ ap (λ o. sooner o c.in_ok-inner.inner) c.refuse_own.ensures
    ∙ ap (sooner (own_expr_met c.args.by.now c.args.around.now c.args.k e)) (c.in_ok-inner.ensures ∙ ap (λ n. operands_met c.args.by.now c.args.around.now n e) c.in_ok-deeper.ensures)
    ∙ expr_is_met c.args.by.now c.args.around.now c.args.k e
