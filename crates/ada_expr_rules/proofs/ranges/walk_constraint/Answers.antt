use Rattle.std.proofs.Common.{ap, ◌∙◌}
use Rattle.ada_tree.specs.PlainExpr.{plain_bounds}
use Rattle.ada_static_rules.specs.Sooner.{sooner}
use Rattle.ada_expr_rules.proofs.Bounding.{constraint_met}
use Rattle.ada_expr_rules.proofs.ranges.walk_constraint.Goals as goal

pub returns : goal.returns
returns c = record {
  first_is = c.walk_bounds-walked.ensures.first_is;
  last_is = c.walk_bounds-walked.ensures.last_is;
  refusal_is =
      c.first-2.ensures
      ∙ ap (sooner c.walk_bounds-walked.result.refusal) c.first.ensures
      ∙ constraint_met c.args.fixed c.args.scope.now c.args.kind (plain_bounds c.args.bounds.now) _ _ _ c.walk_bounds-walked.ensures.refusal_is c.refuse_kind-low.ensures c.refuse_kind-high.ensures;
}
