use Rattle.std.proofs.Common.{ap, ◌∙◌}
use Rattle.ada_tree.specs.PlainExpr.{plain_bounds}
use Rattle.ada_static_rules.specs.Sooner.{sooner}
use Rattle.ada_expr_rules.proofs.Knowing.{known_walked}
use Rattle.ada_expr_rules.proofs.Bounding.{bounds_met}
use Rattle.ada_expr_rules.proofs.ranges.walk_bounds.Goals as goal

pub refuse_empty-empty-requires-clause-first : goal.refuse_empty-empty-requires-clause-first
refuse_empty-empty-requires-clause-first c = known_walked _ _ _ _ _ c.known-low_known.ensures c.walk_bound-low.ensures

pub refuse_empty-empty-requires-clause-last : goal.refuse_empty-empty-requires-clause-last
refuse_empty-empty-requires-clause-last c = known_walked _ _ _ _ _ c.known-high_known.ensures c.walk_bound-high.ensures

pub returns : goal.returns
returns c = record {
  first_is = known_walked _ _ _ _ _ c.known-low_known.ensures c.walk_bound-low.ensures;
  last_is = known_walked _ _ _ _ _ c.known-high_known.ensures c.walk_bound-high.ensures;
  refusal_is =
      c.first-2.ensures
      ∙ ap (λ o. sooner o c.refuse_empty-empty.result) c.first.ensures
      ∙ bounds_met c.args.fixed c.args.scope.now (plain_bounds c.args.bounds.now) _ _ _ c.walk_bound-low.ensures.refusal_is c.walk_bound-high.ensures.refusal_is c.refuse_empty-empty.ensures;
}
