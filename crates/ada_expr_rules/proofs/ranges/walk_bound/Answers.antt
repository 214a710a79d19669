use Rattle.std.proofs.Common.{◌∙◌}
use Rattle.ada_tree.specs.PlainExpr.{plain_expr}
use Rattle.ada_static_rules.specs.Sites.{expr_sites, static_if}
use Rattle.ada_static_rules.proofs.Meeting.{joined}
use Rattle.ada_expr_rules.proofs.Knowing.{known_walked}
use Rattle.ada_expr_rules.proofs.ranges.walk_bound.Goals as goal

pub refuse_moving-moving-requires : goal.refuse_moving-moving-requires
refuse_moving-moving-requires c = known_walked _ _ _ _ _ c.known.ensures c.walk-walked.ensures

pub returns : goal.returns
returns c = record {
  kind_is = c.walk-walked.ensures.kind_is;
  value_is = c.walk-walked.ensures.value_is;
  refusal_is = c.first.ensures ∙ joined (expr_sites c.args.scope.now (plain_expr c.args.e.now)) (static_if c.args.fixed c.args.scope.now (plain_expr c.args.e.now)) _ _ c.walk-walked.ensures.refusal_is c.refuse_moving-moving.ensures;
}
