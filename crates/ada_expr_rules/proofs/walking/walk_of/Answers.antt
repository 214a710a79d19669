use Rattle.std.proofs.Common.{◌∙◌}
use Rattle.ada_tree.specs.PlainExpr.{plain_expr}
use Rattle.ada_static_rules.specs.Demand.{must_be_of}
use Rattle.ada_static_rules.specs.Sites.{expr_sites}
use Rattle.ada_static_rules.proofs.Meeting.{behind}
use Rattle.ada_expr_rules.proofs.walking.walk_of.Goals as goal

pub returns : goal.returns
returns c = record {
  kind_is = c.walk-walked.ensures.kind_is;
  value_is = c.walk-walked.ensures.value_is;
  refusal_is = c.first.ensures ∙ behind (expr_sites c.args.scope.now (plain_expr c.args.e.now)) c.args.scope.now (must_be_of (plain_expr c.args.e.now) c.args.asked) _ _ c.walk-walked.ensures.refusal_is c.refuse_kind-other.ensures;
}
