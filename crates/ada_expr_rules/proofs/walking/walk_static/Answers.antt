use Rattle.std.proofs.Common.{◌∙◌}
use Rattle.ada_tree.specs.PlainExpr.{plain_expr}
use Rattle.ada_static_rules.specs.Demand.{must_be_static}
use Rattle.ada_static_rules.specs.Sites.{expr_of}
use Rattle.ada_static_rules.proofs.Meeting.{behind}
use Rattle.ada_expr_rules.proofs.walking.walk_static.Goals as goal

pub returns : goal.returns
returns c = record {
  kind_is = c.walk_of-walked.ensures.kind_is;
  value_is = c.walk_of-walked.ensures.value_is;
  refusal_is = c.first.ensures ∙ behind (expr_of c.args.scope.now c.args.asked (plain_expr c.args.e.now)) c.args.scope.now (must_be_static (plain_expr c.args.e.now)) _ _ c.walk_of-walked.ensures.refusal_is c.refuse_not_static-not_static.ensures;
}
