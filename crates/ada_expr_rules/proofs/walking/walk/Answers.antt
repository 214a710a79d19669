use Rattle.std.proofs.Common.{◌∙◌}
use Rattle.ada_tree.specs.PlainExpr.{plain_expr}
use Rattle.ada_expr_rules.proofs.Expressions.{expr_met}
use Rattle.ada_expr_rules.proofs.walking.walk.Goals as goal

pub returns : goal.returns
returns c = record {
  kind_is = c.judge-judged.ensures.kind_is;
  value_is = c.judge-judged.ensures.value_is;
  refusal_is = c.first.ensures ∙ expr_met c.args.scope.now (plain_expr c.args.e.now) c.judge-judged.result.raised c.judge-judged.result.parts c.judge-judged.ensures.raised_is c.judge-judged.ensures.parts_are;
}
