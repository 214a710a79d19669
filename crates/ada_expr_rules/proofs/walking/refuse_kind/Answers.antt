use Rattle.std.proofs.Common.{◌∙◌}
use Rattle.ada_tree.specs.PlainExpr.{plain_expr}
use Rattle.ada_expr_rules.proofs.Expressions.{kind_met}
use Rattle.ada_expr_rules.proofs.walking.refuse_kind.Goals as goal

pub returns : goal.returns
returns c = c.refuse_other.ensures ∙ kind_met c.args.scope.now (plain_expr c.args.e.now) c.args.asked c.args.kind c.requires
