use Rattle.std.proofs.Common.{ap, ◌∙◌}
use Rattle.ada_tree.specs.PlainExpr.{plain_expr}
use Rattle.ada_tree.specs.PlainStmt.{plain_part}
use Rattle.ada_static_rules.specs.Sooner.{sooner}
use Rattle.ada_types.proofs.Writing.{words_met, value_met}
use Rattle.ada_types.proofs.written_parts.walk_part.Goals as goal

pub returns-in-Words : goal.returns-in-Words
returns-in-Words c = words_met c.args.scope.now c.args.alone (plain_part c.args.part.now) _ _ (ap plain_part c.in-Words.is)

pub returns-in-Value : goal.returns-in-Value
returns-in-Value c =
    c.first-in-Value.ensures
    ∙ ap (sooner c.walk_written-written.result.refusal) c.first.ensures
    ∙ value_met c.args.scope.now c.args.alone (plain_part c.args.part.now) (plain_expr c.in-Value.e) _ _ _ (ap plain_part c.in-Value.is) c.walk_written-written.ensures.refusal_is c.refuse_unfit-unfit.ensures c.refuse_plain-plain.ensures
