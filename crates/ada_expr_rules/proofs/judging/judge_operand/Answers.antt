use Rattle.std.proofs.Common.{ap, ◌∙◌}
use Rattle.ada_static_rules.specs.ExprTypes.{unary_kind}
use Rattle.ada_static_rules.specs.Sooner.{sooner}
use Rattle.ada_expr_rules.proofs.Operands.{judged_operand}
use Rattle.ada_expr_rules.proofs.judging.judge_operand.Goals as goal

pub returns : goal.returns
returns c =
    judged_operand _ _ _ _ _ _ c.requires
    (c.kind_of_unary-kind.ensures ∙ ap (λ o. unary_kind o c.args.inner.kind) c.operand_of_one.ensures)
    c.operate_part-value.ensures
    c.raised_of.ensures
    (c.first.ensures ∙ ap (λ o. sooner o c.args.inner.parts) c.refuse_operand-own.ensures)
