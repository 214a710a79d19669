use Rattle.std.proofs.Common.{ap, ◌∙◌}
use Rattle.ada_static_rules.specs.ExprTypes.{binary_kind}
use Rattle.ada_static_rules.specs.Sooner.{sooner}
use Rattle.ada_expr_rules.specs.Judged.{raised_where}
use Rattle.ada_expr_rules.proofs.Operands.{judged_operands}
use Rattle.ada_expr_rules.proofs.judging.judge_operands.Goals as goal

pub returns : goal.returns
returns c =
    judged_operands _ _ _ _ _ _ _ _ c.requires.left c.requires.right
    (c.kind_of_binary-kind.ensures ∙ ap (λ o. binary_kind o c.args.left.kind c.args.right.kind) c.operand_of.ensures)
    c.operate_both-value.ensures
    (c.raised_of.ensures ∙ ap (raised_where c.kind_of_binary-kind.result c.operate_both-value.result) c.first.ensures)
    (c.first-3.ensures ∙ ap (sooner c.refuse_operands-own.result) c.first-2.ensures ∙ ap (λ o. sooner o (sooner c.args.left.parts c.args.right.parts)) c.refuse_operands-own.ensures)
