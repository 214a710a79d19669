use Rattle.std.proofs.Common.{ap, ◌∙◌}
use Rattle.ada_tree.specs.Attributes.{attribute_of}
use Rattle.ada_static_rules.specs.Scope.{scalar_kind}
use Rattle.ada_static_rules.specs.ExprTypes.{attribute_kind}
use Rattle.ada_static_rules.specs.Sooner.{sooner}
use Rattle.ada_expr_rules.proofs.Operands.{judged_attribute}
use Rattle.ada_expr_rules.proofs.judging.judge_attribute.Goals as goal

pub returns : goal.returns
returns c =
    judged_attribute _ _ _ _ _ _ _ c.requires
    (c.kind_of_attribute-kind.ensures
    ∙ ap (λ a. attribute_kind a c.kind_of_mark-mark.result c.args.inner.kind) c.attribute_named.ensures
    ∙ ap (λ o. attribute_kind (attribute_of c.args.words.1.name) o c.args.inner.kind) (c.kind_of_mark-mark.ensures ∙ ap scalar_kind c.mark_named.ensures))
    c.attribute_of_part-value.ensures
    c.raised_of.ensures
    (c.first.ensures ∙ ap (λ o. sooner o c.args.inner.parts) c.refuse_attribute-own.ensures)
