use Rattle.std.proofs.Common.{subst, ◌∙◌}
use Rattle.ada_tree.specs.PlainExpr.{plain_subind}
use Rattle.ada_decl_rules.proofs.objects.Planning.{IsPlainMark, no_other, plain_planned}
use Rattle.ada_decl_rules.proofs.objects.plans.plan_plain.Goals as goal

pub returns-in-Scalar : goal.returns-in-Scalar
returns-in-Scalar c =
    plain_planned c.args.scope.now (plain_subind c.args.subind.now) c.args.making c.scalar_holder.result _
    (subst IsPlainMark c.mark_named.ensures (no_other c.mark_named.result c.in-Scalar.is))
    c.requires.made (c.range_made-in-Scalar.ensures ∙ c.requires.range) c.scalar_holder.ensures
