use Rattle.std.proofs.Common.{subst, ◌∙◌}
use Rattle.ada_tree.specs.PlainExpr.{plain_subind, plain_drange}
use Rattle.ada_decl_rules.proofs.objects.Planning.{IsNoTask, no_task, array_planned}
use Rattle.ada_decl_rules.proofs.objects.plans.plan_array.Goals as goal

pub returns-in-Array : goal.returns-in-Array
returns-in-Array c =
    array_planned c.args.scope.now (plain_drange c.args.index.now) (plain_subind c.args.part.now) c.args.range c.args.making c.array_holder.result _
    (subst IsNoTask c.mark_named.ensures (no_task c.mark_named.result c.in-Array.is))
    c.requires.index c.requires.made (c.range_made.ensures ∙ c.requires.range) c.array_holder.ensures
