use Rattle.task_links.proofs.FormalsLemmas.{formal_step}
use Rattle.task_links.proofs.formals.parameters_of.Goals as goal

pub loop-formal-preserved : goal.loop-formal-preserved
loop-formal-preserved c =
    formal_step c.args.names.now c.loop-formal.parameters.items c.add_group.new.parameters.items c.args.formals.now c.loop-formal.formal-index c.formal-item.result _ c.limits_named-limits.result
    c.loop-formal-test.true c.formal-item.is c.deref.ensures.value c.limits_named-limits.ensures c.loop-formal.invariant c.in_ok-add_group.ensures
