use Rattle.task_local.proofs.rendezvous.Comparing.{differs_here}
use Rattle.task_local.proofs.rendezvous.conforming.are_same.Goals as goal

pub returns-in-None : goal.returns-in-None
returns-in-None c =
    differs_here
    c.args.links.now.types
    c.args.formals.now
    c.loop-formal.formal-index
    c.formal-item.result
    c.deref.result.now
    c.limits_named-limits.result
    c.loop-formal.rest.now
    _
    c.loop-formal-test.true
    c.formal-item.is
    c.deref.ensures.value
    c.limits_named-limits.ensures
    c.in-None.ensures
    c.loop-formal.invariant
