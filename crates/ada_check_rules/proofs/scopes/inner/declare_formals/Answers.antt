use Rattle.ada_check_rules.proofs.scopes.Leaving.{formal_more}
use Rattle.ada_check_rules.proofs.scopes.inner.declare_formals.Goals as goal

pub loop-formal-preserved : goal.loop-formal-preserved
loop-formal-preserved c =
    formal_more _ _ _ c.args.formals.now c.loop-formal.formal-index c.formal-item.result _ c.loop-formal-test.true c.formal-item.is c.loop-formal.invariant c.in_ok-declare_inner.ensures c.deref.ensures.value
