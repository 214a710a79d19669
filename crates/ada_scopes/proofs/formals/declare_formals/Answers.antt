use Rattle.ada_scopes.proofs.Inner.{group_declared}
use Rattle.ada_scopes.proofs.formals.declare_formals.Goals as goal

pub loop-formal-preserved : goal.loop-formal-preserved
loop-formal-preserved c =
    group_declared _ _ _ _ c.args.formals.now _ c.formal-item.result _ c.loop-formal-test.true c.formal-item.is c.in_ok-declare_group.ensures c.deref.ensures.value (c.formal_mark-mark.ensures c.formal-item.result.mode) c.loop-formal.invariant
