use Rattle.std.proofs.Common.{◌∙◌, refl, arith}
use Rattle.task_waits.proofs.calls.Returning.{opens_one, opens_none, opens_first, opens_whole}
use Rattle.common_lemmas.proofs.Lists.{lent_at}
use Rattle.task_waits.proofs.calls.formals.open_formals.Goals as goal

pub loop-done-init : goal.loop-done-init
loop-done-init c = opens_first c.args.types.now c.args.formals.now c.args.values.now _ c.args.objects.now (omega arith)

pub returns-in-Err-clause-err : goal.returns-in-Err-clause-err
returns-in-Err-clause-err c =
    opens_none c.args.types.now c.args.formals.now c.args.values.now c.loop-done.done c.args.objects.now c.open_formal.new.objects c.leave.new.self (omega arith)
    (c.in-Err.ensures.err ∙ c.loop-done.invariant) c.leave.ensures

pub loop-done-preserved : goal.loop-done-preserved
loop-done-preserved c =
    opens_one c.args.types.now c.args.formals.now c.args.values.now c.loop-done.done _ _ _ _ c.value_or_lower-value.result c.args.objects.now c.loop-done.objects c.open_formal.new.objects c.loop-done-test.true refl refl
    c.value_or_lower-value.ensures (lent_at c.args.values.now _ c.get.result c.get.ensures.lookup)
    c.loop-done.invariant c.in-Ok.ensures.ok

pub returns-clause-ok : goal.returns-clause-ok
returns-clause-ok c = c.loop-done.invariant ∙ opens_whole c.args.types.now c.args.formals.now c.args.values.now _ c.args.objects.now (omega arith)
