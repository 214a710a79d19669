use Rattle.std.proofs.Common.{refl, map, drop}
use Rattle.ada_tree.specs.PlainExpr.{plain_expr}
use Rattle.task_waits.proofs.calls.Opening.{raises_on, raises_here, raises_none}
use Rattle.common_lemmas.proofs.Lists.{lent_at}
use Rattle.task_waits.proofs.calls.here.Here.raised_in_actuals.Goals as goal

pub returns-in-Err : goal.returns-in-Err
returns-in-Err c = raises_here c.args.self.now.links.now.types c.args.self.now.objects.now c.args.formals.now c.args.actuals.now c.loop-place.place _ _ _ c.in-Err.raised _ c.loop-place-test.true refl (lent_at c.args.actuals.now c.loop-place.place c.get.result c.get.ensures.lookup) c.in-Err.ensures c.loop-place.invariant

pub loop-place-preserved : goal.loop-place-preserved
loop-place-preserved c = raises_on c.args.self.now.links.now.types c.args.self.now.objects.now c.args.formals.now c.args.actuals.now c.loop-place.place _ _ _ c.in-Ok.field-0 _ c.loop-place-test.true refl (lent_at c.args.actuals.now c.loop-place.place c.get.result c.get.ensures.lookup) c.in-Ok.ensures c.loop-place.invariant

pub returns : goal.returns
returns c = raises_none c.args.self.now.links.now.types c.args.self.now.objects.now c.args.formals.now (drop c.loop-place.place (map plain_expr c.args.actuals.now)) c.loop-place.place _ c.loop-place-test.false c.loop-place.invariant
