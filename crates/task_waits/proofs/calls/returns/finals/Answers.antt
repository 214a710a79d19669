use Rattle.std.proofs.Common.{refl, sym, ap, ◌++◌}
use Rattle.task_model.specs.Calls.{finals_in}
use Rattle.task_links.specs.store.Plain.{plain_variable}
use Rattle.task_waits.proofs.calls.Returning.{finals_on, finals_past, finals_all}
use Rattle.task_waits.proofs.calls.returns.finals.Goals as goal

pub loop-place-init : goal.loop-place-init
loop-place-init c = ap (λ l. l ++ finals_in c.args.formals.now c.args.objects.now) (sym c.clear.ensures.items)

pub loop-place-preserved : goal.loop-place-preserved
loop-place-preserved c = finals_on c.args.formals.now c.args.objects.now c.loop-place.place _ _ (plain_variable c.in-Some.variable) c.loop-place.values.items c.put_final.new.values.items _ c.loop-place-test.true refl c.in-Some.ensures c.in-Ok.ensures c.loop-place.invariant

pub returns-in-None-clause-ok : goal.returns-in-None-clause-ok
returns-in-None-clause-ok c = finals_past c.args.formals.now c.args.objects.now c.loop-place.place c.loop-place.values.items _ c.in-None.ensures c.loop-place.invariant

pub returns-clause-ok : goal.returns-clause-ok
returns-clause-ok c = finals_all c.args.formals.now c.args.objects.now c.loop-place.place c.loop-place.values.items _ c.loop-place-test.false c.loop-place.invariant
