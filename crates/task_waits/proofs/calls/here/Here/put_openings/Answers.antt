use Rattle.std.proofs.Common.{refl, ◌∙◌, sym, ap, map, drop}
use Rattle.ada_tree.specs.PlainExpr.{plain_expr}
use Rattle.task_model.specs.Calls.{openings}
use Rattle.task_waits.proofs.calls.Opening.{behind_values, behind_none, puts_on, puts_none, puts_all}
use Rattle.common_lemmas.proofs.Lists.{lent_at}
use Rattle.task_waits.proofs.calls.here.Here.put_openings.Goals as goal

pub loop-place-init : goal.loop-place-init
loop-place-init c =
    let all = openings c.args.self.now.links.now.types c.args.self.now.objects.now c.args.formals.now (map plain_expr c.args.actuals.now) in
    behind_none all ∙ ap (λ l. behind_values l all) (sym c.clear.ensures.items)

pub returns-in-Err-clause-ok : goal.returns-in-Err-clause-ok
returns-in-Err-clause-ok c = puts_none c.args.self.now.links.now.types c.args.self.now.objects.now c.args.formals.now c.args.actuals.now c.loop-place.place _ _ _ c.in-Err.field-0 c.loop-place.values.items _ _ c.loop-place-test.true refl (lent_at c.args.actuals.now c.loop-place.place c.get.result c.get.ensures.lookup) c.in-Err.ensures c.clear-in-Err.ensures.items c.loop-place.invariant

pub loop-place-preserved : goal.loop-place-preserved
loop-place-preserved c = puts_on c.args.self.now.links.now.types c.args.self.now.objects.now c.args.formals.now c.args.actuals.now c.loop-place.place _ _ _ c.in-Ok.value c.loop-place.values.items c.push.new.self.items _ c.loop-place-test.true refl (lent_at c.args.actuals.now c.loop-place.place c.get.result c.get.ensures.lookup) c.in-Ok.ensures c.in-Ok-push.ensures.items c.loop-place.invariant

pub returns-clause-ok : goal.returns-clause-ok
returns-clause-ok c = puts_all c.args.self.now.links.now.types c.args.self.now.objects.now c.args.formals.now (drop c.loop-place.place (map plain_expr c.args.actuals.now)) c.loop-place.place c.loop-place.values.items _ c.loop-place-test.false c.loop-place.invariant
