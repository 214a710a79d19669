use Rattle.std.proofs.Common.{◌≡◌, refl, true, false, map}
use Rattle.ada_tree.specs.PlainExpr.{plain_expr}
use Rattle.task_waits.proofs.calls.Returning.{copy_none, copy_past, copy_passes, copy_lacks, copy_stores, copy_stops, actual_within, actual_past, actual_here}
use Rattle.task_waits.proofs.calls.returns.copy_back.Goals as goal

pub returns-then-place-actuals : goal.returns-then-place-actuals
returns-then-place-actuals c = copy_past c.args.formals.now (map plain_expr c.args.actuals.now) c.args.values.now c.loop-place.place c.loop-place.taken c.loop-place.objects _ (actual_past c.args.actuals.now c.loop-place.place c.if-place-actuals.true) c.loop-place.invariant

pub loop-place-preserved-then-not-comes_back : goal.loop-place-preserved-then-not-comes_back
loop-place-preserved-then-not-comes_back c =
    let passes : c.comes_back.result ≡ false = cc in
    copy_passes c.args.formals.now (map plain_expr c.args.actuals.now) c.args.values.now c.loop-place.place c.loop-place.taken _ _ (plain_expr c.index-actuals-place.result) c.comes_back.result c.loop-place.objects _
    c.loop-place-test.true refl (actual_within c.args.actuals.now c.loop-place.place c.if-place-actuals.false) (actual_here c.args.actuals.now c.loop-place.place c.index-actuals-place.result c.if-place-actuals.false c.index-actuals-place.is)
    c.comes_back.ensures passes c.loop-place.invariant

pub returns-then-taken-values : goal.returns-then-taken-values
returns-then-taken-values c =
    let back : c.comes_back.result ≡ true = cc in
    copy_lacks c.args.formals.now (map plain_expr c.args.actuals.now) c.args.values.now c.loop-place.place c.loop-place.taken _ _ (plain_expr c.index-actuals-place.result) c.comes_back.result c.loop-place.objects _
    c.loop-place-test.true refl (actual_within c.args.actuals.now c.loop-place.place c.if-place-actuals.false) (actual_here c.args.actuals.now c.loop-place.place c.index-actuals-place.result c.if-place-actuals.false c.index-actuals-place.is)
    c.comes_back.ensures back c.if-taken-values.true c.loop-place.invariant

pub returns-in-Some : goal.returns-in-Some
returns-in-Some c =
    let back : c.comes_back.result ≡ true = cc in
    copy_stops c.args.formals.now (map plain_expr c.args.actuals.now) c.args.values.now c.loop-place.place c.loop-place.taken _ _ (plain_expr c.index-actuals-place.result) c.comes_back.result c.variable_of-variable.result _ _ c.in-Some.raised c.loop-place.objects c.store_back.new.objects _
    c.loop-place-test.true refl (actual_within c.args.actuals.now c.loop-place.place c.if-place-actuals.false) (actual_here c.args.actuals.now c.loop-place.place c.index-actuals-place.result c.if-place-actuals.false c.index-actuals-place.is)
    c.comes_back.ensures back c.if-taken-values.false refl c.variable_of-variable.ensures c.in-Some.ensures.raised c.in-Some.ensures.stored c.loop-place.invariant

pub loop-place-preserved : goal.loop-place-preserved
loop-place-preserved c =
    let back : c.comes_back.result ≡ true = cc in
    copy_stores c.args.formals.now (map plain_expr c.args.actuals.now) c.args.values.now c.loop-place.place c.loop-place.taken _ _ (plain_expr c.index-actuals-place.result) c.comes_back.result c.variable_of-variable.result _ _ c.loop-place.objects c.store_back.new.objects _
    c.loop-place-test.true refl (actual_within c.args.actuals.now c.loop-place.place c.if-place-actuals.false) (actual_here c.args.actuals.now c.loop-place.place c.index-actuals-place.result c.if-place-actuals.false c.index-actuals-place.is)
    c.comes_back.ensures back c.if-taken-values.false refl c.variable_of-variable.ensures c.in-None.ensures.raised c.in-None.ensures.stored c.loop-place.invariant

pub returns : goal.returns
returns c = copy_none c.args.formals.now (map plain_expr c.args.actuals.now) c.args.values.now c.loop-place.place c.loop-place.taken c.loop-place.objects _ c.loop-place-test.false c.loop-place.invariant
