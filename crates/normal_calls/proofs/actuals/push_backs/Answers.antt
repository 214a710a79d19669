use Rattle.std.proofs.Common.{None, Some, refl}
use Rattle.ada_tree.specs.PlainStmt.{seen}
use Rattle.normal_model.specs.Calls.{actual_behind}
use Rattle.normal_calls.proofs.Around.{each-turn, each-past, each-end}
use Rattle.common_lemmas.proofs.Lists.{lent_at}
use Rattle.normal_calls.proofs.actuals.push_backs.Goals as goal

pub returns-in-None : goal.returns-in-None
returns-in-None g c = each-past (actual_behind (g.M.Meanings.setting c.args.m.now) c.args.span) c.args.modes.now c.args.actuals.now c.args.number c.loop-place.place (seen c.loop-place.out.items) _ (lent_at c.args.actuals.now c.loop-place.place None c.in-None.ensures.lookup) c.loop-place.invariant

pub loop-place-preserved : goal.loop-place-preserved
loop-place-preserved g c =
    each-turn (actual_behind (g.M.Meanings.setting c.args.m.now) c.args.span) c.args.modes.now c.args.actuals.now c.args.number c.loop-place.place c.in_ok-own-in-Some.own _ _ c.in-Some.actual.now (seen c.loop-place.out.items) (seen c.push_back.new.out.items) _
    c.loop-place-test.true refl (lent_at c.args.actuals.now c.loop-place.place (Some c.in-Some.actual) c.in-Some.ensures.lookup) c.in_ok-own-in-Some.ensures c.in_ok-push_back-in-Some.ensures c.loop-place.invariant

pub returns : goal.returns
returns g c = each-end (actual_behind (g.M.Meanings.setting c.args.m.now) c.args.span) c.args.modes.now c.args.actuals.now c.args.number c.loop-place.place (seen c.loop-place.out.items) _ c.loop-place-test.false c.loop-place.invariant
