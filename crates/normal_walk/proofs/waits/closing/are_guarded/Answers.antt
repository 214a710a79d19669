use Rattle.std.proofs.Common.{ap, option_map}
use Rattle.ada_tree.specs.PlainExpr.{plain_expr}
use Rattle.normal_walk.proofs.waits.Guarding.{guarded-turn, guarded-stop, guarded-end}
use Rattle.normal_walk.proofs.waits.closing.are_guarded.Goals as goal

pub loop-alt-preserved : goal.loop-alt-preserved
loop-alt-preserved c = guarded-turn c.args.alts.now c.loop-alt.alt-index c.alt-item.result _ _ _ c.loop-alt-test.true c.alt-item.is (ap (option_map plain_expr) c.in-Some.is) c.loop-alt.invariant

pub returns-in-None : goal.returns-in-None
returns-in-None c = guarded-stop c.args.alts.now c.loop-alt.alt-index c.alt-item.result _ _ c.loop-alt-test.true c.alt-item.is (ap (option_map plain_expr) c.in-None.is) c.loop-alt.invariant

pub returns : goal.returns
returns c = guarded-end c.args.alts.now c.loop-alt.alt-index _ c.loop-alt-test.false c.loop-alt.invariant
