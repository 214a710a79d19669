use Rattle.std.proofs.Common.{option_map}
use Rattle.ada_tree.specs.PlainExpr.{plain_expr}
use Rattle.normal_walk.proofs.waits.Guarding.{test-turn, test-end}
use Rattle.normal_walk.proofs.waits.closing.put_test.Goals as goal

pub loop-alt-preserved : goal.loop-alt-preserved
loop-alt-preserved c =
    test-turn c.args.span c.args.alts.now c.loop-alt.alt-index c.alt-item.result _ (option_map plain_expr c.loop-alt.test) (option_map plain_expr c.put_guard.new.test) _
    c.loop-alt-test.true c.alt-item.is c.in_ok-put_guard.ensures c.loop-alt.invariant

pub returns : goal.returns
returns c = test-end c.args.span c.args.alts.now c.loop-alt.alt-index (option_map plain_expr c.loop-alt.test) _ c.loop-alt-test.false c.loop-alt.invariant
