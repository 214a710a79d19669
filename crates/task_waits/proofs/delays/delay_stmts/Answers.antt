use Rattle.std.proofs.Common.{refl, arith}
use Rattle.ada_tree.specs.PlainStmt.{seen}
use Rattle.task_waits.proofs.Opens.{delay_more, delay_found, delay_none}
use Rattle.task_waits.proofs.delays.delay_stmts.Goals as goal

pub loop-alt-preserved : goal.loop-alt-preserved
loop-alt-preserved c = record {
  few = omega (arith, c.loop-alt.invariant.few, c.delays_with-delays.ensures.few);
  left = delay_more c.args.alts.now c.loop-alt.alt-index c.loop-alt.delays c.args.k _ c.alt-item.result _ _ c.loop-alt-test.true c.alt-item.is c.in-None.ensures refl c.delays_with-delays.ensures.count c.loop-alt.invariant.left;
}

pub returns-in-Some : goal.returns-in-Some
returns-in-Some c = delay_found c.args.alts.now c.loop-alt.alt-index c.loop-alt.delays c.args.k c.alt-item.result (seen c.in-Some.stmts.now) _ c.loop-alt-test.true c.alt-item.is c.in-Some.ensures c.loop-alt.invariant.left

pub returns : goal.returns
returns c = delay_none c.args.alts.now c.loop-alt.alt-index c.loop-alt.delays c.args.k _ c.loop-alt-test.false c.loop-alt.invariant.left
