use Rattle.ada_tree.specs.PlainStmt.{seen}
use Rattle.normal_calls.proofs.Ending.{abort-turn, abort-end}
use Rattle.normal_calls.proofs.aborts.push_each.Goals as goal

pub loop-callee-preserved : goal.loop-callee-preserved
loop-callee-preserved g c =
    abort-turn (g.M.Meanings.setting c.args.m.now) c.args.span c.args.callees.now c.loop-callee.callee-index c.loop-callee.next c.in_ok-next.next c.callee-item.result _ (seen c.loop-callee.out.items) (seen c.push_abort.new.out.items) _
    c.loop-callee-test.true c.callee-item.is c.in_ok-next.ensures c.in_ok-push_abort.ensures c.loop-callee.invariant

pub returns : goal.returns
returns g c = abort-end (g.M.Meanings.setting c.args.m.now) c.args.span c.args.callees.now c.loop-callee.callee-index c.loop-callee.next (seen c.loop-callee.out.items) _ c.loop-callee-test.false c.loop-callee.invariant
