use Rattle.std.proofs.Common.{map, arith}
use Rattle.ada_tree.specs.PlainStmt.{plain_case_arm}
use Rattle.collect_abort.proofs.Counted.{aborts-turn}
use Rattle.collect_abort.proofs.recorder.aborts.put_aborts.Goals as goal

pub loop-info-preserved : goal.loop-info-preserved
loop-info-preserved c = record {
  arms = aborts-turn c.args.s c.args.infos.now c.loop-info.info-index c.loop-info.task _ (map plain_case_arm c.args.out.now.items) (map plain_case_arm c.loop-info.out.items) (map plain_case_arm c.put_abort.new.out.items) c.loop-info-test.true c.loop-info.invariant.arms c.loop-info.invariant.task c.in_ok-put_abort.ensures;
  task = let step = c.in_ok-task.ensures in let so_far = c.loop-info.invariant.task in omega (arith, step, so_far);
}
