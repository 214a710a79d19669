use Rattle.std.proofs.Common.{◌≡◌, ◌+◌, arith}
use Rattle.table_control.proofs.Lists.{arms-more}
use Rattle.table_control.proofs.turns.put_join_arms.Goals as goal

pub loop-info-preserved : goal.loop-info-preserved
loop-info-preserved c = record {
  task = omega arith;
  arms =
      arms-more c.args.n.now c.args.s c.loop-info.task c.args.infos.now c.loop-info.info-index _ c.loop-info.out.items c.push_case_arm.new.list.items c.join_arm.result _ c.loop-info-test.true c.in_ok-push_case_arm.ensures
      c.join_arm.ensures c.loop-info.invariant.arms;
}
