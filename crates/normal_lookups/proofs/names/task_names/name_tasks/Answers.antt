use Rattle.normal_lookups.proofs.names.Naming.{rest_stays, ids_more}
use Rattle.std.proofs.Common.{◌∙◌}
use Rattle.normal_lookups.proofs.names.task_names.name_tasks.Goals as goal

pub loop-info-preserved : goal.loop-info-preserved
loop-info-preserved c =
    let rest = rest_stays c.args.old.now c.loop-info.names c.name_task.new.names c.args.tasks.now c.loop-info.info-index _ c.loop-info-test.true c.in_ok-id.ensures.texts c.loop-info.invariant.rest in
    record {
      rest = rest;
      ids = c.in_ok-push.ensures.items ∙ ids_more c.args.old.now c.name_task.new.names c.args.tasks.now c.loop-info.info-index _ c.in_ok-id.id _ c.loop-info-test.true c.in_ok-id.ensures.id rest c.loop-info.invariant.ids;
    }
