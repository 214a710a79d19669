use Rattle.normal_lookups.proofs.meanings.Keeping.{task_step}
use Rattle.normal_lookups.proofs.meanings.array_members.keep_tasks.Goals as goal

pub loop-place-preserved : goal.loop-place-preserved
loop-place-preserved c =
    task_step c.args.lookups.now c.args.tasks.now c.loop-place.place _ c.loop-place.members c.keep_task.new.members c.loop-place-test.true c.loop-place.invariant c.in_ok-keep_task.ensures
