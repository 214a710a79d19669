use Rattle.std.proofs.Common.{[], ◌∷◌}
use Rattle.syn_event.specs.AddedNames.{task_info}
use Rattle.ada_task_numbers.specs.task_objects.PlainNames.{plain_named_tasks}
use Rattle.ada_task_numbers.proofs.TasksNumbered.{part_tasks, part_entries}
use Rattle.ada_task_numbers.proofs.numbers.numbers_for.Goals as goal

pub loop-part-preserved : goal.loop-part-preserved
loop-part-preserved c = record {
  tasks = part_tasks c.args.p.now.names c.args.types.now plain_named_tasks c.deref-part-items.result.now c.loop-part.part-index c.part-item.result c.part-item.result (task_info c.args.p.now.names c.args.p.now.name.name ∷ []) _ _ c.loop-part-test.true c.part-item.is c.loop-part.invariant.tasks c.in_ok-push_tasks.ensures.tasks;
  entries = part_entries c.args.p.now.names c.args.types.now plain_named_tasks c.deref-part-items.result.now c.loop-part.part-index c.part-item.result c.part-item.result (task_info c.args.p.now.names c.args.p.now.name.name ∷ []) _ _ _ c.loop-part-test.true c.part-item.is c.loop-part.invariant.tasks c.loop-part.invariant.entries c.in_ok-push_tasks.ensures.entries;
}
