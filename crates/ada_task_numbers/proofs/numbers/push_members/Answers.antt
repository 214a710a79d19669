use Rattle.ada_task_numbers.specs.task_objects.PlainNames.{plain_named_tasks}
use Rattle.ada_task_numbers.proofs.TasksNumbered.{member_tasks, member_entries}
use Rattle.ada_task_numbers.proofs.numbers.push_members.Goals as goal

pub loop-step-preserved : goal.loop-step-preserved
loop-step-preserved c = record {
  tasks = member_tasks c.args.names.now c.args.types.now (plain_named_tasks c.args.part.now) _ c.loop-step.step _ c.args.tasks.now.items c.loop-step.tasks.items c.push_task.new.tasks.items c.in_ok-index.ensures c.loop-step.invariant.tasks c.in_ok-push_task.ensures.tasks;
  entries = member_entries c.args.names.now c.args.types.now (plain_named_tasks c.args.part.now) _ c.loop-step.step _ c.args.tasks.now.items c.loop-step.tasks.items c.args.entries.now.items c.loop-step.entries.items c.push_task.new.entries.items c.in_ok-index.ensures c.loop-step.invariant.tasks c.loop-step.invariant.entries c.in_ok-push_task.ensures.entries;
}
