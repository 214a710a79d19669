use Rattle.ada_task_numbers.specs.task_objects.PlainNames.{plain_named_tasks}
use Rattle.ada_check_rules.proofs.rules.Listing.{cut}
use Rattle.ada_task_numbers.proofs.task_counts.TaskCounting.{task_turn, tasks_end}
use Rattle.ada_task_numbers.proofs.task_counts.counts.refuse_tasks.Goals as goal

pub loop-part-preserved : goal.loop-part-preserved
loop-part-preserved c = λ around same.
    task_turn c.args.by.now around c.args.types.now plain_named_tasks c.args.parts.now c.loop-part.part-index c.part-item.result _ _ _ _ _ _ same (cut c.args.parts.now c.loop-part.part-index c.part-item.result c.loop-part-test.true c.part-item.is) (c.loop-part.invariant around same) c.task_count-here.ensures c.count_on-counted.ensures.count (c.count_on-counted.ensures.refusal around)

pub returns : goal.returns
returns c = λ around same. tasks_end c.args.by.now around plain_named_tasks c.args.parts.now c.loop-part.part-index _ _ _ c.loop-part-test.false (c.loop-part.invariant around same)
