use Rattle.task_machine.specs.Table.{applies_in, seen_in}
use Rattle.task_machine.proofs.Filtered.{actions_more}
use Rattle.task_machine.proofs.listing.list_tasks.Goals as goal

pub loop-t-preserved : goal.loop-t-preserved
loop-t-preserved c =
    actions_more (applies_in c.args.numbers.now c.args.seats.now c.args.line.now) (seen_in c.args.seats.now c.args.line.now) c.args.out.now.items
    c.loop-t.out.items c.list_task.new.out.items c.loop-t.t c.loop-t.invariant c.in_ok-list_task.ensures
