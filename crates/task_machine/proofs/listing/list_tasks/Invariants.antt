use Rattle.std.proofs.Common.{◌≡◌, ◌++◌, filter}
use Rattle.event_machine.specs.Applying.{actions_below}
use Rattle.task_model.specs.TaskOps.{task_ops}
use Rattle.task_machine.specs.Table.{applies_in, seen_in}
use Rattle.task_machine.proofs.listing.list_tasks.Given as goal

-- the actions of the tasks gone by are appended
abbrev pub invariant-loop-t : goal.invariant-loop-t
invariant-loop-t l =
    l.out.items ≡ l.initial.out.items ++ filter (applies_in l.numbers l.seats l.line) (actions_below task_ops (seen_in l.seats l.line) l.t)
