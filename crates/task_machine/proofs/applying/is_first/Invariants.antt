use Rattle.std.proofs.Common.{◌≡◌, drop, [], filter}
use Rattle.event_machine.specs.Applying.{queues_at}
use Rattle.task_model.specs.TaskOps.{task_ops}
use Rattle.task_machine.specs.Table.{seen_in}
use Rattle.task_machine.proofs.applying.is_first.Given as goal

-- nobody gone by stands in the queue
abbrev pub invariant-loop-x : goal.invariant-loop-x
invariant-loop-x l =
    filter (queues_at task_ops (seen_in l.seats []) l.e l.i) l.line
    ≡ filter (queues_at task_ops (seen_in l.seats []) l.e l.i) (drop l.x-index l.line)
