use Rattle.std.proofs.Common.{◌≡◌, true, pred}
use Rattle.event_machine.specs.Applying.{others_can_end}
use Rattle.task_model.specs.TaskOps.{task_ops}
use Rattle.task_machine.specs.Table.{seen_in}
use Rattle.task_machine.proofs.applying.others_can_end.Given as goal

-- all tasks gone by can end
abbrev pub invariant-loop-t : goal.invariant-loop-t
invariant-loop-t l = others_can_end task_ops (seen_in l.seats l.line) (pred l.t) ≡ true
