use Rattle.std.proofs.Common.{ap, ◌∙◌, not}
use Rattle.event_machine.specs.Applying.{has_no_caller}
use Rattle.task_model.specs.TaskOps.{task_ops}
use Rattle.task_machine.specs.Table.{seen_in}
use Rattle.task_machine.proofs.applying.has_no_caller.Goals as goal

pub returns-in-Wait : goal.returns-in-Wait
returns-in-Wait c = ap not c.some_has_caller.ensures ∙ ap (has_no_caller task_ops (seen_in c.args.seats.now c.args.line.now)) c.in-Wait.ensures
