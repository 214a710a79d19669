use Rattle.std.proofs.Common.{◌∙◌, sym}
use Rattle.task_model.specs.Rendezvous.{behind_of}
use Rattle.task_state.specs.Plain.{plain_task}
use Rattle.task_steps.proofs.StandLemmas.{abort_steps, abort_passes, abort_waits, abort_keeps}
use Rattle.task_steps.proofs.steps.step_abort.Goals as goal

pub returns-then-is_empty-clause-answer : goal.returns-then-is_empty-clause-answer
returns-then-is_empty-clause-answer c = abort_steps (plain_task c.args.task.now) c.args.names.now (sym c.if-is_empty.ensures)

pub returns-then-is_empty-clause-step : goal.returns-then-is_empty-clause-step
returns-then-is_empty-clause-step c =
    c.go_on.ensures ∙ abort_passes (plain_task c.args.task.now) c.args.names.now (behind_of (plain_task c.args.task.now)) (sym c.if-is_empty.ensures)

pub returns-clause-answer : goal.returns-clause-answer
returns-clause-answer c = abort_waits (plain_task c.args.task.now) c.args.names.now (sym c.if-is_empty.ensures)

pub returns-clause-step : goal.returns-clause-step
returns-clause-step c = abort_keeps (plain_task c.args.task.now) c.args.names.now (behind_of (plain_task c.args.task.now)) (sym c.if-is_empty.ensures)
