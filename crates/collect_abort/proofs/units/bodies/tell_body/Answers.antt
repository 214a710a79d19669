use Rattle.std.proofs.Common.{ap, ◌∙◌}
use Rattle.ada_tree.specs.PlainStmt.{plain_body}
use Rattle.collect_model.specs.aborts.AbortTeller.{told_at}
use Rattle.collect_abort.specs.Looked.{told_of}
use Rattle.collect_abort.proofs.units.Steps.{told-body}
use Rattle.collect_abort.proofs.units.bodies.tell_body.Goals as goal

pub returns : goal.returns
returns c =
    told-body (told_of c.reporter_at.result) _ c.args.name.span (plain_body c.args.body.now) (plain_body c.abort_task.new.body) c.abort_task.result
    (c.reporter_at.ensures ∙ ap (told_at (told_of c.args.x.now)) c.task_of-task.ensures) c.abort_task.ensures
