use Rattle.std.proofs.Common.{◌∙◌}
use Rattle.task_model.specs.Waits.{alternative_for}
use Rattle.task_state.specs.Plain.{plain_task}
use Rattle.task_waits.specs.Standing.{plain_parts}
use Rattle.task_local.proofs.rendezvous.Bodies.{opens_alternative}
use Rattle.common_lemmas.proofs.Results.{on_ok}
use Rattle.task_local.proofs.rendezvous.opening.open_accept.Goals as goal

pub returns-in-Some-clause-ok : goal.returns-in-Some-clause-ok
returns-in-Some-clause-ok c =
    let t = plain_task c.args.task.now in
    on_ok c.open_body.result
    (λ opens.
    opens
    ∙ opens_alternative c.args.caller (alternative_for t c.args.member.entry c.args.member.index) c.args.values.now t (plain_parts c.accepting-parts.result) c.in-Some.formals.now
    c.accepting-parts.ensures
    c.in-Some.ensures)
    c.open_body.ensures.ok
