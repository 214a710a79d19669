use Rattle.std.proofs.Common.{◌≡◌, Ok, Err}
use Rattle.ada_tree.specs.PlainStmt.{plain_target}
use Rattle.ada_value.specs.Variables.{checked_for}
use Rattle.task_model.specs.Steps.{target_object}
use Rattle.task_state.specs.Plain.{plain_task}
use Rattle.task_steps.proofs.MoveLemmas.{stored_well, stored_ill}
use Rattle.task_steps.proofs.assigning.store.Goals as goal

pub returns-in-Ok : goal.returns-in-Ok
returns-in-Ok c =
    let fits : checked_for (target_object (plain_task c.args.task.now) (plain_target c.args.target.now)) c.args.value ≡ Ok c.in-Ok.value = cc in
    stored_well
    (plain_task c.args.task.now)
    (plain_task c.set.new.self)
    (plain_task c.go_on.new.self)
    (plain_target c.args.target.now)
    c.args.place
    c.args.value
    c.in-Ok.value
    fits
    c.set.ensures
    c.go_on.ensures

pub returns-in-Err : goal.returns-in-Err
returns-in-Err c =
    let misfits : checked_for (target_object (plain_task c.args.task.now) (plain_target c.args.target.now)) c.args.value ≡ Err c.in-Err.raised = cc in
    stored_ill
    (plain_task c.args.task.now)
    (plain_task c.raise.new.self)
    (plain_target c.args.target.now)
    c.args.place
    c.args.value
    c.in-Err.raised
    misfits
    c.raise.ensures
