use Rattle.std.proofs.Common.{◌≡◌, ◌∙◌, ap, ◌++◌}
use Rattle.ada_tree.specs.PlainStmt.{seen}
use Rattle.task_model.specs.Calls.{opened_objects}
use Rattle.task_state.specs.Plain.{plain_task}
use Rattle.task_local.proofs.rendezvous.Bodies.{opens_from, formals_left}
use Rattle.task_local.proofs.rendezvous.opening.open_body.Goals as goal

pub returns-in-Ok-clause-ok : goal.returns-in-Ok-clause-ok
returns-in-Ok-clause-ok c =
    let s = c.args.task.now in
    opens_from s c.open.new.self c.open_formals.new.objects c.args.caller c.args.formals.now (seen c.args.parts.body.now) (seen c.args.parts.behind.now) c.args.values.now
    (c.in_ok-open_formals.ensures.ok
    ∙ ap (λ types. opened_objects types c.args.formals.now c.args.values.now ++ s.objects) (c.types-2.ensures ∙ c.types.ensures))
    c.in-Ok.ensures.ok

pub returns-in-Err-clause-err : goal.returns-in-Err-clause-err
returns-in-Err-clause-err c =
    let s = c.args.task.now in
    let left : c.leave.new.self ≡ s.objects =
    formals_left c.types-2.result.now c.args.formals.now c.args.values.now s.objects c.open_formals.new.objects c.leave.new.self c.in_ok-open_formals.ensures.ok c.leave.ensures in
    let before = c.in-Err.ensures.err in
    λ k. plain_task (record s { frames = before k; objects = left k })
