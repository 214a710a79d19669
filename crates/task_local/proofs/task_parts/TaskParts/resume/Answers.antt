use Rattle.std.proofs.Common.{sym, subst, ◌∙◌}
use Rattle.task_state.specs.Plain.{plain_task}
use Rattle.task_local.specs.room.Fitting.{HasRoom}
use Rattle.task_local.proofs.room.Meetings.{returned_has_room}
use Rattle.task_local.specs.inner.InOrder.{task_of}
use Rattle.task_local.proofs.Names.{returned_alike}
use Rattle.task_local.proofs.task_parts.TaskParts.resume.Goals as goal

pub renew-requires : goal.renew-requires
renew-requires c =
    let p = c.args.self.now in
    record {
      room = subst (λ t. HasRoom p.widest t) (returned_alike p.passed (plain_task p.state) c.args.finals.now ∙ sym c.come_back.ensures) (returned_has_room p.widest c.args.finals.now (task_of p) c.requires.in_order.roomy.room);
      wide = c.requires.in_order.roomy.wide;
      few = c.requires.in_order.roomy.few;
    }

pub returns-clause-task : goal.returns-clause-task
returns-clause-task c =
    let p = c.args.self.now in
    c.renew.ensures.task ∙ c.come_back.ensures ∙ sym (returned_alike p.passed (plain_task p.state) c.args.finals.now)
