use Rattle.std.proofs.Common.{sym, ap, subst, ◌∙◌}
use Rattle.task_state.specs.Plain.{plain_task}
use Rattle.task_model.specs.Rendezvous.{took_else}
use Rattle.task_local.specs.room.Fitting.{HasRoom}
use Rattle.task_local.proofs.room.Meetings.{else_has_room}
use Rattle.task_local.specs.inner.InOrder.{task_of}
use Rattle.task_local.proofs.Moves.{not_passed, else_stays}
use Rattle.task_local.proofs.task_parts.TaskParts.take_else.Goals as goal

pub renew-requires : goal.renew-requires
renew-requires c =
    let p = c.args.self.now in
    record {
      room = subst (λ t. HasRoom p.widest t) (ap took_else (not_passed p.passed (plain_task p.state) c.if-self-eq0.true) ∙ sym c.take_else.ensures) (else_has_room p.widest (task_of p) c.requires.in_order.roomy.room);
      wide = c.requires.in_order.roomy.wide;
      few = c.requires.in_order.roomy.few;
    }

pub returns-then-self-eq0-clause-task : goal.returns-then-self-eq0-clause-task
returns-then-self-eq0-clause-task c =
    let p = c.args.self.now in
    c.renew.ensures.task ∙ c.take_else.ensures ∙ ap took_else (sym (not_passed p.passed (plain_task p.state) c.if-self-eq0.true))

pub returns-else-self-eq0-clause-task : goal.returns-else-self-eq0-clause-task
returns-else-self-eq0-clause-task c = else_stays c.args.self.now.passed (plain_task c.args.self.now.state) c.if-self-eq0.false c.requires.in_order.within
