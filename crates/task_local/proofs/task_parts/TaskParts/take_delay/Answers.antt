use Rattle.std.proofs.Common.{sym, ap, subst, ◌∙◌}
use Rattle.task_state.specs.Plain.{plain_task}
use Rattle.task_model.specs.Rendezvous.{took_delay}
use Rattle.task_local.specs.room.Fitting.{HasRoom}
use Rattle.task_local.proofs.room.Meetings.{delay_has_room}
use Rattle.task_local.specs.inner.InOrder.{task_of}
use Rattle.task_local.proofs.Moves.{not_passed, delay_stays}
use Rattle.task_local.proofs.task_parts.TaskParts.take_delay.Goals as goal

pub renew-requires : goal.renew-requires
renew-requires c =
    let p = c.args.self.now in
    record {
      room = subst (λ t. HasRoom p.widest t) (ap (took_delay c.args.k) (not_passed p.passed (plain_task p.state) c.if-self-eq0.true) ∙ sym c.take_delay.ensures) (delay_has_room p.widest c.args.k (task_of p) c.requires.in_order.roomy.room);
      wide = c.requires.in_order.roomy.wide;
      few = c.requires.in_order.roomy.few;
    }

pub returns-then-self-eq0-clause-task : goal.returns-then-self-eq0-clause-task
returns-then-self-eq0-clause-task c =
    let p = c.args.self.now in
    c.renew.ensures.task ∙ c.take_delay.ensures ∙ ap (took_delay c.args.k) (sym (not_passed p.passed (plain_task p.state) c.if-self-eq0.true))

pub returns-else-self-eq0-clause-task : goal.returns-else-self-eq0-clause-task
returns-else-self-eq0-clause-task c = delay_stays c.args.k c.args.self.now.passed (plain_task c.args.self.now.state) c.if-self-eq0.false c.requires.in_order.within
