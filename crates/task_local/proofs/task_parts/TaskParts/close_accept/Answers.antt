use Rattle.std.proofs.Common.{sym, ap, subst, ◌∙◌}
use Rattle.task_state.specs.Plain.{plain_task}
use Rattle.task_model.specs.Rendezvous.{finished}
use Rattle.task_model.specs.Stands.{offer_of}
use Rattle.task_local.specs.room.Fitting.{HasRoom}
use Rattle.task_local.proofs.room.Meetings.{finished_has_room}
use Rattle.task_local.specs.inner.InOrder.{task_of}
use Rattle.task_local.proofs.Names.{finish_alike}
use Rattle.task_local.proofs.task_parts.TaskParts.close_accept.Goals as goal

pub close_accept-requires : goal.close_accept-requires
close_accept-requires c = ap offer_of (sym (finish_alike c.args.self.now.passed (plain_task c.args.self.now.state) c.requires.finishes)) ∙ c.requires.finishes

pub renew-requires : goal.renew-requires
renew-requires c =
    let p = c.args.self.now in
    record {
      room = subst (λ t. HasRoom p.widest t) (ap finished (finish_alike p.passed (plain_task p.state) c.requires.finishes) ∙ sym c.close_accept.ensures) (finished_has_room p.widest (task_of p) c.requires.in_order.roomy.room);
      wide = c.requires.in_order.roomy.wide;
      few = c.requires.in_order.roomy.few;
    }

pub returns-clause-task : goal.returns-clause-task
returns-clause-task c =
    let p = c.args.self.now in
    c.renew.ensures.task ∙ c.close_accept.ensures ∙ ap finished (sym (finish_alike p.passed (plain_task p.state) c.requires.finishes))
