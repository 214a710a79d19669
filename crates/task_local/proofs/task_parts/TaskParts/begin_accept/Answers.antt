use Rattle.std.proofs.Common.{sym, subst, ◌∙◌}
use Rattle.task_state.specs.Plain.{plain_task}
use Rattle.task_local.specs.room.Fitting.{HasRoom}
use Rattle.task_local.proofs.room.Opened.{alternative_has_room}
use Rattle.task_local.specs.inner.InOrder.{task_of}
use Rattle.task_local.proofs.Names.{opened_alike}
use Rattle.task_local.proofs.task_parts.TaskParts.begin_accept.Goals as goal

pub renew-requires : goal.renew-requires
renew-requires c =
    let p = c.args.self.now in
    let member = c.args.member in
    record {
      room = subst (λ t. HasRoom p.widest t) (opened_alike p.passed (plain_task p.state) member.entry member.index c.args.caller c.args.formals.now ∙ sym c.in_ok-open_accept.ensures.ok) (alternative_has_room p.widest c.args.caller member.entry member.index c.args.formals.now (task_of p) c.requires.roomy.room);
      wide = c.requires.roomy.wide;
      few = c.requires.roomy.few;
    }

pub returns-clause-ok : goal.returns-clause-ok
returns-clause-ok c =
    let p = c.args.self.now in
    let member = c.args.member in
    c.renew.ensures.task ∙
    c.in_ok-open_accept.ensures.ok ∙
    sym (opened_alike p.passed (plain_task p.state) member.entry member.index c.args.caller c.args.formals.now)
