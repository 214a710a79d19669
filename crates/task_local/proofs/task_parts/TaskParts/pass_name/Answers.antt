use Rattle.std.proofs.Common.{sym, subst, ◌∙◌, ◌+◌, ◌<◌, length, arith}
use Rattle.task_state.specs.Plain.{plain_task}
use Rattle.task_local.specs.room.Fitting.{HasRoom}
use Rattle.task_local.specs.inner.InOrder.{task_of}
use Rattle.task_local.proofs.Moves.{name_passed, names_within, last_passed, name_next}
use Rattle.task_local.proofs.room.Meetings.{passed_has_room}
use Rattle.task_local.proofs.task_parts.TaskParts.pass_name.Goals as goal

pub renew-requires : goal.renew-requires
renew-requires c =
    let some : 0 < length c.names_in-names.result.now = grind (arith, c.is_empty.ensures, c.if-is_empty.false) in
    let p = c.args.self.now in
    record {
      room = subst (λ t. HasRoom p.widest t) (sym (c.go_on.ensures ∙ last_passed c.names_in-names.result.now p.passed (plain_task p.state) c.names_in-names.ensures some c.if-self-names.false c.requires.within)) (passed_has_room p.widest (task_of p) c.requires.roomy.room);
      wide = c.requires.roomy.wide;
      few = c.requires.roomy.few;
    }

pub returns-then-self-names-clause-task : goal.returns-then-self-names-clause-task
returns-then-self-names-clause-task c = name_passed c.names_in-names.result.now c.args.self.now.passed (plain_task c.args.self.now.state) c.names_in-names.ensures c.if-self-names.true

pub returns-then-self-names-clause-in_order : goal.returns-then-self-names-clause-in_order
returns-then-self-names-clause-in_order c =
    let p = c.args.self.now in
    let names = c.names_in-names.result.now in
    record {
      stand = c.stand_at_name-self.ensures p.choices.items ∙ name_next names (p.passed + 1) c.index-names-self.result (plain_task p.state) c.names_in-names.ensures c.if-self-names.true c.index-names-self.is;
      within = names_within names p.passed (plain_task p.state) c.names_in-names.ensures c.if-self-names.true;
      roomy = record {
        room = subst (λ t. HasRoom p.widest t) (sym (name_passed names p.passed (plain_task p.state) c.names_in-names.ensures c.if-self-names.true)) (passed_has_room p.widest (task_of p) c.requires.roomy.room);
        wide = c.requires.roomy.wide;
        few = c.requires.roomy.few;
      };
    }

pub returns-else-self-names-clause-task : goal.returns-else-self-names-clause-task
returns-else-self-names-clause-task c =
    let some : 0 < length c.names_in-names.result.now = grind (arith, c.is_empty.ensures, c.if-is_empty.false) in
    let p = c.args.self.now in
    c.renew.ensures.task ∙ c.go_on.ensures ∙ last_passed c.names_in-names.result.now p.passed (plain_task p.state) c.names_in-names.ensures some c.if-self-names.false c.requires.within
