use Rattle.std.proofs.Common.{sym, subst, ap, ◌∙◌}
use Rattle.task_state.specs.Plain.{plain_task}
use Rattle.task_waits.specs.Standing.{stand_as}
use Rattle.task_local.specs.room.Fitting.{HasRoom}
use Rattle.task_local.specs.inner.InOrder.{task_of}
use Rattle.task_local.proofs.Moves.{step_made}
use Rattle.task_local.proofs.room.Steps.{raised_has_room, stepped_has_room}
use Rattle.task_local.proofs.task_parts.TaskParts.step.Goals as goal

pub renew-requires : goal.renew-requires
renew-requires c = record {
  room = subst (λ t. HasRoom c.args.self.now.widest t) (sym (c.in_ok-step_statement-in-Step.ensures.ok ∙ step_made c.args.self.now.passed (plain_task c.args.self.now.state) c.requires.within (ap (λ s. stand_as s c.args.self.now.choices.items) (sym c.in-Step.is) ∙ c.requires.stand))) (stepped_has_room c.args.self.now.widest (task_of c.args.self.now) c.requires.roomy.room);
  wide = c.requires.roomy.wide;
  few = c.requires.roomy.few;
}

pub renew-requires-in-Raises : goal.renew-requires-in-Raises
renew-requires-in-Raises c = record {
  room = subst (λ t. HasRoom c.args.self.now.widest t) (sym c.raise.ensures) (raised_has_room c.args.self.now.widest c.in-Raises.raised (task_of c.args.self.now) c.requires.roomy.room);
  wide = c.requires.roomy.wide;
  few = c.requires.roomy.few;
}

pub returns-in_ok-step_statement-in-Step-clause-ok : goal.returns-in_ok-step_statement-in-Step-clause-ok
returns-in_ok-step_statement-in-Step-clause-ok c =
    c.renew.ensures.task ∙ c.in_ok-step_statement-in-Step.ensures.ok ∙ step_made c.args.self.now.passed (plain_task c.args.self.now.state) c.requires.within (ap (λ s. stand_as s c.args.self.now.choices.items) (sym c.in-Step.is) ∙ c.requires.stand)
