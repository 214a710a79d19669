use Rattle.std.proofs.Common.{ap, subst, ◌∙◌}
use Rattle.task_model.specs.Machine.{Tasks}
use Rattle.feasible.specs.Failing.{view_at}
use Rattle.feasible.specs.Kept.{Kept}
use Rattle.feasible.specs.Shown.{Shows}
use Rattle.feasible.proofs.Seeing.{shown_is}
use Rattle.feasible.proofs.judge.Judge.offer.Goals as goal

pub returns-clause-view : goal.returns-clause-view
returns-clause-view c = λ setup events s.
    shown_is setup events c.args.self.now c.args.task c.show_at.result s c.requires
    (subst (λ (ts : Tasks). Shows (view_at ts c.args.task) c.show_at.result) (c.deref.ensures.value ∙ ap (λ (k : Kept). k.tasks) c.self.view_is) c.show_at.ensures)
