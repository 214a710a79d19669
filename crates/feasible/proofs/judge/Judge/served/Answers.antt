use Rattle.std.proofs.Common.{◌≡◌, ◌↔◌, ◌∙◌, Bool, true, sym, ap, subst, take}
use Rattle.event_machine.specs.States.{is_served}
use Rattle.task_model.specs.Machine.{Tasks}
use Rattle.task_machine.specs.Table.{seat_of}
use Rattle.task_machine.specs.Views.{StandsIn}
use Rattle.feasible.specs.Kept.{Kept}
use Rattle.feasible.proofs.Resting.{served_exactly}
use Rattle.feasible.proofs.judge.Judge.served.Goals as goal

pub returns-clause-exact : goal.returns-clause-exact
returns-clause-exact c = λ setup events s.
    let is : c.is_served.result ≡ is_served (seat_of c.args.self.now.tasks c.args.task).standing =
    c.is_served.ensures ∙ ap is_served (c.standing_at.ensures ∙ ap (λ (ts : Tasks). (seat_of ts c.args.task).standing) (c.deref.ensures.value ∙ ap (λ (k : Kept). k.tasks) c.self.view_is)) in
    subst (λ (b : Bool). (b ≡ true) ↔ StandsIn setup c.args.self.now.numbers (take c.args.self.now.taken events) c.args.task is_served) (sym is) (served_exactly setup events c.args.self.now s c.args.task)
