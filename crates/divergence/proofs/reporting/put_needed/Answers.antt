use Rattle.std.proofs.Common.{ℕ, [], ◌∷◌, All, sym, subst}
use Rattle.event_machine.specs.declared.Event.{Event}
use Rattle.task_machine.specs.Conditions.{needed_of}
use Rattle.feasible.specs.Keeping.{IsSettled}
use Rattle.divergence.proofs.reporting.put_needed.Goals as goal

pub put_both-requires : goal.put_both-requires
put_both-requires g c =
    subst (λ (owner : ℕ). All (IsSettled c.args.j.now.tasks) (c.in-R.c ∷ owner ∷ [])) (sym c.owner.ensures)
    (subst (λ (e : Event). All (IsSettled c.args.j.now.tasks) (needed_of c.args.numbers.now e)) c.in-R.is c.requires)
