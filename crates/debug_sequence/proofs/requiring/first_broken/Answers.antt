use Rattle.std.proofs.Common.{ℕ, Option, sym, subst}
use Rattle.syn_constraint.specs.Breaking.{IsFirstBreak}
use Rattle.debug_sequence.specs.declared.requiring.Broken.{Broken}
use Rattle.debug_sequence.specs.RequireOutcomes.{IsFirstBroken}
use Rattle.debug_sequence.proofs.Placed.{first_placed}
use Rattle.debug_sequence.proofs.requiring.first_broken.Goals as goal

pub returns-in-Some : goal.returns-in-Some
returns-in-Some c =
    subst (λ (b : Option Broken). IsFirstBroken c.args.events.now c.args.constraint.now b) (sym c.broken_at.ensures)
    (first_placed c.args.events.now c.args.constraint.now c.in-Some.place
    (subst (λ (o : Option ℕ). IsFirstBreak c.args.constraint.now c.args.events.now o) c.in-Some.is c.in_ok-place.ensures))
