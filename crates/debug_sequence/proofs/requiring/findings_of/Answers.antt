use Rattle.std.proofs.Common.{◌+◌, ℕ, List, take, sym, ap, subst}
use Rattle.debug_sequence.specs.declared.requiring.Finding.{Finding}
use Rattle.debug_sequence.specs.RequireOutcomes.{AreFindings}
use Rattle.debug_sequence.proofs.Found.{findings_step}
use Rattle.debug_sequence.proofs.requiring.findings_of.Goals as goal

pub loop-constraint-preserved : goal.loop-constraint-preserved
loop-constraint-preserved c = (
  subst (λ (fs : List Finding). AreFindings c.args.events.now 1 (take (c.loop-constraint.constraint-index + 1) c.args.constraints.now) fs) (sym c.in_ok-add.ensures)
      (findings_step c.args.events.now c.args.constraints.now c.loop-constraint.constraint-index (c.loop-constraint.number + 1) _ c.loop-constraint.findings.items c.in_ok-broken.broken
      c.loop-constraint-test.true (ap (λ (n : ℕ). n + 1) c.loop-constraint.invariant.1) c.loop-constraint.invariant.0 c.in_ok-broken.ensures),
  ap (λ (n : ℕ). n + 1) c.loop-constraint.invariant.1,
)
