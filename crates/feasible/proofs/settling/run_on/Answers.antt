use Rattle.std.proofs.Common.{sym, refl, ◌∙◌, ◌+◌, arith}
use Rattle.feasible.proofs.Running.{has_run_more}
use Rattle.feasible.proofs.settling.run_on.Goals as goal

pub loop-steps-preserved : goal.loop-steps-preserved
loop-steps-preserved c = (
  has_run_more c.args.local.now.task c.loop-steps.local.task c.step.new.self.task c.args.steps.now c.loop-steps.steps (c.loop-steps.steps + 1) c.loop-steps.invariant.0
      (sym c.in_ok-step.ensures.made ∙ c.if-not-branch.false) c.in_ok-step.ensures.ok refl,
  λ h. omega arith,
)
