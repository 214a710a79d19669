use Rattle.std.proofs.Common.{◌≤◌, ◌-◌}
use Rattle.feasible.specs.inner.Needs.{HasRun}
use Rattle.feasible.proofs.settling.run_on.Given as goal

-- the steps made so far are counted
abbrev pub invariant-loop-steps : goal.invariant-loop-steps
invariant-loop-steps l = HasRun l.initial.local.task l.initial.steps l.local.task l.steps × (l.initial.steps ≤ l.bound → l.steps ≤ l.bound)

abbrev pub decreases-loop-steps : goal.decreases-loop-steps
decreases-loop-steps l = l.bound - l.steps
