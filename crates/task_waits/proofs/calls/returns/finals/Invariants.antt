use Rattle.std.proofs.Common.{◌≡◌, ◌++◌, drop}
use Rattle.task_model.specs.Calls.{finals_in}
use Rattle.task_waits.proofs.calls.returns.finals.Given as goal

-- the values so far, in front of those that are left
abbrev pub invariant-loop-place : goal.invariant-loop-place
invariant-loop-place l = finals_in l.formals l.objects ≡ l.values.items ++ finals_in (drop l.place l.formals) (drop l.place l.objects)
