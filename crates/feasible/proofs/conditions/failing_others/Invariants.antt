use Rattle.std.proofs.Common.{◌≡◌, None, pred}
use Rattle.task_machine.specs.Conditions.{failing_in, others_may_end}
use Rattle.feasible.specs.Failing.{view_at}
use Rattle.feasible.proofs.conditions.failing_others.Given as goal

-- all tasks gone by can end
abbrev pub invariant-loop-t : goal.invariant-loop-t
invariant-loop-t l = failing_in (view_at l.seats) (others_may_end (pred l.t)) ≡ None
