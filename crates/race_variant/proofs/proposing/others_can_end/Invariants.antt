use Rattle.std.proofs.Common.{◌≡◌, pred, true}
use Rattle.std.specs.List.{list_all}
use Rattle.task_machine.specs.Conditions.{holds, others_may_end}
use Rattle.race_variant.specs.inner.Passing.{seen_at}
use Rattle.race_variant.proofs.proposing.others_can_end.Given as goal

-- the tasks gone by can end
abbrev pub invariant-loop-t : goal.invariant-loop-t
invariant-loop-t l = list_all (holds (seen_at l.j.tasks l.settled)) (others_may_end (pred l.t)) ≡ true
