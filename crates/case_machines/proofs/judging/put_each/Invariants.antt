use Rattle.std.proofs.Common.{◌≤◌}
use Rattle.case_machines.proofs.judging.put_each.Given as goal

-- no more events are taken than are gone by
abbrev pub invariant-loop-event : goal.invariant-loop-event
invariant-loop-event l = record { taken : l.judge.taken ≤ l.event-index }
