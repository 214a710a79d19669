use Rattle.event_machine.specs.States.{is_served_by}
use Rattle.task_machine.specs.Table.{seat_of}
use Rattle.feasible.specs.inner.Recounts.{BeginAnew, below}
use Rattle.feasible.proofs.happening.begin_served.Given as goal

-- the counts of the callers gone by have begun anew
abbrev pub invariant-loop-t : goal.invariant-loop-t
invariant-loop-t l = BeginAnew (below (λ u. is_served_by l.x (seat_of l.seats u).standing) l.t) l.initial.steps l.steps
