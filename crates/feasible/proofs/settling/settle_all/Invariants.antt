use Rattle.std.specs.Prelude.{All}
use Rattle.feasible.specs.Keeping.{IsSettled}
use Rattle.feasible.specs.inner.Needs.{HaveRun, tasks_below}
use Rattle.feasible.proofs.settling.settle_all.Given as goal

-- the tasks gone by are settled
abbrev pub invariant-loop-t : goal.invariant-loop-t
invariant-loop-t l = HaveRun l.bound l.initial.seats l.initial.steps l.seats l.steps × All (IsSettled l.seats) (tasks_below l.t)
