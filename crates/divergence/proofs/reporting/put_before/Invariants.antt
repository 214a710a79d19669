use Rattle.std.proofs.Common.{◌≡◌, Ok}
use Rattle.ded_io.specs.declared.writing.SinkError.{SinkError}
use Rattle.ded_io.specs.Written.{Wrote}
use Rattle.feasible.specs.Failing.{view_at}
use Rattle.divergence.specs.inner.Below.{tasks_below}
use Rattle.divergence.specs.JudgeText.{parts_of}
use Rattle.divergence.proofs.reporting.put_before.Given as goal

-- the tasks before this one are told, and no fault was met
abbrev pub invariant-loop-task : goal.invariant-loop-task
invariant-loop-task g l =
    Wrote {A = Unit {0}} {E = SinkError} (Ok tt) (g.K.Sink.told l.initial.out) (g.K.Sink.told l.out) (parts_of l.names l.numbers (view_at l.j.tasks) (tasks_below l.task))
    × (g.K.Sink.faults l.out ≡ g.K.Sink.faults l.initial.out)
