use Rattle.std.proofs.Common.{◌≡◌, take, Ok}
use Rattle.ded_io.specs.declared.writing.SinkError.{SinkError}
use Rattle.ded_io.specs.Written.{Wrote, each_text}
use Rattle.debug_variants.specs.VariantsOutcomes.{open_line}
use Rattle.debug_variants.proofs.placing.put_open.Given as goal

-- the lines of those so far are written, and no fault was met
abbrev pub invariant-loop-task : goal.invariant-loop-task
invariant-loop-task g l =
    Wrote {A = Unit {0}} {E = SinkError} (Ok tt) (g.K.Sink.told l.initial.out) (g.K.Sink.told l.out) (each_text open_line (take l.task-index l.tasks))
    × (g.K.Sink.faults l.out ≡ g.K.Sink.faults l.initial.out)
