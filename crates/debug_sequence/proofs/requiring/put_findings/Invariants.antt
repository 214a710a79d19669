use Rattle.std.proofs.Common.{◌≡◌, take, Ok}
use Rattle.ded_io.specs.declared.writing.SinkError.{SinkError}
use Rattle.ded_io.specs.Written.{Wrote, each_text}
use Rattle.debug_sequence.specs.RequireOutcomes.{finding_line}
use Rattle.debug_sequence.proofs.requiring.put_findings.Given as goal

-- the lines of the findings so far are written, and no fault was met
abbrev pub invariant-loop-finding : goal.invariant-loop-finding
invariant-loop-finding g l =
    Wrote {A = Unit {0}} {E = SinkError} (Ok tt) (g.K.Sink.told l.initial.out) (g.K.Sink.told l.out) (each_text finding_line (take l.finding-index l.findings))
    × (g.K.Sink.faults l.out ≡ g.K.Sink.faults l.initial.out)
