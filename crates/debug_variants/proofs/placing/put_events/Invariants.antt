use Rattle.std.proofs.Common.{◌≡◌, take, Ok}
use Rattle.ded_io.specs.declared.writing.SinkError.{SinkError}
use Rattle.ded_io.specs.Written.{Wrote, each_text}
use Rattle.seq_file.specs.Files.{event_line}
use Rattle.debug_variants.proofs.placing.put_events.Given as goal

-- the lines of those so far are written, and no fault was met
abbrev pub invariant-loop-event : goal.invariant-loop-event
invariant-loop-event g l =
    Wrote {A = Unit {0}} {E = SinkError} (Ok tt) (g.K.Sink.told l.initial.out) (g.K.Sink.told l.out) (each_text event_line (take l.event-index l.events))
    × (g.K.Sink.faults l.out ≡ g.K.Sink.faults l.initial.out)
