use Rattle.std.proofs.Common.{◌≡◌, take, Ok}
use Rattle.ded_io.specs.declared.writing.SinkError.{SinkError}
use Rattle.ded_io.specs.Written.{Wrote, each_text}
use Rattle.divergence.specs.ViewText.{choice_line}
use Rattle.divergence.proofs.views.put_choices.Given as goal

-- the lines of the choices so far are written, and no fault was met
abbrev pub invariant-loop-choice : goal.invariant-loop-choice
invariant-loop-choice g l =
    Wrote {A = Unit {0}} {E = SinkError} (Ok tt) (g.K.Sink.told l.initial.out) (g.K.Sink.told l.out) (each_text choice_line (take l.choice-index l.choices))
    × (g.K.Sink.faults l.out ≡ g.K.Sink.faults l.initial.out)
