use Rattle.std.proofs.Common.{Err, ap, ◌∙◌, inl, inr, arith}
use Rattle.ded_io.specs.Counts.{Rose}
use Rattle.interp.specs.declared.report.RunError.{RunError}
use Rattle.debug_collect.proofs.Carrying.{file-of}
use Rattle.debug_collect.proofs.recording.record_machine.Goals as goal

-- no count rises at an output that keeps nothing
never_rose : Rose 0 0 → ⊥
unfolding Rose
never_rose (inl h) = omega (arith, h)
never_rose (inr (h, k)) = omega (arith, h)

pub unreachable-requires : goal.unreachable-requires
unreachable-requires g c = never_rose (c.run.ensures.cause (c.in-Err-Sink.is ∙ ap (λ (e : RunError). Err e) c.in-Err-Sink.field-0-is))

pub returns : goal.returns
returns g c =
    file-of g.C.Chooser.word g.C.Chooser.next c.args.names.now c.args.numbers.now c.args.machine.now c.run.new.m c.args.choices.now c.args.turns c.recorder_of.result c.output-output.result.now _
    c.in-Ok.ensures.machine c.in-Ok.ensures.end c.recorder_of.ensures c.output-output.ensures.text c.in_ok-file.ensures
