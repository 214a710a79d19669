use Rattle.std.proofs.Common.{length}
use Rattle.ded_io.specs.pages.Pages.{over}
use Rattle.debug_run.specs.texts.OutputText.{output_text}
use Rattle.debug_run.proofs.texts.Lining.{Drawn}
use Rattle.debug_run.proofs.texts.output_text.put_lines.Given as goal

-- the text so far is put on the page, and with that of what is left of the output it is the whole text
abbrev pub invariant-loop-line : goal.invariant-loop-line
invariant-loop-line g l =
    Drawn (over l.initial.page (g.K.Sink.told l.initial.out) (g.K.Sink.faults l.initial.out)) (over l.page (g.K.Sink.told l.out) (g.K.Sink.faults l.out))
    (output_text l.output) (output_text l.rest)

abbrev pub decreases-loop-line : goal.decreases-loop-line
decreases-loop-line g l = length l.rest
