use Rattle.std.proofs.Common.{ap, ◌∙◌}
use Rattle.ded_io.proofs.pages.Drawn.{counted_all}
use Rattle.ada_printer.proofs.printing.text_len.Goals as goal

pub returns : goal.returns
returns c = c.count.ensures ∙ counted_all _ _ _ (ap (λ s. s.count) c.new-counter.ensures) c.put_program.ensures
