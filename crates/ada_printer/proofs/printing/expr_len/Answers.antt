use Rattle.std.proofs.Common.{ap, ◌∙◌}
use Rattle.ded_io.proofs.pages.Drawn.{counted_all}
use Rattle.ada_printer.proofs.printing.expr_len.Goals as goal

pub returns : goal.returns
returns c = c.count.ensures ∙ counted_all _ _ _ (ap (λ s. s.count) c.new-page.ensures) c.put_expr.ensures
