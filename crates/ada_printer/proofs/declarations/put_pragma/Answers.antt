use Rattle.ded_io.proofs.pages.Drawn.{drew_then}
use Rattle.ada_printer.proofs.declarations.put_pragma.Goals as goal

pub returns : goal.returns
returns g c = drew_then _ _ _ _ _ c.put.ensures (drew_then _ _ _ _ _ c.put_expr.ensures c.put-2.ensures)
