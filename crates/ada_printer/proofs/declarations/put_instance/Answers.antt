use Rattle.ded_io.proofs.pages.Drawn.{drew_then}
use Rattle.ada_printer.proofs.declarations.put_instance.Goals as goal

pub returns : goal.returns
returns g c = drew_then _ _ _ _ _ c.put.ensures (drew_then _ _ _ _ _ c.put_word.ensures (drew_then _ _ _ _ _ c.put-2.ensures (drew_then _ _ _ _ _ c.put_indent.ensures (drew_then _ _ _ _ _ c.put-3.ensures (drew_then _ _ _ _ _ c.put_word-2.ensures c.put-4.ensures)))))
