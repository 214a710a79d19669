use Rattle.ded_io.proofs.pages.Drawn.{drew_then}
use Rattle.ada_printer.proofs.Declared.{decls_as}
use Rattle.ada_printer.proofs.whole.put_program.Goals as goal

pub returns : goal.returns
returns g c =
    drew_then _ _ _ _ _ c.put_context.ensures
    (drew_then _ _ _ _ _ c.put.ensures (drew_then _ _ _ _ _ c.put_word.ensures (drew_then _ _ _ _ _ c.put-2.ensures (drew_then _ _ _ _ _ (decls_as _ _ _ _ _ _ c.deref.ensures.value c.put_decls.ensures) c.put_unit.ensures))))
