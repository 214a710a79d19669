use Rattle.ada_printer.proofs.Declared.{context_there, context_none}
use Rattle.ada_printer.proofs.whole.put_context.Goals as goal

pub returns-then-text_io : goal.returns-then-text_io
returns-then-text_io g c = context_there _ _ _ _ c.if-text_io.true c.put.ensures c.put-then-text_io.ensures

pub returns-else-text_io : goal.returns-else-text_io
returns-else-text_io g c = context_none _ _ c.if-text_io.false
