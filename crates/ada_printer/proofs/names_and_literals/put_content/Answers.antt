use Rattle.ada_printer.specs.Layout.{character_text}
use Rattle.ada_printer.proofs.Listed.{drew_member}
use Rattle.ada_printer.proofs.names_and_literals.put_content.Goals as goal

pub loop-byte-preserved : goal.loop-byte-preserved
loop-byte-preserved g c = drew_member _ character_text c.args.content.now c.loop-byte.byte-index _ _ _ _ c.loop-byte-test.true c.loop-byte.invariant c.put_character.ensures
