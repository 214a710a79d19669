use Rattle.ded_io.specs.Written.{◌⧺◌}
use Rattle.ada_printer.specs.Layout.{word_text}
use Rattle.ded_io.proofs.pages.Drawn.{drew_then}
use Rattle.ada_printer.proofs.Listed.{drew_member}
use Rattle.ada_printer.proofs.names_and_literals.put_marked_words.Goals as goal

pub loop-word-preserved : goal.loop-word-preserved
loop-word-preserved g c =
    drew_member _ (λ w. c.args.mark.now ⧺ word_text c.args.names.now w) c.args.words.now c.loop-word.word-index _ _ _ _ c.loop-word-test.true c.loop-word.invariant
    (drew_then _ _ _ _ _ c.put.ensures c.put_word.ensures)
