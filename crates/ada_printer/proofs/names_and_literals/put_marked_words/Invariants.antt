use Rattle.std.proofs.Common.{take}
use Rattle.ded_io.specs.Written.{◌⧺◌, each_text}
use Rattle.ada_printer.specs.Layout.{word_text}
use Rattle.ded_io.specs.pages.Pages.{Drew, over}
use Rattle.ada_printer.proofs.names_and_literals.put_marked_words.Given as goal

abbrev pub invariant-loop-word : goal.invariant-loop-word
invariant-loop-word g l =
    Drew (over l.initial.page (g.K.Sink.told l.initial.out) (g.K.Sink.faults l.initial.out)) (over l.page (g.K.Sink.told l.out) (g.K.Sink.faults l.out))
    (each_text (λ w. l.mark ⧺ word_text l.names w) (take l.word-index l.words))
