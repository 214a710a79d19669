use Rattle.std.proofs.Common.{take}
use Rattle.ded_io.specs.Written.{each_text}
use Rattle.ada_printer.specs.Layout.{character_text}
use Rattle.ded_io.specs.pages.Pages.{Drew, over}
use Rattle.ada_printer.proofs.names_and_literals.put_content.Given as goal

abbrev pub invariant-loop-byte : goal.invariant-loop-byte
invariant-loop-byte g l =
    Drew (over l.initial.page (g.K.Sink.told l.initial.out) (g.K.Sink.faults l.initial.out)) (over l.page (g.K.Sink.told l.out) (g.K.Sink.faults l.out))
    (each_text character_text (take l.byte-index l.content))
