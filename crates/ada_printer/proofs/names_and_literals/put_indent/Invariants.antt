use Rattle.ada_printer.specs.Layout.{indent}
use Rattle.ded_io.specs.pages.Pages.{Drew, over}
use Rattle.ada_printer.proofs.names_and_literals.put_indent.Given as goal

abbrev pub invariant-loop-done : goal.invariant-loop-done
invariant-loop-done g l =
    Drew (over l.initial.page (g.K.Sink.told l.initial.out) (g.K.Sink.faults l.initial.out)) (over l.page (g.K.Sink.told l.out) (g.K.Sink.faults l.out))
    (indent l.done)
