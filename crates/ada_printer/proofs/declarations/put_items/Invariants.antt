use Rattle.std.proofs.Common.{map, drop}
use Rattle.ada_tree.specs.PlainDecl.{plain_entry, plain_priority}
use Rattle.ada_printer.specs.DeclText.{items_text}
use Rattle.ded_io.specs.pages.Pages.{over}
use Rattle.ada_printer.proofs.Declared.{Front}
use Rattle.ada_printer.proofs.declarations.put_items.Given as goal

abbrev pub invariant-loop-before : goal.invariant-loop-before
invariant-loop-before g l =
    Front (over l.initial.page (g.K.Sink.told l.initial.out) (g.K.Sink.faults l.initial.out)) (over l.page (g.K.Sink.told l.out) (g.K.Sink.faults l.out))
    (items_text l.names l.level 0 (map plain_entry l.entries) (map plain_priority l.priorities))
    (items_text l.names l.level l.before (map plain_entry (drop l.before l.entries)) (map plain_priority l.rest))
