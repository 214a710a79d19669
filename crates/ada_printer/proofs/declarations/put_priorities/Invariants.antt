use Rattle.std.proofs.Common.{take, map}
use Rattle.ded_io.specs.Written.{each_text}
use Rattle.ada_tree.specs.PlainDecl.{plain_priority}
use Rattle.ada_printer.specs.DeclText.{priority_text}
use Rattle.ded_io.specs.pages.Pages.{Drew, over}
use Rattle.ada_printer.proofs.declarations.put_priorities.Given as goal

abbrev pub invariant-loop-priority : goal.invariant-loop-priority
invariant-loop-priority g l =
    Drew (over l.initial.page (g.K.Sink.told l.initial.out) (g.K.Sink.faults l.initial.out)) (over l.page (g.K.Sink.told l.out) (g.K.Sink.faults l.out))
    (each_text (priority_text l.names l.level) (map plain_priority (take l.priority-index l.priorities)))
