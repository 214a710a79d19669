use Rattle.std.proofs.Common.{take, map, codes}
use Rattle.ded_io.specs.Written.{◌⧺◌, each_text}
use Rattle.ada_tree.specs.PlainStmt.{plain_callee}
use Rattle.ada_printer.specs.StmtText.{callee_text}
use Rattle.ded_io.specs.pages.Pages.{Drew, over}
use Rattle.ada_printer.proofs.calls.put_callees.Given as goal

abbrev pub invariant-loop-callee : goal.invariant-loop-callee
invariant-loop-callee g l =
    Drew (over l.initial.page (g.K.Sink.told l.initial.out) (g.K.Sink.faults l.initial.out)) (over l.page (g.K.Sink.told l.out) (g.K.Sink.faults l.out))
    (each_text (λ x. codes ", " ⧺ callee_text l.names x) (map plain_callee (take l.callee-index l.rest)))
