use Rattle.std.proofs.Common.{take, map, codes}
use Rattle.ded_io.specs.Written.{◌⧺◌, each_text}
use Rattle.ada_tree.specs.PlainStmt.{plain_formal}
use Rattle.ada_printer.specs.StmtText.{formal_text}
use Rattle.ded_io.specs.pages.Pages.{Drew, over}
use Rattle.ada_printer.proofs.calls.put_separated_formals.Given as goal

abbrev pub invariant-loop-formal : goal.invariant-loop-formal
invariant-loop-formal g l =
    Drew (over l.initial.page (g.K.Sink.told l.initial.out) (g.K.Sink.faults l.initial.out)) (over l.page (g.K.Sink.told l.out) (g.K.Sink.faults l.out))
    (each_text (λ x. codes "; " ⧺ formal_text l.names x) (map plain_formal (take l.formal-index l.rest)))
