use Rattle.std.proofs.Common.{take, map, codes}
use Rattle.ded_io.specs.Written.{◌⧺◌, each_text}
use Rattle.ada_tree.specs.PlainStmt.{plain_part}
use Rattle.ada_printer.specs.StmtText.{part_text}
use Rattle.ded_io.specs.pages.Pages.{Drew, over}
use Rattle.ada_printer.proofs.calls.put_parts.Given as goal

abbrev pub invariant-loop-part : goal.invariant-loop-part
invariant-loop-part g l =
    Drew (over l.initial.page (g.K.Sink.told l.initial.out) (g.K.Sink.faults l.initial.out)) (over l.page (g.K.Sink.told l.out) (g.K.Sink.faults l.out))
    (each_text (λ x. codes " & " ⧺ part_text l.names x) (map plain_part (take l.part-index l.rest)))
