use Rattle.std.proofs.Common.{take, map, codes}
use Rattle.ded_io.specs.Written.{◌⧺◌, each_text}
use Rattle.ada_tree.specs.PlainStmt.{plain_choice}
use Rattle.ada_printer.specs.StmtText.{choice_text}
use Rattle.ded_io.specs.pages.Pages.{Drew, over}
use Rattle.ada_printer.proofs.calls.put_choices.Given as goal

abbrev pub invariant-loop-choice : goal.invariant-loop-choice
invariant-loop-choice g l =
    Drew (over l.initial.page (g.K.Sink.told l.initial.out) (g.K.Sink.faults l.initial.out)) (over l.page (g.K.Sink.told l.out) (g.K.Sink.faults l.out))
    (each_text (λ x. codes " | " ⧺ choice_text l.names x) (map plain_choice (take l.choice-index l.rest)))
