use Rattle.std.proofs.Common.{refl, codes}
use Rattle.ded_io.specs.Written.{◌⧺◌}
use Rattle.ada_tree.specs.PlainStmt.{plain_choice}
use Rattle.ada_printer.specs.StmtText.{choice_text}
use Rattle.ded_io.proofs.pages.Drawn.{drew_then}
use Rattle.ada_printer.proofs.Listed.{drew_seen_member, drew_seen_all, drew_seen_list}
use Rattle.ada_printer.proofs.calls.put_choices.Goals as goal

pub loop-choice-preserved : goal.loop-choice-preserved
loop-choice-preserved g c =
    drew_seen_member _ _ plain_choice (λ x. codes " | " ⧺ choice_text c.args.names.now x) _ c.loop-choice.choice-index c.choice-item.result _ _ _ c.loop-choice-test.true c.choice-item.is c.loop-choice.invariant
    (drew_then _ _ _ _ _ c.put.ensures c.put_choice-in-loop-choice.ensures)

pub returns-after-loop-choice : goal.returns-after-loop-choice
returns-after-loop-choice g c =
    drew_seen_list _ _ plain_choice (codes " | ") (choice_text c.args.names.now) c.args.choices.now _ c.first-item.result _ _ _ c.in-len1-up.len_at_least c.first-item.is refl
    c.put_choice.ensures (drew_seen_all _ _ plain_choice (λ x. codes " | " ⧺ choice_text c.args.names.now x) _ _ _ _ c.loop-choice-test.false c.loop-choice.invariant)
