use Rattle.std.proofs.Common.{◌≡◌, map, take}
use Rattle.ada_tree.specs.PlainStmt.{plain_choice}
use Rattle.ada_stmt_copy.proofs.expressions.calls.copy_choices.Given as goal

abbrev pub invariant-loop-choice : goal.invariant-loop-choice
invariant-loop-choice l = map plain_choice l.copies.items ≡ map plain_choice (take l.choice-index l.choices)
