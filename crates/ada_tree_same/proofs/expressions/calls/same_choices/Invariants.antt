use Rattle.std.proofs.Common.{map, take}
use Rattle.std.specs.List.{AllZip}
use Rattle.ada_tree.specs.PlainStmt.{plain_choice}
use Rattle.ada_tree.specs.Same.{SameChoice}
use Rattle.ada_tree_same.proofs.expressions.calls.same_choices.Given as goal

abbrev pub invariant-loop-i : goal.invariant-loop-i
invariant-loop-i l = AllZip (SameChoice l.left l.right) (map plain_choice (take l.i l.a)) (map plain_choice (take l.i l.b))
