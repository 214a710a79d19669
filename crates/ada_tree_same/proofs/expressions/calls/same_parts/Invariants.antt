use Rattle.std.proofs.Common.{map, take}
use Rattle.std.specs.List.{AllZip}
use Rattle.ada_tree.specs.PlainStmt.{plain_part}
use Rattle.ada_tree.specs.Same.{SamePart}
use Rattle.ada_tree_same.proofs.expressions.calls.same_parts.Given as goal

abbrev pub invariant-loop-i : goal.invariant-loop-i
invariant-loop-i l = AllZip (SamePart l.left l.right) (map plain_part (take l.i l.a)) (map plain_part (take l.i l.b))
