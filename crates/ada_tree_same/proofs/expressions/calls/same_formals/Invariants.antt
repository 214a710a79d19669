use Rattle.std.proofs.Common.{map, take}
use Rattle.std.specs.List.{AllZip}
use Rattle.ada_tree.specs.PlainStmt.{plain_formal}
use Rattle.ada_tree.specs.Same.{SameFormal}
use Rattle.ada_tree_same.proofs.expressions.calls.same_formals.Given as goal

abbrev pub invariant-loop-i : goal.invariant-loop-i
invariant-loop-i l = AllZip (SameFormal l.left l.right) (map plain_formal (take l.i l.a)) (map plain_formal (take l.i l.b))
