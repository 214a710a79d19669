use Rattle.std.proofs.Common.{map, take}
use Rattle.std.specs.List.{AllZip}
use Rattle.ada_tree.specs.PlainStmt.{plain_callee}
use Rattle.ada_tree.specs.Same.{SameCallee}
use Rattle.ada_tree_same.proofs.expressions.calls.same_callees.Given as goal

abbrev pub invariant-loop-i : goal.invariant-loop-i
invariant-loop-i l = AllZip (SameCallee l.left l.right) (map plain_callee (take l.i l.a)) (map plain_callee (take l.i l.b))
