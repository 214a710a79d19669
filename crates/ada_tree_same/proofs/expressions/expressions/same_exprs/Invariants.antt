use Rattle.std.proofs.Common.{map, take}
use Rattle.std.specs.List.{AllZip}
use Rattle.ada_tree.specs.PlainExpr.{plain_expr}
use Rattle.ada_tree.specs.Same.{SameExpr}
use Rattle.ada_tree_same.proofs.expressions.expressions.same_exprs.Given as goal

abbrev pub invariant-loop-i : goal.invariant-loop-i
invariant-loop-i l = AllZip (SameExpr l.left l.right) (map plain_expr (take l.i l.a)) (map plain_expr (take l.i l.b))
