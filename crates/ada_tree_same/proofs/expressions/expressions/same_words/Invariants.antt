use Rattle.std.proofs.Common.{take}
use Rattle.std.specs.List.{AllZip}
use Rattle.ada_tree.specs.Same.{SameWord}
use Rattle.ada_tree_same.proofs.expressions.expressions.same_words.Given as goal

abbrev pub invariant-loop-i : goal.invariant-loop-i
invariant-loop-i l = AllZip (SameWord l.left l.right) (take l.i l.a) (take l.i l.b)
