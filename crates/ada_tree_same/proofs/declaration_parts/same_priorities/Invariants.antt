use Rattle.std.proofs.Common.{map, take}
use Rattle.std.specs.List.{AllZip}
use Rattle.ada_tree.specs.PlainDecl.{plain_priority}
use Rattle.ada_tree.specs.Same.{SamePriority}
use Rattle.ada_tree_same.proofs.declaration_parts.same_priorities.Given as goal

abbrev pub invariant-loop-i : goal.invariant-loop-i
invariant-loop-i l = AllZip (SamePriority l.left l.right) (map plain_priority (take l.i l.a)) (map plain_priority (take l.i l.b))
