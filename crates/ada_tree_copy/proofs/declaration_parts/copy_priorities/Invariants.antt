use Rattle.std.proofs.Common.{◌≡◌, map, take}
use Rattle.ada_tree.specs.PlainDecl.{plain_priority}
use Rattle.ada_tree_copy.proofs.declaration_parts.copy_priorities.Given as goal

abbrev pub invariant-loop-priority : goal.invariant-loop-priority
invariant-loop-priority l = map plain_priority l.copies.items ≡ map plain_priority (take l.priority-index l.priorities)
