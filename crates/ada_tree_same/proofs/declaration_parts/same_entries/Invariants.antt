use Rattle.std.proofs.Common.{map, take}
use Rattle.std.specs.List.{AllZip}
use Rattle.ada_tree.specs.PlainDecl.{plain_entry}
use Rattle.ada_tree.specs.Same.{SameEntry}
use Rattle.ada_tree_same.proofs.declaration_parts.same_entries.Given as goal

abbrev pub invariant-loop-i : goal.invariant-loop-i
invariant-loop-i l = AllZip (SameEntry l.left l.right) (map plain_entry (take l.i l.a)) (map plain_entry (take l.i l.b))
