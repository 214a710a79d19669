use Rattle.std.proofs.Common.{◌≡◌, map, take}
use Rattle.ada_tree.specs.PlainDecl.{plain_entry}
use Rattle.ada_tree_copy.proofs.declaration_parts.copy_entries.Given as goal

abbrev pub invariant-loop-entry : goal.invariant-loop-entry
invariant-loop-entry l = map plain_entry l.copies.items ≡ map plain_entry (take l.entry-index l.entries)
