use Rattle.std.proofs.Common.{◌≡◌, map, take}
use Rattle.ada_tree.specs.PlainStmt.{plain_part}
use Rattle.ada_stmt_copy.proofs.expressions.calls.copy_parts.Given as goal

abbrev pub invariant-loop-part : goal.invariant-loop-part
invariant-loop-part l = map plain_part l.copies.items ≡ map plain_part (take l.part-index l.parts)
