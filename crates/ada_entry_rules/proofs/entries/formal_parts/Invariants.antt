use Rattle.std.proofs.Common.{◌≡◌, map, take}
use Rattle.ada_tree.specs.PlainStmt.{plain_formal}
use Rattle.ada_static_rules.specs.Declaring.{formal_parts}
use Rattle.ada_scopes.specs.Entries.{plain_part}
use Rattle.ada_entry_rules.proofs.entries.formal_parts.Given as goal

-- so many groups are added
abbrev pub invariant-loop-formal : goal.invariant-loop-formal
invariant-loop-formal l = map plain_part l.parts.items ≡ formal_parts l.scope (map plain_formal (take l.formal-index l.formals))
