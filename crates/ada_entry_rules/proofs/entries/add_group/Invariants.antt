use Rattle.std.proofs.Common.{◌≡◌, ◌++◌, map, take}
use Rattle.ada_tree.specs.PlainStmt.{plain_formal}
use Rattle.ada_scopes.specs.Entries.{plain_part}
use Rattle.ada_entry_rules.specs.EntryDecls.{part_of}
use Rattle.ada_entry_rules.proofs.entries.add_group.Given as goal

-- so many names are added
abbrev pub invariant-loop-word : goal.invariant-loop-word
invariant-loop-word l = map plain_part l.parts.items ≡ map plain_part l.fn.parts.items ++ map (part_of (plain_formal l.formal) l.kind) (take l.word-index l.word-items)
