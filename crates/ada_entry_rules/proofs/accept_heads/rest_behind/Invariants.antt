use Rattle.std.proofs.Common.{◌≡◌, List, map, drop, ◌++◌}
use Rattle.ada_tree.specs.PlainStmt.{plain_formal}
use Rattle.ada_static_rules.specs.RuleArgCount.{Written, are_same}
use Rattle.ada_scopes.specs.Entries.{plain_part}
use Rattle.ada_entry_rules.specs.inner.Accepts.{written_of}
use Rattle.ada_entry_rules.proofs.accept_heads.rest_behind.Given as goal

-- the names that are left go with the parts that are left
abbrev pub invariant-loop-word : goal.invariant-loop-word
invariant-loop-word l =
    (behind : List Written) → are_same (map (written_of (plain_formal l.formal)) (drop l.word-index l.word-items) ++ behind) (map plain_part l.rest) ≡ are_same (map (written_of (plain_formal l.formal)) l.formal.names.items ++ behind) (map plain_part l.parts)
