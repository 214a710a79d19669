use Rattle.std.proofs.Common.{◌≡◌, map, drop}
use Rattle.ada_tree.specs.PlainStmt.{plain_formal}
use Rattle.ada_static_rules.specs.RuleArgCount.{are_same, written_formals}
use Rattle.ada_scopes.specs.Entries.{plain_part}
use Rattle.ada_entry_rules.proofs.accept_heads.are_same.Given as goal

-- the formals that are left go with the parts that are left
abbrev pub invariant-loop-formal : goal.invariant-loop-formal
invariant-loop-formal l =
    are_same (written_formals (map plain_formal (drop l.formal-index l.formals))) (map plain_part l.rest) ≡ are_same (written_formals (map plain_formal l.formals)) (map plain_part l.parts)
