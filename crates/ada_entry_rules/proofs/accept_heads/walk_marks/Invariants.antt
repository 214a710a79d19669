use Rattle.std.proofs.Common.{◌≡◌, map, drop}
use Rattle.ada_tree.specs.PlainStmt.{plain_formal}
use Rattle.ada_static_rules.specs.Sites.{formal_mark_sites}
use Rattle.ada_static_rules.specs.Sooner.{sooner}
use Rattle.ada_static_rules.specs.RefusedFirst.{refused_first}
use Rattle.ada_entry_rules.proofs.accept_heads.walk_marks.Given as goal

-- what is refused so far, and of the marks that are left
abbrev pub invariant-loop-formal : goal.invariant-loop-formal
invariant-loop-formal l =
    sooner l.refusal (refused_first (formal_mark_sites l.scope (map plain_formal (drop l.formal-index l.formals)))) ≡ refused_first (formal_mark_sites l.scope (map plain_formal l.formals))
