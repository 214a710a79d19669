use Rattle.std.proofs.Common.{◌≡◌, map, drop}
use Rattle.ada_tree.specs.PlainExpr.{plain_expr}
use Rattle.ada_static_rules.specs.Sites.{actuals_sites}
use Rattle.ada_static_rules.specs.Sooner.{sooner}
use Rattle.ada_static_rules.specs.RefusedFirst.{refused_first}
use Rattle.ada_scopes.specs.Entries.{plain_part}
use Rattle.ada_entry_rules.proofs.actuals.walk_actuals.Given as goal

-- what is refused so far, and of the actuals that are left, beside the formals that are left
abbrev pub invariant-loop-place : goal.invariant-loop-place
invariant-loop-place l =
    sooner l.refusal (refused_first (actuals_sites l.scope (map plain_part (drop l.place l.formals)) (map plain_expr (drop l.place l.actuals)))) ≡ refused_first (actuals_sites l.scope (map plain_part l.formals) (map plain_expr l.actuals))
