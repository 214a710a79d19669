use Rattle.std.proofs.Common.{◌≡◌, map, flat_map, drop}
use Rattle.ada_tree.specs.PlainExpr.{plain_expr}
use Rattle.ada_static_rules.specs.Sites.{expr_of}
use Rattle.ada_static_rules.specs.Sooner.{sooner}
use Rattle.ada_static_rules.specs.RefusedFirst.{refused_first}
use Rattle.ada_entry_rules.proofs.actuals.walk_all_of.Given as goal

-- what is refused so far, and of the expressions that are left
abbrev pub invariant-loop-e : goal.invariant-loop-e
invariant-loop-e l =
    sooner l.refusal (refused_first (flat_map (expr_of l.scope l.kind) (map plain_expr (drop l.e-index l.list)))) ≡ refused_first (flat_map (expr_of l.scope l.kind) (map plain_expr l.list))
