use Rattle.std.proofs.Common.{◌≡◌, map, flat_map, option_map, drop}
use Rattle.ada_tree.specs.PlainExpr.{plain_expr}
use Rattle.ada_static_rules.specs.Sites.{value_sites}
use Rattle.ada_static_rules.specs.Sooner.{sooner}
use Rattle.ada_static_rules.specs.RefusedFirst.{refused_first}
use Rattle.ada_scopes.specs.Entries.{plain_range}
use Rattle.ada_decl_rules.proofs.objects.initials.walk_values.Given as goal

-- what is refused so far, and of the values that are left
abbrev pub invariant-loop-e : goal.invariant-loop-e
invariant-loop-e l =
    sooner l.refusal (refused_first (flat_map (value_sites l.scope (option_map plain_range l.range)) (map plain_expr (drop l.e-index l.list)))) ≡ refused_first (flat_map (value_sites l.scope (option_map plain_range l.range)) (map plain_expr l.list))
