use Rattle.std.proofs.Common.{◌≡◌, map, flat_map, drop}
use Rattle.ada_tree.specs.PlainExpr.{plain_expr}
use Rattle.syn_event.specs.CheckSites.{expr_sites}
use Rattle.ada_check_rules.specs.rules.Sooner.{sooner}
use Rattle.ada_check_rules.specs.rules.RefusedFirst.{refused_first}
use Rattle.ada_check_places.proofs.parts.expressions.walk_exprs.Given as goal

-- what is refused so far, and of the expressions that are left
abbrev pub invariant-loop-e : goal.invariant-loop-e
invariant-loop-e l = sooner l.refusal (refused_first l.by (flat_map (expr_sites l.around l.k) (map plain_expr (drop l.e-index l.list)))) ≡ refused_first l.by (flat_map (expr_sites l.around l.k) (map plain_expr l.list))
