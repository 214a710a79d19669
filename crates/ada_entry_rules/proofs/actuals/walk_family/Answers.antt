use Rattle.std.proofs.Common.{ap, Some, ◌∙◌, map, flat_map}
use Rattle.ada_tree.specs.PlainExpr.{plain_expr}
use Rattle.ada_static_rules.specs.Sites.{expr_of}
use Rattle.ada_static_rules.specs.RefusedFirst.{refused_first}
use Rattle.ada_static_rules.proofs.Meeting.{joined}
use Rattle.ada_entry_rules.proofs.actuals.walk_family.Goals as goal

pub returns : goal.returns
returns c =
    c.first.ensures
    ∙ joined (flat_map (expr_of c.args.scope.now (Some c.args.range.kind)) (map plain_expr c.args.args.now.first.items)) _ _ _
    (c.walk_all_of-one.ensures ∙ ap (λ es. refused_first (flat_map (expr_of c.args.scope.now (Some c.args.range.kind)) (map plain_expr es))) c.deref.ensures.value)
    c.walk_second_actuals-other.ensures
