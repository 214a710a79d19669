use Rattle.std.proofs.Common.{◌∙◌}
use Rattle.ada_tree.specs.PlainExpr.{plain_expr}
use Rattle.ada_static_rules.specs.Sites.{expr_sites}
use Rattle.ada_expr_rules.proofs.Knowing.{value_known, known_walked}
use Rattle.ada_entry_rules.proofs.case_choices.choices.value_of.Goals as goal

pub returns : goal.returns
returns c =
    c.value_in.ensures
    ∙ value_known c.args.scope.now (plain_expr c.args.e.now) c.args.kind c.known.result
    (known_walked (expr_sites c.args.scope.now (plain_expr c.args.e.now)) c.args.scope.now (plain_expr c.args.e.now) c.walk.result c.known.result c.known.ensures c.walk.ensures)
