use Rattle.std.proofs.Common.{◌∙◌, ap}
use Rattle.ada_tree.specs.PlainExpr.{plain_expr}
use Rattle.ada_tree.specs.PlainStmt.{plain_target}
use Rattle.ada_static_rules.specs.RuleMismatch.{target_kind}
use Rattle.ada_static_rules.specs.Sites.{target_sites, expr_of}
use Rattle.ada_static_rules.specs.RefusedFirst.{refused_first}
use Rattle.ada_static_rules.proofs.Meeting.{joined}
use Rattle.ada_types.proofs.statements.walk_assign.Goals as goal

pub returns : goal.returns
returns c =
    c.first.ensures
    ∙ joined (target_sites c.args.scope.now (plain_target c.args.target.now)) (expr_of c.args.scope.now (target_kind c.args.scope.now (plain_target c.args.target.now)) (plain_expr c.args.value.now)) _ _ c.walk_target-written.ensures.refusal_is
    (c.walk_of-walked.ensures.refusal_is ∙ ap (λ k. refused_first (expr_of c.args.scope.now k (plain_expr c.args.value.now))) c.walk_target-written.ensures.kind_is)
