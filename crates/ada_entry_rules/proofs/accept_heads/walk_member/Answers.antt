use Rattle.std.proofs.Common.{Some, ◌∙◌}
use Rattle.ada_tree.specs.PlainExpr.{plain_expr}
use Rattle.ada_static_rules.specs.Demand.{must_lie_in}
use Rattle.ada_static_rules.specs.Sites.{expr_of}
use Rattle.ada_scopes.specs.Entries.{plain_range}
use Rattle.ada_static_rules.proofs.Meeting.{behind}
use Rattle.ada_entry_rules.proofs.accept_heads.walk_member.Goals as goal

pub returns : goal.returns
returns c =
    c.first.ensures
    ∙ behind (expr_of c.args.scope.now (Some c.args.range.kind) (plain_expr c.args.index.now)) c.args.scope.now (must_lie_in (plain_expr c.args.index.now) (Some (plain_range c.args.range))) _ _ c.walk_of-walked.ensures.refusal_is c.refuse_outside-outside.ensures
