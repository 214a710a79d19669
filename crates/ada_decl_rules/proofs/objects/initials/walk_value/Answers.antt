use Rattle.std.proofs.Common.{ap, ◌∙◌, option_map}
use Rattle.ada_tree.specs.PlainExpr.{plain_expr}
use Rattle.ada_static_rules.specs.Demand.{must_lie_in}
use Rattle.ada_static_rules.specs.Sites.{static_of}
use Rattle.ada_static_rules.specs.RefusedFirst.{refused_first}
use Rattle.ada_scopes.specs.Entries.{plain_range}
use Rattle.ada_static_rules.proofs.Meeting.{behind}
use Rattle.ada_decl_rules.proofs.objects.initials.walk_value.Goals as goal

pub returns : goal.returns
returns c =
    let e = plain_expr c.args.e.now in
    c.first.ensures
    ∙ behind (static_of c.args.scope.now (option_map (λ r. r.kind) (option_map plain_range c.args.range)) e) c.args.scope.now (must_lie_in e (option_map plain_range c.args.range)) _ _
    (c.walk_static-walked.ensures.refusal_is ∙ ap (λ k. refused_first (static_of c.args.scope.now k e)) c.kind_of_range.ensures)
    c.refuse_outside-outside.ensures
