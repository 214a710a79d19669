use Rattle.std.proofs.Common.{ap, ◌∙◌, map, option_map}
use Rattle.ada_tree.specs.PlainExpr.{plain_expr}
use Rattle.ada_tree.specs.PlainStmt.{plain_formal}
use Rattle.ada_static_rules.specs.Scope.{entry_named}
use Rattle.ada_static_rules.specs.Sites.{if_there, accept_index_sites}
use Rattle.ada_static_rules.specs.Sooner.{sooner}
use Rattle.ada_static_rules.specs.RefusedFirst.{refused_first}
use Rattle.ada_entry_rules.proofs.Accepting.{head_met}
use Rattle.ada_entry_rules.proofs.accept_heads.walk_head.Goals as goal

pub returns : goal.returns
returns c span =
    c.first-2.ensures
    ∙ ap (λ o. sooner o c.walk_formals-marks.result) c.first.ensures
    ∙ head_met c.args.scope.now record { entry = c.args.word; index = option_map plain_expr c.args.index.now; formals = map plain_formal c.args.formals.now; span = span } _ _ _
    (c.refuse_accept-own.ensures span)
    (c.walk_index_if-at.ensures
    ∙ ap (λ o. refused_first (if_there (accept_index_sites c.args.scope.now o) (option_map plain_expr c.args.index.now)))
    (c.named-entry.ensures ∙ ap (λ es. entry_named es c.args.word.name) c.own.ensures))
    c.walk_formals-marks.ensures
