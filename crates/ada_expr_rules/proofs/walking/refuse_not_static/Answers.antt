use Rattle.std.proofs.Common.{ap, ◌∙◌}
use Rattle.std.specs.Prelude.{[], ◌∷◌, ◌&&◌, not, is_some, if◌then◌else◌}
use Rattle.ada_tree.specs.PlainExpr.{plain_expr}
use Rattle.ada_static_rules.specs.Sooner.{found}
use Rattle.ada_expr_rules.proofs.Expressions.{static_met}
use Rattle.ada_expr_rules.proofs.walking.refuse_not_static.Goals as goal

pub returns : goal.returns
returns c =
    c.refuse_if.ensures
    ∙ ap (λ b. found 4 (if b then c.place.result ∷ [] else [])) c.is_not_static.ensures
    ∙ ap (λ s. found 4 (if is_some c.args.kind && not (is_some c.args.value) then s ∷ [] else [])) c.place.ensures
    ∙ static_met c.args.scope.now (plain_expr c.args.e.now) c.args.kind c.args.value c.requires.kind c.requires.value
