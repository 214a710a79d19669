use Rattle.std.proofs.Common.{◌∙◌, ap, ◌∷◌, []}
use Rattle.syn_event.specs.CheckScope.{declares}
use Rattle.syn_event.specs.CheckSites.{site, if_there}
use Rattle.ada_check_rules.specs.rules.Sooner.{sooner}
use Rattle.ada_check_rules.specs.rules.RefusedFirst.{refused_first}
use Rattle.ada_check_places.proofs.statements.single_statements.walk_loop_head.Goals as goal

pub returns : goal.returns
returns c =
    c.first.ensures
    ∙ ap (λ o. sooner o c.in_ok-head.head) (c.walk_label-label.ensures c.args.around.now)
    ∙ ap (sooner (refused_first c.args.by.now (if_there (λ x. site c.args.around.now (declares x) ∷ []) c.args.name))) c.in_ok-head.ensures
