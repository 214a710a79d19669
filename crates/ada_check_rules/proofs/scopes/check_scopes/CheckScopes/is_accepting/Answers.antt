use Rattle.std.proofs.Common.{ap, ◌∙◌, ◌==◌}
use Rattle.syn_event.specs.RuleAcceptPlace.{is_among}
use Rattle.std.specs.List.{list_any}
use Rattle.ada_check_rules.proofs.scopes.Around.{any_reverse}
use Rattle.ada_check_rules.proofs.scopes.check_scopes.CheckScopes.is_accepting.Goals as goal

pub returns : goal.returns
returns c =
    c.contains.ensures.value
    ∙ ap (list_any (λ n. n.0 == c.args.id.0)) c.deref.ensures.value
    ∙ any_reverse (λ n. n.0 == c.args.id.0) c.self.inside.accepting.items
    ∙ ap (λ s. is_among s.accepting c.args.id) c.self.view_is
