use Rattle.std.proofs.Common.{ap, ◌∙◌, sym, option_map}
use Rattle.ada_static_rules.specs.Scope.{meaning}
use Rattle.ada_scopes.specs.Denotations.{plain_thing}
use Rattle.ada_scopes.proofs.Naming.{meaning_seen, map_twice}
use Rattle.ada_scopes.proofs.scope.Scope.meaning.Goals as goal

pub returns : goal.returns
returns c =
    map_twice (λ t. t.now) plain_thing c.meaning.result
    ∙ ap (option_map plain_thing) c.meaning.ensures
    ∙ sym (meaning_seen c.self.inside.names c.args.id.0)
    ∙ ap (λ s. meaning s c.args.id) c.self.view_is
