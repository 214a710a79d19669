use Rattle.std.proofs.Common.{ap, sym, ◌∙◌, option_map}
use Rattle.ada_value.specs.Evaluating.{component_value}
use Rattle.ada_value.specs.inner.Bindings.{object_bound}
use Rattle.ada_value.proofs.Lookups.{object_named_bound}
use Rattle.ada_value.proofs.scoped.ScopedNamesNameValues.component.Goals as goal

pub returns : goal.returns
returns c =
    c.component_of.ensures
    ∙ ap (λ o. component_value (option_map (object_bound c.args.self.now.declared.now) o) c.args.index) c.latest.ensures
    ∙ ap (λ o. component_value o c.args.index) (sym (object_named_bound c.args.self.now.declared.now c.args.name c.args.self.now.scopes.now))
