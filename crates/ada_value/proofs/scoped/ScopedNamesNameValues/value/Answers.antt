use Rattle.std.proofs.Common.{ap, sym, ◌∙◌, option_map}
use Rattle.ada_value.specs.Evaluating.{name_value}
use Rattle.ada_value.specs.inner.Bindings.{object_bound}
use Rattle.ada_value.proofs.Lookups.{object_named_bound}
use Rattle.ada_value.proofs.scoped.ScopedNamesNameValues.value.Goals as goal

pub returns : goal.returns
returns c =
    c.value_of.ensures
    ∙ ap (λ o. name_value c.args.self.now.declared.now (option_map (object_bound c.args.self.now.declared.now) o) c.args.name) c.latest.ensures
    ∙ ap (λ o. name_value c.args.self.now.declared.now o c.args.name) (sym (object_named_bound c.args.self.now.declared.now c.args.name c.args.self.now.scopes.now))
