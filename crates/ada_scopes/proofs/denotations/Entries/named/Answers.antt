use Rattle.std.proofs.Common.{ap, ◌∙◌}
use Rattle.std.specs.Prelude.{slice_get}
use Rattle.ada_static_rules.specs.Scope.{entry_named}
use Rattle.ada_scopes.proofs.Placing.{named_there, named_nowhere}
use Rattle.ada_scopes.proofs.denotations.Entries.named.Goals as goal

pub returns-in-Some : goal.returns-in-Some
returns-in-Some c =
    named_there c.self.inside.parts.items c.args.id c.in-Some.place.now c.part_at.result
    (c.in-Some.ensures.value ∙ c.self.invariant c.args.id.0)
    (c.part_at.ensures ∙ ap (λ l. slice_get l c.in-Some.place.now) c.as_slice.ensures.value)
    ∙ ap (λ l. entry_named l c.args.id) c.self.view_is

pub returns-in-None : goal.returns-in-None
returns-in-None c =
    named_nowhere c.self.inside.parts.items c.args.id (c.in-None.ensures.value ∙ c.self.invariant c.args.id.0)
    ∙ ap (λ l. entry_named l c.args.id) c.self.view_is
