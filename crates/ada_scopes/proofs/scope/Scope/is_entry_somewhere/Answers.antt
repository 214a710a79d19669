use Rattle.std.proofs.Common.{ap, sym, ◌∙◌}
use Rattle.ada_scopes.proofs.EntryNames.{any_more, any_found}
use Rattle.ada_scopes.proofs.scope.Scope.is_entry_somewhere.Goals as goal

pub loop-place-preserved : goal.loop-place-preserved
loop-place-preserved c =
    any_more c.args.id c.self.inside.names c.args.self.now.names c.loop-place.place c.at.result.now _
    (ap (λ s. s.names) c.self.view_is) c.at.ensures (sym c.has_entry.ensures ∙ c.if-has_entry.false) c.loop-place.invariant

pub returns-then-has_entry : goal.returns-then-has_entry
returns-then-has_entry c =
    any_found c.args.id c.self.inside.names c.args.self.now.names c.loop-place.place c.at.result.now _
    (ap (λ s. s.names) c.self.view_is) c.at.ensures (sym c.has_entry.ensures ∙ c.if-has_entry.true) c.loop-place.invariant
