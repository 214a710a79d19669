use Rattle.std.proofs.Common.{ap, sym, ◌∙◌}
use Rattle.ada_scopes.proofs.EntryNames.{any_at}
use Rattle.ada_scopes.proofs.scope.Scope.is_at_hint.Goals as goal

pub returns-then-has_entry : goal.returns-then-has_entry
returns-then-has_entry c = λ yes.
    any_at c.args.id c.self.inside.names c.args.self.now.names _ c.at.result.now
    (ap (λ s. s.names) c.self.view_is) c.at.ensures (sym c.has_entry.ensures ∙ c.if-has_entry.true)
