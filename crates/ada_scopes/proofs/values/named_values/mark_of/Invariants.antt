use Rattle.std.proofs.Common.{◌≡◌, drop}
use Rattle.std.specs.List.{find}
use Rattle.ada_static_rules.specs.StaticValue.{is_named}
use Rattle.ada_scopes.proofs.values.named_values.mark_of.Given as goal

-- the mark that is looked for is not among those before
abbrev pub invariant-loop-mark : goal.invariant-loop-mark
invariant-loop-mark l = find (λ m. is_named l.id m.name) (drop l.mark-index l.mark-items) ≡ find (λ m. is_named l.id m.name) l.mark-items
