use Rattle.std.proofs.Common.{◌≡◌, drop}
use Rattle.std.specs.Prelude.{◌==◌}
use Rattle.std.specs.List.{find}
use Rattle.ada_scopes.proofs.values.named_values.constant_of.Given as goal

-- the constant that is looked for is not among those before
abbrev pub invariant-loop-constant : goal.invariant-loop-constant
invariant-loop-constant l = find (λ c. c.name.0 == l.id.0) (drop l.constant-index l.constant-items) ≡ find (λ c. c.name.0 == l.id.0) l.constant-items
