use Rattle.std.proofs.Common.{◌≡◌, drop}
use Rattle.std.specs.Prelude.{◌==◌}
use Rattle.std.specs.List.{find}
use Rattle.ada_value.proofs.fixed.constant_named.Given as goal

-- the constant that is looked for is not among those before
abbrev pub invariant-loop-constant : goal.invariant-loop-constant
invariant-loop-constant l = find (λ c. c.name.0 == l.name.0) (drop l.constant-index l.constant-items) ≡ find (λ c. c.name.0 == l.name.0) l.constant-items
