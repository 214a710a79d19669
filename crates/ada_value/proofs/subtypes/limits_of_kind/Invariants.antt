use Rattle.std.proofs.Common.{◌≡◌, drop}
use Rattle.std.specs.Prelude.{◌==◌}
use Rattle.std.specs.List.{find}
use Rattle.ada_value.proofs.subtypes.limits_of_kind.Given as goal

-- a mark of the kind is not among those before
abbrev pub invariant-loop-mark : goal.invariant-loop-mark
invariant-loop-mark l = find (λ m. m.kind == l.kind) (drop l.mark-index l.mark-items) ≡ find (λ m. m.kind == l.kind) l.mark-items
