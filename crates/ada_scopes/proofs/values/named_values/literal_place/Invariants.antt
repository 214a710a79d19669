use Rattle.std.proofs.Common.{◌≡◌, drop}
use Rattle.ada_static_rules.specs.StaticValue.{literal_position}
use Rattle.ada_scopes.proofs.values.named_values.literal_place.Given as goal

-- the literal that is looked for is in no kind before
abbrev pub invariant-loop-kind : goal.invariant-loop-kind
invariant-loop-kind l = literal_position (drop l.kind-index l.kind-items) l.id ≡ literal_position l.kind-items l.id
