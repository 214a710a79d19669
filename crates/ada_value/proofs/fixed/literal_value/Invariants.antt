use Rattle.std.proofs.Common.{◌≡◌, drop}
use Rattle.ada_value.specs.Evaluating.{literal_value}
use Rattle.ada_value.proofs.fixed.literal_value.Given as goal

-- the literal is in no kind before
abbrev pub invariant-loop-place : goal.invariant-loop-place
invariant-loop-place l = literal_value (drop l.place l.types.kinds) l.place l.name ≡ literal_value l.types.kinds 0 l.name
