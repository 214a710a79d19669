use Rattle.std.proofs.Common.{◌≡◌, map, drop}
use Rattle.normal_lookups.proofs.ranges.parts_named.Given as goal

-- the parts from a place on stand there
abbrev pub invariant-loop-place : goal.invariant-loop-place
invariant-loop-place l = l.ranges ≡ map (λ x. (x.name.name.0, x.index_range)) (drop l.place l.parts)
