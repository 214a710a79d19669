use Rattle.std.proofs.Common.{◌≡◌, map, drop}
use Rattle.normal_lookups.proofs.kinds.marks_named.Given as goal

-- the marks from a place on stand there
abbrev pub invariant-loop-place : goal.invariant-loop-place
invariant-loop-place l = l.names ≡ map (λ m. (m.kind, m.name)) (drop l.place l.marks)
