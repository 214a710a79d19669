use Rattle.std.proofs.Common.{◌≡◌, take, find, ◌==◌}
use Rattle.ada_value.specs.inner.Bindings.{latest_first}
use Rattle.ada_value.proofs.bindings.latest_in.Given as goal

-- the name is in no scope behind
abbrev pub invariant-loop-place : goal.invariant-loop-place
invariant-loop-place l = find (λ b. b.name.0 == l.name.0) (latest_first (take l.place l.scopes)) ≡ find (λ b. b.name.0 == l.name.0) (latest_first l.scopes)
