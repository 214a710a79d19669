use Rattle.std.proofs.Common.{◌≡◌, drop}
use Rattle.scoped_names.proofs.ScopedNames.leave.Given as goal

-- so many names are gone
abbrev pub invariant-loop : goal.invariant-loop
invariant-loop g l = l.self ≡ drop l.counter l.fn.self
