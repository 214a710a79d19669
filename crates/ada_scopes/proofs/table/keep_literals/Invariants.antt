use Rattle.std.proofs.Common.{◌≡◌, ◌==◌, ℕ, nat_eq, take}
use Rattle.std.specs.HashMap.{get}
use Rattle.std.specs.List.{position}
use Rattle.ada_static_rules.specs.StaticValue.{first_of_two}
use Rattle.ada_scopes.proofs.table.keep_literals.Given as goal

-- the positions of the literals so far are kept
abbrev pub invariant-loop-position : goal.invariant-loop-position
invariant-loop-position l = (q : ℕ) → get nat_eq l.map q ≡ first_of_two (get nat_eq l.fn.map q) (position (λ n. n.0 == q) (take l.position l.names))
