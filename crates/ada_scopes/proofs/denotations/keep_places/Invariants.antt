use Rattle.std.proofs.Common.{◌≡◌, ◌==◌, ℕ, nat_eq, take}
use Rattle.std.specs.HashMap.{get}
use Rattle.std.specs.List.{position}
use Rattle.ada_static_rules.specs.StaticValue.{first_of_two}
use Rattle.ada_scopes.proofs.denotations.keep_places.Given as goal

-- the places of the entries so far are kept
abbrev pub invariant-loop-place : goal.invariant-loop-place
invariant-loop-place l = (q : ℕ) → get nat_eq l.map q ≡ first_of_two (get nat_eq l.fn.map q) (position (λ e. e.name.0 == q) (take l.place l.parts))
