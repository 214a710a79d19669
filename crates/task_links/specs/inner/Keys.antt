-- When two keys of a map are the same.
use Rattle.std.specs.Prelude.{ℕ, ℤ, nat_eq, Bool, ◌&&◌}
use Rattle.std.specs.Ordering.{int_eq}

-- an owner and a name
abbrev pub entry_eq : ℕ × ℕ → ℕ × ℕ → Bool
entry_eq x y = nat_eq x.0 y.0 && nat_eq x.1 y.1

-- a name and an index
abbrev pub member_eq : ℕ × ℤ → ℕ × ℤ → Bool
member_eq x y = nat_eq x.0 y.0 && int_eq x.1 y.1
