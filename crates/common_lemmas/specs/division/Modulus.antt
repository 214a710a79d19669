-- `mod` of integers (4.5.5).
use Rattle.std.specs.Prelude.{ℤ, pos, negsuc, ◌+ℤ◌, int_rem, Bool, true, false, ◌||◌, if◌then◌else◌}
use Rattle.std.specs.Ordering.{int_eq}

-- neither is negative, or both are
abbrev pub have_one_sign : ℤ → ℤ → Bool
have_one_sign (pos a) (pos b) = true
have_one_sign (negsuc a) (negsuc b) = true
have_one_sign _ _ = false

-- a remainder that has the sign of the right operand: one of the other sign is moved by that operand
abbrev pub moved : ℤ → ℤ → ℤ
moved r b = if int_eq r (pos 0) || have_one_sign r b then r else r +ℤ b

-- `mod` has the sign of its right operand, and `rem` that of the left one (4.5.5)
abbrev pub modulus : ℤ → ℤ → ℤ
modulus a b = moved (int_rem a b) b
