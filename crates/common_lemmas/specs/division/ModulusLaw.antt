-- What the standard says of `mod` (4.5.5).
use Rattle.std.specs.Prelude.{◌≡◌, ◌≢◌, ◌⊎◌, ◌<◌, ℤ, pos, ◌+ℤ◌, ◌*ℤ◌, unsigned_abs, true}
use Rattle.common_lemmas.specs.division.Modulus.{have_one_sign, modulus}

pub record IsModulus (a b m : ℤ) : Type 0 where
  -- it is 0 or has the sign of the right operand
  pub sign : (m ≡ pos 0) ⊎ (have_one_sign m b ≡ true)
  -- it is smaller than that operand, signs apart
  pub small : unsigned_abs m < unsigned_abs b
  -- it differs from the left operand by a multiple of the right one
  pub whole : (n : ℤ) × (a ≡ n *ℤ b +ℤ m)

-- `mod` is the standard's, for every divisor but 0
abbrev pub ModulusLaw : Type 0
ModulusLaw = (a b : ℤ) → b ≢ pos 0 → IsModulus a b (modulus a b)
