-- Numbers as the code keeps them: up to a cap that is larger than every number that a file may have.
use Rattle.std.specs.Prelude.{ℕ, ℤ, pos, negsuc, neg_ℤ, suc, ◌^◌, min}

-- the number, or the cap where it is larger
unfoldable pub capped : ℕ → ℕ
capped n = min n (2 ^ 32)

abbrev pub capped_integer : ℤ → ℤ
capped_integer (pos n) = pos (capped n)
capped_integer (negsuc n) = neg_ℤ (pos (capped (suc n)))
