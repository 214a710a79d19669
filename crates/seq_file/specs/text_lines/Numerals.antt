-- Numbers as a file writes them: decimal of any size without leading zeros, and a minus before negative ones (this project's format).
use Rattle.std.specs.Prelude.{ℕ, ℤ, pos, negsuc, zero, suc, Bool, true, false, not, ◌&&◌, int_le, nat_lt, ◌+◌, ◌-◌, ◌*◌, ◌^◌, ◌==◌, nat_le, List, [], ◌∷◌, Option, Some, None, option_map, option_and_then, if◌then◌else◌}

-- a digit of ASCII
abbrev pub is_digit : ℕ → Bool
is_digit b = nat_le 48 b && nat_le b 57

-- digits alone
abbrev pub are_digits : List ℕ → Bool
are_digits [] = true
are_digits (b ∷ rest) = is_digit b && are_digits rest

-- one digit, or several of which the first is no zero
abbrev pub is_natural : List ℕ → Bool
is_natural [] = false
is_natural (b ∷ []) = is_digit b
is_natural (b ∷ c ∷ rest) = not (b == 48) && are_digits (b ∷ c ∷ rest)

-- the number that digits write behind those of a number
abbrev pub value_behind : ℕ → List ℕ → ℕ
value_behind value [] = value
value_behind value (b ∷ rest) = value_behind (value * 10 + (b - 48)) rest

-- The number that is not negative which a word writes.
unfoldable pub natural : List ℕ → Option ℕ
natural word = if is_natural word then Some (value_behind 0 word) else None

-- a number below zero; there is no negative zero
abbrev pub below_zero : ℕ → Option ℤ
below_zero zero = None
below_zero (suc n) = Some (negsuc n)

-- The number that a word writes, with a minus where it is negative.
unfoldable pub integer : List ℕ → Option ℤ
integer [] = None
integer (b ∷ rest) = if b == 45 then option_and_then below_zero (natural rest) else option_map pos (natural (b ∷ rest))

-- a number that should not be negative; a negative one stands for a number that no program has
abbrev pub counted : ℤ → ℕ
counted (pos n) = n
counted (negsuc n) = 2 ^ 64

-- The number of a task, an entry or an alternative, or a count, that a word writes.
unfoldable pub count : List ℕ → Option ℕ
count word = option_map counted (integer word)

-- the number, where it passes the test
abbrev pub only_if : {X : Type 0} → (X → Bool) → X → Option X
only_if test x = if test x then Some x else None

-- an integer of 32 bits
abbrev pub is_small_integer : ℤ → Bool
is_small_integer z = int_le (negsuc 2147483647) z && int_le z (pos 2147483647)

-- The integer of 32 bits that a word writes.
unfoldable pub small_integer : List ℕ → Option ℤ
small_integer word = option_and_then (only_if is_small_integer) (integer word)

-- a number of 32 bits
abbrev pub is_small_number : ℕ → Bool
is_small_number n = nat_lt n (2 ^ 32)

-- The number of 32 bits without a sign that a word writes.
unfoldable pub small_number : List ℕ → Option ℕ
small_number word = option_and_then (only_if is_small_number) (natural word)
