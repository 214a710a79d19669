-- Numbers: what their comparisons say, and small sums.
use Rattle.std.proofs.Common.{◌≡◌, ◌==◌, ◌<◌, ◌≤◌, ◌+◌, ◌-◌, ℕ, suc, pred, max, nat_eq, nat_lt, nat_le, ℤ, pos, ◌≤ℤ◌, ◌+ℤ◌, int_le, true, false, refl, sym, arith}
use Rattle.std.proofs.lemmas.Bool.{eq-eqb, ne_eqb, eqb-true, eqb-false}
use Rattle.std.proofs.lemmas.Bool.Decides.{nat_tests}
use Rattle.std.proofs.lemmas.Int.{ints}

-- ---- equal or not

pub equal_self : (n : ℕ) → (n == n) ≡ true
equal_self n = eq-eqb n n refl

pub equal_is : (a b : ℕ) → (a == b) ≡ true → a ≡ b
equal_is a b h = eqb-true a b h

pub unequal : (a b : ℕ) → (a ≡ b → ⊥) → (a == b) ≡ false
unequal a b h = ne_eqb a b h

pub unequal_turned : (a b : ℕ) → (a == b) ≡ false → (b == a) ≡ false
unequal_turned a b h = ne_eqb b a (λ e. eqb-false a b h (sym e))

pub unequal_above : (a b : ℕ) → b < a → (a == b) ≡ false
unequal_above a b low = ne_eqb a b (λ e. omega (arith, low, e))

pub next_not_zero : (k : ℕ) → (suc k == 0) ≡ false
next_not_zero k = ne_eqb (suc k) 0 (λ e. omega (arith, e))

-- ---- less or not

pub le_true : (a b : ℕ) → a ≤ b → nat_le a b ≡ true
le_true a b low = grind (arith, low)

pub le_false : (a b : ℕ) → b < a → nat_le a b ≡ false
le_false a b low = grind (arith, low)

pub lt_true : (a b : ℕ) → a < b → nat_lt a b ≡ true
lt_true a b h = grind (arith, nat_tests)

pub lt_false : (a b : ℕ) → b ≤ a → nat_lt a b ≡ false
lt_false a b h = grind (arith, nat_tests)

pub le_is : (a b : ℕ) → nat_le a b ≡ true → a ≤ b
le_is a b e = grind (arith, e)

pub le_is_not : (a b : ℕ) → nat_le a b ≡ false → b < a
le_is_not a b e = grind (arith, e)

pub lt_is : (a b : ℕ) → nat_lt a b ≡ true → a < b
lt_is a b h = grind (arith, nat_tests)

pub above_zero : (n : ℕ) → 0 < n → nat_eq n 0 ≡ false
above_zero n low = ne_eqb n 0 (λ e. omega (arith, low, e))

pub below_pred : (m n : ℕ) → n < m → n ≤ pred m
below_pred m n low = omega (arith, low)

-- ---- sums

pub zero_more : (n : ℕ) → 0 + n ≡ n
zero_more n = omega arith

pub more_zero : (n : ℕ) → n + 0 ≡ n
more_zero n = omega arith

pub one_more : (n : ℕ) → 1 + n ≡ suc n
one_more n = omega arith

pub seam_at : (m n k : ℕ) → m ≡ n + k → m - k ≡ n
seam_at m n k h = omega (arith, h)

pub within_sum : (count all new old : ℕ) → count ≡ old → all ≡ new + old → count ≤ all
within_sum count all new old p q = omega arith

pub most_of_three : (a b c m n : ℕ) → m ≤ n → b ≡ max a m → c ≡ max b n → c ≡ max a n
most_of_three a b c m n le h k = omega arith

-- ---- integers

pub int_le_true : (a b : ℤ) → a ≤ℤ b → int_le a b ≡ true
int_le_true a b h = grind (arith, ints)

pub int_le_is : (a b : ℤ) → int_le a b ≡ true → a ≤ℤ b
int_le_is a b h = grind (arith, ints)

pub int_more_zero : (z : ℤ) → z +ℤ pos 0 ≡ z
int_more_zero z = grind (arith, ints)
