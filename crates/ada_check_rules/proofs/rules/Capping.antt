-- Sums and products of counts that stop at a number beyond every limit.
use Rattle.std.specs.Prelude.{◌≡◌, ◌^◌, ℕ, zero, suc, ◌+◌, ◌*◌, ◌<◌, ◌≤◌, min, nat_lt, nat_le, Bool, true, false, ◌&&◌, refl}
use Rattle.std.proofs.Common.{sym, ap, ◌∙◌, arith}
use Rattle.std.proofs.lemmas.Bool.Decides.{nat_tests}
use Rattle.std.proofs.lemmas.Nat.{mul-le}
use Rattle.std.proofs.Math.Nat.{le-mul_of_pos_right}
use Rattle.ada_check_rules.specs.rules.Amounts.{many, capped, plus}

min_twice : (m a : ℕ) → min (min a m) m ≡ min a m
min_twice m a = omega arith

pub capped_twice : (a : ℕ) → capped (capped a) ≡ capped a
capped_twice a = min_twice many a

min_left : (m a b : ℕ) → min (min a m + b) m ≡ min (a + b) m
min_left m a b = omega arith

min_both : (m a b : ℕ) → min (min a m + min b m) m ≡ min (a + b) m
min_both m a b = omega arith

pub capped_left : (a b : ℕ) → capped (capped a + b) ≡ capped (a + b)
capped_left a b = min_left many a b

pub capped_sum : (a b : ℕ) → capped (capped a + capped b) ≡ capped (a + b)
capped_sum a b = min_both many a b

min_assoc : (m a b c : ℕ) → min (min (a + b) m + c) m ≡ min (a + min (b + c) m) m
min_assoc m a b c = omega arith

pub plus_assoc : (a b c : ℕ) → plus (plus a b) c ≡ plus a (plus b c)
plus_assoc a b c = min_assoc many a b c

-- ---- products

at_least : (m a b : ℕ) → m ≤ a → 0 < b → m ≤ a * b
at_least m a b h g = let more : a ≤ a * b = le-mul_of_pos_right a g in omega arith

at_least_too : (m a b : ℕ) → m ≤ b → 0 < a → m ≤ a * b
at_least_too m a b h g = let more : m ≤ a * m = at_most m a g in let up : a * m ≤ a * b = mul-le a m a b (omega arith) h in omega arith
  where
    at_most : (n k : ℕ) → 0 < k → n ≤ k * n
    at_most n k p = let up : 1 * n ≤ k * n = mul-le 1 n k n (omega arith) (omega arith) in omega arith

pub large_left : (a b : ℕ) → many ≤ a → 0 < b → many ≡ capped (a * b)
large_left a b h g = let up : many ≤ a * b = at_least many a b h g in omega arith

pub large_right : (a b : ℕ) → many ≤ b → 0 < a → many ≡ capped (a * b)
large_right a b h g = let up : many ≤ a * b = at_least_too many a b h g in omega arith

pub small_fits : (a b : ℕ) → a < many → b < many → a * b < 2 ^ 64
small_fits a b h g = let up : a * b ≤ many * many = mul-le a b many many (omega arith) (omega arith) in omega arith

pub none_of : (a : ℕ) → 0 ≡ capped (0 * a)
none_of a = omega arith

pub of_none : (a : ℕ) → 0 ≡ capped (a * 0)
of_none a = omega arith

-- a product of capped numbers is one of the numbers, as far as it is counted
split : (a b : ℕ) (big_a big_b : Bool) → nat_lt a many ≡ big_a → nat_lt b many ≡ big_b → capped (capped a * capped b) ≡ capped (a * b)
split a b true true h g = ap (λ x. capped (x * capped b)) (within a h) ∙ ap (λ y. capped (a * y)) (within b g)
  where
    within : (n : ℕ) → nat_lt n many ≡ true → capped n ≡ n
    within n t = grind (arith, nat_tests)
split a zero false big h g = omega arith
split a (suc b) false big h g = grind (arith, nat_tests, large_left)
split zero b true false h g = omega arith
split (suc a) b true false h g = grind (arith, nat_tests, large_right)

pub capped_product : (a b : ℕ) → capped (capped a * capped b) ≡ capped (a * b)
capped_product a b = split a b (nat_lt a many) (nat_lt b many) refl refl

pub capped_left_product : (a b : ℕ) → capped (capped a * b) ≡ capped (a * b)
capped_left_product a b = sym (capped_product (capped a) b) ∙ ap (λ x. capped (x * capped b)) (capped_twice a) ∙ capped_product a b

-- ---- tests

pub both_ways : (p q : Bool) → (p ≡ true → q ≡ true) → (q ≡ true → p ≡ true) → p ≡ q
both_ways true true h g = refl
both_ways true false h g = sym (h refl)
both_ways false true h g = g refl
both_ways false false h g = refl

-- a limit is passed by the numbers exactly where it is by what is counted of them
over_by : (m l b h : ℕ) → l < m → (nat_le (min b m) l && nat_lt l (min b m + min h m)) ≡ true → (nat_le b l && nat_lt l (b + h)) ≡ true
over_by m l b h le t = grind (arith, nat_tests)

over_of : (m l b h : ℕ) → l < m → (nat_le b l && nat_lt l (b + h)) ≡ true → (nat_le (min b m) l && nat_lt l (min b m + min h m)) ≡ true
over_of m l b h le t = grind (arith, nat_tests)

pub over_same : (l b h : ℕ) → l < many → (nat_le (capped b) l && nat_lt l (capped b + capped h)) ≡ (nat_le b l && nat_lt l (b + h))
over_same l b h le = both_ways _ _ (over_by many l b h le) (over_of many l b h le)

-- one step of a count, and its end
add_step : (m a b i j k : ℕ) → min a m ≡ min (b + i) m → min j m ≡ min (a + k) m → min j m ≡ min (b + (i + k)) m
add_step m a b i j k h g = omega arith

pub count_step : (a b i j k : ℕ) → capped a ≡ capped (b + i) → capped j ≡ capped (a + k) → capped j ≡ capped (b + (i + k))
count_step a b i j k h g = add_step many a b i j k h g

pub count_all : (a b i n : ℕ) → n ≤ i → i ≤ n → capped a ≡ capped (b + i) → capped a ≡ capped (b + n)
count_all a b i n h g e = e ∙ ap (λ k. capped (b + k)) (same i n h g)
  where
    same : (k l : ℕ) → l ≤ k → k ≤ l → k ≡ l
    same k l p q = omega arith

pub ruleset products = (large_left, large_right, small_fits, none_of, of_none)

pub ruleset capping = (capped_twice)
