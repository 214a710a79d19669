-- `mod` is the standard's.
use Rattle.std.proofs.Common.{◌≡◌, ◌≢◌, inl, inr, ℕ, zero, suc, ◌<◌, ℤ, pos, negsuc, ◌+ℤ◌, ◌-ℤ◌, ◌*ℤ◌, ◌<ℤ◌, ◌≤ℤ◌, Bool, true, false, if◌then◌else◌, ◌||◌, refl, sym, ap, subst, ◌∙◌, arith}
use Rattle.std.specs.Prelude.{int_div, int_rem, unsigned_abs}
use Rattle.std.specs.Ordering.{int_eq}
use Rattle.std.proofs.lemmas.Int.{ints, quot-rem, rem_below}
use Rattle.std.proofs.Math.IntN.{pred_ℤ-*ℤ, pred_ℤ}
use Rattle.common_lemmas.specs.division.Modulus.{have_one_sign, moved}
use Rattle.common_lemmas.specs.division.ModulusLaw.{IsModulus, ModulusLaw}

positive_is_not_zero : (k : ℕ) → int_eq (pos (suc k)) (pos 0) ≡ false
positive_is_not_zero k = grind (arith, ints)

negative_is_not_zero : (k : ℕ) → int_eq (negsuc k) (pos 0) ≡ false
negative_is_not_zero k = refl

-- what a remainder is moved to, once it is known whether it is 0
moved_is : (r b : ℤ) (t : Bool) → int_eq r (pos 0) ≡ t → moved r b ≡ (if t || have_one_sign r b then r else r +ℤ b)
moved_is r b t e = ap (λ v. if v || have_one_sign r b then r else r +ℤ b) e

-- a multiple less, and the divisor more
shifted : (x b r a : ℤ) → x +ℤ r ≡ a → a ≡ (x -ℤ b) +ℤ (r +ℤ b)
shifted x b r a e = omega (arith, ints)

one_less : (q b r a : ℤ) → q *ℤ b +ℤ r ≡ a → a ≡ pred_ℤ q *ℤ b +ℤ (r +ℤ b)
one_less q b r a e = shifted (q *ℤ b) b r a e ∙ ap (λ x. x +ℤ (r +ℤ b)) (sym (pred_ℤ-*ℤ q b))

below_zero : (x : ℤ) (l : ℕ) → x <ℤ pos 0 → have_one_sign x (negsuc l) ≡ true
below_zero (pos n) l h = let no : ⊥ = omega (arith, ints) in absurd no
below_zero (negsuc n) l h = refl

not_below_zero : (x : ℤ) (l : ℕ) → pos 0 ≤ℤ x → have_one_sign x (pos l) ≡ true
not_below_zero (pos n) l h = refl
not_below_zero (negsuc n) l h = let no : ⊥ = omega (arith, ints) in absurd no

small_below : (x : ℤ) (l : ℕ) → x <ℤ pos 0 → negsuc l <ℤ x → unsigned_abs x < suc l
small_below (pos n) l h g = let no : ⊥ = omega (arith, ints) in absurd no
small_below (negsuc n) l h g = omega (arith, ints)

small_above : (x : ℤ) (l : ℕ) → pos 0 ≤ℤ x → x <ℤ pos l → unsigned_abs x < l
small_above (pos n) l h g = omega (arith, ints)
small_above (negsuc n) l h g = let no : ⊥ = omega (arith, ints) in absurd no

law_of_moved : (a b r q : ℤ) → q *ℤ b +ℤ r ≡ a → unsigned_abs r < unsigned_abs b → IsModulus a b (moved r b)
law_of_moved a b (pos zero) q e h = record { sign = inl refl; small = h; whole = (q, sym e) }
law_of_moved a (pos l) (pos (suc k)) q e h =
    subst (IsModulus a (pos l)) (sym (moved_is (pos (suc k)) (pos l) false (positive_is_not_zero k)))
    record { sign = inr refl; small = h; whole = (q, sym e) }
law_of_moved a (negsuc l) (pos (suc k)) q e h =
    let under : (pos (suc k) +ℤ negsuc l) <ℤ pos 0 = omega (arith, ints) in
    let over : negsuc l <ℤ (pos (suc k) +ℤ negsuc l) = omega (arith, ints) in
    subst (IsModulus a (negsuc l)) (sym (moved_is (pos (suc k)) (negsuc l) false (positive_is_not_zero k)))
    record { sign = inr (below_zero _ l under); small = small_below _ l under over; whole = (pred_ℤ q, one_less q (negsuc l) (pos (suc k)) a e) }
law_of_moved a (pos l) (negsuc k) q e h =
    let over : pos 0 ≤ℤ (negsuc k +ℤ pos l) = omega (arith, ints) in
    let under : (negsuc k +ℤ pos l) <ℤ pos l = omega (arith, ints) in
    record { sign = inr (not_below_zero _ l over); small = small_above _ l over under; whole = (pred_ℤ q, one_less q (pos l) (negsuc k) a e) }
law_of_moved a (negsuc l) (negsuc k) q e h = record { sign = inr refl; small = h; whole = (q, sym e) }

not_zero : (b : ℤ) → b ≢ pos 0 → 0 < unsigned_abs b
not_zero (pos zero) h = absurd (h refl)
not_zero (pos (suc n)) h = omega arith
not_zero (negsuc n) h = omega arith

pub modulus_law : ModulusLaw
modulus_law a b h = law_of_moved a b (int_rem a b) (int_div a b) (quot-rem a b) (rem_below a b (not_zero b h))
