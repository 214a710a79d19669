-- Numbers of 32 bits: the cap is none of them, and each of them stands below it.
use Rattle.std.proofs.Common.{◌≡◌, ℕ, ℤ, pos, negsuc, neg_ℤ, suc, ◌^◌, ◌<◌, ◌≤◌, Bool, true, false, cond, List, Option, None, Some, option_map, refl, ap, ◌∙◌, sym, arith, inl, inr, decimal}
use Rattle.std.specs.Fmt.{signed_decimal}
use Rattle.std.specs.Int.Signed.{mag}
use Rattle.std.specs.Prelude.{int_le, nat_lt, is_some, unwrap_or, option_and_then}
use Rattle.std.proofs.lemmas.Bool.{cases_Bool, cases_lt, and_parts, leb-true, ltb-true}
use Rattle.seq_file.specs.text_lines.Numerals.{natural, integer, only_if, is_small_integer, small_integer, is_small_number, small_number}
use Rattle.seq_file.specs.text_lines.Capped.{capped, capped_integer}
use Rattle.seq_file.proofs.text_lines.Capping.{some-is, capped-small, capped-large}
use Rattle.seq_file.proofs.text_lines.Spelling.{natural-of_decimal, integer-of_signed, word-of_natural, word-of_integer}
use Rattle.common_lemmas.proofs.Truth.{clash}

integer-exact : (z : ℤ) → is_small_integer z ≡ true → capped_integer z ≡ z
integer-exact (pos n) h = ap pos (capped-small n (omega (arith, leb-true n 2147483647 h)))
integer-exact (negsuc n) h =
    ap (λ t. neg_ℤ (pos t)) (capped-small (suc n) (omega (arith, leb-true n 2147483647 (and_parts (int_le (negsuc 2147483647) (negsuc n)) true h).0)))

integer-none : (z : ℤ) → is_small_integer z ≡ false → is_small_integer (capped_integer z) ≡ false
integer-none (pos n) h = elim (cases_lt n (2 ^ 32)) [
  | inl lt ↦ ap (λ t. is_small_integer (pos t)) (capped-small n (omega (arith, lt))) ∙ h
  | inr ge ↦ ap (λ t. is_small_integer (pos t)) (capped-large n ge)
]
integer-none (negsuc n) h = elim (cases_lt n (2 ^ 32)) [
  | inl lt ↦ ap (λ t. is_small_integer (neg_ℤ (pos t))) (capped-small (suc n) (omega (arith, lt))) ∙ h
  | inr ge ↦ ap (λ t. is_small_integer (neg_ℤ (pos t))) (capped-large (suc n) (omega (arith, ge)))
]

integer-same : (z : ℤ) → only_if is_small_integer (capped_integer z) ≡ only_if is_small_integer z
integer-same z = elim (cases_Bool (is_small_integer z)) [
  | inl e ↦ ap (only_if is_small_integer) (integer-exact z e)
  | inr e ↦ ap (λ t. cond t (Some (capped_integer z)) None) (integer-none z e) ∙ sym (ap (λ t. cond t (Some z) None) e)
]

number-same : (n : ℕ) → only_if is_small_number (capped n) ≡ only_if is_small_number n
number-same n = elim (cases_lt n (2 ^ 32)) [
  | inl lt ↦ ap (only_if is_small_number) (capped-small n (omega (arith, lt)))
  | inr ge ↦ ap (only_if is_small_number) (capped-large n ge) ∙ sym (ap (λ t. cond t (Some n) None) (not-small n ge))
]
  where
    not-small : (n : ℕ) → 2 ^ 32 ≤ n → is_small_number n ≡ false
    not-small n ge = elim (cases_Bool (nat_lt n (2 ^ 32))) [
      | inl e ↦ absurd (omega (arith, ge, ltb-true n (2 ^ 32) e))
      | inr e ↦ e
    ]

pub integer-is : {i j : ℤ} → Some i ≡ Some j → i ≡ j
integer-is h = ap (λ o. unwrap_or o (pos 0)) h

pub narrow-integer : (i : ℤ) (o : Option ℤ) → Some i ≡ option_map capped_integer o → only_if is_small_integer i ≡ option_and_then (only_if is_small_integer) o
narrow-integer i None h = clash (sym (ap is_some h))
narrow-integer i (Some z) h = ap (only_if is_small_integer) (integer-is h) ∙ integer-same z

pub narrow-no_integer : (o : Option ℤ) → None ≡ option_map capped_integer o → None ≡ option_and_then (only_if is_small_integer) o
narrow-no_integer None h = refl
narrow-no_integer (Some z) h = clash (ap is_some h)

pub narrow-number : (n : ℕ) (o : Option ℕ) → Some n ≡ option_map capped o → only_if is_small_number n ≡ option_and_then (only_if is_small_number) o
narrow-number n None h = clash (sym (ap is_some h))
narrow-number n (Some m) h = ap (only_if is_small_number) (some-is h) ∙ number-same m

pub narrow-no_number : (o : Option ℕ) → None ≡ option_map capped o → None ≡ option_and_then (only_if is_small_number) o
narrow-no_number None h = refl
narrow-no_number (Some m) h = clash (ap is_some h)

pub ruleset narrowing = (narrow-integer, narrow-no_integer, narrow-number, narrow-no_number)

-- such a number and the word that writes it
pub integer-small : (z : ℤ) → is_small_integer z ≡ true → mag z < 2 ^ 63
integer-small (pos n) h = omega (arith, leb-true n 2147483647 h)
integer-small (negsuc n) h = omega (arith, leb-true n 2147483647 (and_parts (int_le (negsuc 2147483647) (negsuc n)) true h).0)

pub number-small : (n : ℕ) → is_small_number n ≡ true → n < 2 ^ 64
number-small n h = omega (arith, ltb-true n (2 ^ 32) h)

pub small_integer-of_signed : (z : ℤ) → is_small_integer z ≡ true → small_integer (signed_decimal z) ≡ Some z
unfolding small_integer
small_integer-of_signed z h =
    ap (option_and_then (only_if is_small_integer)) (integer-of_signed z (integer-small z h)) ∙ ap (λ t. cond t (Some z) None) h

pub small_number-of_decimal : (n : ℕ) → is_small_number n ≡ true → small_number (decimal n) ≡ Some n
unfolding small_number
small_number-of_decimal n h =
    ap (option_and_then (only_if is_small_number)) (natural-of_decimal n (number-small n h)) ∙ ap (λ t. cond t (Some n) None) h

only-case : {X : Type 0} (test : X → Bool) (o : Option X) (x : X) → option_and_then (only_if test) o ≡ Some x → (o ≡ Some x) × (test x ≡ true)
only-case test None x h = clash (ap is_some h)
only-case test (Some y) x h = elim (cases_Bool (test y)) [
  | inl e ↦
      let same : y ≡ x = ap (λ o. unwrap_or o y) (sym (ap (λ t. cond t (Some y) None) e) ∙ h) in
      (ap Some same, ap test (sym same) ∙ e)
  | inr e ↦ clash (ap is_some (sym (ap (λ t. cond t (Some y) None) e) ∙ h))
]

pub word-of_small_integer : (word : List ℕ) (z : ℤ) → small_integer word ≡ Some z → (word ≡ signed_decimal z) × (is_small_integer z ≡ true)
unfolding small_integer
word-of_small_integer word z h =
    let both = only-case is_small_integer (integer word) z h in
    (word-of_integer word z both.0 (integer-small z both.1), both.1)

pub word-of_small_number : (word : List ℕ) (n : ℕ) → small_number word ≡ Some n → (word ≡ decimal n) × (is_small_number n ≡ true)
unfolding small_number
word-of_small_number word n h =
    let both = only-case is_small_number (natural word) n h in
    (word-of_natural word n both.0 (number-small n both.1), both.1)
