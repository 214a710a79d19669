-- The number that a word writes is the one whose text the word is.
use Rattle.std.proofs.Common.{◌≡◌, ℕ, ℤ, pos, negsuc, zero, suc, ◌^◌, ◌<◌, ◌≤◌, Bool, true, false, not, cond, List, [], ◌∷◌, length, get_or, Option, None, Some, option_map, refl, ap, ◌∙◌, sym, subst, arith, rules, ◌⊎◌, inl, inr, decimal}
use Rattle.std.specs.Fmt.{signed_decimal}
use Rattle.std.specs.Int.Signed.{mag}
use Rattle.std.specs.Prelude.{◌==◌, is_some, unwrap_or, option_and_then}
use Rattle.std.proofs.lemmas.Bool.{cases_Bool, cases_lt, and_parts, and_from, ne_eqb, eq-eqb, eqb-true, leb-true}
use Rattle.std.proofs.lemmas.Fmt.{digits_decimal, digits_value-decimal, decimal-digits_value, decimal_nonempty, first_decimal, decimal_digit}
use Rattle.std.proofs.lemmas.Str.Parse.{IsNumeralModel, numerals_by_fold}
use Rattle.seq_file.specs.text_lines.Numerals.{are_digits, is_digit, is_natural, value_behind, natural, integer, counted, count, below_zero}
use Rattle.seq_file.proofs.text_lines.Capping.{some-is, natural-digits}
use Rattle.common_lemmas.proofs.Truth.{clash}

own : IsNumeralModel (λ ds. are_digits ds ≡ true) (value_behind 0)
own = numerals_by_fold (λ ds. are_digits ds ≡ true) (search rules) value_behind (search rules)

pub decimal-digits : (n : ℕ) → n < 2 ^ 64 → are_digits (decimal n) ≡ true
decimal-digits n h = digits_decimal own n h

-- digits that don't begin with a zero, or one digit
natural-by : (ds : List ℕ) → are_digits ds ≡ true → 0 < length ds → (48 < get_or ds 0 0) ⊎ (length ds ≡ 1) → is_natural ds ≡ true
natural-by [] d h lead = absurd (omega (arith, h))
natural-by (b ∷ []) d h lead = (and_parts (is_digit b) true d).0
natural-by (b ∷ c ∷ rest) d h (inl lt) = and_from (not (b == 48)) (are_digits (b ∷ c ∷ rest)) (ap not (ne_eqb b 48 (λ e. absurd (omega (arith, lt, e))))) d
natural-by (b ∷ c ∷ rest) d h (inr one) = absurd (omega (arith, one))

decimal-natural : (n : ℕ) → n < 2 ^ 64 → is_natural (decimal n) ≡ true
decimal-natural n h = elim (cases_lt 0 n) [
  | inl lt ↦ natural-by (decimal n) (decimal-digits n h) (decimal_nonempty n h) (inl (first_decimal n lt h))
  | inr ge ↦
      let none : n ≡ 0 = omega (arith, ge) in
      ap (λ t. is_natural (decimal t)) none ∙ ap is_natural (decimal_digit 0 (omega arith))
]

pub natural-of_decimal : (n : ℕ) → n < 2 ^ 64 → natural (decimal n) ≡ Some n
unfolding natural
natural-of_decimal n h =
    ap (λ t. cond t (Some (value_behind 0 (decimal n))) None) (decimal-natural n h) ∙ ap Some (digits_value-decimal own n h)

natural-nonempty : (word : List ℕ) → is_natural word ≡ true → 0 < length word
natural-nonempty [] h = clash h
natural-nonempty (b ∷ rest) h = omega arith

natural-lead : (word : List ℕ) → is_natural word ≡ true → get_or word 0 0 ≡ 48 → length word ≡ 1
natural-lead [] h e = clash h
natural-lead (b ∷ []) h e = refl
natural-lead (b ∷ c ∷ rest) h e = clash (sym (ap not (eq-eqb b 48 e)) ∙ (and_parts (not (b == 48)) (are_digits (b ∷ c ∷ rest)) h).0)

pub word-of_natural : (word : List ℕ) (n : ℕ) → natural word ≡ Some n → n < 2 ^ 64 → word ≡ decimal n
unfolding natural
word-of_natural word n h lt = elim (cases_Bool (is_natural word)) [
  | inl e ↦
      let value : value_behind 0 word ≡ n = some-is (sym (ap (λ t. cond t (Some (value_behind 0 word)) None) e) ∙ h) in
      sym (decimal-digits_value own word (natural-digits word e) (natural-nonempty word e) (natural-lead word e) (subst (λ t. t < 2 ^ 64) (sym value) lt)) ∙ ap decimal value
  | inr e ↦ clash (ap is_some (sym (ap (λ t. cond t (Some (value_behind 0 word)) None) e) ∙ h))
]

-- digits have no minus
integer-digits : (ds : List ℕ) → are_digits ds ≡ true → 0 < length ds → integer ds ≡ option_map pos (natural ds)
unfolding integer
integer-digits [] d h = absurd (omega (arith, h))
integer-digits (b ∷ rest) d h =
    let low : 48 ≤ b = leb-true 48 b (and_parts _ _ (and_parts (is_digit b) (are_digits rest) d).0).0 in
    ap (λ t. cond t (option_and_then below_zero (natural rest)) (option_map pos (natural (b ∷ rest)))) (ne_eqb b 45 (λ e. absurd (omega (arith, low, e))))

pub integer-of_signed : (z : ℤ) → mag z < 2 ^ 63 → integer (signed_decimal z) ≡ Some z
unfolding integer
integer-of_signed (pos n) h =
    let small : n < 2 ^ 64 = omega (arith, h) in
    integer-digits (decimal n) (decimal-digits n small) (decimal_nonempty n small) ∙ ap (option_map pos) (natural-of_decimal n small)
integer-of_signed (negsuc n) h = ap (option_and_then below_zero) (natural-of_decimal (suc n) (omega (arith, h)))

abbrev is_negative : ℤ → Bool
is_negative (pos n) = false
is_negative (negsuc n) = true

plus-case : (o : Option ℕ) (z : ℤ) → option_map pos o ≡ Some z → (n : ℕ) × (o ≡ Some n) × (pos n ≡ z)
plus-case None z h = clash (ap is_some h)
plus-case (Some n) z h = (n, refl, ap (λ t. unwrap_or t (pos 0)) h)

minus-case : (o : Option ℕ) (z : ℤ) → option_and_then below_zero o ≡ Some z → (n : ℕ) × (o ≡ Some (suc n)) × (negsuc n ≡ z)
minus-case None z h = clash (ap is_some h)
minus-case (Some zero) z h = clash (ap is_some h)
minus-case (Some (suc n)) z h = (n, refl, ap (λ t. unwrap_or t (pos 0)) h)

pub word-of_integer : (word : List ℕ) (z : ℤ) → integer word ≡ Some z → mag z < 2 ^ 63 → word ≡ signed_decimal z
unfolding integer
word-of_integer [] z h lt = clash (ap is_some h)
word-of_integer (b ∷ rest) z h lt = elim (cases_Bool (b == 45)) [
  | inl e ↦
      let (n, whole, same) = minus-case (natural rest) z (sym (ap (λ t. cond t (option_and_then below_zero (natural rest)) (option_map pos (natural (b ∷ rest)))) e) ∙ h) in
      let small : n < 2 ^ 63 = subst (λ t. mag t < 2 ^ 63) (sym same) lt in
      ap (λ t. t ∷ rest) (eqb-true b 45 e) ∙ ap (λ t. 45 ∷ t) (word-of_natural rest (suc n) whole (omega (arith, small))) ∙ ap signed_decimal same
  | inr e ↦
      let (n, whole, same) = plus-case (natural (b ∷ rest)) z (sym (ap (λ t. cond t (option_and_then below_zero (natural rest)) (option_map pos (natural (b ∷ rest)))) e) ∙ h) in
      let small : n < 2 ^ 63 = subst (λ t. mag t < 2 ^ 63) (sym same) lt in
      word-of_natural (b ∷ rest) n whole (omega (arith, small)) ∙ ap signed_decimal same
]

pub count-of_decimal : (n : ℕ) → n < 2 ^ 64 → count (decimal n) ≡ Some n
unfolding count
count-of_decimal n h =
    ap (option_map counted) (integer-digits (decimal n) (decimal-digits n h) (decimal_nonempty n h) ∙ ap (option_map pos) (natural-of_decimal n h))

counted-case : (o : Option ℤ) (n : ℕ) → option_map counted o ≡ Some n → n < 2 ^ 64 → o ≡ Some (pos n)
counted-case None n h lt = clash (ap is_some h)
counted-case (Some (pos m)) n h lt = ap (λ t. Some (pos t)) (some-is h)
counted-case (Some (negsuc m)) n h lt = absurd (omega (arith, lt, some-is h))

-- a word that writes a number which is not negative writes it without a sign
word-of_positive : (word : List ℕ) (n : ℕ) → integer word ≡ Some (pos n) → n < 2 ^ 64 → word ≡ decimal n
unfolding integer
word-of_positive [] n h lt = clash (ap is_some h)
word-of_positive (b ∷ rest) n h lt = elim (cases_Bool (b == 45)) [
  | inl e ↦
      let (m, whole, same) = minus-case (natural rest) (pos n) (sym (ap (λ t. cond t (option_and_then below_zero (natural rest)) (option_map pos (natural (b ∷ rest)))) e) ∙ h) in
      clash (ap is_negative (sym same))
  | inr e ↦
      let (m, whole, same) = plus-case (natural (b ∷ rest)) (pos n) (sym (ap (λ t. cond t (option_and_then below_zero (natural rest)) (option_map pos (natural (b ∷ rest)))) e) ∙ h) in
      let is : m ≡ n = ap counted same in
      word-of_natural (b ∷ rest) m whole (subst (λ t. t < 2 ^ 64) (sym is) lt) ∙ ap decimal is
]

pub word-of_count : (word : List ℕ) (n : ℕ) → count word ≡ Some n → n < 2 ^ 64 → word ≡ decimal n
unfolding count
word-of_count word n h lt = word-of_positive word n (counted-case (integer word) n h lt) lt
