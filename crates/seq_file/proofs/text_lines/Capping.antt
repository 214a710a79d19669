-- Numbers up to the cap, by a walk over their digits.
use Rattle.std.proofs.Common.{◌≡◌, ℕ, ◌+◌, ◌-◌, ◌*◌, ◌^◌, ◌<◌, ◌≤◌, Bool, true, false, List, [], ◌∷◌, length, get_or, drop, refl, ap, ◌∙◌, sym, arith, rules, zero, suc, ℤ, pos, negsuc, neg_ℤ, Some, None, Option, option_map, ◌≢◌}
use Rattle.std.proofs.lemmas.List.{at_drop_more}
use Rattle.std.proofs.lemmas.Bool.{and_parts, and_from}
use Rattle.std.specs.Int.Signed.{mag}
use Rattle.std.specs.Prelude.{unwrap_or, is_some, option_and_then}
use Rattle.seq_file.specs.text_lines.Numerals.{are_digits, is_digit, is_natural, value_behind, below_zero, counted}
use Rattle.seq_file.specs.text_lines.Capped.{capped, capped_integer}
use Rattle.common_lemmas.proofs.Truth.{clash}

pub capped-small : (n : ℕ) → n ≤ 2 ^ 32 → capped n ≡ n
unfolding capped
capped-small n h = omega arith

pub capped-large : (n : ℕ) → 2 ^ 32 ≤ n → capped n ≡ 2 ^ 32
unfolding capped
capped-large n h = omega arith

pub capped-le : (n : ℕ) → capped n ≤ 2 ^ 32
unfolding capped
capped-le n = omega arith

value_behind-ge : (v : ℕ) (xs : List ℕ) → v ≤ value_behind v xs
value_behind-ge v [] = omega arith
value_behind-ge v (b ∷ xs) = omega (arith, value_behind-ge (v * 10 + (b - 48)) xs)

pub capped-behind : (v : ℕ) (xs : List ℕ) → capped (value_behind (capped v) xs) ≡ capped (value_behind v xs)
unfolding capped
capped-behind v xs = grind (arith, value_behind-ge v xs, value_behind-ge (2 ^ 32) xs)

pub value-more : (v : ℕ) (xs : List ℕ) (n r : ℕ) → n < length xs → r ≡ capped (v * 10 + (get_or xs n 0 - 48)) → capped (value_behind r (drop (n + 1) xs)) ≡ capped (value_behind v (drop n xs))
value-more v xs n r lt e =
    ap (λ t. capped (value_behind t (drop (n + 1) xs))) e
    ∙ capped-behind (v * 10 + (get_or xs n 0 - 48)) (drop (n + 1) xs)
    ∙ sym (ap capped (at_drop_more (value_behind v) xs n 0 lt))

both-here : (xs : List ℕ) (n : ℕ) → n < length xs → are_digits (drop n xs) ≡ true → (is_digit (get_or xs n 0) ≡ true) × (are_digits (drop (n + 1) xs) ≡ true)
both-here xs n lt h =
    and_parts (is_digit (get_or xs n 0)) (are_digits (drop (n + 1) xs)) (sym (at_drop_more are_digits xs n 0 lt) ∙ h)

pub digit-here : (xs : List ℕ) (n : ℕ) → n < length xs → are_digits (drop n xs) ≡ true → is_digit (get_or xs n 0) ≡ true
digit-here xs n lt h = (both-here xs n lt h).0

pub digits-behind : (xs : List ℕ) (n : ℕ) → n < length xs → are_digits (drop n xs) ≡ true → are_digits (drop (n + 1) xs) ≡ true
digits-behind xs n lt h = (both-here xs n lt h).1

pub natural-digits : (xs : List ℕ) → is_natural xs ≡ true → are_digits xs ≡ true
natural-digits [] h = search rules
natural-digits (b ∷ []) h = and_from (is_digit b) true h refl
natural-digits (b ∷ c ∷ rest) h = (and_parts _ _ h).1

pub some-is : {a b : ℕ} → Some a ≡ Some b → a ≡ b
some-is h = ap (λ o. unwrap_or o 0) h

pub ruleset capping = (capped-small, capped-large, capped-le, value-more, digit-here, digits-behind, natural-digits)

-- a capped number with its sign
pub negative-zero : (o : Option ℕ) (n : ℕ) → Some n ≡ option_map capped o → n ≡ 0 → None ≡ option_map capped_integer (option_and_then below_zero o)
unfolding capped
negative-zero None n h e = refl
negative-zero (Some zero) n h e = refl
negative-zero (Some (suc m)) n h e = absurd (omega (arith, e, some-is h))

pub negative-some : (o : Option ℕ) (n : ℕ) → Some n ≡ option_map capped o → n ≢ 0 → Some (neg_ℤ (pos n)) ≡ option_map capped_integer (option_and_then below_zero o)
negative-some None n h e = clash (sym (ap is_some h))
negative-some (Some zero) n h e = absurd (e (some-is h ∙ capped-small 0 (omega arith)))
negative-some (Some (suc m)) n h e = ap (λ t. Some (neg_ℤ (pos t))) (some-is h)

pub never-large : (o : Option ℕ) (n : ℕ) {A : Type 0} → Some n ≡ option_map capped o → 2 ^ 32 < n → A
never-large None n h lt = clash (sym (ap is_some h))
never-large (Some m) n h lt = absurd (omega (arith, lt, some-is h, capped-le m))

pub no-sign : (o : Option ℕ) → None ≡ option_map capped o → o ≡ None
no-sign None h = refl
no-sign (Some m) h = clash (ap is_some h)

pub positive-some : (o : Option ℕ) (n : ℕ) → Some n ≡ option_map capped o → Some (pos n) ≡ option_map capped_integer (option_map pos o)
positive-some None n h = clash (sym (ap is_some h))
positive-some (Some m) n h = ap (λ t. Some (pos t)) (some-is h)

pub ruleset signs = (negative-zero, negative-some, no-sign, positive-some)

abbrev is_positive : ℤ → Bool
is_positive (pos n) = true
is_positive (negsuc n) = false

-- a capped number below zero is below zero
negated : (n : ℕ) → 0 < n → is_positive (neg_ℤ (pos n)) ≡ false
negated zero h = absurd (omega (arith, h))
negated (suc n) h = refl

capped-from : (n : ℕ) → 0 < capped (suc n)
unfolding capped
capped-from n = omega arith

-- a capped number that should not be negative
pub counted-pos : (i : ℕ) (z : ℤ) → pos i ≡ capped_integer z → i ≡ capped (counted z)
counted-pos i (pos n) e = ap mag e
counted-pos i (negsuc n) e = clash (sym (negated (capped (suc n)) (capped-from n)) ∙ sym (ap is_positive e))

pub counted-neg : (i : ℕ) (z : ℤ) → negsuc i ≡ capped_integer z → 2 ^ 32 ≡ capped (counted z)
counted-neg i (pos n) e = clash (ap is_positive e)
counted-neg i (negsuc n) e = sym (capped-large (2 ^ 64) (omega arith))

pub ruleset counts = (counted-pos, counted-neg)
