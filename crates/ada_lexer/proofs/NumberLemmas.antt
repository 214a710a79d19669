-- Integer literals, by a walk over their bytes.
use Rattle.std.proofs.Common.{◌≡◌, ℕ, ◌+◌, ◌<◌, ◌≤◌, true, false, cond, List, [], ◌∷◌, length, get_or, drop, refl, ap, ◌∙◌, sym, arith, None, Some, leb, inl, inr}
use Rattle.std.proofs.lemmas.List.{at_drop_more}
use Rattle.std.proofs.lemmas.Bool.{and_parts, and_from, and_right, lt-leb, le-leb, cases_Bool}
use Rattle.std.specs.Prelude.{◌&&◌, ◌||◌, ◌==◌, ◌⊎◌}
use Rattle.ada_lexer.specs.Bytes.{is_digit}
use Rattle.common_lemmas.specs.Following.{begins, every}
use Rattle.common_lemmas.proofs.Lists.{every-more, every-no}
use Rattle.ada_lexer.specs.Numbers.{numeral_goes_on, value_behind, decimal_from, is_numeral, integer_value, max_integer}

pub decimal_from-more : (v : ℕ) (xs : List ℕ) (n : ℕ) → n < length xs → decimal_from (value_behind v (get_or xs n 0)) (drop (n + 1) xs) ≡ decimal_from v (drop n xs)
decimal_from-more v xs n lt = sym (at_drop_more (decimal_from v) xs n 0 lt)

-- digits behind a value make it no smaller
value_behind-ge : (v b : ℕ) → v ≤ value_behind v b
value_behind-ge v b = elim (cases_Bool (b == 95)) [
  | inl e ↦ rw e (omega arith)
  | inr e ↦ rw e (omega arith)
]

pub decimal_from-ge : (v : ℕ) (xs : List ℕ) → v ≤ decimal_from v xs
decimal_from-ge v [] = omega arith
decimal_from-ge v (b ∷ xs) = omega (arith, value_behind-ge v b, decimal_from-ge (value_behind v b) xs)

-- a text with a first byte that is no digit, and the empty one
pub integer_value-no_digit : (xs : List ℕ) → (length xs ≡ 0) ⊎ (is_digit (get_or xs 0 0) ≡ false) → integer_value xs ≡ None
unfolding integer_value
integer_value-no_digit [] h = refl
integer_value-no_digit (b ∷ xs) h = elim h [
  | inl e ↦ absurd (omega arith)
  | inr e ↦ ap (λ t. cond ((t && every numeral_goes_on xs) && leb (decimal_from 0 (b ∷ xs)) max_integer) (Some (decimal_from 0 (b ∷ xs))) None) e
]

-- once some byte does not go on, it is no numeral
numeral-false : (xs : List ℕ) → every numeral_goes_on xs ≡ false → is_numeral xs ≡ false
numeral-false [] h = refl
numeral-false (b ∷ xs) h = elim (cases_Bool (is_digit b)) [
  | inl e ↦ ap (λ t. t && every numeral_goes_on xs) e ∙ sym (ap (λ t. (t || ((b == 95) && begins is_digit xs)) && every numeral_goes_on xs) e) ∙ h
  | inr e ↦ ap (λ t. t && every numeral_goes_on xs) e
]

numeral-true : (xs : List ℕ) → 0 < length xs → is_digit (get_or xs 0 0) ≡ true → every numeral_goes_on xs ≡ true → is_numeral xs ≡ true
numeral-true [] lt d h = absurd (omega arith)
numeral-true (b ∷ xs) lt d h =
    ap (λ t. t && every numeral_goes_on xs) d ∙ (and_parts (numeral_goes_on b xs) (every numeral_goes_on xs) h).1

pub integer_value-bad : (xs : List ℕ) → every numeral_goes_on xs ≡ false → integer_value xs ≡ None
unfolding integer_value
integer_value-bad xs h =
    ap (λ t. cond (t && leb (decimal_from 0 xs) max_integer) (Some (decimal_from 0 xs)) None) (numeral-false xs h)

pub integer_value-large : (xs : List ℕ) → max_integer < decimal_from 0 xs → integer_value xs ≡ None
unfolding integer_value
integer_value-large xs h =
    ap (λ t. cond t (Some (decimal_from 0 xs)) None) (and_right (is_numeral xs) (leb (decimal_from 0 xs) max_integer) (lt-leb _ _ h))

pub integer_value-some : (xs : List ℕ) (v : ℕ) → 0 < length xs → is_digit (get_or xs 0 0) ≡ true → every numeral_goes_on xs ≡ true → v ≡ decimal_from 0 xs → v ≤ max_integer → integer_value xs ≡ Some v
unfolding integer_value
integer_value-some xs v lt d h e le =
    ap (λ t. cond t (Some (decimal_from 0 xs)) None) (and_from _ _ (numeral-true xs lt d h) (le-leb _ _ (omega arith)))
    ∙ ap Some (sym e)

pub ruleset integer_steps = (every-more, every-no, decimal_from-more, decimal_from-ge, integer_value-no_digit, integer_value-bad, integer_value-large, integer_value-some)
