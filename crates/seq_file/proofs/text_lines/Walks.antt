-- Walks over the digits of a word, and a text cut at its first mark.
use Rattle.std.proofs.Common.{◌≡◌, ℕ, ◌+◌, ◌<◌, Bool, true, false, List, [], ◌∷◌, length, get_or, take, drop, ap, ◌∙◌, sym, arith, None, Some, inl, inr, cond}
use Rattle.std.proofs.lemmas.List.{at_drop_more}
use Rattle.std.proofs.lemmas.Bool.{cases_Bool, ltb-true, ltb-false}
use Rattle.std.proofs.lemmas.List.Splits.{length-slice_split, slice_split_first, slice_split_none}
use Rattle.std.proofs.lemmas.List.Sums.{fails_before_first}
use Rattle.std.specs.Prelude.{◌&&◌, position, nat_lt, ◌==◌, unwrap_or, is_some}
use Rattle.std.specs.List.{slice_split, position_or_len}
use Rattle.seq_file.specs.text_lines.Numerals.{are_digits, is_digit}
use Rattle.common_lemmas.proofs.Truth.{clash}

pub digits-more : (xs : List ℕ) (n : ℕ) → n < length xs → is_digit (get_or xs n 0) ≡ true → are_digits (drop (n + 1) xs) ≡ are_digits (drop n xs)
digits-more xs n lt h = sym (at_drop_more are_digits xs n 0 lt ∙ ap (λ b. b && are_digits (drop (n + 1) xs)) h)

pub digits-no : (xs : List ℕ) (n : ℕ) → n < length xs → is_digit (get_or xs n 0) ≡ false → are_digits (drop n xs) ≡ false
digits-no xs n lt h = at_drop_more are_digits xs n 0 lt ∙ ap (λ b. b && are_digits (drop (n + 1) xs)) h

pub split-Some : (m : ℕ) (xs a b : List ℕ) (n : ℕ) → position (λ x. x == m) xs ≡ Some n → a ≡ take n xs → b ≡ drop (n + 1) xs → slice_split (λ x. x == m) xs ≡ a ∷ slice_split (λ x. x == m) b
split-Some m xs a b n h ea eb =
    let p : ℕ → Bool = λ x. x == m in
    let at = position_or_len p xs in
    elim (cases_Bool (nat_lt at (length xs))) [
      | inl e ↦
          let same : at ≡ n = ap (λ o. unwrap_or o 0) (sym (ap (λ t. cond t (Some at) None) e) ∙ h) in
          slice_split_first p xs 0 (ltb-true at (length xs) e)
          ∙ ap (λ k. take k xs ∷ slice_split p (drop (k + 1) xs)) same
          ∙ ap (λ t. t ∷ slice_split p (drop (n + 1) xs)) (sym ea)
          ∙ ap (λ t. a ∷ slice_split p t) (sym eb)
      | inr e ↦ clash (ap is_some (sym (ap (λ t. cond t (Some at) None) e) ∙ h))
    ]

pub split-None : (m : ℕ) (xs : List ℕ) → position (λ x. x == m) xs ≡ None → slice_split (λ x. x == m) xs ≡ xs ∷ []
split-None m xs h =
    let p : ℕ → Bool = λ x. x == m in
    let at = position_or_len p xs in
    elim (cases_Bool (nat_lt at (length xs))) [
      | inl e ↦ clash (sym (ap is_some (sym (ap (λ t. cond t (Some at) None) e) ∙ h)))
      | inr e ↦ slice_split_none p xs (λ k d lt. fails_before_first p xs k d (omega (arith, lt, ltb-false at (length xs) e)))
    ]

pub ruleset walks = (digits-more, digits-no, length-slice_split)
