-- Patterns without `?` match an event at every value or at none; a pattern with one matches at no value that is missing.
use Rattle.std.proofs.Common.{◌≡◌, ℕ, ℤ, zero, suc, ◌+◌, Bool, true, false, cond, List, [], ◌∷◌, length, take, Option, None, Some, refl, ap, ◌∙◌, sym, inl, inr}
use Rattle.std.specs.Prelude.{◌&&◌, ◌||◌}
use Rattle.std.specs.List.{list_any}
use Rattle.std.specs.Ordering.{int_eq}
use Rattle.std.specs.Option.{option_map_or}
use Rattle.std.proofs.lemmas.Bool.{cases_Bool}
use Rattle.common_lemmas.proofs.Truth.{clash, and_false}
use Rattle.event_machine.specs.declared.Event.{Event}
use Rattle.event_machine.specs.declared.Event.TheVariants.{R, E, S, D, C, T, F, X, B, Z}
use Rattle.syn_constraint.specs.declared.constraints.Num.{Num}
use Rattle.syn_constraint.specs.declared.constraints.Num.TheVariants.{Every, Same, Exact}
use Rattle.syn_constraint.specs.declared.constraints.Letter.{Letter}
use Rattle.syn_constraint.specs.declared.constraints.Letter.TheVariants as letter
use Rattle.syn_constraint.specs.declared.constraints.Pattern.{Pattern}
use Rattle.syn_constraint.specs.Matching.{numbers_of, has_letter, is_whole, fits, fit_all, asked_of, matches}
use Rattle.syn_constraint.specs.Breaking.{event_at}
use Rattle.syn_constraint.specs.Lines.{number_count}
use Rattle.syn_constraint.specs.inner.Reaching.{is_same, asks_same}
use Rattle.syn_constraint.specs.inner.Places.{matches_at, total_of}

-- ---- numbers

fit-alike : (v : Option ℤ) (asked : List Num) (numbers : List ℤ) → list_any is_same (take (length numbers) asked) ≡ false → fit_all v asked numbers ≡ fit_all None asked numbers
fit-alike v [] numbers none = refl
fit-alike v (n ∷ asked) [] none = refl
fit-alike v (Every ∷ asked) (y ∷ numbers) none = fit-alike v asked numbers none
fit-alike v (Same ∷ asked) (y ∷ numbers) none = clash (sym none)
fit-alike v (Exact m ∷ asked) (y ∷ numbers) none = ap (λ b. int_eq m y && b) (fit-alike v asked numbers none)

fit-none : (asked : List Num) (numbers : List ℤ) → list_any is_same (take (length numbers) asked) ≡ true → fit_all None asked numbers ≡ false
fit-none [] [] some = clash some
fit-none [] (y ∷ numbers) some = clash some
fit-none (n ∷ asked) [] some = clash some
fit-none (Every ∷ asked) (y ∷ numbers) some = fit-none asked numbers some
fit-none (Same ∷ asked) (y ∷ numbers) some = refl
fit-none (Exact m ∷ asked) (y ∷ numbers) some = ap (λ b. int_eq m y && b) (fit-none asked numbers some) ∙ and_false (int_eq m y)

-- ---- an event has as many numbers as its letter says

counts-of : (l : Letter) (event : Event) → has_letter l event ≡ true → length (numbers_of event) ≡ number_count l
counts-of letter.R (R c e i) h = refl
counts-of letter.E (E a) h = refl
counts-of letter.S (S a) h = refl
counts-of letter.D (D a k) h = refl
counts-of letter.C (C c e i) h = refl
counts-of letter.T (T c e i) h = refl
counts-of letter.F (F c e i) h = refl
counts-of letter.X (X a) h = refl
counts-of letter.B (B t x) h = refl
counts-of letter.Z Z h = refl
counts-of l event h = clash h

whole-none : (l : Letter) → is_whole l ≡ true → number_count l ≡ 0
whole-none letter.Whole h = refl
whole-none l h = clash h

-- ---- patterns

pub alike-event : (g : Pattern) (v : Option ℤ) (event : Event) → asks_same g ≡ false → matches g v event ≡ matches g None event
alike-event g v event none = elim (cases_Bool (has_letter g.letter event)) [
  | inl yes' ↦
      ap (λ b. is_whole g.letter || (has_letter g.letter event && b))
      (fit-alike v (asked_of g) (numbers_of event) (ap (λ k. list_any is_same (take k (asked_of g))) (counts-of g.letter event yes') ∙ none))
  | inr no' ↦
      ap (λ b. is_whole g.letter || (b && fit_all v (asked_of g) (numbers_of event))) no'
      ∙ sym (ap (λ b. is_whole g.letter || (b && fit_all None (asked_of g) (numbers_of event))) no')
]

pub varied-event : (g : Pattern) (event : Event) → asks_same g ≡ true → matches g None event ≡ false
varied-event g event some = elim (cases_Bool (is_whole g.letter)) [
  | inl whole ↦ clash (ap (λ k. list_any is_same (take k (asked_of g))) (sym (whole-none g.letter whole)) ∙ some)
  | inr part ↦
      ap (λ b. b || (has_letter g.letter event && fit_all None (asked_of g) (numbers_of event))) part
      ∙ elim (cases_Bool (has_letter g.letter event)) [
        | inl yes' ↦
            ap (λ b. has_letter g.letter event && b) (fit-none (asked_of g) (numbers_of event) (ap (λ k. list_any is_same (take k (asked_of g))) (counts-of g.letter event yes') ∙ some))
            ∙ and_false (has_letter g.letter event)
        | inr no' ↦ ap (λ b. b && fit_all None (asked_of g) (numbers_of event)) no'
      ]
]

-- ---- places

alike-by : (g : Pattern) (v : Option ℤ) (o : Option Event) → asks_same g ≡ false → option_map_or (matches g v) o false ≡ option_map_or (matches g None) o false
alike-by g v None none = refl
alike-by g v (Some event) none = alike-event g v event none

pub alike-at : (events : List Event) (g : Pattern) (v : Option ℤ) (k : ℕ) → asks_same g ≡ false → matches_at events g v k ≡ matches_at events g None k
alike-at events g v k none = alike-by g v (event_at events k) none

pub alike-total : (events : List Event) (g : Pattern) (v : Option ℤ) (n : ℕ) → asks_same g ≡ false → total_of (matches_at events g v) n ≡ total_of (matches_at events g None) n
alike-total events g v zero none = refl
alike-total events g v (suc n) none =
    ap (λ t. t + cond (matches_at events g v (suc n)) 1 0) (alike-total events g v n none)
    ∙ ap (λ b. total_of (matches_at events g None) n + cond b 1 0) (alike-at events g v (suc n) none)
