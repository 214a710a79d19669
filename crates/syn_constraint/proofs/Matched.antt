-- What the relations on places say in tests of places.
use Rattle.std.proofs.Common.{◌≡◌, ℕ, ℤ, zero, suc, ◌+◌, ◌-◌, ◌<◌, ◌≤◌, Bool, true, false, cond, List, [], ◌∷◌, length, take, drop, get_or, Option, None, Some, refl, ap, ◌∙◌, sym, subst, arith, inl, inr, ◌⊎◌}
use Rattle.std.specs.Prelude.{◌&&◌, ◌||◌, count_by, slice_get, Contains}
use Rattle.std.specs.Option.{option_map_or}
use Rattle.std.specs.Ordering.{int_eq}
use Rattle.std.proofs.lemmas.Bool.{cases_Bool, cases_lt, and_parts}
use Rattle.std.proofs.lemmas.Bool.Decides.{Decides-int_eq}
use Rattle.std.proofs.lemmas.List.Sums.{sum_by-cons, sum_by-take-drop}
use Rattle.common_lemmas.proofs.Options.{some_same, not_missing}
use Rattle.common_lemmas.proofs.Truth.{clash, both_true, or_both}
use Rattle.event_machine.specs.declared.Event.{Event}
use Rattle.syn_constraint.specs.declared.constraints.Num.{Num}
use Rattle.syn_constraint.specs.declared.constraints.Num.TheVariants.{Every, Same, Exact}
use Rattle.syn_constraint.specs.declared.constraints.Pattern.{Pattern}
use Rattle.syn_constraint.specs.declared.constraints.Constraint.{Constraint}
use Rattle.syn_constraint.specs.declared.constraints.Constraint.TheVariants.{Before, Most}
use Rattle.syn_constraint.specs.declared.reach.Reach.{Reach}
use Rattle.syn_constraint.specs.declared.reach.Reach.TheVariants.{Nowhere, Everywhere, At}
use Rattle.syn_constraint.specs.Matching.{numbers_of, has_letter, is_whole, fits, fit_all, asked_of, matches}
use Rattle.syn_constraint.specs.Breaking.{event_at, MatchesAt, count_between, ComesTooEarly, IsOneTooMany, IsValue, Breaks, IsFirstBreak}
use Rattle.syn_constraint.specs.inner.Reaching.{reaches, value_of}
use Rattle.syn_constraint.specs.inner.Places.{matches_at, last_of, total_of}
use Rattle.syn_constraint.proofs.Windows.{last-after, last-within, last-there, IsWindow}

-- ---- one place

pub matched : (events : List Event) (g : Pattern) (v : Option ℤ) (k : ℕ) → MatchesAt events g v k → matches_at events g v k ≡ true
matched events g v k at = ap (λ o. option_map_or (matches g v) o false) at.there ∙ at.matching

matched-by : (events : List Event) (g : Pattern) (v : Option ℤ) (k : ℕ) (o : Option Event) → event_at events k ≡ o → option_map_or (matches g v) o false ≡ true → MatchesAt events g v k
matched-by events g v k None at e = clash e
matched-by events g v k (Some event) at e = record { event = event; there = at; matching = e }

pub matches-there : (events : List Event) (g : Pattern) (v : Option ℤ) (k : ℕ) → matches_at events g v k ≡ true → MatchesAt events g v k
matches-there events g v k e = matched-by events g v k (event_at events k) refl e

-- the test of a place by the event there
pub matches-event : (events : List Event) (g : Pattern) (v : Option ℤ) (k : ℕ) (event : Event) → event_at events k ≡ Some event → matches_at events g v k ≡ matches g v event
matches-event events g v k event at = ap (λ o. option_map_or (matches g v) o false) at

pub unmatched : (events : List Event) (g : Pattern) (v : Option ℤ) (k : ℕ) → matches_at events g v k ≡ false → MatchesAt events g v k → ⊥
unmatched events g v k no' at = clash (sym no' ∙ matched events g v k at)

pub matches-no : (events : List Event) (g : Pattern) (v : Option ℤ) (k : ℕ) → (MatchesAt events g v k → ⊥) → matches_at events g v k ≡ false
matches-no events g v k no' = elim (cases_Bool (matches_at events g v k)) [
  | inl e ↦ absurd (no' (matches-there events g v k e))
  | inr e ↦ e
]

-- ---- counts

count-more : (p : Event → Bool) (xs : List Event) (n : ℕ) → count_by p (take (suc n) xs) ≡ count_by p (take n xs) + cond (option_map_or p (slice_get xs n) false) 1 0
count-more p [] zero = refl
count-more p [] (suc n) = refl
count-more p (x ∷ xs) zero = refl
count-more p (x ∷ xs) (suc n) =
    let f : Event → ℕ = λ y. cond (p y) 1 0 in
    omega (arith, sum_by-cons f x (take (suc n) xs), sum_by-cons f x (take n xs), count-more p xs n)

pub total-count : (events : List Event) (g : Pattern) (v : Option ℤ) (n : ℕ) → total_of (matches_at events g v) n ≡ count_by (matches g v) (take n events)
total-count events g v zero = refl
total-count events g v (suc n) =
    ap (λ t. t + cond (option_map_or (matches g v) (slice_get events n) false) 1 0) (total-count events g v n) ∙ sym (count-more (matches g v) events n)

take-of_take : {X : Type 0} (i k : ℕ) (xs : List X) → i ≤ k → take i (take k xs) ≡ take i xs
take-of_take zero k xs low = refl
take-of_take (suc i) zero xs low = absurd (omega (arith, low))
take-of_take (suc i) (suc k) [] low = refl
take-of_take (suc i) (suc k) (x ∷ xs) low = ap (λ t. x ∷ t) (take-of_take i k xs (omega (arith, low)))

pub between-total : (events : List Event) (g : Pattern) (v : Option ℤ) (i k : ℕ) → i ≤ k → total_of (matches_at events g v) i + count_between events g v i k ≡ total_of (matches_at events g v) k
between-total events g v i k low =
    let p : Event → Bool = matches g v in
    ap (λ t. t + count_by p (drop i (take k events))) (total-count events g v i ∙ ap (count_by p) (sym (take-of_take i k events low)))
    ∙ sum_by-take-drop (λ y. cond (p y) 1 0) (take k events) i
    ∙ sym (total-count events g v k)

-- ---- the two relations

pub early-tests : (events : List Event) (early late : Pattern) (v : Option ℤ) (n : ℕ) → ComesTooEarly events early late v (suc n) →
    (matches_at events late v (suc n) ≡ true) × (last_of (matches_at events early v) n ≡ 0)
early-tests events early late v n comes =
    let p : ℕ → Bool = matches_at events early v in (
      matched events late v (suc n) comes.comes,
      elim (cases_lt 0 (last_of p n)) [
        | inl some ↦ absurd (comes.alone (last_of p n) (omega (arith, last-within p n)) (matches-there events early v (last_of p n) (last-there p n some)))
        | inr none ↦ omega (arith, none)
      ],
    )

pub tests-early : (events : List Event) (early late : Pattern) (v : Option ℤ) (n : ℕ) → matches_at events late v (suc n) ≡ true → last_of (matches_at events early v) n ≡ 0 →
    ComesTooEarly events early late v (suc n)
tests-early events early late v n yes' none = record {
  comes = matches-there events late v (suc n) yes';
  alone = λ i before at. first i before at (cases_lt 0 i);
}
  where
    first : (i : ℕ) → i < suc n → MatchesAt events early v i → (0 < i) ⊎ (i ≤ 0) → ⊥
    first i before at (inl above) =
        unmatched events early v i (last-after (matches_at events early v) n i (omega (arith, none, above)) (omega (arith, before))) at
    first i before at (inr zero') = let same : i ≡ 0 = omega arith in not_missing at.event (sym (ap (event_at events) same) ∙ at.there)

pub surplus-window : (events : List Event) (limit : ℕ) (x a b : Pattern) (v : Option ℤ) (k : ℕ) → IsOneTooMany events limit x a b v k →
    (matches_at events x v k ≡ true) × IsWindow (matches_at events a v) (matches_at events b v) (matches_at events x v) limit k
surplus-window events limit x a b v k many = (
  matched events x v k many.counts,
  record {
    opening = many.opening;
    before = many.before;
    opened = matched events a v many.opening many.opened;
    unclosed = λ j above within. matches-no events b v j (many.unclosed j above within);
    many = omega (arith, many.many, many.before, between-total events x v many.opening k (omega (arith, many.before)));
  },
)

pub window-surplus : (events : List Event) (limit : ℕ) (x a b : Pattern) (v : Option ℤ) (k : ℕ) → matches_at events x v k ≡ true →
    IsWindow (matches_at events a v) (matches_at events b v) (matches_at events x v) limit k → IsOneTooMany events limit x a b v k
window-surplus events limit x a b v k yes' window = record {
  counts = matches-there events x v k yes';
  opening = window.opening;
  before = window.before;
  opened = matches-there events a v window.opening window.opened;
  unclosed = λ j above within. unmatched events b v j (window.unclosed j above within);
  many = omega (arith, window.many, between-total events x v window.opening k (omega (arith, window.before)));
}

-- ---- values

-- a number that alone lets numbers be as they are asked is one of them
fit-among : (z : ℤ) (asked : List Num) (numbers : List ℤ) → fit_all (Some z) asked numbers ≡ true → fit_all None asked numbers ≡ false → Contains numbers z
fit-among z [] numbers yes' no' = clash (sym no')
fit-among z (n ∷ asked) [] yes' no' = clash (sym no')
fit-among z (Every ∷ asked) (y ∷ numbers) yes' no' =
    let rest : Contains numbers z = fit-among z asked numbers yes' no' in (suc rest.0, omega (arith, rest.1), rest.2)
fit-among z (Same ∷ asked) (y ∷ numbers) yes' no' =
    (0, omega arith, (Decides-int_eq y z).0 (and_parts (int_eq y z) (fit_all (Some z) asked numbers) yes').0)
fit-among z (Exact m ∷ asked) (y ∷ numbers) yes' no' =
    let both = and_parts (int_eq m y) (fit_all (Some z) asked numbers) yes' in
    let rest : Contains numbers z = fit-among z asked numbers both.1 (sym (ap (λ b. b && fit_all None asked numbers) both.0) ∙ no') in
    (suc rest.0, omega (arith, rest.1), rest.2)

matched-among : (g : Pattern) (z : ℤ) (event : Event) → matches g (Some z) event ≡ true → matches g None event ≡ false → Contains (numbers_of event) z
matched-among g z event yes' no' =
    let none = or_both (is_whole g.letter) (has_letter g.letter event && fit_all None (asked_of g) (numbers_of event)) no' in
    let both = and_parts (has_letter g.letter event) (fit_all (Some z) (asked_of g) (numbers_of event))
    (sym (ap (λ b. b || (has_letter g.letter event && fit_all (Some z) (asked_of g) (numbers_of event))) none.0) ∙ yes') in
    fit-among z (asked_of g) (numbers_of event) both.1
    (sym (ap (λ b. b && fit_all None (asked_of g) (numbers_of event)) both.0) ∙ none.1)

-- the one value at which a pattern matches an event may stand for `?`
pub reach-value : (events : List Event) (g : Pattern) (k : ℕ) (event : Event) (reach : Reach) → event_at events k ≡ Some event → ((v : Option ℤ) → reaches reach v ≡ matches g v event) →
    IsValue events (value_of reach)
reach-value events g k event Nowhere at is = tt
reach-value events g k event Everywhere at is = tt
reach-value events g k event (At z) at is =
    (k, event, at, matched-among g z event (sym (is (Some z)) ∙ (Decides-int_eq z z).1 refl) (sym (is None)))
