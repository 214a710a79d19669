-- The first of several refusals is the same in whatever order they are joined.
use Rattle.std.specs.Prelude.{◌≡◌, ℕ, nat_lt, Bool, true, false, if◌then◌else◌, List, ◌++◌, Option, Some, None, refl}
use Rattle.std.proofs.Common.{ap, ◌∙◌, arith}
use Rattle.std.proofs.lemmas.Bool.Decides.{nat_tests}
use Rattle.std.proofs.lemmas.List.{map-append}
use Rattle.ada_static_rules.specs.Refusals.{Refusal, by_rule}
use Rattle.ada_tree.specs.declared.naming.Span.{Span}
use Rattle.ada_static_rules.specs.Ranking.{is_lower, earlier_of}
use Rattle.ada_static_rules.specs.Sooner.{rank_of, is_before, sooner, least_of, found}
use Rattle.ada_static_rules.proofs.RankingLaws.{earlier_asym, earlier_assoc, earlier_none, earliest_append}

pub sooner_assoc : (a b c : Option Refusal) → sooner (sooner a b) c ≡ sooner a (sooner b c)
sooner_assoc = earlier_assoc rank_of

pub sooner_none : (a : Option Refusal) → sooner a None ≡ a
sooner_none = earlier_none rank_of

lower_equal : (a b : ℕ) (t u : Bool) → is_lower b a t ≡ false → is_lower a b u ≡ false → (a ≡ b) × (t ≡ false) × (u ≡ false)
lower_equal a b t u p q = (grind (arith, nat_tests), grind (arith, nat_tests), grind (arith, nat_tests))

less_equal : (a b : ℕ) → nat_lt b a ≡ false → nat_lt a b ≡ false → a ≡ b
less_equal a b p q = grind (arith, nat_tests)

abbrev refusal : ℕ → ℕ → ℕ → Refusal
refusal start rule end = record { rule = rule; span = record { start = start; end = end } }

refusal_is : (s t r q e f : ℕ) → s ≡ t → r ≡ q → e ≡ f → refusal s r e ≡ refusal t q f
refusal_is s t r q e f is_s is_r is_e = ap (λ x. refusal x r e) is_s ∙ ap (λ x. refusal t x e) is_r ∙ ap (λ x. refusal t q x) is_e

-- refusals of one rank are one
before_equal : (a b : Refusal) → is_before b a ≡ false → is_before a b ≡ false → a ≡ b
before_equal a b p q =
    let start = lower_equal a.span.start b.span.start _ _ p q in
    let rule = lower_equal a.rule b.rule _ _ start.1 start.2 in
    refusal_is a.span.start b.span.start a.rule b.rule a.span.end b.span.end start.0 rule.0 (less_equal a.span.end b.span.end rule.1 rule.2)

either : (a b : Refusal) (p q : Bool) → (p ≡ true → q ≡ false) → (p ≡ false → q ≡ false → a ≡ b) → (if p then b else a) ≡ (if q then a else b)
either a b true true h g = ap (λ t. if t then b else a) (h refl)
either a b true false h g = refl
either a b false true h g = refl
either a b false false h g = g refl refl

sooner_of_comm : (a b : Refusal) → earlier_of rank_of a b ≡ earlier_of rank_of b a
sooner_of_comm a b = either a b (is_before b a) (is_before a b) (earlier_asym (rank_of a) (rank_of b)) (before_equal a b)

pub sooner_comm : (a b : Option Refusal) → sooner a b ≡ sooner b a
sooner_comm None None = refl
sooner_comm None (Some b) = refl
sooner_comm (Some a) None = refl
sooner_comm (Some a) (Some b) = ap Some (sooner_of_comm a b)

pub least_append : (xs ys : List Refusal) → least_of (xs ++ ys) ≡ sooner (least_of xs) (least_of ys)
least_append = earliest_append rank_of

pub found_append : (n : ℕ) (xs ys : List Span) → found n (xs ++ ys) ≡ sooner (found n xs) (found n ys)
found_append n xs ys = ap least_of (map-append (λ s. record { rule = n; span = s }) xs ys) ∙ least_append (by_rule n xs) (by_rule n ys)

pub ruleset sooner_laws = (sooner_assoc, sooner_none, found_append)
