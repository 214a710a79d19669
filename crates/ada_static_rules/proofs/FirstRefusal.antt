-- What is found place by place is the first refusal of a program.
use Rattle.std.specs.Prelude.{◌≡◌, ℕ, ◌<◌, ◌≤◌, ◌⊎◌, Bool, false, List, [], ◌∷◌, ◌++◌, Option, Some, None, refl}
use Rattle.std.proofs.Common.{sym, ap, ◌∙◌, subst, arith}
use Rattle.std.proofs.lemmas.Bool.Decides.{nat_tests}
use Rattle.std.proofs.lemmas.List.Elements.{All-weaker}
use Rattle.ada_static_rules.specs.Refusals.{Refusal, ComesFirst, by_rule, refused_at, refused_from, refusals, MeetsTypeRules, IsFirstRefusal}
use Rattle.ada_tree.specs.PlainProgram.{PProgram}
use Rattle.ada_static_rules.specs.Demand.{Site}
use Rattle.ada_static_rules.specs.Sites.{sites}
use Rattle.ada_static_rules.specs.RuleUnknown.{unknown}
use Rattle.ada_static_rules.specs.RuleDuplicate.{duplicate}
use Rattle.ada_static_rules.specs.RuleMismatch.{mismatch}
use Rattle.ada_static_rules.specs.RuleNotStatic.{not_static}
use Rattle.ada_static_rules.specs.RuleRangeBad.{range_bad}
use Rattle.ada_static_rules.specs.RuleNotVariable.{not_variable}
use Rattle.ada_static_rules.specs.RuleReadOut.{read_out}
use Rattle.ada_static_rules.specs.RuleArgCount.{arg_count}
use Rattle.ada_static_rules.specs.RuleChoiceBad.{choice_bad}
use Rattle.ada_static_rules.specs.RuleArrayUse.{array_use}
use Rattle.ada_static_rules.specs.RuleTextUse.{text_use}
use Rattle.ada_static_rules.specs.RuleNotException.{not_exception}
use Rattle.ada_static_rules.specs.Ranking.{is_lower}
use Rattle.ada_static_rules.specs.Sooner.{rank_of, is_before, sooner, least_of, found}
use Rattle.ada_static_rules.specs.RefusedFirst.{refused_first_at, refused_first}
use Rattle.ada_static_rules.specs.Repeated.{repeated_from}
use Rattle.ada_static_rules.specs.Telling.{refusal_of, IsFirst, TellsFirst}
use Rattle.ada_static_rules.specs.declared.errors.TypeError.{TypeError}
use Rattle.ada_static_rules.proofs.RankingLaws.{spread, none_left, first_is}
use Rattle.ada_static_rules.proofs.SoonerLaws.{sooner_assoc, sooner_comm, least_append}

-- ---- the first of a list

comes_lower : (a b x y : ℕ) (t : Bool) → is_lower b a (is_lower y x t) ≡ false → (a < b) ⊎ ((a ≡ b) × (x ≤ y))
comes_lower a b x y t h = grind (arith, nat_tests)

not_before : (r q : Refusal) → is_before q r ≡ false → ComesFirst r q
not_before r q h = comes_lower r.span.start q.span.start r.rule q.rule _ h

-- ---- place by place

swapped : (a b rest : Option Refusal) → sooner a (sooner b rest) ≡ sooner b (sooner a rest)
swapped a b rest = sym (sooner_assoc a b rest) ∙ ap (λ o. sooner o rest) (sooner_comm a b) ∙ sooner_assoc b a rest

four : (a b c d : List Refusal) (o : Option Refusal) → sooner (least_of (a ++ b ++ c ++ d)) o ≡ sooner (least_of a) (sooner (least_of b) (sooner (least_of c) (sooner (least_of d) o)))
four a b c d o = spread rank_of (a ++ b ++ c) d o ∙ spread rank_of (a ++ b) c (sooner (least_of d) o) ∙ spread rank_of a b (sooner (least_of c) (sooner (least_of d) o))

-- the lists of twelve rules, of which the second one is put first
twelve : (a b c d e f g h i j k l : List Refusal)
    → least_of (a ++ b ++ c ++ d ++ e ++ f ++ g ++ h ++ i ++ j ++ k ++ l)
    ≡ sooner (least_of b) (sooner (least_of a) (sooner (least_of c) (sooner (least_of d) (sooner (least_of e) (sooner (least_of f) (sooner (least_of g) (sooner (least_of h) (sooner (least_of i) (sooner (least_of j) (sooner (least_of k) (least_of l)))))))))))
twelve a b c d e f g h i j k l =
    least_append (a ++ b ++ c ++ d ++ e ++ f ++ g ++ h ++ i ++ j ++ k) l
    ∙ four (a ++ b ++ c ++ d ++ e ++ f ++ g ++ h) i j k (least_of l)
    ∙ spread rank_of (a ++ b ++ c ++ d ++ e ++ f ++ g) h _
    ∙ spread rank_of (a ++ b ++ c ++ d ++ e ++ f) g _
    ∙ spread rank_of (a ++ b ++ c ++ d ++ e) f _
    ∙ spread rank_of (a ++ b ++ c ++ d) e _
    ∙ four a b c d _
    ∙ swapped (least_of a) (least_of b) _

crossed : (a b c d : Option Refusal) → sooner (sooner a b) (sooner c d) ≡ sooner (sooner b c) (sooner a d)
crossed a b c d =
    sooner_assoc a b (sooner c d)
    ∙ swapped a b (sooner c d)
    ∙ ap (sooner b) (swapped a c d)
    ∙ sym (sooner_assoc b c (sooner a d))

at_place : (before : List Site) (s : Site) → least_of (refused_at before s) ≡ sooner (found 2 (duplicate before s.scope s.demand)) (refused_first_at s.scope s.demand)
at_place before s =
    twelve
    (by_rule 1 (unknown s.scope s.demand))
    (by_rule 2 (duplicate before s.scope s.demand))
    (by_rule 3 (mismatch s.scope s.demand))
    (by_rule 4 (not_static s.scope s.demand))
    (by_rule 5 (range_bad s.scope s.demand))
    (by_rule 6 (not_variable s.scope s.demand))
    (by_rule 7 (read_out s.scope s.demand))
    (by_rule 8 (arg_count s.scope s.demand))
    (by_rule 9 (choice_bad s.scope s.demand))
    (by_rule 10 (array_use s.scope s.demand))
    (by_rule 11 (text_use s.scope s.demand))
    (by_rule 12 (not_exception s.scope s.demand))

pub first_from : (before ss : List Site) → least_of (refused_from before ss) ≡ sooner (refused_first ss) (repeated_from before ss)
unfolding refused_first repeated_from
first_from before [] = refl
first_from before (s ∷ rest) =
    least_append (refused_at before s) (refused_from (s ∷ before) rest)
    ∙ ap (λ o. sooner o (least_of (refused_from (s ∷ before) rest))) (at_place before s)
    ∙ ap (sooner (sooner (found 2 (duplicate before s.scope s.demand)) (refused_first_at s.scope s.demand))) (first_from (s ∷ before) rest)
    ∙ crossed (found 2 (duplicate before s.scope s.demand)) (refused_first_at s.scope s.demand) (refused_first rest) (repeated_from (s ∷ before) rest)

-- ---- a program

found_is : (p : PProgram) (others repeated : Option Refusal) → others ≡ refused_first (sites p) → repeated ≡ repeated_from [] (sites p) → least_of (refusals p) ≡ sooner others repeated
found_is p others repeated h g = first_from [] (sites p) ∙ ap (λ o. sooner o (repeated_from [] (sites p))) (sym h) ∙ ap (sooner others) (sym g)

pub meets_rules : (p : PProgram) (others repeated : Option Refusal) → others ≡ refused_first (sites p) → repeated ≡ repeated_from [] (sites p) → None ≡ sooner others repeated → MeetsTypeRules p
meets_rules p others repeated h g e = none_left rank_of (refusals p) (found_is p others repeated h g ∙ sym e)

is_refused : (p : PProgram) (others repeated : Option Refusal) (r : Refusal) → others ≡ refused_first (sites p) → repeated ≡ repeated_from [] (sites p) → sooner others repeated ≡ Some r → IsFirstRefusal p r
is_refused p others repeated r h g e = let w = first_is rank_of (refusals p) r (found_is p others repeated h g ∙ e) in record { is_one = w.0; is_first = All-weaker _ (ComesFirst r) (not_before r) (refusals p) w.1 }

-- an error that tells that refusal
pub is_told : (p : PProgram) (others repeated : Option Refusal) (r : Refusal) (e : TypeError) → others ≡ refused_first (sites p) → repeated ≡ repeated_from [] (sites p) → Some r ≡ sooner others repeated → refusal_of e ≡ Some r → TellsFirst p e
is_told p others repeated r e h g s t = subst (IsFirst p) (sym t) (is_refused p others repeated r h g (sym s))
