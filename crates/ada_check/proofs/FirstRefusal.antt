-- What is found place by place is the first refusal of a program.
use Rattle.std.specs.Prelude.{◌≡◌, ℕ, ◌<◌, ◌≤◌, ◌⊎◌, nat_lt, false, List, [], ◌∷◌, ◌++◌, map, flat_map, Some, None, refl}
use Rattle.std.proofs.Common.{sym, ap, ◌∙◌, subst, arith}
use Rattle.std.proofs.lemmas.Bool.Decides.{nat_tests}
use Rattle.std.proofs.lemmas.List.Elements.{All-weaker}
use Rattle.ada_tree.specs.PlainProgram.{PProgram}
use Rattle.ada_static_rules.specs.Refusals.{MeetsTypeRules}
use Rattle.syn_event.specs.declared.numbering.Mode.{Mode}
use Rattle.syn_event.specs.CheckScope.{CheckSite}
use Rattle.syn_event.specs.CheckSites.{check_sites}
use Rattle.syn_event.specs.CheckRefusals.{CheckRefusal, ComesFirst, over_order, by_rule, refused_at, check_refusals, MeetsCheckRules, IsFirstCheckRefusal}
use Rattle.syn_event.specs.RuleSharedVariable.{shared_variable}
use Rattle.syn_event.specs.RuleAcceptPlace.{accept_place}
use Rattle.syn_event.specs.RuleSelectForm.{select_form}
use Rattle.syn_event.specs.RuleSameEntryTwice.{same_entry_twice}
use Rattle.syn_event.specs.RuleReservedName.{reserved_name}
use Rattle.syn_event.specs.RuleMainEntry.{main_entry}
use Rattle.syn_event.specs.RuleAbortOrder.{abort_order}
use Rattle.syn_event.specs.RuleBodyMissing.{body_missing}
use Rattle.syn_event.specs.RuleExitPlace.{exit_place}
use Rattle.syn_event.specs.RuleRaisePlace.{raise_place}
use Rattle.syn_event.specs.RuleLimit.{over_limit}
use Rattle.ada_static_rules.specs.Ranking.{is_lower}
use Rattle.ada_static_rules.proofs.RankingLaws.{spread, none_left, first_is}
use Rattle.ada_check_rules.specs.rules.Sooner.{rank_of, is_before, sooner, least_of}
use Rattle.ada_check_rules.specs.rules.RefusedFirst.{refused_first_at, refused_first}
use Rattle.ada_check.specs.Telling.{refusal_of}
use Rattle.ada_check.specs.Verdicts.{TellsCheck, TellsWhy}
use Rattle.ada_check.specs.declared.errors.CheckError.{CheckError}
use Rattle.ada_check.specs.declared.errors.CheckError.TheVariants.{Rule, SharedVariable, AcceptPlace, SelectForm, SameEntryTwice, ReservedName, MainEntry, AbortOrder, BodyMissing, ExitPlace, RaisePlace, Limit, Memory}
use Rattle.ada_check_rules.proofs.rules.SoonerLaws.{least_append}

-- ---- the first of a list

lower_first : (a b x y u v : ℕ) → is_lower b a (is_lower y x (nat_lt v u)) ≡ false → (a < b) ⊎ ((a ≡ b) × ((x < y) ⊎ ((x ≡ y) × (u ≤ v))))
lower_first a b x y u v h = grind (arith, nat_tests)

not_before : (r q : CheckRefusal) → is_before q r ≡ false → ComesFirst r q
not_before r q h = lower_first r.span.start q.span.start r.rule q.rule (over_order r.over) (over_order q.over) h

-- ---- place by place

-- the lists of eleven rules
eleven : (a b c d e f g h i j k : List CheckRefusal)
    → least_of (a ++ b ++ c ++ d ++ e ++ f ++ g ++ h ++ i ++ j ++ k)
    ≡ sooner (least_of a) (sooner (least_of b) (sooner (least_of c) (sooner (least_of d) (sooner (least_of e) (sooner (least_of f) (sooner (least_of g) (sooner (least_of h) (sooner (least_of i) (sooner (least_of j) (least_of k))))))))))
eleven a b c d e f g h i j k =
    least_append (a ++ b ++ c ++ d ++ e ++ f ++ g ++ h ++ i ++ j) k
    ∙ spread rank_of (a ++ b ++ c ++ d ++ e ++ f ++ g ++ h ++ i) j _
    ∙ spread rank_of (a ++ b ++ c ++ d ++ e ++ f ++ g ++ h) i _
    ∙ spread rank_of (a ++ b ++ c ++ d ++ e ++ f ++ g) h _
    ∙ spread rank_of (a ++ b ++ c ++ d ++ e ++ f) g _
    ∙ spread rank_of (a ++ b ++ c ++ d ++ e) f _
    ∙ spread rank_of (a ++ b ++ c ++ d) e _
    ∙ spread rank_of (a ++ b ++ c) d _
    ∙ spread rank_of (a ++ b) c _
    ∙ spread rank_of a b _

at_place : (m : Mode) (names : List (List ℕ)) (x : CheckSite) → least_of (refused_at m names x) ≡ refused_first_at record { mode = m; names = names } x.scope x.demand
unfolding refused_first_at
at_place m names x =
    eleven
    (by_rule 13 (shared_variable x.scope x.demand))
    (by_rule 14 (accept_place x.scope x.demand))
    (by_rule 15 (select_form x.scope x.demand))
    (by_rule 16 (same_entry_twice x.scope x.demand))
    (by_rule 17 (reserved_name m names x.demand))
    (by_rule 18 (main_entry x.scope x.demand))
    (by_rule 19 (abort_order x.scope x.demand))
    (by_rule 20 (body_missing x.demand))
    (by_rule 21 (exit_place x.scope x.demand))
    (by_rule 22 (raise_place x.scope x.demand))
    (map (λ o. record { rule = 23; over = Some o.over; span = o.span }) (over_limit m names x.demand))

first_of : (m : Mode) (names : List (List ℕ)) (xs : List CheckSite) → least_of (flat_map (refused_at m names) xs) ≡ refused_first record { mode = m; names = names } xs
unfolding refused_first
first_of m names [] = refl
first_of m names (x ∷ rest) =
    least_append (refused_at m names x) (flat_map (refused_at m names) rest)
    ∙ ap (λ o. sooner o (least_of (flat_map (refused_at m names) rest))) (at_place m names x)
    ∙ ap (sooner (refused_first_at record { mode = m; names = names } x.scope x.demand)) (first_of m names rest)

-- ---- a program

no_first : (r : CheckRefusal) → None ≡ Some r → ⊥
no_first r h = cc

pub meets_rules : (p : PProgram) (m : Mode) → None ≡ refused_first record { mode = m; names = p.names } (check_sites p) → MeetsCheckRules p m
meets_rules p m h = none_left rank_of (check_refusals p m) (first_of m p.names (check_sites p) ∙ sym h)

is_refused : (p : PProgram) (m : Mode) (r : CheckRefusal) → Some r ≡ refused_first record { mode = m; names = p.names } (check_sites p) → IsFirstCheckRefusal p m r
is_refused p m r h = let w = first_is rank_of (check_refusals p m) r (first_of m p.names (check_sites p) ∙ sym h) in record { is_one = w.0; is_first = All-weaker _ (ComesFirst r) (not_before r) (check_refusals p m) w.1 }

tells_why : (p : PProgram) (m : Mode) (r : CheckRefusal) (e : CheckError) → refusal_of e ≡ Some r → TellsCheck p m (refusal_of e) → TellsWhy p m e
tells_why p m r (Rule e) t w = absurd (no_first r t)
tells_why p m r (SharedVariable s) t w = w
tells_why p m r (AcceptPlace s) t w = w
tells_why p m r (SelectForm s) t w = w
tells_why p m r (SameEntryTwice s) t w = w
tells_why p m r (ReservedName s) t w = w
tells_why p m r (MainEntry s) t w = w
tells_why p m r (AbortOrder s) t w = w
tells_why p m r (BodyMissing s) t w = w
tells_why p m r (ExitPlace s) t w = w
tells_why p m r (RaisePlace s) t w = w
tells_why p m r (Limit what limit s) t w = w
tells_why p m r Memory t w = absurd (no_first r t)

-- an error that tells that refusal
pub is_told : (p : PProgram) (m : Mode) (r : CheckRefusal) (e : CheckError) → MeetsTypeRules p → Some r ≡ refused_first record { mode = m; names = p.names } (check_sites p) → refusal_of e ≡ Some r → TellsWhy p m e
is_told p m r e rules h t = tells_why p m r e t (subst (TellsCheck p m) (sym t) (rules, is_refused p m r h))
