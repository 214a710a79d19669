-- Where nothing is refused, nothing is refused at any place.
use Rattle.std.proofs.Common.{◌≡◌, ℕ, List, [], ◌∷◌, flat_map, refl}
use Rattle.std.specs.List.{AllByRecursion}
use Rattle.ada_tree.specs.declared.naming.Span.{Span}
use Rattle.ada_static_rules.specs.Demand.{Site}
use Rattle.ada_static_rules.specs.Sites.{sites}
use Rattle.ada_static_rules.specs.Refusals.{refused_at, refused_from}
use Rattle.syn_event.specs.declared.numbering.Mode.{Mode}
use Rattle.syn_event.specs.CheckScope.{CheckSite}
use Rattle.syn_event.specs.CheckRefusals.{by_rule as check_by_rule, refused_at as check_refused_at}
use Rattle.syn_event.specs.CheckSites.{check_sites}
use Rattle.task_laws.specs.legal.sites.Met.{IsMet, IsCheckMet}
use Rattle.task_laws.specs.legal.sites.Laws.{AllMet, AllCheckMet}
use Rattle.common_lemmas.proofs.Lists.{back_empty, front_empty, map_empty, not_empty}
use Rattle.ada_static_rules.proofs.found_twice.Spans.{no_spans}

-- ---- empty lists

abbrev IsFilled : {A : Type 0} → List A → Type 0
IsFilled [] = ⊥
IsFilled (x ∷ xs) = Unit {0}

-- ---- what all have

-- ---- the first twelve rules

met : (before : List Site) (s : Site) → refused_at before s ≡ [] → IsMet s
met before s e12 =
    let e11 = front_empty _ _ e12 in
    let e10 = front_empty _ _ e11 in
    let e9 = front_empty _ _ e10 in
    let e8 = front_empty _ _ e9 in
    let e7 = front_empty _ _ e8 in
    let e6 = front_empty _ _ e7 in
    let e5 = front_empty _ _ e6 in
    let e4 = front_empty _ _ e5 in
    let e3 = front_empty _ _ e4 in
    let e2 = front_empty _ _ e3 in
    record {
      known = no_spans 1 _ (front_empty _ _ e2);
      before = before;
      once = no_spans 2 _ (back_empty _ _ e2);
      matched = no_spans 3 _ (back_empty _ _ e3);
      static = no_spans 4 _ (back_empty _ _ e4);
      ranged = no_spans 5 _ (back_empty _ _ e5);
      variable = no_spans 6 _ (back_empty _ _ e6);
      readable = no_spans 7 _ (back_empty _ _ e7);
      counted = no_spans 8 _ (back_empty _ _ e8);
      chosen = no_spans 9 _ (back_empty _ _ e9);
      arrays = no_spans 10 _ (back_empty _ _ e10);
      texts = no_spans 11 _ (back_empty _ _ e11);
      exceptions = no_spans 12 _ (back_empty _ _ e12);
    }

met-from : (xs before : List Site) → refused_from before xs ≡ [] → AllByRecursion IsMet xs
met-from [] before e = tt
met-from (x ∷ xs) before e = (
  met before x (front_empty (refused_at before x) (refused_from (x ∷ before) xs) e),
  met-from xs (x ∷ before) (back_empty (refused_at before x) (refused_from (x ∷ before) xs) e),
)

pub all_met : AllMet
all_met p e = met-from (sites p) [] e

-- ---- the rules 13 to 23

no_check_spans : (n : ℕ) (spans : List Span) → check_by_rule n spans ≡ [] → spans ≡ []
no_check_spans n [] e = refl
no_check_spans n (s ∷ ss) e = absurd (not_empty _ _ e)

check-met : (m : Mode) (names : List (List ℕ)) (x : CheckSite) → check_refused_at m names x ≡ [] → IsCheckMet m names x
check-met m names x e11 =
    let e10 = front_empty _ _ e11 in
    let e9 = front_empty _ _ e10 in
    let e8 = front_empty _ _ e9 in
    let e7 = front_empty _ _ e8 in
    let e6 = front_empty _ _ e7 in
    let e5 = front_empty _ _ e6 in
    let e4 = front_empty _ _ e5 in
    let e3 = front_empty _ _ e4 in
    let e2 = front_empty _ _ e3 in
    record {
      shared = no_check_spans 13 _ (front_empty _ _ e2);
      accepts = no_check_spans 14 _ (back_empty _ _ e2);
      selects = no_check_spans 15 _ (back_empty _ _ e3);
      twice = no_check_spans 16 _ (back_empty _ _ e4);
      reserved = no_check_spans 17 _ (back_empty _ _ e5);
      main = no_check_spans 18 _ (back_empty _ _ e6);
      order = no_check_spans 19 _ (back_empty _ _ e7);
      bodies = no_check_spans 20 _ (back_empty _ _ e8);
      exits = no_check_spans 21 _ (back_empty _ _ e9);
      raises = no_check_spans 22 _ (back_empty _ _ e10);
      limits = map_empty _ _ (back_empty _ _ e11);
    }

check-met-all : (m : Mode) (names : List (List ℕ)) (xs : List CheckSite) → flat_map (check_refused_at m names) xs ≡ [] → AllByRecursion (IsCheckMet m names) xs
check-met-all m names [] e = tt
check-met-all m names (x ∷ xs) e = (
  check-met m names x (front_empty (check_refused_at m names x) (flat_map (check_refused_at m names) xs) e),
  check-met-all m names xs (back_empty (check_refused_at m names x) (flat_map (check_refused_at m names) xs) e),
)

pub all_check_met : AllCheckMet
all_check_met p m e = check-met-all m p.names (check_sites p) e
