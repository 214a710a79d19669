-- What is refused first at lists, one element after the other.
use Rattle.std.specs.Prelude.{◌≡◌, ℕ, ◌+◌, ◌<◌, ◌≤◌, List, [], ◌∷◌, length, map, flat_map, drop, get_or, Option, refl}
use Rattle.std.proofs.Common.{sym, ap, ◌∙◌}
use Rattle.std.proofs.lemmas.List.{drop_all}
use Rattle.syn_event.specs.CheckRefusals.{CheckRefusal}
use Rattle.syn_event.specs.CheckScope.{CheckScope, CheckSite}
use Rattle.ada_check_rules.specs.rules.Sooner.{sooner}
use Rattle.ada_check_rules.specs.rules.RefusedFirst.{Standard, refused_first}
use Rattle.ada_check_rules.proofs.rules.SoonerLaws.{sooner_assoc, sooner_none}
use Rattle.ada_check_rules.proofs.rules.Meeting.{met_none, met_append}
use Rattle.common_lemmas.proofs.Lists.{rest_at}

-- the element at a place, and what stands behind it
pub cut : {A : Type 0} (xs : List A) (i : ℕ) (x : A) → i < length xs → x ≡ get_or xs i x → drop i xs ≡ x ∷ drop (i + 1) xs
cut xs i x h is_x = rest_at xs i x x h is_x

-- what is refused so far and what is refused from there on are all
pub gone : (a b all rest whole : Option CheckRefusal) → whole ≡ sooner b rest → sooner a whole ≡ all → sooner (sooner a b) rest ≡ all
gone a b all rest whole h before = sooner_assoc a b rest ∙ ap (sooner a) (sym h) ∙ before

pub ended : (by : Standard) (a all : Option CheckRefusal) (rest : List CheckSite) → rest ≡ [] → sooner a (refused_first by rest) ≡ all → a ≡ all
ended by a all rest h before = sym (sooner_none a) ∙ ap (sooner a) (sym (met_none by)) ∙ ap (λ xs. sooner a (refused_first by xs)) (sym h) ∙ before

-- One turn and the end of a loop over a list that is seen by members, where `places` are those of what is seen of a list, and `each` is what is refused first at those of a member.
module _ {A B : Type 0} (by : Standard) (see : A → B) (places : List B → List CheckSite) (each : B → Option CheckRefusal) (next : (x : B) (xs : List B) → refused_first by (places (x ∷ xs)) ≡ sooner (each x) (refused_first by (places xs))) where
  pub row_more : (xs : List A) (i : ℕ) (x : A) (a b c all : Option CheckRefusal) → i < length xs → x ≡ get_or xs i x
      → sooner a (refused_first by (places (map see (drop i xs)))) ≡ all
      → b ≡ each (see x)
      → c ≡ sooner a b
      → sooner c (refused_first by (places (map see (drop (i + 1) xs)))) ≡ all
  row_more xs i x a b c all h is_x before is_b is_c =
      let rest = places (map see (drop (i + 1) xs)) in
      ap (λ o. sooner o (refused_first by rest)) is_c
      ∙ gone a b all (refused_first by rest) (refused_first by (places (map see (drop i xs))))
      (ap (λ ys. refused_first by (places (map see ys))) (cut xs i x h is_x)
      ∙ next (see x) (map see (drop (i + 1) xs))
      ∙ ap (λ o. sooner o (refused_first by rest)) (sym is_b))
      before

  pub row_end : (xs : List A) (i : ℕ) (a all : Option CheckRefusal) → length xs ≤ i → places [] ≡ []
      → sooner a (refused_first by (places (map see (drop i xs)))) ≡ all
      → a ≡ all
  row_end xs i a all h none before = ended by a all (places (map see (drop i xs))) (ap (λ ys. places (map see ys)) (drop_all i xs h) ∙ none) before

-- one turn of a walk that leaves what stands around it as it was
pub turn : {A B : Type 0} (by : Standard) (see : A → B) (places : CheckScope → List B → List CheckSite) (each : CheckScope → B → Option CheckRefusal) (next : (s : CheckScope) (x : B) (xs : List B) → refused_first by (places s (x ∷ xs)) ≡ sooner (each s x) (refused_first by (places s xs)))
    (xs : List A) (i : ℕ) (x : A) (s now : CheckScope) (a b c all : Option CheckRefusal) → i < length xs → x ≡ get_or xs i x → now ≡ s
    → sooner a (refused_first by (places s (map see (drop i xs)))) ≡ all
    → b ≡ each now (see x)
    → c ≡ sooner a b
    → sooner c (refused_first by (places s (map see (drop (i + 1) xs)))) ≡ all
turn by see places each next xs i x s now a b c all h is_x same before is_b is_c =
    row_more by see (places s) (each s) (next s) xs i x a b c all h is_x before (is_b ∙ ap (λ z. each z (see x)) same) is_c

module _ {A B : Type 0} (by : Standard) (see : A → B) (sites : B → List CheckSite) where
  flat_next : (x : B) (xs : List B) → refused_first by (flat_map sites (x ∷ xs)) ≡ sooner (refused_first by (sites x)) (refused_first by (flat_map sites xs))
  flat_next x xs = met_append by (sites x) (flat_map sites xs)

  pub list_more : (xs : List A) (i : ℕ) (x : A) (a b c all : Option CheckRefusal) → i < length xs → x ≡ get_or xs i x
      → sooner a (refused_first by (flat_map sites (map see (drop i xs)))) ≡ all
      → b ≡ refused_first by (sites (see x))
      → c ≡ sooner a b
      → sooner c (refused_first by (flat_map sites (map see (drop (i + 1) xs)))) ≡ all
  list_more = row_more by see (flat_map sites) (λ x. refused_first by (sites x)) flat_next

  pub list_end : (xs : List A) (i : ℕ) (a all : Option CheckRefusal) → length xs ≤ i
      → sooner a (refused_first by (flat_map sites (map see (drop i xs)))) ≡ all
      → a ≡ all
  list_end xs i a all h before = row_end by see (flat_map sites) (λ x. refused_first by (sites x)) flat_next xs i a all h refl before
