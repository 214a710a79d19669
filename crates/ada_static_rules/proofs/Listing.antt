-- What is refused first at lists, one element after the other.
use Rattle.std.specs.Prelude.{◌≡◌, ℕ, ◌+◌, ◌<◌, ◌≤◌, List, [], ◌∷◌, length, map, flat_map, drop, get_or, Option, Some, None, ◌++◌, take}
use Rattle.std.proofs.Common.{sym, ap, ◌∙◌, get_or}
use Rattle.std.proofs.lemmas.List.{drop_all, map_more, append-nil, take_all, length-map}
use Rattle.ada_static_rules.specs.Refusals.{Refusal}
use Rattle.ada_static_rules.specs.Demand.{Site}
use Rattle.ada_static_rules.specs.Sites.{if_there}
use Rattle.ada_static_rules.specs.Sooner.{sooner}
use Rattle.ada_static_rules.specs.RefusedFirst.{refused_first}
use Rattle.ada_static_rules.proofs.SoonerLaws.{sooner_assoc, sooner_none}
use Rattle.ada_static_rules.proofs.Meeting.{met_none, met_append, joined, met_cons, met_one, before}
use Rattle.std.proofs.lemmas.Grind.{flat_map-append}
use Rattle.ada_static_rules.specs.Scope.{Scope}
use Rattle.ada_static_rules.specs.Declaring.{inner_scope}
use Rattle.common_lemmas.proofs.Lists.{rest_at}

-- what is refused so far and what is refused from there on are all
pub gone : (a b all rest whole : Option Refusal) → whole ≡ sooner b rest → sooner a whole ≡ all → sooner (sooner a b) rest ≡ all
gone a b all rest whole h before = sooner_assoc a b rest ∙ ap (sooner a) (sym h) ∙ before

pub ended : (a all : Option Refusal) (rest : List Site) → rest ≡ [] → sooner a (refused_first rest) ≡ all → a ≡ all
ended a all rest h before = sym (sooner_none a) ∙ ap (sooner a) (sym met_none) ∙ ap (λ xs. sooner a (refused_first xs)) (sym h) ∙ before

module _ {A B : Type 0} (see : A → B) (sites : B → List Site) where
  pub list_more : (xs : List A) (i : ℕ) (x : A) (a b c all : Option Refusal) → i < length xs → x ≡ get_or xs i x
      → sooner a (refused_first (flat_map sites (map see (drop i xs)))) ≡ all
      → b ≡ refused_first (sites (see x))
      → c ≡ sooner a b
      → sooner c (refused_first (flat_map sites (map see (drop (i + 1) xs)))) ≡ all
  list_more xs i x a b c all h is_x before is_b is_c =
      let rest = flat_map sites (map see (drop (i + 1) xs)) in
      ap (λ o. sooner o (refused_first rest)) is_c
      ∙ gone a b all (refused_first rest) (refused_first (flat_map sites (map see (drop i xs))))
      (ap (λ ys. refused_first (flat_map sites (map see ys))) (rest_at xs i x x h is_x)
      ∙ met_append (sites (see x)) rest
      ∙ ap (λ o. sooner o (refused_first rest)) (sym is_b))
      before

  pub list_end : (xs : List A) (i : ℕ) (a all : Option Refusal) → length xs ≤ i
      → sooner a (refused_first (flat_map sites (map see (drop i xs)))) ≡ all
      → a ≡ all
  list_end xs i a all h before = ended a all (flat_map sites (map see (drop i xs))) (ap (λ ys. flat_map sites (map see ys)) (drop_all i xs h)) before

-- what may be left out
pub there : {A : Type 0} (sites : A → List Site) (o : Option A) (x : A) (a : Option Refusal) → o ≡ Some x → a ≡ refused_first (sites x) → a ≡ refused_first (if_there sites o)
there sites o x a h is_a = is_a ∙ ap (λ p. refused_first (if_there sites p)) (sym h)

pub not_there : {A : Type 0} (sites : A → List Site) (o : Option A) → o ≡ None → None ≡ refused_first (if_there sites o)
not_there sites o h = sym met_none ∙ ap (λ p. refused_first (if_there sites p)) (sym h)

-- ---- the places of the members of a list

one_flat : {X : Type 0} (f : X → List Site) (ys : List Site) (x y : X) → x ≡ y → ys ++ flat_map f (x ∷ []) ≡ ys ++ f y
one_flat f ys x y e = ap (λ z. ys ++ flat_map f (z ∷ [])) e ∙ ap (λ zs. ys ++ zs) (append-nil (f y))

grown : {A X : Type 0} (f : X → List Site) (g : A → X) (xs : List A) (i : ℕ) (x d : A) → i < length xs → x ≡ get_or xs i d
    → flat_map f (map g (take (i + 1) xs)) ≡ flat_map f (map g (take i xs)) ++ f (g x)
grown f g xs i x d inner_scope at =
    ap (flat_map f) (map_more g xs i d inner_scope)
    ∙ flat_map-append f (map g (take i xs)) (g (get_or xs i d) ∷ [])
    ∙ one_flat f (flat_map f (map g (take i xs))) (g (get_or xs i d)) (g x) (ap g (sym at))

-- the places of one member more
pub met_more : {A X : Type 0} (f : X → List Site) (g : A → X) (xs : List A) (i : ℕ) (x d : A) (o p : Option Refusal) → i < length xs → x ≡ get_or xs i d
    → o ≡ refused_first (flat_map f (map g (take i xs))) → p ≡ refused_first (f (g x)) → sooner o p ≡ refused_first (flat_map f (map g (take (i + 1) xs)))
met_more f g xs i x d o p inner_scope at before here =
    joined (flat_map f (map g (take i xs))) (f (g x)) o p before here ∙ ap refused_first (sym (grown f g xs i x d inner_scope at))

pub taken : {A : Type 0} (xs : List A) (i : ℕ) → length xs ≤ i → take i xs ≡ xs
taken xs i h = take_all i xs h

-- behind the last turn
pub met_all : {A X : Type 0} (f : X → List Site) (g : A → X) (xs : List A) (i : ℕ) (o : Option Refusal) → length xs ≤ i → o ≡ refused_first (flat_map f (map g (take i xs))) → o ≡ refused_first (flat_map f (map g xs))
met_all f g xs i o done told = told ∙ ap (λ l. refused_first (flat_map f (map g l))) (taken xs i done)

-- one turn of a walk that leaves the scope as it was
pub turn : {A X : Type 0} (f : Scope → X → List Site) (g : A → X) (xs : List A) (i : ℕ) (x : A) (s now : Scope) (r o p : Option Refusal) → i < length xs → x ≡ get_or xs i x → now ≡ s
    → r ≡ sooner o p → o ≡ refused_first (flat_map (f s) (map g (take i xs))) → p ≡ refused_first (f now (g x)) → r ≡ refused_first (flat_map (f s) (map g (take (i + 1) xs)))
turn f g xs i x s now r o p inner_scope at same is before here = is ∙ met_more (f s) g xs i x x o p inner_scope at before (here ∙ ap (λ z. refused_first (f z (g x))) same)

pub ruleset lists = (met_none, met_cons, met_one, met_append, sooner_none)

-- how many members a list has
pub ruleset counted = (length-map)
