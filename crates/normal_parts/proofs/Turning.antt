-- One turn of loops over lists whose elements change in place, or go behind others.
use Rattle.std.proofs.Common.{◌≡◌, ℕ, zero, suc, ◌+◌, ◌<◌, ◌≤◌, Bool, List, [], ◌∷◌, ◌++◌, length, map, take, get_or, slice_set, refl, sym, ap, ◌∙◌, append_assoc, add-one, arith}
use Rattle.std.specs.List.{filter}
use Rattle.std.proofs.lemmas.List.{map-append, take_more}
use Rattle.std.proofs.lemmas.List.Elements.{filter-append}
use Rattle.ada_tree.specs.declared.declarations.Decl.{Decl}
use Rattle.ada_tree.specs.PlainDecl.{PDecl, plain_decl}

-- the list has its length, and what was not gone through is as it was
pub record Left {X : Type 0} (i : ℕ) (ys xs : List X) : Type 0 where
  pub size : length ys ≡ length xs
  pub same : (k : ℕ) (d : X) → i ≤ k → get_or ys k d ≡ get_or xs k d

set-length : {X : Type 0} (ys : List X) (i : ℕ) (y : X) → length (slice_set ys i y) ≡ length ys
set-length [] zero y = refl
set-length [] (suc i) y = refl
set-length (x ∷ ys) zero y = refl
set-length (x ∷ ys) (suc i) y = ap suc (set-length ys i y)

set-behind : {X : Type 0} (ys : List X) (i k : ℕ) (y d : X) → i < k → get_or (slice_set ys i y) k d ≡ get_or ys k d
set-behind [] zero k y d h = refl
set-behind [] (suc i) k y d h = refl
set-behind (x ∷ ys) zero zero y d h = absurd (omega (arith, h))
set-behind (x ∷ ys) zero (suc k) y d h = refl
set-behind (x ∷ ys) (suc i) zero y d h = absurd (omega (arith, h))
set-behind (x ∷ ys) (suc i) (suc k) y d h = set-behind ys i k y d (omega (arith, h))

pub left-turn : {X : Type 0} (xs ys : List X) (i : ℕ) (y : X) → Left i ys xs → Left (i + 1) (slice_set ys i y) xs
left-turn xs ys i y left = record {
  size = set-length ys i y ∙ left.size;
  same = λ k d h. set-behind ys i k y d (omega (arith, h)) ∙ left.same k d (omega (arith, h));
}

-- the declarations that were gone through, and one more
seen_more : {X P : Type 0} (view : X → P) (xs : List X) (i : ℕ) (d : X) → i < length xs → map view (take (i + 1) xs) ≡ map view (take i xs) ++ view (get_or xs i d) ∷ []
seen_more view xs i d h = ap (map view) (take_more xs i d h) ∙ map-append view (take i xs) (get_or xs i d ∷ [])

-- those of them that pass a test
pub filtered-turn :
    (p : PDecl → Bool) (xs : List Decl) (i : ℕ) (x d : Decl) (old : List PDecl) (before behind : List Decl) →
    i < length xs →
    x ≡ get_or xs i d →
    map plain_decl before ≡ old ++ filter p (map plain_decl (take i xs)) →
    map plain_decl behind ≡ map plain_decl before ++ filter p (plain_decl x ∷ []) →
    map plain_decl behind ≡ old ++ filter p (map plain_decl (take (i + 1) xs))
filtered-turn p xs i x d old before behind h at so_far step =
    step
    ∙ (λ j. so_far j ++ filter p (plain_decl (at j) ∷ []))
    ∙ append_assoc old (filter p (map plain_decl (take i xs))) (filter p (plain_decl (get_or xs i d) ∷ []))
    ∙ ap (λ ys. old ++ ys) (sym (filter-append p (map plain_decl (take i xs)) (plain_decl (get_or xs i d) ∷ [])) ∙ ap (filter p) (sym (seen_more plain_decl xs i d h)))

-- the front of a list behind a change in it
take-set : {X : Type 0} (ys : List X) (i : ℕ) (y : X) → i < length ys → take (suc i) (slice_set ys i y) ≡ take i ys ++ y ∷ []
take-set [] i y h = absurd (omega (arith, h))
take-set (x ∷ ys) zero y h = refl
take-set (x ∷ ys) (suc i) y h = ap (λ l. x ∷ l) (take-set ys i y (omega (arith, h)))

-- what they become in place
pub mapped-turn :
    {X P : Type 0} (view : X → P) (f : P → P) (xs ys : List X) (i : ℕ) (d y : X) →
    i < length ys →
    length ys ≡ length xs →
    get_or ys i d ≡ get_or xs i d →
    map view (take i ys) ≡ map f (map view (take i xs)) →
    view y ≡ f (view (get_or ys i d)) →
    map view (take (i + 1) (slice_set ys i y)) ≡ map f (map view (take (i + 1) xs))
mapped-turn view f xs ys i d y h same at so_far step =
    ap (λ n. map view (take n (slice_set ys i y))) (add-one i)
    ∙ ap (map view) (take-set ys i y h)
    ∙ map-append view (take i ys) (y ∷ [])
    ∙ (λ j. so_far j ++ step j ∷ [])
    ∙ ap (λ x. map f (map view (take i xs)) ++ f (view x) ∷ []) at
    ∙ sym (map-append f (map view (take i xs)) (view (get_or xs i d) ∷ []))
    ∙ ap (map f) (sym (seen_more view xs i d (omega (arith, h, same))))
