-- The greatest of some numbers as a running maximum.
use Rattle.std.proofs.Common.{◌≡◌, ℕ, ◌+◌, ◌<◌, max, List, [], ◌∷◌, ◌++◌, get_or, length, map, take, sym, ap, ◌∙◌, arith}
use Rattle.std.proofs.lemmas.List.{map_more, map-append}
use Rattle.normal_model.specs.NormalTree.{greatest}

max_joined : (a b c : ℕ) → max a (max b c) ≡ max (max a b) c
max_joined a b c = omega arith

max_nothing : (a : ℕ) → max a 0 ≡ max 0 a
max_nothing a = omega arith

-- the greatest of some and one more
greatest_more : (ns : List ℕ) (n : ℕ) → greatest (ns ++ n ∷ []) ≡ max (greatest ns) n
greatest_more [] n = max_nothing n
greatest_more (m ∷ ns) n = ap (max m) (greatest_more ns n) ∙ max_joined m (greatest ns) n

-- a turn of a loop with a running maximum
pub greatest_turn : {X Z : Type 0} (f : X → ℕ) (see : Z → X) (xs : List Z) (i : ℕ) (x : Z) (begun before behind : ℕ) → i < length xs → x ≡ get_or xs i x →
    before ≡ max begun (greatest (map f (map see (take i xs)))) → behind ≡ max before (f (see x)) → behind ≡ max begun (greatest (map f (map see (take (i + 1) xs))))
greatest_turn f see xs i x begun before behind lt is so_far step =
    step
    ∙ ap (λ n. max n (f (see x))) so_far
    ∙ sym (max_joined begun (greatest (map f (map see (take i xs)))) (f (see x)))
    ∙ ap (max begun)
    (sym (greatest_more (map f (map see (take i xs))) (f (see x)))
    ∙ ap greatest (sym (ap (map f) (map_more see xs i x lt ∙ ap (λ y. map see (take i xs) ++ see y ∷ []) (sym is)) ∙ map-append f (map see (take i xs)) (see x ∷ []))))
