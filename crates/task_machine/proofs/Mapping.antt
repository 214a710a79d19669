-- A loop that changes each element of a list in place, one after the other.
use Rattle.std.proofs.Common.{◌≡◌, ℕ, zero, suc, ◌+◌, ◌<◌, List, [], ◌∷◌, ◌++◌, length, map, take, drop, slice_set, slice_index_or, ap, sym, ◌∙◌, add-one, refl, arith}

-- the next element is changed
pub map_step : {A : Type 0} (f : A → A) (xs : List A) (i : ℕ) (d : A) → i < length xs →
    slice_set (map f (take i xs) ++ drop i xs) i (f (slice_index_or (map f (take i xs) ++ drop i xs) i d))
    ≡ map f (take (suc i) xs) ++ drop (suc i) xs
map_step f [] i d h = absurd (omega arith)
map_step f (x ∷ xs) zero d h = refl
map_step f (x ∷ xs) (suc i) d h = ap (λ ys. f x ∷ ys) (map_step f xs i d (omega arith))

-- the same at a loop's step
pub map_more : {A : Type 0} (f : A → A) (xs ys : List A) (i : ℕ) (d y : A) → i < length xs → ys ≡ map f (take i xs) ++ drop i xs → y ≡ f (slice_index_or ys i d) →
    slice_set ys i y ≡ map f (take (i + 1) xs) ++ drop (i + 1) xs
map_more f xs ys i d y h e v =
    ap (λ z. slice_set ys i z) v
    ∙ ap (λ zs. slice_set zs i (f (slice_index_or zs i d))) e
    ∙ map_step f xs i d h
    ∙ ap (λ k. map f (take k xs) ++ drop k xs) (sym (add-one i))
