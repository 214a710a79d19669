-- A list from a place on.
use Rattle.std.specs.Prelude.{◌≡◌, ◌+◌, ℕ, zero, suc, List, [], ◌∷◌, drop, slice_get, refl}
use Rattle.std.proofs.Common.{◌∙◌, sym, ap, add-one}

-- its first element, if there is one
pub first_at : {X : Type 0} (xs : List X) (i : ℕ) → slice_get (drop i xs) 0 ≡ slice_get xs i
first_at [] zero = refl
first_at [] (suc i) = refl
first_at (x ∷ xs) zero = refl
first_at (x ∷ xs) (suc i) = first_at xs i

behind_next : {X : Type 0} (xs : List X) (i : ℕ) → drop 1 (drop i xs) ≡ drop (suc i) xs
behind_next [] zero = refl
behind_next [] (suc i) = refl
behind_next (x ∷ xs) zero = refl
behind_next (x ∷ xs) (suc i) = behind_next xs i

-- what is behind its first element
pub behind_at : {X : Type 0} (xs : List X) (i : ℕ) → drop 1 (drop i xs) ≡ drop (i + 1) xs
behind_at xs i = behind_next xs i ∙ ap (λ k. drop k xs) (sym (add-one i))
