-- More of what is found in lists.
use Rattle.std.proofs.Common.{◌≡◌, suc, ◌+◌, Bool, true, false, cond, if◌then◌else◌, List, [], ◌∷◌, length, find, Some, None, refl, sym, ap, ◌∙◌, arith, not, nat_lt, filter}
use Rattle.std.specs.List.{AllByRecursion, position, position_or_len}
use Rattle.std.proofs.lemmas.Option.{none-some}
use Rattle.std.proofs.lemmas.Bool.{le-ltb}

-- where nothing is found, no place passes
pub no-place-passes : {A : Type 0} (p : A → Bool) (xs : List A) → find p xs ≡ None → position p xs ≡ None
no-place-passes p xs e = ap (λ n. cond (nat_lt n (length xs)) (Some n) None) (all-pass p xs e) ∙ ap (λ b. cond b (Some (length xs)) None) (le-ltb (length xs) (length xs) (omega arith))
  where
    all-pass : {A : Type 0} (p : A → Bool) (xs : List A) → find p xs ≡ None → position_or_len p xs ≡ length xs
    all-pass p [] e = refl
    all-pass p (x ∷ xs) e = by_test (p x) refl e (all-pass p xs)
      where
        by_test : (b : Bool) → p x ≡ b → (if b then Some x else find p xs) ≡ None → (find p xs ≡ None → position_or_len p xs ≡ length xs) → position_or_len p (x ∷ xs) ≡ length (x ∷ xs)
        by_test true f g rest = absurd (none-some x (sym g))
        by_test false f g rest = let q = rest g in ap (λ b. cond (not b) (1 + position_or_len p xs) 0) f ∙ (let h : 1 + position_or_len p xs ≡ suc (length xs) = omega (arith, q) in h)

-- of those that pass
pub all-filtered : {A : Type 0} (P : A → Type 0) (p : A → Bool) (xs : List A) → AllByRecursion (λ x. p x ≡ true → P x) xs → AllByRecursion P (filter p xs)
all-filtered P p [] h = tt
all-filtered P p (x ∷ xs) h = by_test (p x) refl (all-filtered P p xs h.1)
  where
    by_test : (b : Bool) → p x ≡ b → AllByRecursion P (filter p xs) → AllByRecursion P (cond b (x ∷ filter p xs) (filter p xs))
    by_test true e r = (h.0 e, r)
    by_test false e r = r

-- a test of which nothing is told
pub no-place : {A : Type 0} (b : Bool) (x : A) → (if b then x ∷ [] else []) ≡ [] → b ≡ false
no-place true x e = absurd (filled x e)
  where
    filled : {A : Type 0} (x : A) → x ∷ [] ≡ [] → ⊥
    filled x e = cc
no-place false x e = refl
