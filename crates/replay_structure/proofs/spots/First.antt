-- The first element that passes a test, where one list stands behind another.
use Rattle.std.proofs.Common.{◌≡◌, ℕ, suc, ◌+◌, ◌<◌, ◌≤◌, nat_lt, Bool, true, false, not, cond, List, [], ◌∷◌, ◌++◌, length, map, position, Some, None, refl, sym, ap, ap₂, ◌∙◌, length-append, arith}
use Rattle.std.specs.List.{AllByRecursion, position_or_len}
use Rattle.std.proofs.lemmas.Bool.{ltb-true}
use Rattle.std.proofs.lemmas.Option.{none-some}
use Rattle.std.proofs.lemmas.List.Sums.{prefix_len-le-length}
use Rattle.common_lemmas.proofs.Numbers.{lt_true}
use Rattle.common_lemmas.proofs.Options.{some_same}

module _ {A : Type 0} (f : A → Bool) where
  -- the place of the first, or the length
  abbrev pub first : List A → ℕ
  first xs = position_or_len f xs

  pub most : (xs : List A) → first xs ≤ length xs
  most xs = prefix_len-le-length (λ x. not (f x)) xs

  -- it stands in the first list
  pub front : (xs ys : List A) → first xs < length xs → first (xs ++ ys) ≡ first xs
  front [] ys h = absurd (omega (arith, h))
  front (x ∷ xs) ys h = by_test (f x) h (front xs ys)
    where
      by_test : (b : Bool) → cond (not b) (1 + first xs) 0 < suc (length xs) → (first xs < length xs → first (xs ++ ys) ≡ first xs) → cond (not b) (1 + first (xs ++ ys)) 0 ≡ cond (not b) (1 + first xs) 0
      by_test true h later = refl
      by_test false h later = ap (λ n. 1 + n) (later (omega (arith, h)))

  -- it stands behind that
  pub past : (xs ys : List A) → first xs ≡ length xs → first (xs ++ ys) ≡ length xs + first ys
  past [] ys h = let e : first ys ≡ 0 + first ys = omega arith in e
  past (x ∷ xs) ys h = by_test (f x) h (past xs ys)
    where
      by_test : (b : Bool) → cond (not b) (1 + first xs) 0 ≡ suc (length xs) → (first xs ≡ length xs → first (xs ++ ys) ≡ length xs + first ys) → cond (not b) (1 + first (xs ++ ys)) 0 ≡ suc (length xs) + first ys
      by_test true h later = absurd (let z : ⊥ = omega (arith, h) in z)
      by_test false h later = ap (λ n. 1 + n) (later (omega (arith, h))) ∙ (let e : 1 + (length xs + first ys) ≡ suc (length xs) + first ys = omega arith in e)

  -- one after which nothing passes
  pub more : (x : A) (xs : List A) → f x ≡ false → first xs ≡ length xs → first (x ∷ xs) ≡ suc (length xs)
  more x xs e h = ap (λ b. cond (not b) (1 + first xs) 0) e ∙ (let s : 1 + first xs ≡ suc (length xs) = omega (arith, h) in s)

  -- it stands in neither list
  pub both-past : (xs ys : List A) → first xs ≡ length xs → first ys ≡ length ys → first (xs ++ ys) ≡ length (xs ++ ys)
  both-past xs ys h k = past xs ys h ∙ ap (λ n. length xs + n) k ∙ sym (length-append xs ys)

  -- where there is one, its place is found
  pub there : (xs : List A) → first xs < length xs → position f xs ≡ Some (first xs)
  there xs h = ap (λ b. cond b (Some (first xs)) None) (lt_true (first xs) (length xs) h)

  -- none passes
  pub none : (xs : List A) → AllByRecursion (λ x. f x ≡ false) xs → first xs ≡ length xs
  none [] h = refl
  none (x ∷ xs) h = ap (λ b. cond (not b) (1 + first xs) 0) h.0 ∙ (let later = none xs h.1 in let e : 1 + first xs ≡ suc (length xs) = omega (arith, later) in e)

  -- what is found passes, and all that holds of each holds of it
  pub passing : (P : A → Type 0) (xs : List A) → AllByRecursion P xs → first xs < length xs → (y : A) × P y × (f y ≡ true)
  passing P [] all h = absurd (omega (arith, h))
  passing P (x ∷ xs) all h = by_test (f x) refl h (passing P xs all.1)
    where
      by_test : (b : Bool) → f x ≡ b → cond (not b) (1 + first xs) 0 < suc (length xs) → (first xs < length xs → (y : A) × P y × (f y ≡ true)) → (y : A) × P y × (f y ≡ true)
      by_test true e h later = (x, all.0, e)
      by_test false e h later = later (omega (arith, h))

  -- a place is that of the first
  pub found : (xs : List A) (i : ℕ) → position f xs ≡ Some i → (first xs ≡ i) × (first xs < length xs)
  found xs i e = by_test (nat_lt (first xs) (length xs)) refl e
    where
      by_test : (b : Bool) → nat_lt (first xs) (length xs) ≡ b → cond b (Some (first xs)) None ≡ Some i → (first xs ≡ i) × (first xs < length xs)
      by_test true k g = (some_same g, ltb-true _ _ k)
      by_test false k g = absurd (none-some i g)

-- two tests that agree on a list find the same
pub first-alike : {A : Type 0} (f h : A → Bool) (xs : List A) → AllByRecursion (λ x. f x ≡ h x) xs → first f xs ≡ first h xs
first-alike f h [] e = refl
first-alike f h (x ∷ xs) e = ap₂ (λ (b : Bool) n. cond (not b) (1 + n) 0) e.0 (first-alike f h xs e.1)

pub all-mapped : {A B : Type 0} (P : B → Type 0) (f : A → B) (xs : List A) → AllByRecursion (λ x. P (f x)) xs → AllByRecursion P (map f xs)
all-mapped P f [] h = tt
all-mapped P f (x ∷ xs) h = (h.0, all-mapped P f xs h.1)
