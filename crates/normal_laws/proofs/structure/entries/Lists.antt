-- What is found in lists, and where.
use Rattle.std.proofs.Common.{◌≡◌, ℕ, suc, ◌+◌, ◌<◌, Bool, true, false, cond, if◌then◌else◌, List, [], ◌∷◌, ◌++◌, length, map, find, slice_get, option_map, Option, Some, None, refl, sym, ap, ◌∙◌, true≢false, arith, not, nat_lt}
use Rattle.std.specs.List.{position, position_or_len}
use Rattle.std.proofs.lemmas.Option.{none-some}
use Rattle.std.proofs.lemmas.Bool.{lt-ltb, ltb-true}
use Rattle.common_lemmas.proofs.Options.{some_same}

pub find-behind : {A : Type 0} (p : A → Bool) (xs ys : List A) → find p xs ≡ None → find p (xs ++ ys) ≡ find p ys
find-behind p [] ys e = refl
find-behind p (y ∷ xs) ys e = by_test (p y) e (find-behind p xs ys)
  where
    by_test : (b : Bool) → (if b then Some y else find p xs) ≡ None → (find p xs ≡ None → find p (xs ++ ys) ≡ find p ys) → (if b then Some y else find p (xs ++ ys)) ≡ find p ys
    by_test true f rest = absurd (none-some y (sym f))
    by_test false f rest = rest f

-- in a list of images
pub find-mapped : {A B : Type 0} (p : B → Bool) (q : A → Bool) (f : A → B) → ((a : A) → p (f a) ≡ q a) → (xs : List A) → find p (map f xs) ≡ option_map f (find q xs)
find-mapped p q f same [] = refl
find-mapped p q f same (x ∷ xs) = by_test (p (f x)) (q x) (same x) (find-mapped p q f same xs)
  where
    by_test : (b c : Bool) → b ≡ c → find p (map f xs) ≡ option_map f (find q xs) → (if b then Some (f x) else find p (map f xs)) ≡ option_map f (if c then Some x else find q xs)
    by_test true true e rest = refl
    by_test true false e rest = absurd (true≢false e)
    by_test false true e rest = absurd (true≢false (sym e))
    by_test false false e rest = rest

-- ---- places

-- where the first that passes stands, told whether the first of all does
abbrev place-behind : Bool → ℕ → ℕ → Option ℕ
place-behind b n m = cond (nat_lt (cond (not b) (1 + n) 0) (suc m)) (Some (cond (not b) (1 + n) 0)) None

position-here : {A : Type 0} (p : A → Bool) (x : A) (xs : List A) → p x ≡ true → position p (x ∷ xs) ≡ Some 0
position-here p x xs e =
    let l : 0 < suc (length xs) = omega arith in
    ap (λ b. place-behind b (position_or_len p xs) (length xs)) e ∙ ap (λ b. cond b (Some 0) None) (lt-ltb 0 (suc (length xs)) l)

one-more : (n m k : ℕ) → cond (nat_lt n m) (Some n) None ≡ Some k → place-behind false n m ≡ Some (suc k)
one-more n m k e = by_test (nat_lt n m) refl e
  where
    by_test : (b : Bool) → nat_lt n m ≡ b → cond b (Some n) None ≡ Some k → place-behind false n m ≡ Some (suc k)
    by_test true f g =
        let l : n < m = ltb-true n m f in
        let same : n ≡ k = some_same g in
        let h : 1 + n ≡ suc k = omega arith in
        ap (λ b. cond b (Some (1 + n)) None) (lt-ltb (1 + n) (suc m) (omega arith)) ∙ ap (λ i. Some i) h
    by_test false f g = absurd (none-some k g)

position-later : {A : Type 0} (p : A → Bool) (x : A) (xs : List A) (k : ℕ) → p x ≡ false → position p xs ≡ Some k → position p (x ∷ xs) ≡ Some (suc k)
position-later p x xs k e f = ap (λ b. place-behind b (position_or_len p xs) (length xs)) e ∙ one-more (position_or_len p xs) (length xs) k f

-- where something is found, it stands at the first place that passes
pub found-place : {A : Type 0} (p : A → Bool) (xs : List A) (x : A) → find p xs ≡ Some x → (k : ℕ) × (slice_get xs k ≡ Some x) × (position p xs ≡ Some k)
found-place p [] x e = absurd (none-some x e)
found-place p (y ∷ xs) x e = by_test (p y) refl e (found-place p xs x)
  where
    by_test : (b : Bool) → p y ≡ b → (if b then Some y else find p xs) ≡ Some x → (find p xs ≡ Some x → (k : ℕ) × (slice_get xs k ≡ Some x) × (position p xs ≡ Some k)) →
        (k : ℕ) × (slice_get (y ∷ xs) k ≡ Some x) × (position p (y ∷ xs) ≡ Some k)
    by_test true f g rest = (0, g, position-here p y xs f)
    by_test false f g rest = let h = rest g in (suc h.0, h.1, position-later p y xs h.0 f h.2)
