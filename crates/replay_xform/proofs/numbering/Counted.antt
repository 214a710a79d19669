-- The number of an entry among those that are not added, by a search among those alone.
use Rattle.std.proofs.Common.{◌≡◌, ℕ, suc, ◌+◌, ◌&&◌, Bool, true, false, cond, List, [], ◌∷◌, length, map, take, count_by, position, option_map, Option, Some, None, refl, sym, ap, ◌∙◌, arith}
use Rattle.std.specs.List.{filter, position_from}
use Rattle.std.proofs.lemmas.Iterator.Adapters.{position_from-zero}
use Rattle.std.proofs.lemmas.List.Sums.{length-filter}

-- ---- places

-- the place in a list that is counted from a number later on
from-suc : {X : Type 0} (p : X → Bool) (xs : List X) (i : ℕ) → position_from p (i + 1) xs ≡ option_map (λ k. k + 1) (position_from p i xs)
from-suc p [] i = refl
from-suc p (x ∷ xs) i = by (p x) (from-suc p xs (i + 1))
  where
    by : (b : Bool) → position_from p (i + 1 + 1) xs ≡ option_map (λ k. k + 1) (position_from p (i + 1) xs) → cond b (Some (i + 1)) (position_from p (i + 1 + 1) xs) ≡ option_map (λ k. k + 1) (cond b (Some i) (position_from p (i + 1) xs))
    by true rest = refl
    by false rest = rest

found-more : {X : Type 0} (p : X → Bool) (x : X) (xs : List X) (b : Bool) → p x ≡ b → position_from p 0 (x ∷ xs) ≡ cond b (Some 0) (option_map (λ k. k + 1) (position_from p 0 xs))
found-more p x xs b is = ap (λ c. cond c (Some 0) (position_from p 1 xs)) is ∙ ap (cond b (Some 0)) (from-suc p xs 0)

filter-more : {X : Type 0} (f : X → Bool) (x : X) (xs : List X) (b : Bool) → f x ≡ b → filter f (x ∷ xs) ≡ cond b (x ∷ filter f xs) (filter f xs)
filter-more f x xs b is = ap (λ c. cond c (x ∷ filter f xs) (filter f xs)) is

-- ---- numbers

-- how many of the first of a list up to a place pass
abbrev upto : {X : Type 0} → (X → Bool) → List X → ℕ → ℕ
upto f xs k = length (filter f (take (k + 1) xs))

upto-more : {X : Type 0} (f : X → Bool) (x : X) (xs : List X) (b : Bool) → f x ≡ b → (k : ℕ) → upto f (x ∷ xs) (k + 1) ≡ upto f xs k + cond b 1 0
upto-more f x xs b is k =
    let e : k + 1 + 1 ≡ suc (k + 1) = omega arith in
    ap (λ n. length (filter f (take n (x ∷ xs)))) e ∙ ap length (filter-more f x (take (k + 1) xs) b is) ∙ by b
  where
    by : (c : Bool) → length (cond c (x ∷ filter f (take (k + 1) xs)) (filter f (take (k + 1) xs))) ≡ upto f xs k + cond c 1 0
    by true = omega arith
    by false = omega arith

upto-first : {X : Type 0} (f : X → Bool) (x : X) (xs : List X) → f x ≡ true → upto f (x ∷ xs) 0 ≡ 1
upto-first f x xs is = ap length (filter-more f x [] true is)

shifted : {X : Type 0} (f : X → Bool) (x : X) (xs : List X) (b : Bool) → f x ≡ b → (o : Option ℕ) → option_map (upto f (x ∷ xs)) (option_map (λ k. k + 1) o) ≡ option_map (λ n. n + cond b 1 0) (option_map (upto f xs) o)
shifted f x xs b is None = refl
shifted f x xs b is (Some k) = ap Some (upto-more f x xs b is k)

none-added : (o : Option ℕ) → option_map (λ n. n + 0) o ≡ o
none-added None = refl
none-added (Some n) = let e : n + 0 ≡ n = omega arith in ap Some e

-- the number of the first that passes, among those that count, is found among those alone
counted_from :
    {X Y : Type 0} (f p : X → Bool) (h : X → Y) (q : Y → Bool) → ((x : X) → p x ≡ (f x && q (h x))) → (xs : List X) →
    option_map (upto f xs) (position_from p 0 xs) ≡ option_map (λ k. k + 1) (position_from q 0 (map h (filter f xs)))
counted_from f p h q is [] = refl
counted_from f p h q is (x ∷ xs) = by (f x) (q (h x)) refl refl (counted_from f p h q is xs)
  where
    by :
        (b c : Bool) → f x ≡ b → q (h x) ≡ c →
        option_map (upto f xs) (position_from p 0 xs) ≡ option_map (λ k. k + 1) (position_from q 0 (map h (filter f xs))) →
        option_map (upto f (x ∷ xs)) (position_from p 0 (x ∷ xs)) ≡ option_map (λ k. k + 1) (position_from q 0 (map h (filter f (x ∷ xs))))
    by true true fe qe rest =
        ap (option_map (upto f (x ∷ xs))) (found-more p x xs true (is x ∙ (λ i. fe i && qe i)))
        ∙ ap Some (upto-first f x xs fe)
        ∙ sym (ap (λ ys. option_map (λ k. k + 1) (position_from q 0 (map h ys))) (filter-more f x xs true fe) ∙ ap (option_map (λ k. k + 1)) (found-more q (h x) (map h (filter f xs)) true qe))
    by true false fe qe rest =
        ap (option_map (upto f (x ∷ xs))) (found-more p x xs false (is x ∙ (λ i. fe i && qe i)))
        ∙ shifted f x xs true fe (position_from p 0 xs)
        ∙ ap (option_map (λ k. k + 1)) rest
        ∙ sym (ap (λ ys. option_map (λ k. k + 1) (position_from q 0 (map h ys))) (filter-more f x xs true fe) ∙ ap (option_map (λ k. k + 1)) (found-more q (h x) (map h (filter f xs)) false qe))
    by false c fe qe rest =
        ap (option_map (upto f (x ∷ xs))) (found-more p x xs false (is x ∙ ap (λ b. b && q (h x)) fe))
        ∙ shifted f x xs false fe (position_from p 0 xs)
        ∙ none-added (option_map (upto f xs) (position_from p 0 xs))
        ∙ rest
        ∙ sym (ap (λ ys. option_map (λ k. k + 1) (position_from q 0 (map h ys))) (filter-more f x xs false fe))

-- the same in std's words
pub counted :
    {X Y : Type 0} (f p : X → Bool) (h : X → Y) (q : Y → Bool) → ((x : X) → p x ≡ (f x && q (h x))) → (xs : List X) →
    option_map (λ k. count_by f (take (k + 1) xs)) (position p xs) ≡ option_map (λ k. k + 1) (position q (map h (filter f xs)))
counted f p h q is xs =
    ap (option_map (λ k. count_by f (take (k + 1) xs))) (position_from-zero p xs)
    ∙ as_upto (position_from p 0 xs)
    ∙ counted_from f p h q is xs
    ∙ ap (option_map (λ k. k + 1)) (sym (position_from-zero q (map h (filter f xs))))
  where
    as_upto : (o : Option ℕ) → option_map (λ k. count_by f (take (k + 1) xs)) o ≡ option_map (upto f xs) o
    as_upto None = refl
    as_upto (Some k) = ap Some (sym (length-filter f (take (k + 1) xs)))
