-- The first of two answers, and what is looked up in a list that is one longer.
use Rattle.std.proofs.Common.{◌≡◌, ◌==◌, ◌<◌, ◌≤◌, ◌+◌, ℕ, nat_lt, Bool, true, false, if◌then◌else◌, List, [], ◌∷◌, ◌++◌, length, take, find, Option, Some, None, refl, ap, ◌∙◌, get_or, arith}
use Rattle.std.specs.List.{position, position_or_len}
use Rattle.std.proofs.lemmas.List.{length_push, take_more, length-take-le}
use Rattle.std.proofs.lemmas.List.Folds.{position_or_len_push}
use Rattle.std.proofs.lemmas.List.Sums.{prefix_len-le-length}
use Rattle.std.proofs.lemmas.Bool.Decides.{nat_tests}
use Rattle.ada_static_rules.specs.StaticValue.{first_of_two}

pub first_of_three : {A : Type 0} (a b c : Option A) → first_of_two (first_of_two a b) c ≡ first_of_two a (first_of_two b c)
first_of_three None b c = refl
first_of_three (Some x) b c = refl

pub first_or_none : {A : Type 0} (a : Option A) → first_of_two a None ≡ a
first_or_none None = refl
first_or_none (Some x) = refl

pub found_test : {X : Type 0} (x : X) (o r q : Option X) (b : Bool) → o ≡ first_of_two r q → (if b then Some x else o) ≡ first_of_two (if b then Some x else r) q
found_test x o r q true h = refl
found_test x o r q false h = h

pub find_push : {X : Type 0} (p : X → Bool) (xs : List X) (y : X) → find p (xs ++ y ∷ []) ≡ first_of_two (find p xs) (if p y then Some y else None)
find_push p [] y = refl
find_push p (x ∷ xs) y = found_test x (find p (xs ++ y ∷ [])) (find p xs) (if p y then Some y else None) (p x) (find_push p xs y)

abbrev place_in : ℕ → ℕ → Option ℕ
place_in place count = if nat_lt place count then Some place else None

pub behind_all : (place count : ℕ) (b : Bool) → place ≤ count → place_in (if place == count then count + (if b then 0 else 1) else place) (count + 1) ≡ first_of_two (place_in place count) (if b then Some count else None)
behind_all place count true h = grind (arith, nat_tests)
behind_all place count false h = grind (arith, nat_tests)

pub position_push : {X : Type 0} (p : X → Bool) (xs : List X) (y : X) → position p (xs ++ y ∷ []) ≡ first_of_two (position p xs) (if p y then Some (length xs) else None)
position_push p xs y =
    ap (λ n. place_in n (length (xs ++ y ∷ []))) (position_or_len_push p xs y)
    ∙ ap (place_in _) (length_push xs y)
    ∙ behind_all (position_or_len p xs) (length xs) (p y) (prefix_len-le-length _ xs)

pub position_more : {X : Type 0} (p : X → Bool) (xs : List X) (i : ℕ) (d : X) → i < length xs → position p (take (i + 1) xs) ≡ first_of_two (position p (take i xs)) (if p (get_or xs i d) then Some i else None)
position_more p xs i d h =
    ap (position p) (take_more xs i d h)
    ∙ position_push p (take i xs) (get_or xs i d)
    ∙ ap (λ n. first_of_two (position p (take i xs)) (if p (get_or xs i d) then Some n else None)) (length-take-le i xs (omega (arith, h)))
