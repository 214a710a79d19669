-- The place of the first element that passes a test.
use Rattle.std.proofs.Common.{◌≡◌, ℕ, suc, ◌+◌, ◌≤◌, Bool, true, false, not, cond, nat_lt, List, [], ◌∷◌, length, position, Some, None, refl, arith}
use Rattle.std.specs.List.{position_or_len}
use Rattle.std.proofs.lemmas.List.{map-append}
use Rattle.std.proofs.lemmas.Bool.Decides.{nat_tests}

within-step : (b : Bool) (m n : ℕ) → m ≤ n → cond (not b) (1 + m) 0 ≤ suc n
within-step true m n h = omega arith
within-step false m n h = omega (arith, h)

pub place-within : {X : Type 0} (p : X → Bool) (xs : List X) → position_or_len p xs ≤ length xs
place-within p [] = omega arith
place-within p (x ∷ xs) = within-step (p x) (position_or_len p xs) (length xs) (place-within p xs)

pub place-found : {X : Type 0} (p : X → Bool) (xs : List X) (k : ℕ) → Some k ≡ position p xs → k ≡ position_or_len p xs
place-found p xs k e = by (nat_lt (position_or_len p xs) (length xs)) e
  where
    by : (b : Bool) → Some k ≡ cond b (Some (position_or_len p xs)) None → k ≡ position_or_len p xs
    by true e = cc
    by false e = cc

pub place-missing : {X : Type 0} (p : X → Bool) (xs : List X) → None ≡ position p xs → length xs ≡ position_or_len p xs
place-missing p xs e = by (nat_lt (position_or_len p xs) (length xs)) refl e
  where
    by : (b : Bool) → nat_lt (position_or_len p xs) (length xs) ≡ b → None ≡ cond b (Some (position_or_len p xs)) None → length xs ≡ position_or_len p xs
    by true is e = cc
    by false is e = let low = place-within p xs in grind (arith, nat_tests)

pub ruleset placed = (place-within, place-found, place-missing, map-append)
