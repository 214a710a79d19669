-- Where the declaration of a permit's variables goes, and lists of declarations with more behind them.
use Rattle.std.proofs.Common.{◌≡◌, ℕ, suc, ◌+◌, ◌≤◌, Bool, true, false, not, cond, nat_lt, List, [], ◌∷◌, length, map, position, Some, None, Result, Ok, Err, IfOk, OnOk, refl, ap, ◌∙◌, arith}
use Rattle.std.specs.List.{insert, position_or_len}
use Rattle.std.proofs.lemmas.List.{map-append}
use Rattle.std.proofs.lemmas.Bool.Decides.{nat_tests}
use Rattle.ada_tree.specs.declared.declarations.Decl.{Decl}
use Rattle.ada_tree.specs.declared.shortage.Memory.{Memory}
use Rattle.ada_tree.specs.PlainDecl.{PDecl, plain_decl}
use Rattle.ada_stmt_copy.specs.expressions.Parts.{OkWith}
use Rattle.replay_model.specs.ReplayTree.{is_added_object, behind_own}

-- ---- the place

within-step : (b : Bool) (m n : ℕ) → m ≤ n → cond (not b) (1 + m) 0 ≤ suc n
within-step true m n h = omega arith
within-step false m n h = omega (arith, h)

pub place-within : {X : Type 0} (p : X → Bool) (xs : List X) → position_or_len p xs ≤ length xs
place-within p [] = omega arith
place-within p (x ∷ xs) = within-step (p x) (position_or_len p xs) (length xs) (place-within p xs)

pub place-found : {X : Type 0} (p : X → Bool) (xs : List X) (k : ℕ) → Some k ≡ position p xs → k ≡ position_or_len p xs
place-found p xs k e = by (nat_lt (position_or_len p xs) (length xs)) e
  where
    by : (b : Bool) → Some k ≡ cond b (Some (position_or_len p xs)) None → k ≡ position_or_len p xs
    by true e = cc
    by false e = cc

pub place-missing : {X : Type 0} (p : X → Bool) (xs : List X) → None ≡ position p xs → length xs ≡ position_or_len p xs
place-missing p xs e = by (nat_lt (position_or_len p xs) (length xs)) refl e
  where
    by : (b : Bool) → nat_lt (position_or_len p xs) (length xs) ≡ b → None ≡ cond b (Some (position_or_len p xs)) None → length xs ≡ position_or_len p xs
    by true is e = cc
    by false is e = let low = place-within p xs in grind (arith, nat_tests)

-- a declaration in front of a list or behind its first, by a test of the first
one-step :
    (b : Bool) (m : ℕ) (x d : Decl) (xs : List Decl) →
    map plain_decl (insert (x ∷ xs) (cond (not b) (1 + m) 0) d) ≡ cond b (plain_decl d ∷ plain_decl x ∷ map plain_decl xs) (plain_decl x ∷ map plain_decl (insert xs m d))
one-step true m x d xs = refl
one-step false m x d xs = let e : 1 + m ≡ suc m = omega arith in ap (λ k. map plain_decl (insert (x ∷ xs) k d)) e

-- a declaration at that place
pub behind-insert :
    (names : List (List ℕ)) (xs : List Decl) (d : Decl) →
    map plain_decl (insert xs (position_or_len (λ x. is_added_object names (plain_decl x)) xs) d) ≡ behind_own names (plain_decl d) (map plain_decl xs)
behind-insert names [] d = refl
behind-insert names (x ∷ xs) d =
    one-step (is_added_object names (plain_decl x)) (position_or_len (λ y. is_added_object names (plain_decl y)) xs) x d xs
    ∙ ap (λ l. cond (is_added_object names (plain_decl x)) (plain_decl d ∷ plain_decl x ∷ map plain_decl xs) (plain_decl x ∷ l)) (behind-insert names xs d)

-- the same where the declaration comes as a result
pub permit-put :
    (names : List (List ℕ)) (xs ys : List Decl) (n : ℕ) (p : PDecl) (done : Result (Unit {0}) Memory) (r : Result Decl Memory) →
    n ≡ position_or_len (λ x. is_added_object names (plain_decl x)) xs →
    OnOk done (OkWith r (λ d. ys ≡ insert xs n d)) →
    IfOk r (λ d. plain_decl d ≡ p) →
    OnOk done (map plain_decl ys ≡ behind_own names p (map plain_decl xs))
permit-put names xs ys n p (Err e) r at put made = tt
permit-put names xs ys n p (Ok u) (Err e) at put made = absurd put
permit-put names xs ys n p (Ok u) (Ok d) at put made =
    ap (map plain_decl) put
    ∙ ap (λ k. map plain_decl (insert xs k d)) at
    ∙ behind-insert names xs d
    ∙ ap (λ q. behind_own names q (map plain_decl xs)) made

pub ruleset placed = (place-within, place-found, place-missing, map-append)
