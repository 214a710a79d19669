-- Where further declarations go, and lists of which parts change places.
use Rattle.std.proofs.Common.{◌≡◌, ℕ, suc, ◌+◌, ◌-◌, ◌≤◌, Bool, true, false, not, cond, List, [], ◌∷◌, ◌++◌, length, map, take, drop, Result, Ok, Err, OnOk, refl, sym, ap, ◌∙◌, append_assoc, arith}
use Rattle.std.specs.List.{position_or_len}
use Rattle.std.proofs.Math.Seq.{drop-append_seam, take-append_seam}
use Rattle.std.proofs.lemmas.List.{append-nil, map-append, length-drop}
use Rattle.ada_tree.specs.declared.declarations.Decl.{Decl}
use Rattle.ada_tree.specs.declared.shortage.Memory.{Memory}
use Rattle.ada_tree.specs.PlainDecl.{PDecl, plain_decl}
use Rattle.replay_model.specs.ReplayTree.{is_added_object}
use Rattle.collect_model.specs.CollectTree.{behind_own}

-- ---- parts that change places

-- the last part goes between the others, by two turns of the whole
turned : {X : Type 0} (one two more : List X) → drop (length two) ((two ++ one) ++ more) ++ take (length two) ((two ++ one) ++ more) ≡ one ++ more ++ two
turned one two more =
    (λ i. drop (length two) (append_assoc two one more i) ++ take (length two) (append_assoc two one more i))
    ∙ (λ i. drop-append_seam two (one ++ more) i ++ take-append_seam two (one ++ more) i)

-- the same by the place at which the first part ends
pub inserted :
    {X : Type 0} (place behind : ℕ) (xs front with_more all more : List X) →
    behind ≡ length xs - place →
    front ≡ drop place xs ++ take place xs →
    with_more ≡ front ++ more →
    all ≡ drop behind with_more ++ take behind with_more →
    all ≡ take place xs ++ more ++ drop place xs
inserted place behind xs front with_more all more size first put last =
    let joined = put ∙ ap (λ l. l ++ more) first in
    last
    ∙ (λ i. drop (size i) (joined i) ++ take (size i) (joined i))
    ∙ ap (λ n. drop n ((drop place xs ++ take place xs) ++ more) ++ take n ((drop place xs ++ take place xs) ++ more)) (sym (length-drop place xs))
    ∙ turned (take place xs) (drop place xs) more

-- ---- the place

-- declarations in front of a list or behind its first, by a test of the first
one-step :
    (b : Bool) (m : ℕ) (ds : List PDecl) (x : Decl) (xs : List Decl) →
    map plain_decl (take (cond (not b) (1 + m) 0) (x ∷ xs)) ++ ds ++ map plain_decl (drop (cond (not b) (1 + m) 0) (x ∷ xs))
    ≡ cond b (ds ++ plain_decl x ∷ map plain_decl xs) (plain_decl x ∷ (map plain_decl (take m xs) ++ ds ++ map plain_decl (drop m xs)))
one-step true m ds x xs = refl
one-step false m ds x xs = let e : 1 + m ≡ suc m = omega arith in ap (λ k. map plain_decl (take k (x ∷ xs)) ++ ds ++ map plain_decl (drop k (x ∷ xs))) e

-- declarations at that place
pub behind-split :
    (names : List (List ℕ)) (ds : List PDecl) (xs : List Decl) →
    map plain_decl (take (position_or_len (λ x. is_added_object names (plain_decl x)) xs) xs) ++ ds ++ map plain_decl (drop (position_or_len (λ x. is_added_object names (plain_decl x)) xs) xs)
    ≡ behind_own names ds (map plain_decl xs)
behind-split names ds [] = append-nil ds
behind-split names ds (x ∷ xs) =
    one-step (is_added_object names (plain_decl x)) (position_or_len (λ y. is_added_object names (plain_decl y)) xs) ds x xs
    ∙ ap (λ l. cond (is_added_object names (plain_decl x)) (ds ++ plain_decl x ∷ map plain_decl xs) (plain_decl x ∷ l)) (behind-split names ds xs)

-- the same in the code's words
pub own-put :
    (names : List (List ℕ)) (xs more ys : List Decl) (n : ℕ) (done : Result (Unit {0}) Memory) →
    n ≡ position_or_len (λ x. is_added_object names (plain_decl x)) xs →
    OnOk done (ys ≡ take n xs ++ more ++ drop n xs) →
    OnOk done (map plain_decl ys ≡ behind_own names (map plain_decl more) (map plain_decl xs))
own-put names xs more ys n (Err e) at put = tt
own-put names xs more ys n (Ok u) at put =
    let place : ℕ = position_or_len (λ x. is_added_object names (plain_decl x)) xs in
    ap (map plain_decl) (put ∙ ap (λ k. take k xs ++ more ++ drop k xs) at)
    ∙ map-append plain_decl (take place xs ++ more) (drop place xs)
    ∙ ap (λ l. l ++ map plain_decl (drop place xs)) (map-append plain_decl (take place xs) more)
    ∙ behind-split names (map plain_decl more) xs

pub ruleset placed = (map-append)
