-- One turn of the loop over alternatives.
use Rattle.std.proofs.Common.{◌≡◌, ℕ, zero, suc, ◌+◌, ◌<◌, ◌≤◌, List, [], ◌∷◌, ◌++◌, length, map, take, get_or, slice_set, Vec, Result, Ok, Err, IfOk, OnOk, refl, sym, ap, ◌∙◌, append_assoc, arith}
use Rattle.std.specs.declared.alloc.Global.{Global}
use Rattle.std.proofs.lemmas.List.{take_more, map-append}
use Rattle.ada_tree.specs.declared.shortage.Memory.{Memory}
use Rattle.ada_tree.specs.declared.statements.Alt.{Alt}
use Rattle.ada_tree.specs.PlainStmt.{PAlt, alts_of, alt_then, plain_alt}
use Rattle.ada_stmt_copy.specs.expressions.Parts.{OkWith}
use Rattle.collect_model.specs.Teller.{Teller}
use Rattle.collect_model.specs.Waiting.{alternative_told, next_delay, alternatives_told}
use Rattle.collect_statements.specs.Waited.{alternative_list, number_behind}

-- ---- a list that is changed from front to back

-- the list has its length, and what was not gone through is as it was
pub record Left {X : Type 0} (i : ℕ) (ys xs : List X) : Type 0 where
  pub size : length ys ≡ length xs
  pub same : (k : ℕ) (d : X) → i ≤ k → get_or ys k d ≡ get_or xs k d

set-length : {X : Type 0} (ys : List X) (i : ℕ) (y : X) → length (slice_set ys i y) ≡ length ys
set-length [] zero y = refl
set-length [] (suc i) y = refl
set-length (x ∷ ys) zero y = refl
set-length (x ∷ ys) (suc i) y = ap suc (set-length ys i y)

set-behind : {X : Type 0} (ys : List X) (i k : ℕ) (y d : X) → i < k → get_or (slice_set ys i y) k d ≡ get_or ys k d
set-behind [] zero k y d h = refl
set-behind [] (suc i) k y d h = refl
set-behind (x ∷ ys) zero zero y d h = absurd (omega (arith, h))
set-behind (x ∷ ys) zero (suc k) y d h = refl
set-behind (x ∷ ys) (suc i) zero y d h = absurd (omega (arith, h))
set-behind (x ∷ ys) (suc i) (suc k) y d h = set-behind ys i k y d (omega (arith, h))

pub left-turn : {X : Type 0} (xs ys : List X) (i : ℕ) (y : X) → Left i ys xs → Left (i + 1) (slice_set ys i y) xs
left-turn xs ys i y left = record {
  size = set-length ys i y ∙ left.size;
  same = λ k d h. set-behind ys i k y d (omega (arith, h)) ∙ left.same k d (omega (arith, h));
}

-- ---- one alternative more

-- what stands in their place, as a row
pub list-told : (x : Teller) (xs : List PAlt) (k : ℕ) → alts_of (alternative_list x xs k) ≡ alternatives_told x (alts_of xs) k
list-told x [] k = refl
list-told x (a ∷ xs) k = ap (alt_then (alternative_told x a k)) (list-told x xs (next_delay a k))

list-more : (v : Teller) (xs : List PAlt) (x : PAlt) (k : ℕ) → alternative_list v (xs ++ x ∷ []) k ≡ alternative_list v xs k ++ alternative_told v x (number_behind xs k) ∷ []
list-more v [] x k = refl
list-more v (y ∷ xs) x k = ap (λ l. alternative_told v y k ∷ l) (list-more v xs x (next_delay y k))

number-more : (xs : List PAlt) (x : PAlt) (k : ℕ) → number_behind (xs ++ x ∷ []) k ≡ next_delay x (number_behind xs k)
number-more [] x k = refl
number-more (y ∷ xs) x k = number-more xs x (next_delay y k)

alts_more : (xs : List Alt) (i : ℕ) (d : Alt) → i < length xs → map plain_alt (take (i + 1) xs) ≡ map plain_alt (take i xs) ++ plain_alt (get_or xs i d) ∷ []
alts_more xs i d h = ap (map plain_alt) (take_more xs i d h) ∙ map-append plain_alt (take i xs) (get_or xs i d ∷ [])

pub alternatives-turn :
    (v : Teller) (xs : List Alt) (i k : ℕ) (x d : Alt) (old : List PAlt) (before behind : List Alt) (r : Result Alt Memory) →
    i < length xs →
    x ≡ get_or xs i d →
    map plain_alt before ≡ old ++ alternative_list v (map plain_alt (take i xs)) 1 →
    k ≡ number_behind (map plain_alt (take i xs)) 1 →
    OkWith r (λ a. behind ≡ before ++ a ∷ []) →
    IfOk r (λ a. plain_alt a ≡ alternative_told v (plain_alt x) k) →
    map plain_alt behind ≡ old ++ alternative_list v (map plain_alt (take (i + 1) xs)) 1
alternatives-turn v xs i k x d old before behind (Err e) h at so_far number pushed made = absurd pushed
alternatives-turn v xs i k x d old before behind (Ok a) h at so_far number pushed made =
    ap (map plain_alt) pushed
    ∙ map-append plain_alt before (a ∷ [])
    ∙ (λ j. so_far j ++ made j ∷ [])
    ∙ (λ j. (old ++ alternative_list v (map plain_alt (take i xs)) 1) ++ alternative_told v (plain_alt (at j)) (number j) ∷ [])
    ∙ append_assoc old (alternative_list v (map plain_alt (take i xs)) 1) _
    ∙ ap (λ l. old ++ l) (sym (list-more v (map plain_alt (take i xs)) (plain_alt (get_or xs i d)) 1))
    ∙ sym (ap (λ alts. old ++ alternative_list v alts 1) (alts_more xs i d h))

pub number-turn :
    (xs : List Alt) (i k n : ℕ) (x d : Alt) →
    i < length xs →
    x ≡ get_or xs i d →
    k ≡ number_behind (map plain_alt (take i xs)) 1 →
    n ≡ next_delay (plain_alt x) k →
    n ≡ number_behind (map plain_alt (take (i + 1) xs)) 1
number-turn xs i k n x d h at so_far step =
    step
    ∙ (λ j. next_delay (plain_alt (at j)) (so_far j))
    ∙ sym (number-more (map plain_alt (take i xs)) (plain_alt (get_or xs i d)) 1)
    ∙ sym (ap (λ alts. number_behind alts 1) (alts_more xs i d h))

-- all of them, where they went behind no others
pub row-told :
    (v : Teller) (made : List Alt) (xs : List PAlt) →
    map plain_alt made ≡ [] ++ alternative_list v xs 1 →
    alts_of (map plain_alt made) ≡ alternatives_told v (alts_of xs) 1
row-told v made xs are = ap alts_of are ∙ list-told v xs 1

-- the same of a list that was kept
pub kept-told :
    (v : Teller) (xs : List PAlt) (none ys : List Alt) (done : Result (Unit {0}) Memory) (r : Result (Vec Alt Global) Memory) →
    none ≡ [] →
    OnOk done (map plain_alt ys ≡ map plain_alt none ++ alternative_list v xs 1) →
    IfOk r (λ m. OkWith done (λ _. m.items ≡ ys)) →
    IfOk r (λ m. alts_of (map plain_alt m.items) ≡ alternatives_told v (alts_of xs) 1)
kept-told v xs none ys done (Err e) empty put kept = tt
kept-told v xs none ys (Err e) (Ok m) empty put kept = absurd kept
kept-told v xs none ys (Ok u) (Ok m) empty put kept =
    row-told v m.items xs (ap (map plain_alt) kept ∙ put ∙ ap (λ l. map plain_alt l ++ alternative_list v xs 1) empty)
