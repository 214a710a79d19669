-- The alternatives and branches of a selective wait, one more at a time.
use Rattle.std.proofs.Common.{◌≡◌, ℕ, suc, ◌+◌, ◌<◌, List, [], ◌∷◌, ◌++◌, length, map, take, get_or, Vec, Result, Ok, Err, IfOk, refl, sym, ap, ◌∙◌, append_assoc, arith}
use Rattle.std.specs.declared.alloc.Global.{Global}
use Rattle.std.proofs.lemmas.List.{take_more, map-append, append-nil, length-map}
use Rattle.ada_tree.specs.declared.naming.Span.{Span}
use Rattle.ada_tree.specs.declared.shortage.Memory.{Memory}
use Rattle.ada_tree.specs.declared.statements.Accept.{Accept}
use Rattle.ada_tree.specs.declared.statements.Alt.{Alt}
use Rattle.ada_tree.specs.declared.statements.Stmt.{Stmt}
use Rattle.ada_tree.specs.PlainStmt.{SWait, SIf, stmt_then, seen, PMaybe, absent, present, PAccept, plain_accept, PAlt, alternative, AAccept, ADelay, ATerminate, alts_of, alt_then, PArm, arms_of, plain_alt}
use Rattle.collect_model.specs.Waiting.{next_delay}
use Rattle.collect_model.specs.aborts.AbortTeller.{AbortTeller}
use Rattle.normal_model.specs.Making.{one}
use Rattle.collect_model.specs.aborts.Serving.{accept_told, repeated, service_watched}
use Rattle.collect_model.specs.aborts.Waiting.{alternative_told, alternatives_told, behind_alternatives, else_told, is_taken, branch_then, branches, wait_image}
use Rattle.collect_abort.specs.Waited.{behind_of, without_behind, branch_with, branch_of, over_then, alternative_list, branch_list, delay_behind, else_list}

-- ---- one alternative

-- what stands behind an alternative is no part of what stands in its place
pub told-without : (x : AbortTeller) (n : ℕ) (a : PAlt) (j k : ℕ) → alternative_told x n (without_behind a) j k ≡ alternative_told x n a j k
told-without x n (alternative guard (AAccept a l) s) j k = refl
told-without x n (alternative guard (ADelay d l) s) j k = refl
told-without x n (alternative guard ATerminate s) j k = refl

pub branch-without : (x : AbortTeller) (n : ℕ) (a : PAlt) (j : ℕ) → branch_with x n (without_behind a) (behind_of a) j ≡ branch_of x n a j
branch-without x n (alternative guard (AAccept a l) s) j = refl
branch-without x n (alternative guard (ADelay d l) s) j = refl
branch-without x n (alternative guard ATerminate s) j = refl

-- ---- rows

pub list-told : (x : AbortTeller) (n : ℕ) (xs : List PAlt) (j k : ℕ) → alts_of (alternative_list x n xs j k) ≡ alternatives_told x n (alts_of xs) j k
list-told x n [] j k = refl
list-told x n (a ∷ xs) j k = ap (alt_then (alternative_told x n a j k)) (list-told x n xs (j + 1) (next_delay a k))

pub behind-is : (xs : List PAlt) (j : ℕ) → behind_alternatives (alts_of xs) j ≡ j + length xs
behind-is [] j = omega arith
behind-is (a ∷ xs) j = behind-is xs (j + 1) ∙ omega arith

-- a branch in front of others
branch-front : (x : AbortTeller) (n : ℕ) (a : PAlt) (j : ℕ) (ys : List PArm) → arms_of (branch_of x n a j ++ ys) ≡ branch_then x n a j (arms_of ys)
unfolding over_then
branch-front x n (alternative guard (AAccept a l) s) j ys = refl
branch-front x n (alternative guard (ADelay d l) s) j ys = refl
branch-front x n (alternative guard ATerminate s) j ys = refl

else-branch : (x : AbortTeller) (s : Span) (n : ℕ) (o : PMaybe) (j : ℕ) → arms_of (else_list x s o j) ≡ branches x s n (alts_of []) o j
else-branch x s n absent j = refl
else-branch x s n (present l) j = refl

pub arms-told :
    (x : AbortTeller) (s : Span) (n : ℕ) (xs : List PAlt) (o : PMaybe) (j : ℕ) →
    arms_of (branch_list x n xs j ++ else_list x s o (j + length xs)) ≡ branches x s n (alts_of xs) o j
arms-told x s n [] o j = let e : j + 0 ≡ j = omega arith in ap (λ k. arms_of (else_list x s o k)) e ∙ else-branch x s n o j
arms-told x s n (a ∷ xs) o j =
    let e : j + suc (length xs) ≡ (j + 1) + length xs = omega arith in
    ap (λ k. arms_of ((branch_of x n a j ++ branch_list x n xs (j + 1)) ++ else_list x s o k)) e
    ∙ ap arms_of (append_assoc (branch_of x n a j) (branch_list x n xs (j + 1)) (else_list x s o ((j + 1) + length xs)))
    ∙ branch-front x n a j (branch_list x n xs (j + 1) ++ else_list x s o ((j + 1) + length xs))
    ∙ ap (branch_then x n a j) (arms-told x s n xs o (j + 1))

-- ---- one more

list-more :
    (v : AbortTeller) (n : ℕ) (xs : List PAlt) (x : PAlt) (j k : ℕ) →
    alternative_list v n (xs ++ x ∷ []) j k ≡ alternative_list v n xs j k ++ alternative_told v n x (j + length xs) (delay_behind xs k) ∷ []
list-more v n [] x j k = let e : j ≡ j + 0 = omega arith in ap (λ i. alternative_told v n x i k ∷ []) e
list-more v n (y ∷ xs) x j k =
    let e : (j + 1) + length xs ≡ j + suc (length xs) = omega arith in
    ap (λ l. alternative_told v n y j k ∷ l)
    (list-more v n xs x (j + 1) (next_delay y k)
    ∙ ap (λ i. alternative_list v n xs (j + 1) (next_delay y k) ++ alternative_told v n x i (delay_behind xs (next_delay y k)) ∷ []) e)

branch-more : (v : AbortTeller) (n : ℕ) (xs : List PAlt) (x : PAlt) (j : ℕ) → branch_list v n (xs ++ x ∷ []) j ≡ branch_list v n xs j ++ branch_of v n x (j + length xs)
branch-more v n [] x j = let e : j ≡ j + 0 = omega arith in append-nil (branch_of v n x j) ∙ ap (branch_of v n x) e
branch-more v n (y ∷ xs) x j =
    let e : (j + 1) + length xs ≡ j + suc (length xs) = omega arith in
    ap (λ l. branch_of v n y j ++ l) (branch-more v n xs x (j + 1) ∙ ap (λ i. branch_list v n xs (j + 1) ++ branch_of v n x i) e)
    ∙ sym (append_assoc (branch_of v n y j) (branch_list v n xs (j + 1)) (branch_of v n x (j + suc (length xs))))

delay-more : (xs : List PAlt) (x : PAlt) (k : ℕ) → delay_behind (xs ++ x ∷ []) k ≡ next_delay x (delay_behind xs k)
delay-more [] x k = refl
delay-more (y ∷ xs) x k = delay-more xs x (next_delay y k)

alts_more : (xs : List Alt) (i : ℕ) (d : Alt) → i < length xs → map plain_alt (take (i + 1) xs) ≡ map plain_alt (take i xs) ++ plain_alt (get_or xs i d) ∷ []
alts_more xs i d h = ap (map plain_alt) (take_more xs i d h) ∙ map-append plain_alt (take i xs) (get_or xs i d ∷ [])

-- ---- turns of the loop, at the alternative x of number j, the k-th delay alternative if it is one

pub told-turn :
    (v : AbortTeller) (n : ℕ) (xs : List Alt) (i j k : ℕ) (x d : Alt) (old before behind : List PAlt) →
    i < length xs →
    x ≡ get_or xs i d →
    before ≡ old ++ alternative_list v n (map plain_alt (take i xs)) 1 1 →
    j ≡ 1 + length (map plain_alt (take i xs)) →
    k ≡ delay_behind (map plain_alt (take i xs)) 1 →
    behind ≡ before ++ alternative_told v n (plain_alt x) j k ∷ [] →
    behind ≡ old ++ alternative_list v n (map plain_alt (take (i + 1) xs)) 1 1
told-turn v n xs i j k x d old before behind h at so_far part number pushed =
    pushed
    ∙ (λ m. so_far m ++ alternative_told v n (plain_alt (at m)) (part m) (number m) ∷ [])
    ∙ append_assoc old (alternative_list v n (map plain_alt (take i xs)) 1 1) _
    ∙ ap (λ l. old ++ l) (sym (list-more v n (map plain_alt (take i xs)) (plain_alt (get_or xs i d)) 1 1))
    ∙ sym (ap (λ alts. old ++ alternative_list v n alts 1 1) (alts_more xs i d h))

pub arms-turn :
    (v : AbortTeller) (n : ℕ) (xs : List Alt) (i j : ℕ) (x d : Alt) (old before behind : List PArm) →
    i < length xs →
    x ≡ get_or xs i d →
    before ≡ old ++ branch_list v n (map plain_alt (take i xs)) 1 →
    j ≡ 1 + length (map plain_alt (take i xs)) →
    behind ≡ before ++ branch_of v n (plain_alt x) j →
    behind ≡ old ++ branch_list v n (map plain_alt (take (i + 1) xs)) 1
arms-turn v n xs i j x d old before behind h at so_far part pushed =
    pushed
    ∙ (λ m. so_far m ++ branch_of v n (plain_alt (at m)) (part m))
    ∙ append_assoc old (branch_list v n (map plain_alt (take i xs)) 1) _
    ∙ ap (λ l. old ++ l) (sym (branch-more v n (map plain_alt (take i xs)) (plain_alt (get_or xs i d)) 1))
    ∙ sym (ap (λ alts. old ++ branch_list v n alts 1) (alts_more xs i d h))

pub number-turn :
    (xs : List Alt) (i k m : ℕ) (x d : Alt) →
    i < length xs →
    x ≡ get_or xs i d →
    k ≡ delay_behind (map plain_alt (take i xs)) 1 →
    m ≡ next_delay (plain_alt x) k →
    m ≡ delay_behind (map plain_alt (take (i + 1) xs)) 1
number-turn xs i k m x d h at so_far step =
    step
    ∙ (λ j. next_delay (plain_alt (at j)) (so_far j))
    ∙ sym (delay-more (map plain_alt (take i xs)) (plain_alt (get_or xs i d)) 1)
    ∙ sym (ap (λ alts. delay_behind alts 1) (alts_more xs i d h))

-- ---- the whole

-- what stands for a wait, by its alternatives, else part and branches as they were made
pub wait-made :
    (v : AbortTeller) (s : Span) (n : ℕ) (xs : List Alt) (o other : PMaybe) (told : List PAlt) (arms : List PArm) (r : Result (Vec Stmt Global) Memory) →
    told ≡ alternative_list v n (map plain_alt xs) 1 1 →
    arms ≡ branch_list v n (map plain_alt xs) 1 ++ else_list v s o (1 + length xs) →
    other ≡ else_told v s o (1 + length xs) →
    IfOk r (λ m. seen m.items ≡ stmt_then (repeated s (service_watched v s n (SWait (alts_of told) other s)) (is_taken v s)) (one (SIf (arms_of arms) absent s))) →
    IfOk r (λ m. seen m.items ≡ wait_image v s n (alts_of (map plain_alt xs)) o)
wait-made v s n xs o other told arms (Err e) is_told is_arms is_other made = tt
wait-made v s n xs o other told arms (Ok m) is_told is_arms is_other made =
    let ps : List PAlt = map plain_alt xs in
    let size : 1 + length xs ≡ 1 + length ps = omega (arith, length-map xs plain_alt) in
    let alts : alts_of told ≡ alternatives_told v n (alts_of ps) 1 1 = ap alts_of is_told ∙ list-told v n ps 1 1 in
    let last : other ≡ else_told v s o (behind_alternatives (alts_of ps) 1) = is_other ∙ ap (else_told v s o) (size ∙ sym (behind-is ps 1)) in
    let rows : arms_of arms ≡ branches v s n (alts_of ps) o 1 = ap arms_of (is_arms ∙ ap (λ k. branch_list v n ps 1 ++ else_list v s o k) size) ∙ arms-told v s n ps o 1 in
    made ∙ (λ i. stmt_then (repeated s (service_watched v s n (SWait (alts i) (last i) s)) (is_taken v s)) (one (SIf (rows i) absent s)))

-- what stands for an accept stands for one that is the same
pub told-same :
    (r : Result Accept Memory) (v : AbortTeller) (s : Span) (n : ℕ) (a b : PAccept) → a ≡ b → IfOk r (λ m. plain_accept m ≡ accept_told v s n a) → IfOk r (λ m. plain_accept m ≡ accept_told v s n b)
told-same (Err e) v s n a b same made = tt
told-same (Ok m) v s n a b same made = made ∙ ap (accept_told v s n) same
