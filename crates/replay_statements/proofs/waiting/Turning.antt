-- One turn of the loops over alternatives and over delay alternatives.
use Rattle.std.proofs.Common.{◌≡◌, ℕ, zero, suc, ◌+◌, ◌<◌, ◌≤◌, List, [], ◌∷◌, ◌++◌, length, map, take, get_or, slice_set, fold, Result, Ok, Err, IfOk, refl, sym, ap, ◌∙◌, append_assoc, arith}
use Rattle.std.proofs.lemmas.List.{take_more, map-append, length-take, length-map}
use Rattle.ada_tree.specs.declared.expressions.Expr.{Expr}
use Rattle.ada_tree.specs.declared.naming.Span.{Span}
use Rattle.ada_tree.specs.declared.shortage.Memory.{Memory}
use Rattle.ada_tree.specs.declared.statements.Alt.{Alt}
use Rattle.ada_tree.specs.declared.statements.Arm.{Arm}
use Rattle.ada_tree.specs.PlainExpr.{PExpr, plain_expr}
use Rattle.ada_stmt_copy.specs.expressions.Parts.{OkWith}
use Rattle.ada_tree.specs.PlainStmt.{PAlt, alternative, AAccept, ADelay, ATerminate, alts_of, PArm, plain_alt, plain_arm}
use Rattle.replay_model.specs.Waiting.{Pause, pauses_of}
use Rattle.replay_asking.specs.Voice.{Voice}
use Rattle.replay_statements.specs.declared.waiting.seen_pause.SeenPause.{SeenPause}
use Rattle.replay_statements.specs.waiting.Waited.{plain_pause, pause_alt, pause_alts, branch_of, next_number, number_behind, branches}

-- ---- lists that are changed from front to back

-- the list has its length, and what was not gone through is as it was
pub record Left (i : ℕ) (ys xs : List Alt) : Type 0 where
  pub size : length ys ≡ length xs
  pub same : (k : ℕ) (d : Alt) → i ≤ k → get_or ys k d ≡ get_or xs k d

set-length : (ys : List Alt) (i : ℕ) (y : Alt) → length (slice_set ys i y) ≡ length ys
set-length [] zero y = refl
set-length [] (suc i) y = refl
set-length (x ∷ ys) zero y = refl
set-length (x ∷ ys) (suc i) y = ap suc (set-length ys i y)

set-behind : (ys : List Alt) (i k : ℕ) (y d : Alt) → i < k → get_or (slice_set ys i y) k d ≡ get_or ys k d
set-behind [] zero k y d h = refl
set-behind [] (suc i) k y d h = refl
set-behind (x ∷ ys) zero zero y d h = absurd (omega (arith, h))
set-behind (x ∷ ys) zero (suc k) y d h = refl
set-behind (x ∷ ys) (suc i) zero y d h = absurd (omega (arith, h))
set-behind (x ∷ ys) (suc i) (suc k) y d h = set-behind ys i k y d (omega (arith, h))

pub left-turn : (xs ys : List Alt) (i : ℕ) (y : Alt) → Left i ys xs → Left (i + 1) (slice_set ys i y) xs
left-turn xs ys i y left = record {
  size = set-length ys i y ∙ left.size;
  same = λ k d h. set-behind ys i k y d (omega (arith, h)) ∙ left.same k d (omega (arith, h));
}

-- ---- lists with one more at their end

pub pauses-more : (xs : List PAlt) (x : PAlt) → pauses_of (alts_of (xs ++ x ∷ [])) ≡ pauses_of (alts_of xs) ++ pauses_of (alts_of (x ∷ []))
pauses-more [] x = refl
pauses-more (alternative g (AAccept a l) s ∷ xs) x = pauses-more xs x
pauses-more (alternative g (ADelay d l) s ∷ xs) x = ap (λ ps. record { duration = d; guard = g } ∷ ps) (pauses-more xs x)
pauses-more (alternative g ATerminate s ∷ xs) x = pauses-more xs x

pub branches-more :
    (v : Voice) (ps : List Pause) (xs : List PAlt) (x : PAlt) (k : ℕ) →
    branches v ps (xs ++ x ∷ []) k ≡ branches v ps xs k ++ branch_of v ps x (number_behind xs k) ∷ []
branches-more v ps [] x k = refl
branches-more v ps (y ∷ xs) x k = ap (λ arms. branch_of v ps y k ∷ arms) (branches-more v ps xs x (next_number y k))

pub number-more : (xs : List PAlt) (x : PAlt) (k : ℕ) → number_behind (xs ++ x ∷ []) k ≡ next_number x (number_behind xs k)
number-more [] x k = refl
number-more (y ∷ xs) x k = number-more xs x (next_number y k)

pub pause_alts-more :
    (s : Span) (k : ℕ) (xs : List Pause) (x : Pause) (n m : ℕ) →
    m ≡ length xs + n →
    pause_alts s k (xs ++ x ∷ []) n ≡ pause_alts s k xs n ++ pause_alt s k x m ∷ []
pause_alts-more s k [] x n m e = let same : n ≡ m = omega arith in ap (λ j. pause_alt s k x j ∷ []) same
pause_alts-more s k (y ∷ xs) x n m e = ap (λ alts. pause_alt s k y n ∷ alts) (pause_alts-more s k xs x (n + 1) m (omega arith))

-- the alternatives that were gone through, and one more
alts_more : (xs : List Alt) (i : ℕ) (d : Alt) → i < length xs → map plain_alt (take (i + 1) xs) ≡ map plain_alt (take i xs) ++ plain_alt (get_or xs i d) ∷ []
alts_more xs i d h = ap (map plain_alt) (take_more xs i d h) ∙ map-append plain_alt (take i xs) (get_or xs i d ∷ [])

-- what is folded, and one more
folded : {A : Type 0} (f : A → Pause → A) (a : A) (xs : List Pause) (x : Pause) → fold f a (xs ++ x ∷ []) ≡ f (fold f a xs) x
folded f a [] x = refl
folded f a (y ∷ xs) x = folded f (f a y) xs x

-- ---- turns

pub pauses-turn :
    (xs : List Alt) (i : ℕ) (x : Alt) (ps qs : List SeenPause) →
    i < length xs →
    x ≡ get_or xs i x →
    map plain_pause ps ≡ pauses_of (alts_of (map plain_alt (take i xs))) →
    map plain_pause qs ≡ map plain_pause ps ++ pauses_of (alts_of (plain_alt x ∷ [])) →
    map plain_pause qs ≡ pauses_of (alts_of (map plain_alt (take (i + 1) xs)))
pauses-turn xs i x ps qs h at so_far step =
    step
    ∙ (λ j. so_far j ++ pauses_of (alts_of (plain_alt (at j) ∷ [])))
    ∙ sym (pauses-more (map plain_alt (take i xs)) (plain_alt (get_or xs i x)))
    ∙ sym (ap (λ alts. pauses_of (alts_of alts)) (alts_more xs i x h))

pub branches-turn :
    (v : Voice) (ps : List Pause) (xs : List Alt) (i k : ℕ) (x d : Alt) (old : List PArm) (before behind : List Arm) (r : Result Arm Memory) →
    i < length xs →
    x ≡ get_or xs i d →
    map plain_arm before ≡ old ++ branches v ps (map plain_alt (take i xs)) 1 →
    k ≡ number_behind (map plain_alt (take i xs)) 1 →
    OkWith r (λ arm. behind ≡ before ++ arm ∷ []) →
    IfOk r (λ arm. plain_arm arm ≡ branch_of v ps (plain_alt x) k) →
    map plain_arm behind ≡ old ++ branches v ps (map plain_alt (take (i + 1) xs)) 1
branches-turn v ps xs i k x d old before behind (Err e) h at so_far number pushed made = absurd pushed
branches-turn v ps xs i k x d old before behind (Ok arm) h at so_far number pushed made =
    ap (map plain_arm) pushed
    ∙ map-append plain_arm before (arm ∷ [])
    ∙ (λ j. so_far j ++ made j ∷ [])
    ∙ (λ j. (old ++ branches v ps (map plain_alt (take i xs)) 1) ++ branch_of v ps (plain_alt (at j)) (number j) ∷ [])
    ∙ append_assoc old (branches v ps (map plain_alt (take i xs)) 1) _
    ∙ ap (λ arms. old ++ arms) (sym (branches-more v ps (map plain_alt (take i xs)) (plain_alt (get_or xs i d)) 1))
    ∙ sym (ap (λ alts. old ++ branches v ps alts 1) (alts_more xs i d h))

pub number-turn :
    (xs : List Alt) (i k n : ℕ) (x d : Alt) →
    i < length xs →
    x ≡ get_or xs i d →
    k ≡ number_behind (map plain_alt (take i xs)) 1 →
    n ≡ next_number (plain_alt x) k →
    n ≡ number_behind (map plain_alt (take (i + 1) xs)) 1
number-turn xs i k n x d h at so_far step =
    step
    ∙ (λ j. next_number (plain_alt (at j)) (so_far j))
    ∙ sym (number-more (map plain_alt (take i xs)) (plain_alt (get_or xs i d)) 1)
    ∙ sym (ap (λ alts. number_behind alts 1) (alts_more xs i d h))

pub pause_alts-turn :
    (s : Span) (k : ℕ) (xs : List SeenPause) (i : ℕ) (x : SeenPause) (old : List PAlt) (before behind : List Alt) (r : Result Alt Memory) (n : ℕ) →
    i < length xs →
    x ≡ get_or xs i x →
    map plain_alt before ≡ old ++ pause_alts s k (map plain_pause (take i xs)) 1 →
    n ≡ i + 1 →
    OkWith r (λ alt. behind ≡ before ++ alt ∷ []) →
    IfOk r (λ alt. plain_alt alt ≡ pause_alt s k (plain_pause x) n) →
    map plain_alt behind ≡ old ++ pause_alts s k (map plain_pause (take (i + 1) xs)) 1
pause_alts-turn s k xs i x old before behind (Err e) n h at so_far number pushed made = absurd pushed
pause_alts-turn s k xs i x old before behind (Ok alt) n h at so_far number pushed made =
    let count : n ≡ length (map plain_pause (take i xs)) + 1 = omega (arith, number, length-map (take i xs) plain_pause, length-take i xs) in
    ap (map plain_alt) pushed
    ∙ map-append plain_alt before (alt ∷ [])
    ∙ (λ j. so_far j ++ made j ∷ [])
    ∙ ap (λ y. (old ++ pause_alts s k (map plain_pause (take i xs)) 1) ++ pause_alt s k (plain_pause y) n ∷ []) at
    ∙ append_assoc old (pause_alts s k (map plain_pause (take i xs)) 1) _
    ∙ ap (λ alts. old ++ alts) (sym (pause_alts-more s k (map plain_pause (take i xs)) (plain_pause (get_or xs i x)) 1 n count))
    ∙ sym (ap (λ ps. old ++ pause_alts s k ps 1) (ap (map plain_pause) (take_more xs i x h) ∙ map-append plain_pause (take i xs) (get_or xs i x ∷ [])))

pub fold-turn :
    (f : PExpr → Pause → PExpr) (a : PExpr) (xs : List SeenPause) (i : ℕ) (x : SeenPause) (r next : Result Expr Memory) →
    i < length xs →
    x ≡ get_or xs i x →
    IfOk r (λ e. plain_expr e ≡ fold f a (map plain_pause (take i xs))) →
    IfOk next (λ e. OkWith r (λ t. plain_expr e ≡ f (plain_expr t) (plain_pause x))) →
    IfOk next (λ e. plain_expr e ≡ fold f a (map plain_pause (take (i + 1) xs)))
fold-turn f a xs i x r (Err e) h at so_far step = tt
fold-turn f a xs i x (Err e) (Ok y) h at so_far step = absurd step
fold-turn f a xs i x (Ok t) (Ok y) h at so_far step =
    step
    ∙ (λ j. f (so_far j) (plain_pause (at j)))
    ∙ sym (folded f a (map plain_pause (take i xs)) (plain_pause (get_or xs i x)))
    ∙ sym (ap (fold f a) (ap (map plain_pause) (take_more xs i x h) ∙ map-append plain_pause (take i xs) (get_or xs i x ∷ [])))
