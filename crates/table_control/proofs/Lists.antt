-- One part more of a list that is made of parts that come as results.
use Rattle.std.proofs.Common.{◌≡◌, ℕ, suc, ◌+◌, ◌<◌, ◌≤◌, Bool, true, false, cond, nat_lt, List, [], ◌∷◌, ◌++◌, length, map, take, drop, get_or, Some, None, position, Result, Ok, Err, IfOk, OnOk, refl, sym, ap, ◌∙◌, append_assoc, arith}
use Rattle.std.specs.List.{position_or_len, before_first}
use Rattle.std.proofs.lemmas.Bool.Decides.{nat_tests}
use Rattle.std.proofs.lemmas.List.{take_more, take_all, take-append-drop, map-append}
use Rattle.std.proofs.Math.Seq.{take-append_seam}
use Rattle.common_lemmas.proofs.Lists.{rest_at}
use Rattle.common_lemmas.proofs.Options.{some_same, not_missing}
use Rattle.ada_tree.specs.declared.shortage.Memory.{Memory}
use Rattle.ada_tree.specs.declared.naming.Span.{Span}
use Rattle.ada_tree.specs.declared.statements.CaseArm.{CaseArm}
use Rattle.ada_tree.specs.PlainStmt.{PCaseArm, plain_case_arm}
use Rattle.ada_stmt_copy.specs.expressions.Parts.{OkWith}
use Rattle.syn_event.specs.declared.numbering.TaskInfo.{TaskInfo}
use Rattle.normal_model.specs.Making.{one}
use Rattle.replay_model.specs.declared.tables.names.ControlNames.{ControlNames}
use Rattle.replay_model.specs.tables.Turns.{value_arm, joined, join_arms}

-- one part more
pub part-more :
    {A P : Type 0} (v : A → P) (xs us : List A) (r : Result A Memory) (p : P) →
    OkWith r (λ x. us ≡ xs ++ x ∷ []) → IfOk r (λ x. v x ≡ p) → map v us ≡ map v xs ++ p ∷ []
part-more v xs us (Err e) p pushed made = absurd pushed
part-more v xs us (Ok x) p pushed made = ap (map v) pushed ∙ map-append v xs (x ∷ []) ∙ ap (λ q. map v xs ++ q ∷ []) made

-- the same, as lists that come where all is done
pub put-more :
    {A P : Type 0} (v : A → P) (xs us : List A) (r : Result A Memory) (p : P) (ps : List P) (done : Result (Unit {0}) Memory) →
    OnOk done (OkWith r (λ x. us ≡ xs ++ x ∷ [])) → IfOk r (λ x. v x ≡ p) →
    p ∷ [] ≡ ps →
    OnOk done (map v us ≡ map v xs ++ ps)
put-more v xs us r p ps (Err e) pushed made one = tt
put-more v xs us r p ps (Ok u) pushed made one = part-more v xs us r p pushed made ∙ ap (λ qs. map v xs ++ qs) one

-- two parts more
pub two-more :
    {A P : Type 0} (v : A → P) (xs ys zs : List A) (r s : Result A Memory) (p q : P) (done : Result (Unit {0}) Memory) →
    OkWith r (λ x. ys ≡ xs ++ x ∷ []) → IfOk r (λ x. v x ≡ p) →
    OnOk done (OkWith s (λ x. zs ≡ ys ++ x ∷ [])) → IfOk s (λ x. v x ≡ q) →
    OnOk done (map v zs ≡ map v xs ++ p ∷ q ∷ [])
two-more v xs ys zs r s p q (Err e) first made last seen = tt
two-more v xs ys zs r s p q (Ok u) first made last seen =
    part-more v ys zs s q last seen ∙ ap (λ ps. ps ++ q ∷ []) (part-more v xs ys r p first made) ∙ append_assoc (map v xs) (p ∷ []) (q ∷ [])

-- one turn of a loop that makes a part of each element of another list
pub turn-more :
    {A B P : Type 0} (v : A → P) (h : B → P) (old : List P) (xs us : List A) (ys : List B) (i : ℕ) (d : B) (r : Result A Memory) →
    i < length ys →
    map v xs ≡ old ++ map h (take i ys) →
    OkWith r (λ x. us ≡ xs ++ x ∷ []) →
    IfOk r (λ x. v x ≡ h (get_or ys i d)) →
    map v us ≡ old ++ map h (take (i + 1) ys)
turn-more v h old xs us ys i d r within so_far pushed made =
    part-more v xs us r (h (get_or ys i d)) pushed made
    ∙ ap (λ ps. ps ++ h (get_or ys i d) ∷ []) so_far
    ∙ append_assoc old (map h (take i ys)) (h (get_or ys i d) ∷ [])
    ∙ ap (λ zs. old ++ zs) (sym (ap (map h) (take_more ys i d within) ∙ map-append h (take i ys) (get_or ys i d ∷ [])))

-- one branch more of a case statement over tasks
pub arms-more :
    (n : ControlNames) (s : Span) (task : ℕ) (infos : List TaskInfo) (i : ℕ) (d : TaskInfo) (xs us : List CaseArm) (r : Result CaseArm Memory) (all : List PCaseArm) →
    i < length infos →
    OkWith r (λ x. us ≡ xs ++ x ∷ []) →
    IfOk r (λ x. plain_case_arm x ≡ value_arm s task (one (joined n s (get_or infos i d).name))) →
    map plain_case_arm xs ++ join_arms n s task (drop i infos) ≡ all →
    map plain_case_arm us ++ join_arms n s (task + 1) (drop (i + 1) infos) ≡ all
arms-more n s task infos i d xs us r all within pushed made so_far =
    let arm : PCaseArm = value_arm s task (one (joined n s (get_or infos i d).name)) in
    let next : task + 1 ≡ suc task = omega arith in
    ap (λ ps. ps ++ join_arms n s (task + 1) (drop (i + 1) infos)) (part-more plain_case_arm xs us r arm pushed made)
    ∙ append_assoc (map plain_case_arm xs) (arm ∷ []) (join_arms n s (task + 1) (drop (i + 1) infos))
    ∙ ap (λ (m : ℕ). map plain_case_arm xs ++ arm ∷ join_arms n s m (drop (i + 1) infos)) next
    ∙ ap (λ zs. map plain_case_arm xs ++ join_arms n s task zs) (sym (rest_at infos i (get_or infos i d) d within refl))
    ∙ so_far

-- ---- what stands before the first element that passes

pub up-to-first : {X : Type 0} (p : X → Bool) (xs : List X) (i : ℕ) → position p xs ≡ Some i → take i xs ≡ before_first p xs
up-to-first p xs i h = go (nat_lt (position_or_len p xs) (length xs)) h
  where
    go : (b : Bool) → cond b (Some (position_or_len p xs)) None ≡ Some i → take i xs ≡ before_first p xs
    go true e = ap (λ n. take n xs) (sym (some_same e))
    go false e = absurd (not_missing i e)

pub all-before : {X : Type 0} (p : X → Bool) (xs : List X) → position p xs ≡ None → xs ≡ before_first p xs
all-before p xs h = go (nat_lt (position_or_len p xs) (length xs)) refl h
  where
    go : (b : Bool) → nat_lt (position_or_len p xs) (length xs) ≡ b → cond b (Some (position_or_len p xs)) None ≡ None → xs ≡ before_first p xs
    go true e there = absurd (not_missing (position_or_len p xs) (sym there))
    go false e there = let past : length xs ≤ position_or_len p xs = grind (arith, nat_tests, e) in sym (take_all (position_or_len p xs) xs past)

-- ---- what begins as before

pub begins-on : {X : Type 0} (a b c : List X) → take (length a) b ≡ a → take (length b) c ≡ b → take (length a) c ≡ a
begins-on a b c ab bc =
    let first : a ++ drop (length a) b ≡ b = ap (λ xs. xs ++ drop (length a) b) (sym ab) ∙ take-append-drop (length a) b in
    let second : b ++ drop (length b) c ≡ c = ap (λ xs. xs ++ drop (length b) c) (sym bc) ∙ take-append-drop (length b) c in
    let whole : a ++ (drop (length a) b ++ drop (length b) c) ≡ c =
    sym (append_assoc a (drop (length a) b) (drop (length b) c)) ∙ ap (λ xs. xs ++ drop (length b) c) first ∙ second in
    ap (take (length a)) (sym whole) ∙ take-append_seam a (drop (length a) b ++ drop (length b) c)
