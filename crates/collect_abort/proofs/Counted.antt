-- The greatest number of places of a program's units, and branches of the recorder as a list.
use Rattle.std.proofs.Common.{◌≡◌, ℕ, suc, ◌+◌, ◌<◌, max, List, [], ◌∷◌, ◌++◌, length, map, take, get_or, Vec, Result, Ok, Err, IfOk, OnOk, refl, sym, ap, ◌∙◌, append_assoc, arith}
use Rattle.std.proofs.lemmas.List.{take_more, map-append, length-take}
use Rattle.std.specs.declared.alloc.Global.{Global}
use Rattle.ada_tree.specs.declared.declarations.Decl.{Decl}
use Rattle.ada_tree.specs.declared.naming.Span.{Span}
use Rattle.ada_tree.specs.declared.shortage.Memory.{Memory}
use Rattle.ada_tree.specs.declared.statements.CaseArm.{CaseArm}
use Rattle.ada_tree.specs.PlainStmt.{PBody, PCaseArm, case_arm_then, case_arms_of, plain_case_arm}
use Rattle.ada_tree.specs.PlainDecl.{plain_decl, decls_of}
use Rattle.ada_stmt_copy.specs.expressions.Parts.{OkWith}
use Rattle.syn_event.specs.declared.numbering.TaskInfo.{TaskInfo}
use Rattle.syn_event.specs.DeclaredTasks.{decl_list}
use Rattle.syn_event.proofs.DeclLists.{listed_back}
use Rattle.normal_model.specs.NormalTree.{greatest}
use Rattle.collect_model.specs.aborts.Places.{places_in, places_of}
use Rattle.collect_model.specs.aborts.Recording.{aborts_from}
use Rattle.collect_abort.specs.Branches.{abort_arm, abort_arms}

-- ---- places

pub most-is :
    (r : Result ℕ Memory) (own : ℕ) (b : PBody) (ds seen : List Decl) → own ≡ places_in b → seen ≡ ds →
    IfOk r (λ n. n ≡ max own (greatest (map places_of (map plain_decl seen)))) →
    IfOk r (λ n. n ≡ greatest (places_in b ∷ map places_of (decl_list (decls_of (map plain_decl ds)))))
most-is (Err e) own b ds seen is same h = tt
most-is (Ok n) own b ds seen is same h =
    h
    ∙ (λ i. max (is i) (greatest (map places_of (map plain_decl (same i)))))
    ∙ ap (λ l. max (places_in b) (greatest (map places_of l))) (sym (listed_back (map plain_decl ds)))

-- ---- branches

-- a branch that comes as a result, behind others
pub arm-kept :
    (xs ys : List CaseArm) (p : PCaseArm) (done : Result (Unit {0}) Memory) (r : Result CaseArm Memory) →
    OnOk done (OkWith r (λ a. ys ≡ xs ++ a ∷ [])) →
    IfOk r (λ a. plain_case_arm a ≡ p) →
    OnOk done (map plain_case_arm ys ≡ map plain_case_arm xs ++ p ∷ [])
arm-kept xs ys p (Err e) r put made = tt
arm-kept xs ys p (Ok u) (Err e) put made = absurd put
arm-kept xs ys p (Ok u) (Ok a) put made = ap (map plain_case_arm) put ∙ map-append plain_case_arm xs (a ∷ []) ∙ ap (λ q. map plain_case_arm xs ++ q ∷ []) made

arms-last : (s : Span) (u : ℕ) (xs : List TaskInfo) (x : TaskInfo) → abort_arms s u (xs ++ x ∷ []) ≡ abort_arms s u xs ++ abort_arm s (u + length xs) x ∷ []
arms-last s u [] x = let e : u ≡ u + 0 = omega arith in ap (λ k. abort_arm s k x ∷ []) e
arms-last s u (y ∷ xs) x =
    let e : (u + 1) + length xs ≡ u + suc (length xs) = omega arith in
    ap (λ l. abort_arm s u y ∷ l) (arms-last s (u + 1) xs x ∙ ap (λ k. abort_arms s (u + 1) xs ++ abort_arm s k x ∷ []) e)

-- one task more
pub aborts-turn :
    (s : Span) (xs : List TaskInfo) (i task : ℕ) (d : TaskInfo) (old before behind : List PCaseArm) →
    i < length xs →
    before ≡ old ++ abort_arms s 1 (take i xs) →
    task ≡ 1 + i →
    behind ≡ before ++ abort_arm s task (get_or xs i d) ∷ [] →
    behind ≡ old ++ abort_arms s 1 (take (i + 1) xs)
aborts-turn s xs i task d old before behind h so_far number put =
    let size : task ≡ 1 + length (take i xs) = omega (arith, number, h, length-take i xs) in
    put
    ∙ (λ j. so_far j ++ abort_arm s (size j) (get_or xs i d) ∷ [])
    ∙ append_assoc old (abort_arms s 1 (take i xs)) _
    ∙ ap (λ l. old ++ l) (sym (ap (abort_arms s 1) (take_more xs i d h) ∙ arms-last s 1 (take i xs) (get_or xs i d)))

-- all of them, as the case statement has them
arms-from : (s : Span) (u : ℕ) (xs : List TaskInfo) → case_arms_of (abort_arms s u xs) ≡ aborts_from s u xs
arms-from s u [] = refl
arms-from s u (x ∷ xs) = ap (case_arm_then (abort_arm s u x)) (arms-from s (u + 1) xs)

pub aborts-kept :
    (s : Span) (xs infos : List TaskInfo) (none ys : List CaseArm) (done : Result (Unit {0}) Memory) (r : Result (Vec CaseArm Global) Memory) →
    none ≡ [] → xs ≡ infos →
    OnOk done (map plain_case_arm ys ≡ map plain_case_arm none ++ abort_arms s 1 xs) →
    IfOk r (λ m. OkWith done (λ _. m.items ≡ ys)) →
    IfOk r (λ m. case_arms_of (map plain_case_arm m.items) ≡ aborts_from s 1 infos)
aborts-kept s xs infos none ys done (Err e) empty same put kept = tt
aborts-kept s xs infos none ys (Err e) (Ok m) empty same put kept = absurd kept
aborts-kept s xs infos none ys (Ok u) (Ok m) empty same put kept =
    ap case_arms_of (ap (map plain_case_arm) kept ∙ put ∙ (λ i. map plain_case_arm (empty i) ++ abort_arms s 1 (same i))) ∙ arms-from s 1 infos
