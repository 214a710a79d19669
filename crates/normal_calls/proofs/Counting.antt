-- How many variables a call has, and the lists of variables.
use Rattle.std.proofs.Common.{◌≡◌, ℕ, zero, suc, ◌+◌, min, true, false, List, [], ◌∷◌, ◌++◌, length, map, Option, Some, None, option_map, Result, Ok, Err, IfOk, OnOk, Vec, Global, append_assoc, refl, sym, ap, ◌∙◌, add_assoc, add-one, arith}
use Rattle.std.proofs.lemmas.List.{length-append, length-map, map-append}
use Rattle.ada_tree.specs.declared.expressions.Expr.{Expr}
use Rattle.ada_tree.specs.declared.shortage.Memory.{Memory}
use Rattle.ada_stmt_copy.specs.expressions.Parts.{OkWith}
use Rattle.ada_tree.specs.declared.naming.Span.{Span}
use Rattle.ada_tree.specs.PlainExpr.{PExpr, plain_expr}
use Rattle.ada_tree.specs.PlainStmt.{PCall, plain_args}
use Rattle.ada_tree.specs.declared.statements.Args.{Args}
use Rattle.task_model.specs.Setting.{Setting}
use Rattle.normal_model.specs.Making.{variable, Kept, kept_subtypes}
use Rattle.normal_model.specs.Calls.{Slot, actual_subtypes, actuals_passed, actual_number, call_subtypes, flag_number, indices_kept, index_number, lists_called, lists_passed, slots_called}
use Rattle.normal_calls.specs.inner.Passing.{variables_from}

variables-suc : (g : Setting) (s : Span) (k n : ℕ) → variables_from g s k (suc n) ≡ variables_from g s k n ++ variable g s (k + n) ∷ []
variables-suc g s k zero = let here : k ≡ k + 0 = omega arith in ap (λ i. variable g s i ∷ []) here
variables-suc g s k (suc n) =
    let there : (k + 1) + n ≡ k + suc n = omega arith in ap (λ l. variable g s k ∷ l) (variables-suc g s (k + 1) n ∙ ap (λ i. variables_from g s (k + 1) n ++ variable g s i ∷ []) there)

-- one variable more
pub variables-more : (g : Setting) (s : Span) (k n : ℕ) → variables_from g s k (n + 1) ≡ variables_from g s k n ++ variable g s (k + n) ∷ []
variables-more g s k n = ap (variables_from g s k) (add-one n) ∙ variables-suc g s k n

-- the smaller of two numbers, one by one
min-left : (n : ℕ) → min 0 n ≡ 0
min-left n = omega arith

min-right : (n : ℕ) → min (suc n) 0 ≡ 0
min-right n = omega arith

min-both : (m n : ℕ) → min (suc m) (suc n) ≡ suc (min m n)
min-both m n = omega arith

-- as many are passed as there are actuals with formals
pub passed-variables : (g : Setting) (s : Span) (xs : List Slot) (es : List PExpr) (k : ℕ) → variables_from g s k (min (length xs) (length es)) ≡ actuals_passed g s xs es k
passed-variables g s [] es k = ap (variables_from g s k) (min-left (length es))
passed-variables g s (x ∷ xs) [] k = ap (variables_from g s k) (min-right (length xs))
passed-variables g s (x ∷ xs) (e ∷ es) k = ap (variables_from g s k) (min-both (length xs) (length es)) ∙ ap (λ l. variable g s k ∷ l) (passed-variables g s xs es (k + 1))

subtypes-length : (xs : List Slot) (es : List PExpr) → length (actual_subtypes xs es) ≡ min (length xs) (length es)
subtypes-length [] es = sym (min-left (length es))
subtypes-length (x ∷ xs) [] = sym (min-right (length xs))
subtypes-length (x ∷ xs) (e ∷ es) = ap suc (subtypes-length xs es) ∙ sym (min-both (length xs) (length es))

-- the flag's number is behind those of the actuals
pub flag-place :
    (g : Setting) (s : Span) (c : PCall) (n : ℕ) →
    actual_number g s c n + min (length (slots_called g c)) (length (lists_called g c).actuals) ≡ flag_number g s c n
flag-place g s c n =
    let kept : length (kept_subtypes (indices_kept g s c)) ≡ length (indices_kept g s c) = length-map (indices_kept g s c) (λ (x : Kept). x.subtype) in
    let actuals : length (actual_subtypes (slots_called g c) (lists_called g c).actuals) ≡ min (length (slots_called g c)) (length (lists_called g c).actuals) = subtypes-length (slots_called g c) (lists_called g c).actuals in
    let both : length (call_subtypes g s c) ≡ length (kept_subtypes (indices_kept g s c)) + length (actual_subtypes (slots_called g c) (lists_called g c).actuals) = length-append (kept_subtypes (indices_kept g s c)) (actual_subtypes (slots_called g c) (lists_called g c).actuals) in
    add_assoc n (length (indices_kept g s c)) (min (length (slots_called g c)) (length (lists_called g c).actuals)) ∙ ap (λ l. n + l) (sym (both ∙ (λ j. kept j + actuals j)))

-- one variable more in a list of the code
pub variables-turn :
    (g : Setting) (s : Span) (k n own : ℕ) (before behind : List Expr) (front : List PExpr) (r : Result Expr Memory) →
    own ≡ k + n →
    IfOk r (λ e. plain_expr e ≡ variable g s own) →
    OkWith r (λ x. behind ≡ before ++ x ∷ []) →
    map plain_expr before ≡ front ++ variables_from g s k n →
    map plain_expr behind ≡ front ++ variables_from g s k (n + 1)
variables-turn g s k n own before behind front (Err e) number made step so_far = absurd step
variables-turn g s k n own before behind front (Ok x) number made step so_far =
    ap (map plain_expr) step
    ∙ map-append plain_expr before (x ∷ [])
    ∙ (λ j. so_far j ++ (made ∙ ap (variable g s) number) j ∷ [])
    ∙ append_assoc front (variables_from g s k n) (variable g s (k + n) ∷ [])
    ∙ ap (λ l. front ++ l) (sym (variables-more g s k n))

pub flag-counted :
    {E : Type 0} (r : Result ℕ E) (first count : ℕ) (g : Setting) (s : Span) (c : PCall) (n : ℕ) →
    IfOk r (λ k. k ≡ first + count) →
    first ≡ actual_number g s c n →
    count ≡ min (length (slots_called g c)) (length (lists_called g c).actuals) →
    IfOk r (λ k. k ≡ flag_number g s c n)
flag-counted (Err e) first count g s c n h is counted = tt
flag-counted (Ok k) first count g s c n h is counted = h ∙ (λ j. is j + counted j) ∙ flag-place g s c n

-- a list of variables that was filled and kept
pub variables-kept :
    {A : Type 0} (g : Setting) (s : Span) (xs : List Slot) (es : List Expr) (k count : ℕ) (start filled : List Expr) (done : Result A Memory) (r : Result (Vec Expr Global) Memory) →
    count ≡ min (length xs) (length es) →
    start ≡ [] →
    OnOk done (map plain_expr filled ≡ map plain_expr start ++ variables_from g s k count) →
    IfOk r (λ m. OkWith done (λ _. m.items ≡ filled)) →
    IfOk r (λ m. map plain_expr m.items ≡ actuals_passed g s xs (map plain_expr es) k)
variables-kept g s xs es k count start filled done (Err e) counted none step kept = tt
variables-kept g s xs es k count start filled (Err e) (Ok m) counted none step kept = absurd kept
variables-kept g s xs es k count start filled (Ok a) (Ok m) counted none step kept =
    ap (map plain_expr) kept
    ∙ step
    ∙ ap (λ l. map plain_expr l ++ variables_from g s k count) none
    ∙ ap (variables_from g s k) (counted ∙ ap (min (length xs)) (sym (length-map es plain_expr)))
    ∙ passed-variables g s xs (map plain_expr es) k

-- ---- the lists of a new call

-- a list of one expression
pub one-listed : (a : Result (Vec Expr Global) Memory) (p : Result Expr Memory) (e : PExpr) → IfOk a (λ v. OkWith p (λ x. v.items ≡ x ∷ [])) → IfOk p (λ x. plain_expr x ≡ e) → IfOk a (λ v. map plain_expr v.items ≡ e ∷ [])
one-listed (Err e) p x h is = tt
one-listed (Ok v) (Err e) x h is = absurd h
one-listed (Ok v) (Ok y) x h is = ap (map plain_expr) h ∙ ap (λ z. z ∷ []) is

fused : (f : List PExpr → List PExpr) (o : Option (Vec Expr Global)) → option_map (λ v. f (map plain_expr v.items)) o ≡ option_map f (option_map (λ v. map plain_expr v.items) o)
fused f None = refl
fused f (Some v) = refl

pub family-listed :
    (g : Setting) (s : Span) (c : PCall) (n : ℕ) (args : Args) (index first : ℕ) →
    index ≡ index_number g s c n →
    first ≡ actual_number g s c n →
    record { first = variable g s index ∷ []; second = option_map (λ v. actuals_passed g s (slots_called g c) (map plain_expr v.items) first) args.second } ≡ lists_passed true g s c n (plain_args args)
family-listed g s c n args index first p q =
    (λ j. record { first = variable g s (p j) ∷ []; second = fused (λ es. actuals_passed g s (slots_called g c) es (q j)) args.second j })

pub plain-listed :
    (g : Setting) (s : Span) (c : PCall) (n : ℕ) (args : Args) (es : List Expr) (first : ℕ) →
    es ≡ args.first.items →
    first ≡ actual_number g s c n →
    record { first = actuals_passed g s (slots_called g c) (map plain_expr es) first; second = option_map (λ v. map plain_expr v.items) args.second } ≡ lists_passed false g s c n (plain_args args)
plain-listed g s c n args es first p q = (λ j. record { first = actuals_passed g s (slots_called g c) (map plain_expr (p j)) (q j); second = option_map (λ v. map plain_expr v.items) args.second })
