-- The numbers of a call's variables, as they are counted.
use Rattle.std.proofs.Common.{◌≡◌, ℕ, ◌+◌, Bool, if◌then◌else◌, Bor, Option, Some, None, is_some, option_map, option_copied, Result, Ok, Err, IfOk, List, ◌++◌, length, sym, ap, ◌∙◌, arith}
use Rattle.std.proofs.lemmas.List.{length-append}
use Rattle.ada_tree.specs.declared.expressions.Expr.{Expr}
use Rattle.ada_tree.specs.PlainExpr.{PExpr, PSubind, plain_expr}
use Rattle.normal_model.specs.Making.{Kept, kept_if}
use Rattle.normal_calls.proofs.Kept.{kept-length}

-- an index that is lent is there exactly where it is
there-kept : (q : Option (Bor Expr)) (o : Option PExpr) → option_map plain_expr (option_copied q) ≡ o → is_some q ≡ is_some o
there-kept None o h = ap is_some h
there-kept (Some e) o h = ap is_some h

-- the number behind that of an index
pub number-behind :
    {E : Type 0} (r : Result ℕ E) (b : Bool) (q : Option (Bor Expr)) (x : PSubind) (o : Option PExpr) (n : ℕ) →
    IfOk r (λ k. k ≡ (if b then n + 1 else n)) →
    b ≡ is_some q →
    option_map plain_expr (option_copied q) ≡ o →
    IfOk r (λ k. k ≡ n + length (kept_if x o))
number-behind (Err e) b q x o n h is at = tt
number-behind (Ok k) b q x o n h is at = h ∙ ap (λ v. if v then n + 1 else n) (is ∙ there-kept q o at) ∙ sym (kept-length x o n)

-- and that behind another list
pub number-both :
    {E : Type 0} (r : Result ℕ E) (b : Bool) (q : Option (Bor Expr)) (x : PSubind) (o : Option PExpr) (xs : List Kept) (m n : ℕ) →
    IfOk r (λ k. k ≡ (if b then m + 1 else m)) →
    b ≡ is_some q →
    option_map plain_expr (option_copied q) ≡ o →
    m ≡ n + length xs →
    IfOk r (λ k. k ≡ n + length (xs ++ kept_if x o))
number-both (Err e) b q x o xs m n h is at first = tt
number-both {E} (Ok k) b q x o xs m n h is at first = number-behind {E = E} (Ok k) b q x o m h is at ∙ ap (λ i. i + length (kept_if x o)) first ∙ joined
  where
    joined : (n + length xs) + length (kept_if x o) ≡ n + length (xs ++ kept_if x o)
    joined = simp length-append (omega arith)
