-- Values that are kept in front of a statement, by the index that moves.
use Rattle.std.proofs.Common.{◌≡◌, ℕ, ◌+◌, List, [], ◌∷◌, ◌++◌, length, Option, Some, None, is_some, if◌then◌else◌, Result, Ok, Err, OnOk, subst, refl, sym, ap, ◌∙◌, arith}
use Rattle.ada_tree.specs.declared.naming.Span.{Span}
use Rattle.ada_tree.specs.PlainExpr.{PExpr, PSubind}
use Rattle.ada_tree.specs.PlainStmt.{PStmts, stmt_then}
use Rattle.task_model.specs.Setting.{Setting}
use Rattle.task_model.specs.Frames.{in_front}
use Rattle.normal_model.specs.Making.{assignment, Kept, kept_before, kept_if}
use Rattle.normal_model.proofs.WalkLemmas.{in_front-joined}

-- how many values are kept
pub kept-length : (x : PSubind) (o : Option PExpr) (n : ℕ) → n + length (kept_if x o) ≡ (if is_some o then n + 1 else n)
kept-length x None n = omega arith
kept-length x (Some e) n = refl

-- those of two lists, one behind the other
pub kept-append : (g : Setting) (s : Span) (xs ys : List Kept) (k : ℕ) → kept_before g s (xs ++ ys) k ≡ in_front (kept_before g s xs k) (kept_before g s ys (k + length xs))
kept-append g s [] ys k = ap (kept_before g s ys) (omega arith)
kept-append g s (x ∷ xs) ys k = ap (stmt_then (assignment g s k x.value)) (kept-append g s xs ys (k + 1) ∙ ap (λ n. in_front (kept_before g s xs (k + 1)) (kept_before g s ys n)) (omega arith))

-- ---- statements that go behind others, one after the other

pub sequel :
    {A E : Type 0} (r : Result A E) (old mid new b c : PStmts) →
    mid ≡ in_front old b →
    OnOk r (new ≡ in_front mid c) →
    OnOk r (new ≡ in_front old (in_front b c))
sequel (Ok a) old mid new b c first h = h ∙ ap (λ x. in_front x c) first ∙ in_front-joined old b c
sequel (Err e) old mid new b c first h = tt

pub sequels :
    {A E : Type 0} (r : Result A E) (old first_row second_row new b c d : PStmts) →
    first_row ≡ in_front old b →
    second_row ≡ in_front first_row c →
    OnOk r (new ≡ in_front second_row d) →
    OnOk r (new ≡ in_front old (in_front b (in_front c d)))
sequels r old first_row second_row new b c d first second h = sequel r old first_row new b (in_front c d) first (sequel r first_row second_row new c d second h)

-- what stands in front of a call: two lists of values that are kept, and what is behind
pub before-placed :
    {A E : Type 0} (g : Setting) (s : Span) (xs ys : List Kept) (n : ℕ) (r : Result A E) (old first_row second_row new c : PStmts) →
    first_row ≡ in_front old (kept_before g s xs n) →
    second_row ≡ in_front first_row (kept_before g s ys (n + length xs)) →
    OnOk r (new ≡ in_front second_row c) →
    OnOk r (new ≡ in_front old (in_front (kept_before g s (xs ++ ys) n) c))
before-placed g s xs ys n r old first_row second_row new c first second h =
    subst (λ k. OnOk r (new ≡ in_front old k)) joined (sequels r old first_row second_row new (kept_before g s xs n) (kept_before g s ys (n + length xs)) c first second h)
  where
    joined : in_front (kept_before g s xs n) (in_front (kept_before g s ys (n + length xs)) c) ≡ in_front (kept_before g s (xs ++ ys) n) c
    joined = sym (in_front-joined (kept_before g s xs n) (kept_before g s ys (n + length xs)) c) ∙ ap (λ k. in_front k c) (sym (kept-append g s xs ys n))
