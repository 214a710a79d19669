-- The assignments around a call, one actual after the other.
use Rattle.std.proofs.Common.{◌≡◌, ℕ, ◌+◌, ◌<◌, ◌≤◌, List, [], ◌∷◌, length, map, drop, get_or, slice_get, Some, None, refl, sym, ap, ◌∙◌, arith}
use Rattle.std.proofs.lemmas.List.{drop_all}
use Rattle.ada_tree.specs.declared.naming.Span.{Span}
use Rattle.ada_tree.specs.declared.statements.ParMode.{ParMode}
use Rattle.ada_tree.specs.declared.expressions.Expr.{Expr}
use Rattle.ada_tree.specs.PlainExpr.{PExpr, plain_expr}
use Rattle.ada_tree.specs.PlainStmt.{PStmts, no_stmt}
use Rattle.task_model.specs.Setting.{Setting}
use Rattle.task_model.specs.Frames.{in_front}
use Rattle.normal_model.specs.Calls.{Slot, actual_before, actual_behind, actuals_before, actuals_behind}
use Rattle.normal_calls.specs.inner.Modes.{each_actual, modes_before, modes_behind}
use Rattle.common_lemmas.proofs.Lists.{rest_at, rest_none, rest_there}
use Rattle.normal_model.proofs.WalkLemmas.{in_front-joined, in_front-nil}

-- ---- modes in place of formals

pub before-modes : (g : Setting) (s : Span) (xs : List Slot) (es : List PExpr) (k : ℕ) → modes_before g s (map (λ x. x.mode) xs) es k ≡ actuals_before g s xs es k
before-modes g s [] es k = refl
before-modes g s (x ∷ xs) [] k = refl
before-modes g s (x ∷ xs) (e ∷ es) k = ap (in_front (actual_before g s x.mode e k)) (before-modes g s xs es (k + 1))

pub behind-modes : (g : Setting) (s : Span) (xs : List Slot) (es : List PExpr) (k : ℕ) → modes_behind g s (map (λ x. x.mode) xs) es k ≡ actuals_behind g s xs es k
behind-modes g s [] es k = refl
behind-modes g s (x ∷ xs) [] k = refl
behind-modes g s (x ∷ xs) (e ∷ es) k = ap (in_front (actual_behind g s x.mode e k)) (behind-modes g s xs es (k + 1))

-- ---- a list from a place on

-- ---- a loop over the modes

-- what is left of the actuals from a place on
abbrev pub left_of : (ParMode → PExpr → ℕ → PStmts) → List ParMode → List Expr → ℕ → ℕ → PStmts
left_of f ms es k i = each_actual f (drop i ms) (map plain_expr (drop i es)) (k + i)

pub each-turn :
    (f : ParMode → PExpr → ℕ → PStmts) (ms : List ParMode) (es : List Expr) (k i n : ℕ) (m d : ParMode) (e : Expr) (before behind all : PStmts) →
    i < length ms →
    m ≡ get_or ms i d →
    Some e ≡ slice_get es i →
    n ≡ k + i →
    behind ≡ in_front before (f m (plain_expr e) n) →
    all ≡ in_front before (left_of f ms es k i) →
    all ≡ in_front behind (left_of f ms es k (i + 1))
each-turn f ms es k i n m d e before behind all h mode actual number step so_far =
    so_far
    ∙ (λ j. in_front before (each_actual f (rest_at ms i m d h mode j) (map plain_expr (rest_there es i e actual j)) (k + i)))
    ∙ (λ j. in_front before (in_front (f m (plain_expr e) (sym number j)) (each_actual f (drop (i + 1) ms) (map plain_expr (drop (i + 1) es)) (counted j))))
    ∙ sym (in_front-joined before (f m (plain_expr e) n) (left_of f ms es k (i + 1)))
    ∙ ap (λ b. in_front b (left_of f ms es k (i + 1))) (sym step)
  where
    counted : (k + i) + 1 ≡ k + (i + 1)
    counted = omega arith

each-empty : (f : ParMode → PExpr → ℕ → PStmts) (ms : List ParMode) (k : ℕ) → each_actual f ms [] k ≡ no_stmt
each-empty f [] k = refl
each-empty f (m ∷ ms) k = refl

-- the loop ends where there is no actual
pub each-past :
    (f : ParMode → PExpr → ℕ → PStmts) (ms : List ParMode) (es : List Expr) (k i : ℕ) (before all : PStmts) →
    None ≡ slice_get es i →
    all ≡ in_front before (left_of f ms es k i) →
    before ≡ all
each-past f ms es k i before all actual so_far =
    sym (so_far ∙ ap (λ l. in_front before (each_actual f (drop i ms) (map plain_expr l) (k + i))) (rest_none es i actual) ∙ ap (in_front before) (each-empty f (drop i ms) (k + i)) ∙ in_front-nil before)

-- or where there is no mode
pub each-end :
    (f : ParMode → PExpr → ℕ → PStmts) (ms : List ParMode) (es : List Expr) (k i : ℕ) (before all : PStmts) →
    length ms ≤ i →
    all ≡ in_front before (left_of f ms es k i) →
    before ≡ all
each-end f ms es k i before all h so_far =
    sym (so_far ∙ ap (λ l. in_front before (each_actual f l (map plain_expr (drop i es)) (k + i))) (drop_all i ms h) ∙ in_front-nil before)

-- ---- the assignments of a call

pub before-called :
    (g : Setting) (s : Span) (xs : List Slot) (ms : List ParMode) (es actuals : List PExpr) (k n : ℕ) →
    ms ≡ map (λ x. x.mode) xs →
    es ≡ actuals →
    k ≡ n →
    modes_before g s ms es k ≡ actuals_before g s xs actuals n
before-called g s xs ms es actuals k n modes same number = (λ j. modes_before g s (modes j) (same j) (number j)) ∙ before-modes g s xs actuals n

pub behind-called :
    (g : Setting) (s : Span) (xs : List Slot) (ms : List ParMode) (es actuals : List PExpr) (k n : ℕ) →
    ms ≡ map (λ x. x.mode) xs →
    es ≡ actuals →
    k ≡ n →
    modes_behind g s ms es k ≡ actuals_behind g s xs actuals n
behind-called g s xs ms es actuals k n modes same number = (λ j. modes_behind g s (modes j) (same j) (number j)) ∙ behind-modes g s xs actuals n
