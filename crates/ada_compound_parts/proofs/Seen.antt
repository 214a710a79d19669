-- Lists of the code, seen plainly.
use Rattle.std.proofs.Common.{◌≡◌, suc, ◌-◌, ◌≤◌, List, [], ◌∷◌, ◌++◌, Option, Some, None, Vec, Global, option_map, length, get_or, refl, ap, arith}
use Rattle.ada_tree.specs.declared.naming.Span.{Span}
use Rattle.ada_tree.specs.declared.statements.Stmt.{Stmt}
use Rattle.ada_tree.specs.declared.statements.StmtKind.{StmtKind, Null, Assign, Delay, Exit, Raise, Abort, Call, Accept, Wait', Conditional', Timed', Put, PutLine, NewLine, Get, If', Case', Block, Loop'}
use Rattle.ada_tree.specs.PlainStmt.{PHandler, stmt_at, plain_stmt, seen, seen_maybe}
use Rattle.ada_compound_parts.specs.inner.ReadingParts.{stmt_span, last_span, with_others, maybe}

-- statements for others, or none
pub maybe_is : (o : Option (Vec Stmt Global)) → maybe (option_map (λ v. seen v.items) o) ≡ seen_maybe o
maybe_is None = refl
maybe_is (Some v) = refl

stmt_span_is : (k : StmtKind) (s : Span) → stmt_span (stmt_at k s) ≡ s
stmt_span_is Null s = refl
stmt_span_is (Assign t e) s = refl
stmt_span_is (Delay d) s = refl
stmt_span_is (Exit w e) s = refl
stmt_span_is (Raise w) s = refl
stmt_span_is (Abort cs) s = refl
stmt_span_is (Call c) s = refl
stmt_span_is (Accept a) s = refl
stmt_span_is (Wait' n k o) s = refl
stmt_span_is (Conditional' c n k m l) s = refl
stmt_span_is (Timed' c n k d m l) s = refl
stmt_span_is (Put ps) s = refl
stmt_span_is (PutLine ps) s = refl
stmt_span_is NewLine s = refl
stmt_span_is (Get t) s = refl
stmt_span_is (If' n k o) s = refl
stmt_span_is (Case' e n k o) s = refl
stmt_span_is (Block b) s = refl
stmt_span_is (Loop' w c n k) s = refl

-- the place of the last statement
pub last_is : (before : Span) (xs : List Stmt) (dummy : Stmt) → 1 ≤ length xs → last_span before (seen xs) ≡ (get_or xs (length xs - 1) dummy).span
last_is before [] dummy some = absurd (omega arith)
last_is before (x ∷ []) dummy some = stmt_span_is x.kind x.span
last_is before (x ∷ y ∷ xs) dummy some =
    let i : length (x ∷ y ∷ xs) - 1 ≡ suc (length (y ∷ xs) - 1) = omega arith in
    rw i (last_is (stmt_span (plain_stmt x)) (y ∷ xs) dummy (omega arith))

-- handlers with none for others, and with one
pub others_none : (xs : List PHandler) → with_others xs None ≡ xs
others_none [] = refl
others_none (x ∷ xs) = ap (λ l. x ∷ l) (others_none xs)

pub others_last : (xs : List PHandler) (y : PHandler) → with_others xs (Some y) ≡ xs ++ y ∷ []
others_last [] y = refl
others_last (x ∷ xs) y = ap (λ l. x ∷ l) (others_last xs y)
