-- The aborts of callees, one after the other.
use Rattle.std.proofs.Common.{◌≡◌, ◌==◌, ℕ, ◌+◌, ◌<◌, ◌≤◌, Bool, true, false, List, [], ◌∷◌, length, map, drop, get_or, Result, Ok, Err, IfOk, OnOk, refl, sym, ap, ◌∙◌, arith}
use Rattle.std.proofs.lemmas.List.{drop_all}
use Rattle.std.proofs.lemmas.Bool.Decides.{Decides-eqb}
use Rattle.ada_tree.specs.declared.naming.Span.{Span}
use Rattle.ada_tree.specs.declared.statements.Callee.{Callee}
use Rattle.ada_tree.specs.PlainStmt.{PStmts, SAbort, plain_callee, plain_stmt}
use Rattle.ada_tree.specs.declared.statements.Stmt.{Stmt}
use Rattle.ada_tree.specs.declared.shortage.Memory.{Memory}
use Rattle.ada_stmt_copy.specs.expressions.Parts.{OkWith}
use Rattle.task_model.specs.Setting.{Setting}
use Rattle.task_model.specs.Frames.{in_front}
use Rattle.normal_model.specs.Making.{one}
use Rattle.normal_model.specs.Members.{callee_kept}
use Rattle.normal_model.specs.Aborts.{abort_image, callee_aborted, callees_aborted}
use Rattle.common_lemmas.proofs.Lists.{rest_at}
use Rattle.normal_model.proofs.WalkLemmas.{in_front-joined, in_front-nil}

pub abort-turn :
    (g : Setting) (s : Span) (cs : List Callee) (i n next : ℕ) (c d : Callee) (before behind all : PStmts) →
    i < length cs →
    c ≡ get_or cs i d →
    next ≡ n + length (callee_kept g s (plain_callee c)) →
    behind ≡ in_front before (callee_aborted g s (plain_callee c) n) →
    all ≡ in_front before (callees_aborted g s (map plain_callee (drop i cs)) n) →
    all ≡ in_front behind (callees_aborted g s (map plain_callee (drop (i + 1) cs)) next)
abort-turn g s cs i n next c d before behind all h is number step so_far =
    so_far
    ∙ ap (λ l. in_front before (callees_aborted g s (map plain_callee l) n)) (rest_at cs i c d h is)
    ∙ ap (λ k. in_front before (in_front (callee_aborted g s (plain_callee c) n) (callees_aborted g s (map plain_callee (drop (i + 1) cs)) k))) (sym number)
    ∙ sym (in_front-joined before (callee_aborted g s (plain_callee c) n) (callees_aborted g s (map plain_callee (drop (i + 1) cs)) next))
    ∙ ap (λ b. in_front b (callees_aborted g s (map plain_callee (drop (i + 1) cs)) next)) (sym step)

pub abort-end :
    (g : Setting) (s : Span) (cs : List Callee) (i n : ℕ) (before all : PStmts) →
    length cs ≤ i →
    all ≡ in_front before (callees_aborted g s (map plain_callee (drop i cs)) n) →
    before ≡ all
abort-end g s cs i n before all h so_far = sym (so_far ∙ ap (λ l. in_front before (callees_aborted g s (map plain_callee l) n)) (drop_all i cs h) ∙ in_front-nil before)

-- where there are callees, the statement is theirs
pub abort-some : (g : Setting) (s : Span) (cs : List Callee) (n : ℕ) (b : Bool) → b ≡ (length cs == 0) → b ≡ false → callees_aborted g s (map plain_callee cs) n ≡ abort_image g s (map plain_callee cs) n
abort-some g s [] n b is other = absurd (cc)
abort-some g s (c ∷ cs) n b is other = refl

-- where there are none, it stays
pub abort-empty :
    {A : Type 0} (g : Setting) (s : Span) (cs start : List Callee) (n : ℕ) (b : Bool) (stmt : Result Stmt Memory) (r : Result A Memory) (old new : PStmts) →
    b ≡ (length cs == 0) →
    b ≡ true →
    start ≡ [] →
    IfOk stmt (λ x. plain_stmt x ≡ SAbort (map plain_callee start) s) →
    OnOk r (OkWith stmt (λ x. new ≡ in_front old (one (plain_stmt x)))) →
    OnOk r (new ≡ in_front old (abort_image g s (map plain_callee cs) n))
abort-empty g s [] start n b stmt (Err e) old new is other none made h = tt
abort-empty g s [] start n b (Err e) (Ok a) old new is other none made h = absurd h
abort-empty g s [] start n b (Ok x) (Ok a) old new is other none made h = h ∙ ap (λ y. in_front old (one y)) (made ∙ ap (λ l. SAbort (map plain_callee l) s) none)
abort-empty g s (c ∷ cs) start n b stmt r old new is other none made h = let empty : length (c ∷ cs) ≡ 0 = (Decides-eqb (length (c ∷ cs)) 0).0 (sym is ∙ other) in absurd (omega arith)
