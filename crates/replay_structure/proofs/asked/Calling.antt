-- What stands for a call in a replay text is as asked, from its pieces.
use Rattle.std.proofs.Common.{ℕ, ◌+◌, ◌*◌, ◌<◌, arith}
use Rattle.ada_tree.specs.declared.naming.Span.{Span}
use Rattle.ada_tree.specs.PlainStmt.{PCall, SCall, SConditional, STimed, PStmts, no_stmt, stmt_then, PArms, no_arm}
use Rattle.normal_model.specs.Making.{one}
use Rattle.normal_model.specs.RewrittenUnit.{RewrittenUnit}
use Rattle.task_laws.specs.legal.asked.Asked.{Asks, AskedStmt, AskedStmts, AskedSome, AskedArms}
use Rattle.replay_model.specs.Asking.{done, branch}
use Rattle.replay_model.specs.Serving.{saying_so}
use Rattle.replay_model.specs.Calling.{double_call, is_called, call_image, plain_image, conditional_image, timed_image}
use Rattle.replay_structure.specs.asked.Pieces.{StandsAt, IsUnder, Pieces}
use Rattle.replay_structure.proofs.asked.Asking.{done-asked, ask-which-asked}
use Rattle.replay_structure.proofs.asked.Serving.{saying-so-asked}

module _ {C D : Type 0} (u : RewrittenUnit) (H : ℕ → Type 0) (b : Asks C) (a : Asks D) (R : C → D → Type 0) (P : Pieces u H b a R) where
  -- a call in a statement with the nesting k, which stands j deep itself
  module _ (c : C) (d : D) (k j : ℕ) (s : Span) (x : PCall) (rel : R c d) (h : H k) (under : IsUnder k j) (t : b.callee c j x.task) (i : b.call c j x) where
    call-asked : (n : ℕ) → n < 4 * k + 3 → AskedStmt a d n (SCall x s)
    call-asked n le = (P.outer c d k n s rel h (omega (arith, le)), P.callee c d k j (n + 1) x.task rel h under t (omega (arith, le, under.0)), P.call c d k j (n + 1) x rel h under t i (omega (arith, le, under.0)))

    double-asked : (n : ℕ) → n < 4 * k + 3 → AskedStmt a d n (SCall (double_call u x) s)
    double-asked n le = (P.outer c d k n s rel h (omega (arith, le)), P.callee c d k j (n + 1) x.task rel h under t (omega (arith, le, under.0)), P.double c d k j (n + 1) x rel h under t i (omega (arith, le)))

    -- the branches of the rendezvous and of the failing call, and others
    call-image-asked : (n : ℕ) (met : PStmts) (others : PArms) → StandsAt k n → AskedSome a d (n + 1) met → AskedArms a d (n + 1) others → AskedStmts a d n (call_image u s x met others)
    call-image-asked n met others le m o =
        ask-which-asked u H b a R P c d k s rel h n (branch (is_called u s 1 x) met (branch (is_called u s 7 x) (one (saying_so u s (SCall (double_call u x) s))) others)) (omega (arith, le)) (P.some _) (
          P.called c d k j (n + 1) s 1 x rel h under t i (omega arith) (omega (arith, le)),
          m,
          (
            P.called c d k j (n + 1) s 7 x rel h under t i (omega arith) (omega (arith, le)),
            (P.some 0, saying-so-asked u H b a R P c d k s rel h (n + 1) (SCall (double_call u x) s) (omega (arith, le)) (double-asked ((n + 1) + 1) (omega (arith, le))), tt),
            o,
          ),
        )

    pub plain-asked : (n : ℕ) → StandsAt k n → AskedStmts a d n (plain_image u s x)
    plain-asked n le = call-image-asked n (one (SCall x s)) no_arm le (P.some 0, call-asked (n + 1) (omega (arith, le)), tt) tt

    -- the statements behind the call and those of the other part stand one deeper than what stands for the select
    pub conditional-asked : (n : ℕ) (behind otherwise : PStmts) → StandsAt k n → AskedStmts a d (n + 1) behind → AskedStmts a d (n + 1) otherwise → AskedStmts a d n (conditional_image u s x behind otherwise)
    conditional-asked n behind otherwise le m o =
        call-image-asked n (stmt_then (SCall x s) behind) (branch (is_called u s 5 x) (stmt_then (SConditional (double_call u x) no_stmt (one (done u s)) s) otherwise) no_arm) le (P.some _, call-asked (n + 1) (omega (arith, le)), m) (
          P.called c d k j (n + 1) s 5 x rel h under t i (omega arith) (omega (arith, le)),
          (
            P.some _,
            (
              P.outer c d k (n + 1) s rel h (omega (arith, le)),
              P.outer c d k ((n + 1) + 1) x.task.name.span rel h (omega (arith, le)),
              P.callee c d k j ((n + 1) + 2) x.task rel h under t (omega (arith, le, under.0)),
              P.double c d k j ((n + 1) + 2) x rel h under t i (omega (arith, le)),
              tt,
              (P.some 0, done-asked u H b a R P c d k s rel h ((n + 1) + 1) (omega (arith, le)), tt),
            ),
            o,
          ),
          tt,
        )

    pub timed-asked : (n : ℕ) (behind : PStmts) (duration : ℕ) (after : PStmts) → StandsAt k n → b.duration duration → AskedStmts a d (n + 1) behind → AskedStmts a d (n + 1) after → AskedStmts a d n (timed_image u s x behind duration after)
    timed-asked n behind duration after le q m o =
        call-image-asked n (stmt_then (SCall x s) behind) (branch (is_called u s 6 x) (stmt_then (STimed (double_call u x) no_stmt duration (one (done u s)) s) after) no_arm) le (P.some _, call-asked (n + 1) (omega (arith, le)), m) (
          P.called c d k j (n + 1) s 6 x rel h under t i (omega arith) (omega (arith, le)),
          (
            P.some _,
            (
              P.outer c d k (n + 1) s rel h (omega (arith, le)),
              P.outer c d k ((n + 1) + 1) x.task.name.span rel h (omega (arith, le)),
              P.callee c d k j ((n + 1) + 2) x.task rel h under t (omega (arith, le, under.0)),
              P.double c d k j ((n + 1) + 2) x rel h under t i (omega (arith, le)),
              P.duration duration q,
              tt,
              (done-asked u H b a R P c d k s rel h ((n + 1) + 1) (omega (arith, le)), tt),
            ),
            o,
          ),
          tt,
        )
