-- What a task does to ask, to test its permit and to stop is as asked, from its pieces.
use Rattle.std.proofs.Common.{ℕ, ◌+◌, ◌*◌, ◌<◌, ◌≤◌, arith}
use Rattle.ada_tree.specs.declared.naming.Span.{Span}
use Rattle.ada_tree.specs.PlainStmt.{PArms}
use Rattle.ada_tree.specs.Every.{arms_count}
use Rattle.normal_model.specs.Making.{one}
use Rattle.normal_model.specs.RewrittenUnit.{RewrittenUnit}
use Rattle.task_laws.specs.legal.asked.Asked.{Asks, AskedStmt, AskedStmts, AskedSome, AskedArms}
use Rattle.replay_model.specs.Asking.{ask, done, stop, only, ask_only, ask_which}
use Rattle.replay_structure.specs.asked.Pieces.{Pieces}

module _ {C D : Type 0} (u : RewrittenUnit) (H : ℕ → Type 0) (b : Asks C) (a : Asks D) (R : C → D → Type 0) (P : Pieces u H b a R) where
  module _ (c : C) (d : D) (k : ℕ) (s : Span) (rel : R c d) (h : H k) where
    pub ask-asked : (n : ℕ) → n < 4 * k + 7 → AskedStmt a d n (ask u s)
    ask-asked n le = (P.outer c d k n s rel h (omega (arith, le)), P.control c d k (n + 1) s rel h (omega (arith, le)), P.asks c d k (n + 1) s rel h (omega (arith, le)))

    pub done-asked : (n : ℕ) → n < 4 * k + 7 → AskedStmt a d n (done u s)
    done-asked n le = (P.outer c d k n s rel h (omega (arith, le)), P.control c d k (n + 1) s rel h (omega (arith, le)), P.says c d k (n + 1) s rel h (omega (arith, le)))

    pub stop-asked : (n : ℕ) → n < 4 * k + 7 → AskedStmt a d n (stop u s)
    stop-asked n le = (P.outer c d k n s rel h (omega (arith, le)), P.idle c d k (n + 1) s rel h (omega (arith, le)), P.stop c d k (n + 1) s rel h (omega (arith, le)))

    pub stopped : (n : ℕ) → n < 4 * k + 7 → AskedSome a d n (one (stop u s))
    stopped n le = (P.some 0, stop-asked n le, tt)

    pub only-asked : (n kind : ℕ) → kind ≤ 10 → n < 4 * k + 6 → AskedStmt a d n (only u s kind)
    only-asked n kind few le = (
      P.outer c d k n s rel h (omega (arith, le)),
      P.some 0,
      (P.other_kind c d k (n + 1) s kind rel h few (omega (arith, le)), stopped (n + 1) (omega (arith, le)), tt),
      tt,
    )

    pub ask-only-asked : (n kind : ℕ) → kind ≤ 10 → n < 4 * k + 6 → AskedStmts a d n (ask_only u s kind)
    ask-only-asked n kind few le = (ask-asked n (omega (arith, le)), (only-asked n kind few le, tt))

    pub ask-which-asked : (n : ℕ) (arms : PArms) → n < 4 * k + 6 → a.many (arms_count arms) → AskedArms a d (n + 1) arms → AskedStmts a d n (ask_which u s arms)
    ask-which-asked n arms le many asked = (
      ask-asked n (omega (arith, le)),
      ((P.outer c d k n s rel h (omega (arith, le)), many, asked, stopped (n + 1) (omega (arith, le))), tt),
    )
