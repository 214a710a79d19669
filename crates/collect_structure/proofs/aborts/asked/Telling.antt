-- What stands for calls and accepts in a collecting text of a program with abort statements is as asked, from its pieces.
use Rattle.std.proofs.Common.{◌≡◌, ℕ, ◌+◌, ◌*◌, ◌<◌, ◌≤◌, None, Some, arith}
use Rattle.ada_tree.specs.declared.naming.Span.{Span}
use Rattle.ada_tree.specs.PlainExpr.{PExpr}
use Rattle.ada_tree.specs.PlainStmt.{PCall, PHead, PStmt, SCall, SExit, SConditional, STimed, PStmts, no_stmt, stmt_then, PMaybe, absent, present, accepting}
use Rattle.normal_model.specs.Making.{one, or_null}
use Rattle.task_laws.specs.legal.asked.Asked.{Asks, AskedStmt, AskedStmts, AskedSome, AskedMaybe, AskedAccept}
use Rattle.replay_structure.specs.asked.Pieces.{StandsAt, IsUnder}
use Rattle.collect_model.specs.Noting.{has_call_else, has_expired, own_note}
use Rattle.collect_model.specs.Calling.{call_note, call_telling, part_is, fails_late}
use Rattle.collect_model.specs.Serving.{begin_note, head_telling}
use Rattle.collect_model.specs.aborts.AbortTeller.{AbortTeller}
use Rattle.collect_model.specs.aborts.Noting.{over, returned_then}
use Rattle.collect_model.specs.aborts.Calling.{call_watched, call_told, parts_behind, plain_image, conditional_image, timed_image}
use Rattle.collect_model.specs.aborts.Serving.{unless_refused, begins, accept_told, service_watched, repeated}
use Rattle.collect_structure.specs.aborts.asked.Pieces.{IsPlace, Pieces}

module _ {C D : Type 0} (x : AbortTeller) (most : ℕ) (H : ℕ → Type 0) (b : Asks C) (a : Asks D) (R S : C → D → Type 0) (P : Pieces x most H b a R S) where
  -- ---- notes

  pub own-asked : (c : C) (d : D) (k n : ℕ) (s : Span) (kind : ℕ) → S c d → H k → kind ≤ 10 → n < 4 * k + 7 → AskedStmt a d n (own_note x.teller s kind 0)
  own-asked c d k n s kind rel h few le = (P.outer c d k n s rel h (omega (arith, le)), P.recorder c d k (n + 1) s rel h (omega (arith, le)), P.own c d k (n + 1) s kind rel h few (omega (arith, le)))

  pub over-asked : (c : C) (d : D) (k n : ℕ) (s : Span) (p : ℕ) → S c d → H k → IsPlace most p → n < 4 * k + 7 → AskedStmt a d n (over x s p)
  over-asked c d k n s p rel h place le = (P.outer c d k n s rel h (omega (arith, le)), P.recorder c d k (n + 1) s rel h (omega (arith, le)), P.over c d k (n + 1) s p rel h place (omega (arith, le)))

  late-asked : (c : C) (d : D) (k n : ℕ) (s : Span) → S c d → H k → n < 4 * k + 6 → AskedStmt a d n (fails_late x.teller s)
  late-asked c d k n s rel h le = (
    P.outer c d k n s rel h (omega (arith, le)),
    P.some 0,
    (P.answered c d k (n + 1) s rel h (omega (arith, le)), (P.some 0, P.late c d k (n + 1) s rel h (omega (arith, le)), tt), tt),
    tt,
  )

  pub or-null-asked : (c : C) (d : D) (k n : ℕ) (s : Span) (l : PStmts) → S c d → H k → n < 4 * k + 7 → AskedStmts a d n l → AskedSome a d n (or_null s l)
  or-null-asked c d k n s no_stmt rel h le g = (P.some 0, P.null c d k n s rel h (omega (arith, le)), tt)
  or-null-asked c d k n s (stmt_then z l) rel h le g = (P.some _, g.0, g.1)

  -- ---- calls

  -- a call in a statement with the nesting k, which stands j deep itself
  module _ (c : C) (d : D) (k j : ℕ) (s : Span) (y : PCall) (rel : R c d) (h : H k) (under : IsUnder k j) (t : b.callee c j y.task) (i : b.call c j y) where
    beside : S c d
    beside = P.near c d rel

    told-asked : (n kind : ℕ) → kind ≤ 10 → n < 4 * k + 7 → AskedStmt a d n (call_note x.teller s kind y)
    told-asked n kind few le =
        (P.outer c d k n s beside h (omega (arith, le)), P.recorder c d k (n + 1) s beside h (omega (arith, le)), P.told c d k j (n + 1) s kind y rel h under t i few (omega (arith, le)))

    -- the statement of the call stands one deeper than its block
    watched-asked : (n : ℕ) (z : PStmt) → n < 4 * k + 4 → AskedStmt a d (n + 1) z → AskedStmt a d n (call_watched x.teller s y z)
    watched-asked n z le g =
        let again : S (b.handling c) (a.handling d) = P.in_handler c d beside in (
          P.outer c d k n s beside h (omega (arith, le)),
          (
            (P.some 0, g, tt),
            P.others s _,
            (
              P.outer c d k (n + 1) s beside h (omega (arith, le)),
              P.other c d k (n + 1) beside h (omega (arith, le)),
              (
                P.some 2,
                (
                  P.outer (b.handling c) (a.handling d) k ((n + 1) + 1) s again h (omega (arith, le)),
                  P.recorder (b.handling c) (a.handling d) k (((n + 1) + 1) + 1) s again h (omega (arith, le)),
                  P.failed c d k j (((n + 1) + 1) + 1) s y rel h under t i (omega (arith, le)),
                ),
                (
                  late-asked (b.handling c) (a.handling d) k ((n + 1) + 1) s again h (omega (arith, le)),
                  (P.again c d k ((n + 1) + 1) s beside h (omega (arith, le)), tt),
                ),
              ),
              tt,
            ),
          ),
        )

    call-told-asked : (n : ℕ) (z : PStmt) (behind : PStmts) → StandsAt k n → AskedStmt a d (n + 1) z → AskedStmts a d n behind → AskedStmts a d n (call_told x.teller s y z behind)
    call-told-asked n z behind le g m = (own-asked c d k n s 0 beside h (omega arith) (omega (arith, le)), (watched-asked n z (omega (arith, le)) g, m))

    part-asked : (n w : ℕ) → w ≤ 2 → n < 4 * k + 7 → AskedSome a d n (part_is x.teller s w)
    part-asked n w few le = (P.some 0, P.part c d k n s w beside h few (omega (arith, le)), tt)

    -- the note that the call came back, the test of the answer, and what is behind
    returned-asked : (n : ℕ) (rest : PStmts) → n < 4 * k + 5 → AskedStmts a d n rest → AskedStmts a d n (returned_then x.teller s rest)
    returned-asked n rest le m = (own-asked c d k n s 10 beside h (omega arith) (omega (arith, le)), (late-asked c d k n s beside h (omega (arith, le)), m))

    behind-asked : (n kind : ℕ) (met other : PStmts) → kind ≤ 10 → StandsAt k n → AskedStmts a d (n + 1) met → AskedStmts a d (n + 1) other → AskedStmt a d n (parts_behind x.teller s kind y met other)
    behind-asked n kind met other few le m o = (
      P.outer c d k n s beside h (omega (arith, le)),
      P.some 0,
      (
        P.came c d k (n + 1) s beside h (omega (arith, le)),
        (P.some _, (returned-asked (n + 1) met (omega (arith, le)) m).0, (returned-asked (n + 1) met (omega (arith, le)) m).1),
        tt,
      ),
      (P.some _, told-asked (n + 1) kind few (omega (arith, le)), (late-asked c d k (n + 1) s beside h (omega (arith, le)), o)),
    )

    module _ (n : ℕ) (le : StandsAt k n) where
      -- the call stands j deep and is a statement, or stands in a select
      pub plain-asked : j ≡ k + 1 → AskedStmts a d n (plain_image x.teller s y)
      plain-asked e =
          let g : AskedStmt a d (n + 1) (SCall (call_telling x.teller s y) s) = (
            P.outer c d k (n + 1) s beside h (omega (arith, le)),
            P.callee c d k j ((n + 1) + 1) y.task rel h under t (omega (arith, le, e)),
            P.telling c d k j ((n + 1) + 1) s y rel h under t i (omega (arith, le, e)),
          ) in call-told-asked n (SCall (call_telling x.teller s y) s) (returned_then x.teller s no_stmt) le g (returned-asked n no_stmt (omega (arith, le)) tt)

      -- the statements behind the call and those of the other part stand one deeper than what stands for the select
      pub conditional-asked : (behind otherwise : PStmts) → j ≡ k + 2 → AskedStmts a d (n + 1) behind → AskedStmts a d (n + 1) otherwise →
          AskedStmts a d n (conditional_image x.teller s y behind otherwise)
      conditional-asked behind otherwise e m o =
          let g : AskedStmt a d (n + 1) (SConditional (call_telling x.teller s y) (part_is x.teller s 1) (part_is x.teller s 2) s) = (
            P.outer c d k (n + 1) s beside h (omega (arith, le)),
            P.outer c d k ((n + 1) + 1) y.task.name.span beside h (omega (arith, le)),
            P.callee c d k j ((n + 1) + 2) y.task rel h under t (omega (arith, le, e)),
            P.telling c d k j ((n + 1) + 2) s y rel h under t i (omega (arith, le, e)),
            (P.part c d k ((n + 1) + 1) s 1 beside h (omega arith) (omega (arith, le)), tt),
            part-asked ((n + 1) + 1) 2 (omega arith) (omega (arith, le)),
          ) in call-told-asked n (SConditional (call_telling x.teller s y) (part_is x.teller s 1) (part_is x.teller s 2) s)
          (one (parts_behind x.teller s has_call_else y behind otherwise)) le g (behind-asked n 5 behind otherwise (omega arith) le m o, tt)

      pub timed-asked : (behind : PStmts) (duration : ℕ) (after : PStmts) → j ≡ k + 2 → b.duration duration → AskedStmts a d (n + 1) behind →
          AskedStmts a d (n + 1) after → AskedStmts a d n (timed_image x.teller s y behind duration after)
      timed-asked behind duration after e q m o =
          let g : AskedStmt a d (n + 1) (STimed (call_telling x.teller s y) (part_is x.teller s 1) duration (part_is x.teller s 2) s) = (
            P.outer c d k (n + 1) s beside h (omega (arith, le)),
            P.outer c d k ((n + 1) + 1) y.task.name.span beside h (omega (arith, le)),
            P.callee c d k j ((n + 1) + 2) y.task rel h under t (omega (arith, le, e)),
            P.telling c d k j ((n + 1) + 2) s y rel h under t i (omega (arith, le, e)),
            P.duration duration q,
            (P.part c d k ((n + 1) + 1) s 1 beside h (omega arith) (omega (arith, le)), tt),
            (P.part c d k ((n + 1) + 1) s 2 beside h (omega arith) (omega (arith, le)), tt),
          ) in call-told-asked n (STimed (call_telling x.teller s y) (part_is x.teller s 1) duration (part_is x.teller s 2) s)
          (one (parts_behind x.teller s has_expired y behind after)) le g (behind-asked n 6 behind after (omega arith) le m o, tt)

  -- ---- accepts

  -- an accept, whose head stands with the nesting k in the normal form; its statements stand two deeper than what stands for it
  pub accept-asked : (c : C) (d : D) (k : ℕ) (s : Span) (i : PHead) (p : ℕ) → S c d → b.head c k i → IsPlace most p → (n : ℕ) (o : PMaybe) → n < 4 * k + 2 →
      AskedMaybe a (a.accepting d (head_telling x.teller i)) ((n + 1) + 1) o → AskedAccept a d n (accept_told x s p (accepting i o))
  accept-asked c d k s i p rel h place n o le m = (P.head c d k n i rel h (omega (arith, le)), within)
    where
      c' : C
      c' = b.accepting c i

      d' : D
      d' = a.accepting d (head_telling x.teller i)

      inner : S c' d'
      inner = P.near c' d' (P.in_accept c d k i rel h)

      near : H k
      near = P.here_accepted c k i h

      begin-asked : AskedStmt a d' (n + 1) (begin_note x.teller s i)
      begin-asked = (
        P.outer c' d' k (n + 1) s inner near (omega (arith, le)),
        P.recorder c' d' k ((n + 1) + 1) s inner near (omega (arith, le)),
        P.begun c d k
            ((n + 1) + 1) s i rel h (omega (arith, le)),
      )

      body-asked : (o : PMaybe) → AskedMaybe a d' ((n + 1) + 1) o → AskedStmts a d' (n + 1) (unless_refused x s p o)
      body-asked absent m = tt
      body-asked (present l) m =
          ((P.outer c' d' k (n + 1) s inner near (omega (arith, le)), P.some 0, (P.unrefused c' d' k ((n + 1) + 1) s p inner near place (omega (arith, le)), m, tt), tt), tt)

      within : AskedSome a d' (n + 1) (begins x s p i o)
      within = (P.some _, P.takes c d k (n + 1) s i p rel h place (omega (arith, le)), (begin-asked, (P.keeps c' d' k (n + 1) s p inner near place (omega (arith, le)), body-asked o m)))

  -- ---- what stands around a service

  module _ (c : C) (d : D) (k : ℕ) (s : Span) (p : ℕ) (rel : S c d) (h : H k) (place : IsPlace most p) where
    -- the statement that accepts stands one deeper than its block
    pub service-asked : (n : ℕ) (y : PStmt) → n < 4 * k + 4 → AskedStmt a d (n + 1) y → AskedStmt a d n (service_watched x s p y)
    service-asked n y le g = (
      P.outer c d k n s rel h (omega (arith, le)),
      (
        (P.some 0, g, tt),
        P.others s _,
        (
          P.outer c d k (n + 1) s rel h (omega (arith, le)),
          P.other c d k (n + 1) rel h (omega (arith, le)),
          (
            P.some 1,
            over-asked (b.handling c) (a.handling d) k ((n + 1) + 1) s p (P.in_handler c d rel) h place (omega (arith, le)),
            (P.again c d k ((n + 1) + 1) s rel h (omega (arith, le)), tt),
          ),
          tt,
        ),
      ),
    )

    pub repeated-asked : (n : ℕ) (y : PStmt) (e : PExpr) → n < 4 * k + 4 → AskedStmt a (a.looping d None None) (n + 1) y →
        a.plain (a.looping d None None) (n + 1) (SExit None (Some e) s) → AskedStmt a d n (repeated s y e)
    repeated-asked n y e le g l = (P.outer c d k n s rel h (omega (arith, le)), P.tries c d k (n + 1) rel h (omega (arith, le)), (P.some 1, g, (l, tt)))
