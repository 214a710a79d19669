-- What stands for calls and accepts in a collecting text is as asked, from its pieces.
use Rattle.std.proofs.Common.{◌≡◌, ℕ, ◌+◌, ◌*◌, ◌<◌, ◌≤◌, arith}
use Rattle.ada_tree.specs.declared.naming.Span.{Span}
use Rattle.ada_tree.specs.PlainStmt.{PCall, PHead, PStmt, SCall, SConditional, STimed, PStmts, no_stmt, stmt_then, PMaybe, absent, present, accepting}
use Rattle.normal_model.specs.Making.{one, or_null}
use Rattle.task_laws.specs.legal.asked.Asked.{Asks, AskedStmt, AskedStmts, AskedSome, AskedMaybe, AskedAccept}
use Rattle.replay_structure.specs.asked.Pieces.{StandsAt, IsUnder}
use Rattle.collect_model.specs.Teller.{Teller}
use Rattle.collect_model.specs.Noting.{has_call_else, has_expired, own_note}
use Rattle.collect_model.specs.Calling.{call_note, call_telling, call_watched, call_told, part_is, fails_late, parts_behind, plain_image, conditional_image, timed_image}
use Rattle.collect_model.specs.Serving.{begin_note, finish_note, body_watched, accept_body, head_telling, accept_told}
use Rattle.collect_structure.specs.asked.Pieces.{Pieces}

module _ {C D : Type 0} (x : Teller) (H : ℕ → Type 0) (b : Asks C) (a : Asks D) (R : C → D → Type 0) (P : Pieces x H b a R) where
  -- ---- notes

  pub own-asked : (c : C) (d : D) (k n : ℕ) (s : Span) (kind : ℕ) → R c d → H k → kind ≤ 8 → n < 4 * k + 7 → AskedStmt a d n (own_note x s kind 0)
  own-asked c d k n s kind rel h few le = (P.outer c d k n s rel h (omega (arith, le)), P.recorder c d k (n + 1) s rel h (omega (arith, le)), P.own c d k (n + 1) s kind rel h few (omega (arith, le)))

  -- ---- calls

  -- a call in a statement with the nesting k, which stands j deep itself
  module _ (c : C) (d : D) (k j : ℕ) (s : Span) (y : PCall) (rel : R c d) (h : H k) (under : IsUnder k j) (t : b.callee c j y.task) (i : b.call c j y) where
    told-asked : (n kind : ℕ) → kind ≤ 8 → n < 4 * k + 7 → AskedStmt a d n (call_note x s kind y)
    told-asked n kind few le = (P.outer c d k n s rel h (omega (arith, le)), P.recorder c d k (n + 1) s rel h (omega (arith, le)), P.told c d k j (n + 1) s kind y rel h under t i few (omega (arith, le)))

    -- the statement of the call stands one deeper than its block
    watched-asked : (n : ℕ) (z : PStmt) → n < 4 * k + 4 → AskedStmt a d (n + 1) z → AskedStmt a d n (call_watched x s y z)
    watched-asked n z le g =
        let again : R (b.handling c) (a.handling d) = P.handling c d rel in (
          P.outer c d k n s rel h (omega (arith, le)),
          (
            (P.some 0, g, tt),
            P.watched s _,
            (
              P.outer c d k (n + 1) s rel h (omega (arith, le)),
              P.watch c d k (n + 1) s rel h (omega (arith, le)),
              (
                P.some 1,
                (
                  P.outer (b.handling c) (a.handling d) k ((n + 1) + 1) s again h (omega (arith, le)),
                  P.recorder (b.handling c) (a.handling d) k (((n + 1) + 1) + 1) s again h (omega (arith, le)),
                  P.failed c d k j (((n + 1) + 1) + 1) s y rel h under t i (omega (arith, le)),
                ),
                (P.again c d k ((n + 1) + 1) s rel h (omega (arith, le)), tt),
              ),
              tt,
            ),
          ),
        )

    call-told-asked : (n : ℕ) (z : PStmt) (behind : PStmts) → StandsAt k n → AskedStmt a d (n + 1) z → AskedStmts a d n behind → AskedStmts a d n (call_told x s y z behind)
    call-told-asked n z behind le g m = (own-asked c d k n s 0 rel h (omega arith) (omega (arith, le)), (watched-asked n z (omega (arith, le)) g, m))

    part-asked : (n w : ℕ) → w ≤ 2 → n < 4 * k + 7 → AskedSome a d n (part_is x s w)
    part-asked n w few le = (P.some 0, P.part c d k n s w rel h few (omega (arith, le)), tt)

    late-asked : (n : ℕ) → n < 4 * k + 6 → AskedStmt a d n (fails_late x s)
    late-asked n le = (
      P.outer c d k n s rel h (omega (arith, le)),
      P.some 0,
      (P.answered c d k (n + 1) s rel h (omega (arith, le)), (P.some 0, P.late c d k (n + 1) s rel h (omega (arith, le)), tt), tt),
      tt,
    )

    or-null-asked : (n : ℕ) (l : PStmts) → n < 4 * k + 7 → AskedStmts a d n l → AskedSome a d n (or_null s l)
    or-null-asked n no_stmt le g = (P.some 0, P.null c d k n s rel h (omega (arith, le)), tt)
    or-null-asked n (stmt_then z l) le g = (P.some _, g.0, g.1)

    behind-asked : (n kind : ℕ) (met other : PStmts) → kind ≤ 8 → StandsAt k n → AskedStmts a d (n + 1) met → AskedStmts a d (n + 1) other → AskedStmt a d n (parts_behind x s kind y met other)
    behind-asked n kind met other few le m o = (
      P.outer c d k n s rel h (omega (arith, le)),
      P.some 0,
      (P.came c d k (n + 1) s rel h (omega (arith, le)), or-null-asked (n + 1) met (omega (arith, le)) m, tt),
      (P.some _, told-asked (n + 1) kind few (omega (arith, le)), (late-asked (n + 1) (omega (arith, le)), o)),
    )

    module _ (n : ℕ) (le : StandsAt k n) where
      -- the call stands j deep and is a statement, or stands in a select
      pub plain-asked : j ≡ k + 1 → AskedStmts a d n (plain_image x s y)
      plain-asked e =
          let g : AskedStmt a d (n + 1) (SCall (call_telling x s y) s) = (
            P.outer c d k (n + 1) s rel h (omega (arith, le)),
            P.callee c d k j ((n + 1) + 1) y.task rel h under t (omega (arith, le, e)),
            P.telling c d k j ((n + 1) + 1) s y rel h under t i (omega (arith, le, e)),
          ) in call-told-asked n (SCall (call_telling x s y) s) no_stmt le g tt

      -- the statements behind the call and those of the other part stand one deeper than what stands for the select
      pub conditional-asked : (behind otherwise : PStmts) → j ≡ k + 2 → AskedStmts a d (n + 1) behind → AskedStmts a d (n + 1) otherwise → AskedStmts a d n (conditional_image x s y behind otherwise)
      conditional-asked behind otherwise e m o =
          let g : AskedStmt a d (n + 1) (SConditional (call_telling x s y) (part_is x s 1) (part_is x s 2) s) = (
            P.outer c d k (n + 1) s rel h (omega (arith, le)),
            P.outer c d k ((n + 1) + 1) y.task.name.span rel h (omega (arith, le)),
            P.callee c d k j ((n + 1) + 2) y.task rel h under t (omega (arith, le, e)),
            P.telling c d k j ((n + 1) + 2) s y rel h under t i (omega (arith, le, e)),
            (P.part c d k ((n + 1) + 1) s 1 rel h (omega arith) (omega (arith, le)), tt),
            part-asked ((n + 1) + 1) 2 (omega arith) (omega (arith, le)),
          ) in call-told-asked n (SConditional (call_telling x s y) (part_is x s 1) (part_is x s 2) s) (one (parts_behind x s has_call_else y behind otherwise)) le g (behind-asked n 5 behind otherwise (omega arith) le m o, tt)

      pub timed-asked : (behind : PStmts) (duration : ℕ) (after : PStmts) → j ≡ k + 2 → b.duration duration → AskedStmts a d (n + 1) behind → AskedStmts a d (n + 1) after → AskedStmts a d n (timed_image x s y behind duration after)
      timed-asked behind duration after e q m o =
          let g : AskedStmt a d (n + 1) (STimed (call_telling x s y) (part_is x s 1) duration (part_is x s 2) s) = (
            P.outer c d k (n + 1) s rel h (omega (arith, le)),
            P.outer c d k ((n + 1) + 1) y.task.name.span rel h (omega (arith, le)),
            P.callee c d k j ((n + 1) + 2) y.task rel h under t (omega (arith, le, e)),
            P.telling c d k j ((n + 1) + 2) s y rel h under t i (omega (arith, le, e)),
            P.duration duration q,
            (P.part c d k ((n + 1) + 1) s 1 rel h (omega arith) (omega (arith, le)), tt),
            (P.part c d k ((n + 1) + 1) s 2 rel h (omega arith) (omega (arith, le)), tt),
          ) in call-told-asked n (STimed (call_telling x s y) (part_is x s 1) duration (part_is x s 2) s) (one (parts_behind x s has_expired y behind after)) le g (behind-asked n 6 behind after (omega arith) le m o, tt)

  -- ---- accepts

  -- an accept, whose head stands with the nesting k in the normal form; its statements stand two deeper than what stands for it
  pub accept-asked : (c : C) (d : D) (k : ℕ) (s : Span) (i : PHead) → R c d → b.head c k i → (n : ℕ) (o : PMaybe) → StandsAt k n → AskedMaybe a (a.accepting d (head_telling x i)) ((n + 1) + 1) o → AskedAccept a d n (accept_told x s (accepting i o))
  accept-asked c d k s i rel h n o le m = (P.head c d k n i rel h (omega (arith, le)), within o m)
    where
      c' : C
      c' = b.accepting c i

      d' : D
      d' = a.accepting d (head_telling x i)

      inner : R c' d'
      inner = P.in_accept c d k i rel h

      near : H k
      near = P.here_accepted c k i h

      again : R (b.handling c') (a.handling d')
      again = P.handling c' d' inner

      begin-asked : AskedStmt a d' (n + 1) (begin_note x s i)
      begin-asked = (P.outer c' d' k (n + 1) s inner near (omega (arith, le)), P.recorder c' d' k ((n + 1) + 1) s inner near (omega (arith, le)), P.begun c d k ((n + 1) + 1) s i rel h (omega (arith, le)))

      finish-asked : AskedStmt a d' (n + 1) (finish_note x s)
      finish-asked = own-asked c' d' k (n + 1) s 2 inner near (omega arith) (omega (arith, le))

      body-asked : (l : PStmts) → AskedSome a d' ((n + 1) + 1) l → AskedStmt a d' (n + 1) (body_watched x s l)
      body-asked l g = (
        P.outer c' d' k (n + 1) s inner near (omega (arith, le)),
        (
          g,
          P.others s _,
          (
            P.outer c' d' k ((n + 1) + 1) s inner near (omega (arith, le)),
            P.other c' d' k ((n + 1) + 1) inner near (omega (arith, le)),
            (
              P.some 1,
              own-asked (b.handling c') (a.handling d') k (((n + 1) + 1) + 1) s 2 again near (omega arith) (omega (arith, le)),
              (P.again c' d' k (((n + 1) + 1) + 1) s inner near (omega (arith, le)), tt),
            ),
            tt,
          ),
        ),
      )

      within : (o : PMaybe) → AskedMaybe a d' ((n + 1) + 1) o → AskedSome a d' (n + 1) (accept_body x s i o)
      within absent m = (P.some 1, begin-asked, (finish-asked, tt))
      within (present l) m = (P.some 2, begin-asked, (body-asked l m, (finish-asked, tt)))
