-- What stands for an accept statement in a replay text is as asked, from its pieces.
use Rattle.std.proofs.Common.{ℕ, ◌+◌, ◌*◌, ◌<◌, arith}
use Rattle.ada_tree.specs.declared.naming.Span.{Span}
use Rattle.ada_tree.specs.PlainStmt.{PHead, PStmt, PStmts, PMaybe, absent, present, accepting, no_arm}
use Rattle.normal_model.specs.RewrittenUnit.{RewrittenUnit}
use Rattle.task_laws.specs.legal.asked.Asked.{Asks, AskedStmt, AskedStmts, AskedSome, AskedMaybe}
use Rattle.normal_laws.proofs.structure.asked.Lists.{HasStmt, asked-some}
use Rattle.replay_model.specs.Asking.{branch}
use Rattle.replay_model.specs.Serving.{body_kept, accept_asking, saying_so, serve, permits_start, accept_image}
use Rattle.replay_structure.specs.asked.Pieces.{StandsAt, Pieces}
use Rattle.replay_structure.proofs.asked.Asking.{ask-asked, done-asked, only-asked, ask-which-asked}

module _ {C D : Type 0} (u : RewrittenUnit) (H : ℕ → Type 0) (b : Asks C) (a : Asks D) (R : C → D → Type 0) (P : Pieces u H b a R) where
  module _ (c : C) (d : D) (k : ℕ) (s : Span) (rel : R c d) (h : H k) where
    abbrev again : R (b.handling c) (a.handling d)
    again = P.handling c d rel

    pub saying-so-asked : (n : ℕ) (x : PStmt) → n < 4 * k + 5 → AskedStmt a d (n + 1) x → AskedStmt a d n (saying_so u s x)
    saying-so-asked n x le i = (
      P.outer c d k n s rel h (omega (arith, le)),
      (
        (P.some 0, i, tt),
        P.others s _,
        (
          P.outer c d k (n + 1) s rel h (omega (arith, le)),
          P.other c d k (n + 1) rel h (omega (arith, le)),
          (P.some 1, done-asked u H b a R P (b.handling c) (a.handling d) k s again h ((n + 1) + 1) (omega (arith, le)), (P.again c d k ((n + 1) + 1) s rel h (omega (arith, le)), tt)),
          tt,
        ),
      ),
    )

    body-kept-asked : (n : ℕ) (l : PStmts) → n < 4 * k + 4 → AskedSome a d (n + 1) l → AskedStmt a d n (body_kept u s l)
    body-kept-asked n l le i = (
      P.outer c d k n s rel h (omega (arith, le)),
      (
        i,
        P.others s _,
        (
          P.outer c d k (n + 1) s rel h (omega (arith, le)),
          P.other c d k (n + 1) rel h (omega (arith, le)),
          (
            P.some 2,
            ask-asked u H b a R P (b.handling c) (a.handling d) k s again h ((n + 1) + 1) (omega (arith, le)),
            (only-asked u H b a R P (b.handling c) (a.handling d) k s again h ((n + 1) + 1) 2 (omega arith) (omega (arith, le)), (P.again c d k ((n + 1) + 1) s rel h (omega (arith, le)), tt)),
          ),
          tt,
        ),
      ),
    )

  -- an accept, whose head stands with the nesting k in the normal form
  module _ (c : C) (d : D) (k : ℕ) (s : Span) (i : PHead) (rel : R c d) (h : b.head c k i) where
    abbrev inner : R (b.accepting c i) (a.accepting d i)
    inner = P.in_accept c d k i rel h

    abbrev near : H k
    near = P.here_accepted c k i h

    -- its statements stand four deeper than what stands for it
    pub serve-asked : (n : ℕ) (o : PMaybe) → n < 4 * k + 1 → AskedMaybe a (a.accepting d i) (((n + 1) + 1) + 1) o → AskedStmts a d n (serve u s (accepting i o))
    serve-asked n absent le m = (
      (
        P.head c d k n i rel h (omega (arith, le)),
        (
          P.some 2,
          done-asked u H b a R P (b.accepting c i) (a.accepting d i) k s inner near (n + 1) (omega (arith, le)),
          (
            ask-asked u H b a R P (b.accepting c i) (a.accepting d i) k s inner near (n + 1) (omega (arith, le)),
            (only-asked u H b a R P (b.accepting c i) (a.accepting d i) k s inner near (n + 1) 2 (omega arith) (omega (arith, le)), tt),
          ),
        ),
      ),
      (done-asked u H b a R P c d k s rel near n (omega (arith, le)), tt),
    )
    serve-asked n (present l) le m = (
      saying-so-asked c d k s rel near n (accept_asking u s (accepting i (present l))) (omega (arith, le)) (
        P.head c d k (n + 1) i rel h (omega (arith, le)),
        (
          P.some 3,
          done-asked u H b a R P (b.accepting c i) (a.accepting d i) k s inner near ((n + 1) + 1) (omega (arith, le)),
          (
            body-kept-asked (b.accepting c i) (a.accepting d i) k s inner near ((n + 1) + 1) l (omega (arith, le)) m,
            (
              ask-asked u H b a R P (b.accepting c i) (a.accepting d i) k s inner near ((n + 1) + 1) (omega (arith, le)),
              (only-asked u H b a R P (b.accepting c i) (a.accepting d i) k s inner near ((n + 1) + 1) 2 (omega arith) (omega (arith, le)), tt),
            ),
          ),
        ),
      ),
      (done-asked u H b a R P c d k s rel near n (omega (arith, le)), tt),
    )

    pub serve-some : (n : ℕ) (o : PMaybe) → HasStmt (serve u s (accepting i o))
    serve-some n absent = tt
    serve-some n (present l) = tt

    pub accept-asked : (n : ℕ) (o : PMaybe) → StandsAt k n → AskedMaybe a (a.accepting d i) ((((n + 1) + 1) + 1) + 1) o → AskedStmts a d n (accept_image u s (accepting i o))
    accept-asked n o le m =
        ask-which-asked u H b a R P c d k s rel near n (branch (permits_start u s i) (serve u s (accepting i o)) no_arm) (omega (arith, le)) (P.some 0) (
          P.served c d k (n + 1) s i rel h (omega (arith, le)),
          asked-some a P.some d (n + 1) (serve u s (accepting i o)) (serve-some n o) (serve-asked (n + 1) o (omega (arith, le)) m),
          tt,
        )
