-- What stands for a selective wait in a collecting text of a program with abort statements, without the statements of the program in it, is as asked, from its pieces.
use Rattle.std.proofs.Common.{ℕ, ◌+◌, ◌*◌, ◌<◌, ◌≤◌, Bool, arith}
use Rattle.ada_tree.specs.declared.naming.Span.{Span}
use Rattle.ada_tree.specs.Every.{alts_count}
use Rattle.ada_tree.specs.PlainStmt.{stmt_then, PMaybe, absent, present, PAlts}
use Rattle.task_laws.specs.legal.asked.Asked.{Asks, AskedStmts, AskedSome, AskedMaybe}
use Rattle.collect_model.specs.Noting.{has_delay, own_note}
use Rattle.collect_model.specs.Calling.{part_is}
use Rattle.normal_model.specs.Making.{one}
use Rattle.collect_model.specs.aborts.AbortTeller.{AbortTeller}
use Rattle.collect_model.specs.aborts.Waiting.{part_unless_refused, else_told}
use Rattle.collect_structure.specs.aborts.asked.Pieces.{IsPlace, Pieces}
use Rattle.collect_structure.proofs.aborts.asked.Telling.{own-asked}

-- a wait in the normal form that has the nesting k, at the place of number p; its pieces stand in the loop d
module _ {C D : Type 0} (x : AbortTeller) (most : ℕ) (H : ℕ → Type 0) (b : Asks C) (a : Asks D) (R S : C → D → Type 0) (P : Pieces x most H b a R S)
    (c : C) (d : D) (k : ℕ) (xs : PAlts) (others : Bool) (t s : Span) (p : ℕ) (rel : S c d) (h : H k) (place : IsPlace most p) (w : b.wait c k xs others t) where
  -- the number of a part is kept
  part-kept : (n j : ℕ) → j ≤ 1 + alts_count xs → n < 4 * k + 7 → AskedSome a d n (part_is x.teller s j)
  part-kept n j few le = (P.some 0, P.chosen c d k n xs others t s j rel h w few (omega (arith, le)), tt)

  -- behind an accept of the wait
  pub unless-asked : (n j : ℕ) → j ≤ 1 + alts_count xs → n < 4 * k + 6 → AskedStmts a d n (one (part_unless_refused x s p j))
  unless-asked n j few le = (
    (
      P.outer c d k n s rel h (omega (arith, le)),
      P.some 0,
      (P.refused c d k (n + 1) s p rel h place (omega (arith, le)), part-kept (n + 1) 0 (omega arith) (omega (arith, le)), tt),
      part-kept (n + 1) j few (omega (arith, le)),
    ),
    tt,
  )

  -- in a delay alternative
  pub delayed-asked : (n e j : ℕ) → e ≤ alts_count xs → j ≤ 1 + alts_count xs → n < 4 * k + 7 → AskedStmts a d n (stmt_then (own_note x.teller s has_delay e) (part_is x.teller s j))
  delayed-asked n e j low few le = (
    (
      P.outer c d k n s rel h (omega (arith, le)),
      P.recorder c d k (n + 1) s rel h (omega (arith, le)),
      P.delayed c d k (n + 1) xs others t s e rel h w low (omega (arith, le)),
    ),
    (P.chosen c d k n xs others t s j rel h w few (omega (arith, le)), tt),
  )

  -- the else part
  pub else-asked : (n j : ℕ) (o : PMaybe) → j ≤ 1 + alts_count xs → n < 4 * k + 7 → AskedMaybe a d n (else_told x s o j)
  else-asked n j absent few le = tt
  else-asked n j (present l) few le = (P.some 1, own-asked x most H b a R S P c d k n s 3 rel h (omega arith) le, (P.chosen c d k n xs others t s j rel h w few (omega (arith, le)), tt))
