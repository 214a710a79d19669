-- Notes that a program with abort statements has beside the others (this project's rule), and notes whose argument is no literal.
use Rattle.std.specs.Prelude.{ℕ, [], ◌∷◌, Some, None}
use Rattle.ada_tree.specs.declared.naming.Span.{Span}
use Rattle.ada_tree.specs.PlainExpr.{PExpr, EName}
use Rattle.ada_tree.specs.PlainStmt.{PStmt, SCall, PStmts, stmt_then}
use Rattle.normal_model.specs.Ranges.{word_at}
use Rattle.collect_model.specs.Teller.{Teller}
use Rattle.collect_model.specs.Noting.{at_finish, number, own_number, own_note}
use Rattle.collect_model.specs.Calling.{fails_late}
use Rattle.collect_model.specs.aborts.AbortTeller.{AbortTeller}

-- ---- kinds of notes

-- the task is to abort another, or itself: the recorder does it
abbrev pub at_abort : ℕ
at_abort = 9

-- the task's call has come back without an exception
abbrev pub has_returned : ℕ
has_returned = 10

-- ---- the call of the recorder

-- `DED_RECORD.NOTE(k, t, a, 0, 0, DED_G);` A note of kind k about the task t, with an argument that is an expression.
abbrev pub note_about : Teller → Span → ℕ → PExpr → PExpr → PStmt
note_about x s k t a =
    SCall
    (record {
      task = record { name = word_at s x.added.recorder; index = None };
      entry = word_at s x.added.note;
      args = Some (record { first = number s k ∷ t ∷ a ∷ number s 0 ∷ number s 0 ∷ EName x.added.answer s ∷ []; second = None });
    })
    s

-- OVER: `NOTE(2, a, DED_Q1, 0, 0);` The rendezvous of the own task with the caller that it took last at the place of number n has ended.
abbrev pub over : AbortTeller → Span → ℕ → PStmt
over x s n = note_about x.teller s at_finish (own_number x.teller s) (EName (x.taken n) s)

-- `NOTE(10, c, 0, 0, 0);` The own call has come back, in front of `if DED_G then raise TASKING_ERROR; end if;` and what follows.
abbrev pub returned_then : Teller → Span → PStmts → PStmts
returned_then x s rest = stmt_then (own_note x s has_returned 0) (stmt_then (fails_late x s) rest)
