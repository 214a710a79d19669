-- Notes in a text: how a task tells the recorder what it is about to do or has done (this project's rule). A note is an entry call (9.5), so the task goes on only when the recorder has written the line.
use Rattle.std.specs.Prelude.{ℕ, List, [], ◌∷◌, Some, None}
use Rattle.ada_tree.specs.declared.naming.Span.{Span}
use Rattle.ada_tree.specs.PlainExpr.{PExpr, EInteger, EName}
use Rattle.ada_tree.specs.PlainStmt.{PStmt, SCall}
use Rattle.normal_model.specs.Ranges.{word_at}
use Rattle.collect_model.specs.Teller.{Teller}

-- ---- kinds of notes

-- the task is before a call
abbrev pub before_call : ℕ
before_call = 0

-- the task's call has been accepted: its acceptor says so, first thing in the accept body
abbrev pub has_begun : ℕ
has_begun = 1

-- the task is at the end of an accept body
abbrev pub at_finish : ℕ
at_finish = 2

-- the task has taken the else part of its selective wait
abbrev pub has_else : ℕ
has_else = 3

-- the task has taken a delay alternative of its selective wait
abbrev pub has_delay : ℕ
has_delay = 4

-- the task has taken the else part of its conditional call
abbrev pub has_call_else : ℕ
has_call_else = 5

-- the task has taken the delay alternative of its timed call
abbrev pub has_expired : ℕ
has_expired = 6

-- TASKING_ERROR has been raised at the task's call
abbrev pub has_failed : ℕ
has_failed = 7

-- the task is at its end
abbrev pub at_end : ℕ
at_end = 8

-- ---- the call of the recorder

-- a number, and the own task's number
abbrev pub number : Span → ℕ → PExpr
number s n = EInteger n s

abbrev pub own_number : Teller → Span → PExpr
own_number x s = number s x.task

-- `(k, t, a, i, o, DED_G)`
abbrev pub note_actuals : Teller → Span → ℕ → PExpr → ℕ → PExpr → ℕ → List PExpr
note_actuals x s k t a i o = number s k ∷ t ∷ number s a ∷ i ∷ number s o ∷ EName x.added.answer s ∷ []

-- `DED_RECORD.NOTE(k, t, a, i, o, DED_G);` A note of kind k about the task t, with the entry or delay alternative a, the member i of a family, and the owner o of the entry.
abbrev pub note : Teller → Span → ℕ → PExpr → ℕ → PExpr → ℕ → PStmt
note x s k t a i o =
    SCall
    (record {
      task = record { name = word_at s x.added.recorder; index = None };
      entry = word_at s x.added.note;
      args = Some (record { first = note_actuals x s k t a i o; second = None });
    })
    s

-- `DED_RECORD.NOTE(k, t, a, 0, 0, DED_G);` The task tells of itself, with no entry.
abbrev pub own_note : Teller → Span → ℕ → ℕ → PStmt
own_note x s k a = note x s k (own_number x s) a (number s 0) 0
