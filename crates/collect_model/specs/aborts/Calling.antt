-- Entry calls in a collecting text of a program with abort statements (9.5, 9.7.2, 9.7.3, 9.10; this project's rule). A task tells that it is before a call, and, whatever comes of it, that it has come back: by a note of its own, or in the handler of any exception. Where its acceptor was aborted before anybody told of the end of the rendezvous, that end has not been: the answer is TRUE, and TASKING_ERROR is raised.
use Rattle.std.specs.Prelude.{ℕ}
use Rattle.ada_tree.specs.declared.naming.Span.{Span}
use Rattle.ada_tree.specs.declared.expressions.BinaryOp.TheVariants.{Equal}
use Rattle.ada_tree.specs.PlainExpr.{PExpr, EName, EBinary}
use Rattle.ada_tree.specs.PlainStmt.{PCall, PStmt, SCall, SConditional, STimed, SIf, SBlock, PStmts, no_stmt, stmt_then, present, body, arm, no_arm, arm_then}
use Rattle.normal_model.specs.Making.{one}
use Rattle.replay_model.specs.Serving.{raise_again, whatever}
use Rattle.collect_model.specs.Teller.{Teller}
use Rattle.collect_model.specs.Noting.{before_call, has_call_else, has_expired, has_failed, number, own_note}
use Rattle.collect_model.specs.Calling.{call_note, call_telling, part_is, fails_late}
use Rattle.collect_model.specs.aborts.Noting.{returned_then}

-- ---- the call

-- the statement of a call in a block: `begin` it `exception when others => NOTE(7, ..);` the test of the answer `raise; end;`
abbrev pub call_watched : Teller → Span → PCall → PStmt → PStmt
call_watched x s c y = SBlock (body (one y) (whatever s (stmt_then (call_note x s has_failed c) (stmt_then (fails_late x s) (one (raise_again s)))))) s

-- What stands for the statement y of the call c: the note before it, the statement in its block, and what is behind.
abbrev pub call_told : Teller → Span → PCall → PStmt → PStmts → PStmts
call_told x s c y behind = stmt_then (own_note x s before_call 0) (stmt_then (call_watched x s c y) behind)

-- ---- the parts of a conditional or timed call

-- `DED_W = w`
abbrev pub is_part : Teller → Span → ℕ → PExpr
is_part x s w = EBinary Equal (EName x.added.part s) (number s w) s

-- `if DED_W = 1 then` the note that the call came back, the test of the answer, and what follows the call `else` the note of the other part; the test; and the other part's statements `end if;`
abbrev pub parts_behind : Teller → Span → ℕ → PCall → PStmts → PStmts → PStmt
parts_behind x s k c met other =
    SIf (arm_then (arm (is_part x s 1) (returned_then x s met)) no_arm) (present (stmt_then (call_note x s k c) (stmt_then (fails_late x s) other))) s

-- ---- what stands in the place of calls

-- Of a plain call. Where a member of an array is chosen, the normal form has one in each branch of a case statement.
abbrev pub plain_image : Teller → Span → PCall → PStmts
plain_image x s c = call_told x s c (SCall (call_telling x s c) s) (returned_then x s no_stmt)

-- Of a conditional call.
abbrev pub conditional_image : Teller → Span → PCall → PStmts → PStmts → PStmts
conditional_image x s c behind otherwise =
    call_told x s c (SConditional (call_telling x s c) (part_is x s 1) (part_is x s 2) s) (one (parts_behind x s has_call_else c behind otherwise))

-- Of a timed call.
abbrev pub timed_image : Teller → Span → PCall → PStmts → ℕ → PStmts → PStmts
timed_image x s c behind duration after =
    call_told x s c (STimed (call_telling x s c) (part_is x s 1) duration (part_is x s 2) s) (one (parts_behind x s has_expired c behind after))
