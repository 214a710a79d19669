-- Entry calls in a collecting text (9.5, 9.7.2, 9.7.3; this project's rule). A task tells that it is before a call, makes it with its own number in front of the actuals, and tells where TASKING_ERROR is raised there. Which part of a conditional or timed call comes is kept in a variable, and both parts stand behind the call, so that no exception of theirs is taken for the call's. Of the other part the task tells first, and where the answer is that it came too late, since the owner of the entry is at its end, TASKING_ERROR is raised, as the call would have raised it.
use Rattle.std.specs.Prelude.{ℕ, Bool, true, false, [], ◌∷◌, Option, Some, None, unwrap_or}
use Rattle.ada_tree.specs.declared.naming.Span.{Span}
use Rattle.ada_tree.specs.declared.naming.Word.{Word}
use Rattle.ada_tree.specs.declared.expressions.BinaryOp.TheVariants.{Equal}
use Rattle.ada_tree.specs.PlainExpr.{PExpr, EName, EBinary}
use Rattle.ada_tree.specs.PlainStmt.{PArgs, PCall, PStmt, SAssign, SRaise, SCall, SConditional, STimed, SIf, SBlock, PStmts, no_stmt, stmt_then, absent, present, body, no_handler, handler_then, handler, arm, no_arm, arm_then}
use Rattle.syn_event.specs.Numbering.{owner_of}
use Rattle.task_model.specs.Setting.{entry_of, is_family, lists_of}
use Rattle.normal_model.specs.Ranges.{word_at}
use Rattle.normal_model.specs.Making.{one, or_null}
use Rattle.replay_model.specs.Serving.{raise_again}
use Rattle.collect_model.specs.Teller.{Teller, task_of}
use Rattle.collect_model.specs.Noting.{before_call, has_call_else, has_expired, has_failed, number, own_number, note, own_note}

-- ---- what is called

-- the entry that is called
abbrev pub entry_called : Teller → PCall → ℕ
entry_called x c = entry_of x.numbers (task_of x.numbers c.task.name.name) c.entry.name

-- the member that is called, as a number
abbrev pub member_called : Teller → Span → PCall → PExpr
member_called x s c = x.member (entry_called x c) s (lists_of x.numbers (entry_called x c) c.args).index

-- A note of the own task about the member that is called, and its owner.
abbrev pub call_note : Teller → Span → ℕ → PCall → PStmt
call_note x s k c = note x s k (own_number x s) (entry_called x c) (member_called x s c) (owner_of x.numbers (entry_called x c))

-- ---- the call

-- the lists of a call with one more actual in front of the others: of a family they are the second list
abbrev pub args_with : Bool → PExpr → Option PArgs → PArgs
args_with true e None = record { first = []; second = Some (e ∷ []) }
args_with true e (Some args) = record { first = args.first; second = Some (e ∷ unwrap_or args.second []) }
args_with false e None = record { first = e ∷ []; second = None }
args_with false e (Some args) = record { first = e ∷ args.first; second = args.second }

-- the call with the own task's number as its first actual
abbrev pub call_telling : Teller → Span → PCall → PCall
call_telling x s c = record { task = c.task; entry = c.entry; args = Some (args_with (is_family x.numbers (entry_called x c)) (own_number x s) c.args) }

-- TASKING_ERROR
abbrev pub tasking_error : Span → Word
tasking_error s = word_at s record { 0 = 9 }

-- the statement of a call in a block: `begin` it `exception when TASKING_ERROR => NOTE(7, ..); raise; end;`
abbrev pub call_watched : Teller → Span → PCall → PStmt → PStmt
call_watched x s c y =
    SBlock
    (body (one y) (handler_then (handler (tasking_error s ∷ []) (stmt_then (call_note x s has_failed c) (one (raise_again s))) s) no_handler))
    s

-- What stands for the statement y of the call c: the note before it, the statement in its block, and what is behind.
abbrev pub call_told : Teller → Span → PCall → PStmt → PStmts → PStmts
call_told x s c y behind = stmt_then (own_note x s before_call 0) (stmt_then (call_watched x s c y) behind)

-- ---- the parts of a conditional or timed call

-- `DED_W := w;` The call itself is part 1, the other part is part 2.
abbrev pub part_is : Teller → Span → ℕ → PStmts
part_is x s w = one (SAssign (record { name = word_at s x.added.part; index = None }) (number s w) s)

-- `if DED_G then raise TASKING_ERROR; end if;`
abbrev pub fails_late : Teller → Span → PStmt
fails_late x s = SIf (arm_then (arm (EName x.added.answer s) (one (SRaise (Some (tasking_error s)) s))) no_arm) absent s

-- `if DED_W = 1 then` what follows the call `else` the note of the other part; the test of the answer; and the other part's statements `end if;`
abbrev pub parts_behind : Teller → Span → ℕ → PCall → PStmts → PStmts → PStmt
parts_behind x s k c met other =
    SIf (arm_then (arm (EBinary Equal (EName x.added.part s) (number s 1) s) (or_null s met)) no_arm)
    (present (stmt_then (call_note x s k c) (stmt_then (fails_late x s) other)))
    s

-- ---- what stands in the place of calls

-- Of a plain call.
abbrev pub plain_image : Teller → Span → PCall → PStmts
plain_image x s c = call_told x s c (SCall (call_telling x s c) s) no_stmt

-- Of a conditional call.
abbrev pub conditional_image : Teller → Span → PCall → PStmts → PStmts → PStmts
conditional_image x s c behind otherwise =
    call_told x s c (SConditional (call_telling x s c) (part_is x s 1) (part_is x s 2) s) (one (parts_behind x s has_call_else c behind otherwise))

-- Of a timed call.
abbrev pub timed_image : Teller → Span → PCall → PStmts → ℕ → PStmts → PStmts
timed_image x s c behind duration after =
    call_told x s c (STimed (call_telling x s c) (part_is x s 1) duration (part_is x s 2) s) (one (parts_behind x s has_expired c behind after))
