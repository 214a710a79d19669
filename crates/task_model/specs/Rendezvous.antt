-- What the actions that are no local step do to one task (9.5, 9.7, 9.10, 11.5). An accept is passed as its body opens; a call stays next until its rendezvous has ended, it has failed, or its other part is taken, so that what is raised there is raised at the call.
use Rattle.std.specs.Prelude.{ℕ, ℤ, List, [], ◌∷◌, ◌++◌, Option, Some, None, Result, Ok, Err}
use Rattle.ada_tree.specs.declared.naming.Span.{Span}
use Rattle.ada_tree.specs.PlainStmt.{PCall, PCallee, PStmt, SAbort, SWait, SConditional, STimed, PStmts, no_stmt, stmt_then}
use Rattle.ada_value.specs.declared.values.Value.{Value}
use Rattle.ada_value.specs.declared.values.Raised.{Raised}
use Rattle.ada_value.specs.declared.values.Raised.TheVariants as raised
use Rattle.ada_value.specs.Variables.{Variables}
use Rattle.task_model.specs.declared.parameters.FormalParameter.{FormalParameter}
use Rattle.task_model.specs.Setting.{parameters_of, entry_parameters, lists_of}
use Rattle.task_model.specs.Frames.{Around, Opened, PFrame, control, in_front, without_own}
use Rattle.task_model.specs.Tasks.{Task, rest_of, place_of, outer_of, vars_of, with_control, with_vars, gone_to, stmts_or_none, entered, raised_there}
use Rattle.task_model.specs.Calls.{Called, called, call_in, opened_objects, values_handed, finals_in, Copies, copied_back}
use Rattle.task_model.specs.Waits.{Open, Accepts, Delays, Terminates, alternative_for, delay_stmts}

-- the statements behind the next one
abbrev pub behind_in : PStmts → PStmts
behind_in no_stmt = no_stmt
behind_in (stmt_then s rest) = rest

-- the statements behind the next one of a task
abbrev pub behind_of : Task → PStmts
behind_of t = behind_in (rest_of t)

-- ---- a rendezvous starts (9.5)

-- The acceptor in an accept body that is opened for a caller: the formals are its latest variables, and behind the body stand the statements behind the accept and then those behind the wait.
abbrev pub body_opened : ℕ → List FormalParameter → PStmts → PStmts → List Value → Task → Task
body_opened caller formals body behind values t =
    with_control t
    (control body (Opened caller formals None)
    (record { rest = in_front behind (behind_of t); place = place_of t } ∷ outer_of t)
    (opened_objects t.setting.types formals values ++ vars_of t))

-- an alternative that is no accept, as in no legal program, opens an empty body
abbrev pub alternative_opened : ℕ → Option Open → List Value → Task → Task
alternative_opened caller (Some (Accepts e i head body behind)) values t = body_opened caller (parameters_of t.setting.types head.formals) body behind values t
alternative_opened caller (Some (Delays k duration stmts)) values t = body_opened caller [] no_stmt no_stmt values t
alternative_opened caller (Some Terminates) values t = body_opened caller [] no_stmt no_stmt values t
alternative_opened caller None values t = body_opened caller [] no_stmt no_stmt values t

-- The acceptor as it has accepted, at the member i of the entry e, the caller of this number that stands so.
abbrev pub accepted : ℕ → ℤ → ℕ → Task → Task → Task
accepted e i caller calling t = alternative_opened caller (alternative_for t e i) (values_handed calling) t

-- ---- a rendezvous ends (9.5, 11.5)

-- the exception that is pending at the end of an accept body
abbrev pub pending_at : Around → Option Raised
pending_at (Opened caller formals pending) = pending
pending_at _ = None

-- the exception that is pending where a task stands at the end of an accept body (11.5)
abbrev pub pending_of : Task → Option Raised
pending_of t = pending_at (place_of t)

-- The values that go back to the caller from the end of an accept body: those of the `out` and `in out` formals in order (6.2).
abbrev pub finals_at : Around → Variables → List Value
finals_at (Opened caller formals pending) vars = finals_in formals vars
finals_at _ vars = []

-- the values that go back from the accept body at whose end a task stands (6.2)
abbrev pub finals_of : Task → List Value
finals_of t = finals_at (place_of t) (vars_of t)

-- a task in its next frame, behind what it has left there, or as the exception is raised there
abbrev pub going_on : Option Raised → Task → Task
going_on None t = gone_to (rest_of t) t
going_on (Some x) t = raised_there x t

-- the task behind its innermost frame, without the frame's own variables
abbrev pub frame_left : Task → List PFrame → Task
frame_left t [] = t
frame_left t (part ∷ parts) = with_control t (control part.rest part.place parts (without_own (place_of t) (vars_of t)))

-- the acceptor behind its accept body; a task whose innermost frame is no accept body stays as it is
abbrev pub body_closed : Around → Task → Task
body_closed (Opened caller formals pending) t = going_on pending (frame_left t (outer_of t))
body_closed _ t = t

-- The acceptor as its innermost rendezvous has ended: behind the accept, where a pending exception is raised.
abbrev pub finished : Task → Task
finished t = body_closed (place_of t) t

-- the statements behind a call in its statement
abbrev pub more_at : PStmt → PStmts
more_at (SConditional call more otherwise s) = more
more_at (STimed call more duration after s) = more
more_at _ = no_stmt

-- the statements behind a call in the statement that is next (9.7.2, 9.7.3)
abbrev pub more_in : PStmts → PStmts
more_in no_stmt = no_stmt
more_in (stmt_then s rest) = more_at s

-- the caller with what came back: behind its call, or as CONSTRAINT_ERROR is raised there
abbrev pub come_back : Task → Copies → Option Raised → Task
come_back t copies None = entered (more_in (rest_of t)) (behind_of t) (with_vars t copies.vars)
come_back t copies (Some x) = raised_there x (with_vars t copies.vars)

-- values come back to the actuals of a call of an entry
abbrev pub call_ended : Task → PCall → Result Called Raised → List Value → Copies
call_ended t call (Ok c) values = copied_back (entry_parameters t.setting c.entry) (lists_of t.setting.numbers c.entry call.args).actuals values (vars_of t)
call_ended t call (Err x) values = record { vars = vars_of t; stopped = None }

-- values come back to the actuals of a call; where a task stands at none nothing changes
abbrev pub copies_at : Task → Option PCall → List Value → Copies
copies_at t None values = record { vars = vars_of t; stopped = None }
copies_at t (Some call) values = call_ended t call (called t.setting (vars_of t) call) values

-- values come back to the actuals of the call at which a task stands (6.4.1)
abbrev pub copies_of : Task → List Value → Copies
copies_of t values = copies_at t (call_in (rest_of t)) values

-- The caller as these values come back to it.
abbrev pub returned : List Value → Task → Task
returned values t = come_back t (copies_of t values) (copies_of t values).stopped

-- the caller as its rendezvous ends with this exception pending, or with these values
abbrev pub resumed_with : Option Raised → List Value → Task → Task
resumed_with (Some x) values t = raised_there x t
resumed_with None values t = returned values t

-- The caller as its rendezvous with an acceptor that stands so ends: nothing is copied where an exception is pending, which is raised at the call (11.5).
abbrev pub resumed : Task → Task → Task
resumed acceptor t = resumed_with (pending_of acceptor) (finals_of acceptor) t

-- The caller as TASKING_ERROR is raised at its call (9.5, 11.5).
abbrev pub call_failed : Task → Task
call_failed t = raised_there raised.Tasking t

-- ---- other parts of calls and waits (9.7)

-- the statements of the else part of a conditional call or a wait
abbrev pub else_taken_at : PStmt → PStmts → Task → Task
else_taken_at (SConditional call more otherwise s) behind t = entered otherwise behind t
else_taken_at (SWait alts otherwise s) behind t = entered (stmts_or_none otherwise) behind t
else_taken_at _ behind t = t

-- the task in the else part of its next statement, where these are the statements left
abbrev pub else_taken_in : PStmts → Task → Task
else_taken_in no_stmt t = t
else_taken_in (stmt_then s rest) t = else_taken_at s rest t

-- The task in the else part of its conditional call or selective wait (9.7.1, 9.7.2).
abbrev pub took_else : Task → Task
took_else t = else_taken_in (rest_of t) t

-- the task behind the k-th delay of a wait, or behind the delay of a timed call (9.7.1, 9.7.3)
abbrev pub delay_taken_at : ℕ → PStmt → PStmts → Task → Task
delay_taken_at k (STimed call more duration after s) behind t = entered after behind t
delay_taken_at k (SWait alts otherwise s) behind t = entered (delay_stmts alts 0 k) behind t
delay_taken_at k _ behind t = t

-- the task behind the k-th delay of its next statement, where these are the statements left
abbrev pub delay_taken_in : ℕ → PStmts → Task → Task
delay_taken_in k no_stmt t = t
delay_taken_in k (stmt_then s rest) t = delay_taken_at k s rest t

-- The task behind the k-th delay of its selective wait, or behind the delay of its timed call (9.7.1, 9.7.3).
abbrev pub took_delay : ℕ → Task → Task
took_delay k t = delay_taken_in k (rest_of t) t

-- ---- abort (9.10)

-- the statements that are left of an abort without its first name
abbrev pub names_left : List PCallee → Span → PStmts → PStmts
names_left [] s behind = behind
names_left (callee ∷ callees) s behind = stmt_then (SAbort (callee ∷ callees) s) behind

-- the task behind the first name of an abort statement; no other statement is passed so (9.10)
abbrev pub passed_at : PStmt → PStmts → Task → Task
passed_at (SAbort [] s) behind t = t
passed_at (SAbort (callee ∷ callees) s) behind t = gone_to (names_left callees s behind) t
passed_at _ behind t = t

-- the task behind the first name of its next statement, where these are the statements left
abbrev pub passed_in : PStmts → Task → Task
passed_in no_stmt t = t
passed_in (stmt_then s rest) t = passed_at s rest t

-- The task behind the next name of its abort statement; what is left of the statement is an abort statement again.
abbrev pub past_name : Task → Task
past_name t = passed_in (rest_of t) t
