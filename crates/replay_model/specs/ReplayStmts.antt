-- The statements of a unit in a replay text, one rule a form of statement (this project's rule): calls, accepts, selective waits and aborts ask first, and every other statement stays, with its parts rewritten.
use Rattle.std.specs.Prelude.{ℕ, ◌==◌, if◌then◌else◌, [], ◌∷◌, unwrap_or}
use Rattle.ada_tree.specs.declared.naming.Span.{Span}
use Rattle.ada_tree.specs.PlainStmt.{PCallee, PStmt, SNull, SAbort, SCall, SAccept, SWait, SConditional, STimed, SBlock, PStmts, no_stmt, stmt_then, PBody, body, no_handler, handler_then, no_arm}
use Rattle.syn_event.specs.Numbering.{task_named}
use Rattle.task_model.specs.Frames.{in_front}
use Rattle.normal_model.specs.Walk.{Rewriter, inside_body}
use Rattle.normal_model.specs.Making.{one}
use Rattle.normal_model.specs.RewrittenUnit.{RewrittenUnit}
use Rattle.replay_model.specs.Asking.{done, permit_is_for, ask_only, ask_which, branch}
use Rattle.replay_model.specs.Serving.{whatever, accept_image}
use Rattle.replay_model.specs.Calling.{plain_image, conditional_image, timed_image}
use Rattle.replay_model.specs.Waiting.{wait_image}

-- ---- aborts

-- the task of a callee
abbrev pub task_called : RewrittenUnit → PCallee → ℕ
task_called u callee = unwrap_or (task_named u.setting.numbers callee.name.name) 0

-- What stands in the place of the abort of one task (9.10): who aborts itself says no more.
abbrev pub abort_image : RewrittenUnit → Span → PCallee → PStmts
abort_image u s x =
    ask_which u s
    (branch (permit_is_for u s 9 (task_called u x)) (stmt_then (SAbort (x ∷ []) s) (if task_called u x == u.task then no_stmt else one (done u s))) no_arm)

-- ---- statements

-- What stands in the place of a statement whose parts are rewritten. An abort statement of a normal form has one name.
abbrev pub replay_image : RewrittenUnit → PStmt → PStmts
replay_image u (SCall c s) = plain_image u s c
replay_image u (SConditional c behind otherwise s) = conditional_image u s c behind otherwise
replay_image u (STimed c behind duration after s) = timed_image u s c behind duration after
replay_image u (SAccept a s) = accept_image u s a
replay_image u (SWait alts otherwise s) = wait_image u s alts otherwise
replay_image u (SAbort (x ∷ []) s) = abort_image u s x
replay_image u x = one x

-- The rewriter: what it keeps on its way is the unit, which stays the same.
abbrev pub replay_rewriter : Rewriter RewrittenUnit
replay_rewriter = record {
  entered_stmt = λ u x. u;
  entered_alternative = λ u x. u;
  lead = λ u x. no_stmt;
  left_alternative = λ u x. x;
  replaced_stmt = λ u before x. in_front before (replay_image u x);
}

-- ---- units

-- the statements of a body: where it has handlers, in a block with them
abbrev pub with_handlers : Span → PBody → PStmts
with_handlers s (body l no_handler) = l
with_handlers s (body l (handler_then h hs)) = one (SBlock (body l (handler_then h hs)) s)

-- the kind of the event with which a task ends: that of its completion, and of the main program that of the end of the program
abbrev pub last_kind : ℕ → ℕ
last_kind t = if t == 0 then 10 else 8

-- a body whose statements are rewritten: an exception ends them and no more, and behind them the task asks for its end
abbrev pub asking_at_end : RewrittenUnit → Span → PBody → PBody
asking_at_end u s b = body (stmt_then (SBlock (body (with_handlers s b) (whatever s (one (SNull s)))) s) (ask_only u s (last_kind u.task))) no_handler

-- The body of a unit in a replay text.
abbrev pub replay_body : RewrittenUnit → Span → PBody → PBody
replay_body u s b = asking_at_end u s (inside_body replay_rewriter b u)
