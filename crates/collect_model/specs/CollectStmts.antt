-- The statements of a unit in a collecting text, one rule a form of statement (this project's rule): calls, accepts and selective waits tell the recorder, and every other statement stays, with its parts rewritten.
use Rattle.std.specs.Prelude.{ℕ}
use Rattle.ada_tree.specs.declared.naming.Span.{Span}
use Rattle.ada_tree.specs.PlainStmt.{PStmt, SNull, SCall, SAccept, SWait, SConditional, STimed, SBlock, PStmts, no_stmt, stmt_then, PBody, body, no_handler}
use Rattle.task_model.specs.Frames.{in_front}
use Rattle.normal_model.specs.Walk.{Rewriter, inside_body}
use Rattle.normal_model.specs.Making.{one}
use Rattle.replay_model.specs.Serving.{whatever}
use Rattle.replay_model.specs.ReplayStmts.{with_handlers}
use Rattle.collect_model.specs.Teller.{Teller}
use Rattle.collect_model.specs.Noting.{at_end, own_note}
use Rattle.collect_model.specs.Calling.{plain_image, conditional_image, timed_image}
use Rattle.collect_model.specs.Serving.{accept_image}
use Rattle.collect_model.specs.Waiting.{wait_image}

-- What stands in the place of a statement whose parts are rewritten.
abbrev pub collect_image : Teller → PStmt → PStmts
collect_image x (SCall c s) = plain_image x s c
collect_image x (SConditional c behind otherwise s) = conditional_image x s c behind otherwise
collect_image x (STimed c behind duration after s) = timed_image x s c behind duration after
collect_image x (SAccept a s) = accept_image x s a
collect_image x (SWait alts otherwise s) = wait_image x s alts otherwise
collect_image x y = one y

-- The rewriter of a unit. It keeps nothing on its way: its state is a number that stays 0. It puts nothing in front of a wait, and leaves alternatives to the image of their wait.
abbrev pub collect_rewriter : Teller → Rewriter ℕ
collect_rewriter x = record {
  entered_stmt = λ n y. n;
  entered_alternative = λ n y. n;
  lead = λ n y. no_stmt;
  left_alternative = λ n y. y;
  replaced_stmt = λ n before y. in_front before (collect_image x y);
}

-- ---- units

-- The body of main: its statements and handlers are rewritten, and nothing is told of its end.
abbrev pub main_body : Teller → PBody → PBody
main_body x b = inside_body (collect_rewriter x) b 0

-- a body whose statements are rewritten: an exception ends them and no more, and behind them the task tells that it is at its end
abbrev pub telling_at_end : Teller → Span → PBody → PBody
telling_at_end x s b = body (stmt_then (SBlock (body (with_handlers s b) (whatever s (one (SNull s)))) s) (one (own_note x s at_end 0))) no_handler

-- The body of a task.
abbrev pub task_body : Teller → Span → PBody → PBody
task_body x s b = telling_at_end x s (inside_body (collect_rewriter x) b 0)
