-- The statements of a unit in a collecting text of a program with abort statements, one rule a form of statement (this project's rule): calls, accepts and selective waits tell the recorder, an abort statement asks it to abort, and every other statement stays, with its parts rewritten.
use Rattle.std.specs.Prelude.{ℕ, ◌+◌, [], ◌∷◌}
use Rattle.ada_tree.specs.declared.naming.Span.{Span}
use Rattle.ada_tree.specs.PlainStmt.{PCallee, PStmt, SAbort, SCall, SAccept, SWait, SConditional, STimed, PStmts, no_stmt, PBody}
use Rattle.task_model.specs.Frames.{in_front}
use Rattle.normal_model.specs.Walk.{Rewriter, inside_body}
use Rattle.normal_model.specs.Making.{one}
use Rattle.collect_model.specs.Teller.{Teller, task_of}
use Rattle.collect_model.specs.Noting.{own_note}
use Rattle.collect_model.specs.CollectStmts.{telling_at_end}
use Rattle.collect_model.specs.aborts.Places.{with_place}
use Rattle.collect_model.specs.aborts.AbortTeller.{AbortTeller}
use Rattle.collect_model.specs.aborts.Noting.{at_abort}
use Rattle.collect_model.specs.aborts.Calling.{plain_image, conditional_image, timed_image}
use Rattle.collect_model.specs.aborts.Serving.{accept_image}
use Rattle.collect_model.specs.aborts.Waiting.{wait_image}

-- `NOTE(9, t, x, 0, 0);` What stands in the place of the abort of one task (9.10): the recorder aborts it while the own task waits for the answer.
abbrev pub abort_image : Teller → Span → PCallee → PStmts
abort_image x s callee = one (own_note x s at_abort (task_of x.numbers callee.name.name))

-- What stands in the place of a statement whose parts are rewritten; n is the number of the place where it accepts, if it does. An abort statement of a normal form has one name.
abbrev pub image_told : AbortTeller → ℕ → PStmt → PStmts
image_told x n (SCall c s) = plain_image x.teller s c
image_told x n (SConditional c behind otherwise s) = conditional_image x.teller s c behind otherwise
image_told x n (STimed c behind duration after s) = timed_image x.teller s c behind duration after
image_told x n (SAccept a s) = accept_image x s n a
image_told x n (SWait alts otherwise s) = wait_image x s n alts otherwise
image_told x n (SAbort (callee ∷ []) s) = abort_image x.teller s callee
image_told x n y = one y

-- The rewriter of a unit. What it keeps on its way is how many places of the unit it has come by. It puts nothing in front of a wait, and leaves alternatives to the image of their wait.
abbrev pub abort_rewriter : AbortTeller → Rewriter ℕ
abort_rewriter x = record {
  entered_stmt = with_place;
  entered_alternative = λ n y. n;
  lead = λ n y. no_stmt;
  left_alternative = λ n y. y;
  replaced_stmt = λ n before y. in_front before (image_told x (n + 1) y);
}

-- ---- units

-- The body of main: its statements and handlers are rewritten, and nothing is told of its end.
abbrev pub main_body : AbortTeller → PBody → PBody
main_body x b = inside_body (abort_rewriter x) b 0

-- The body of a task, which tells at its end.
abbrev pub task_body : AbortTeller → Span → PBody → PBody
task_body x s b = telling_at_end x.teller s (inside_body (abort_rewriter x) b 0)
