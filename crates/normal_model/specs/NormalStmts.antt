-- The statements of a unit in the normal form, one rule a form of statement (this project's rule): calls, accepts, selective waits and aborts get images of their own, and every other statement stays, with its parts rewritten.
use Rattle.std.specs.Prelude.{ℕ, List, [], length}
use Rattle.ada_tree.specs.PlainStmt.{PStmt, SAbort, SCall, SAccept, SWait, SConditional, STimed, PStmts, PBody}
use Rattle.task_model.specs.Frames.{in_front}
use Rattle.ada_tree.specs.PlainDecl.{PDecl}
use Rattle.normal_model.specs.Walk.{Rewriter, after_body, inside_body}
use Rattle.normal_model.specs.Making.{one}
use Rattle.normal_model.specs.Calls.{plain_image, conditional_image, timed_image}
use Rattle.normal_model.specs.RewrittenUnit.{RewrittenUnit}
use Rattle.normal_model.specs.Waits.{accept_image, alternative_before, alternative_left, wait_image}
use Rattle.normal_model.specs.Aborts.{abort_image}
use Rattle.normal_model.specs.Variables.{statement_variables, alternative_variables}

-- What stands in the place of a statement whose parts are rewritten, behind what its alternatives put in front of it, where n variables were made before.
abbrev pub normal_image : RewrittenUnit → ℕ → PStmt → PStmts
normal_image u n (SCall c s) = plain_image u.setting s c n
normal_image u n (SConditional c behind otherwise s) = conditional_image u.setting s c n behind otherwise
normal_image u n (STimed c behind duration after s) = timed_image u.setting s c n behind duration after
normal_image u n (SAccept accept s) = accept_image u s accept n
normal_image u n (SWait alts otherwise s) = wait_image s alts otherwise
normal_image u n (SAbort callees s) = abort_image u.setting s callees n
normal_image u n x = one x

-- The rewriter of a unit. What it keeps on its way are the variables that were made so far, as declarations. What alternatives put in front of their wait stands in front of every image, which does not look at it.
abbrev pub normal_rewriter : RewrittenUnit → Rewriter (List PDecl)
normal_rewriter u = record {
  entered_stmt = statement_variables u;
  entered_alternative = alternative_variables u;
  lead = λ vars x. alternative_before u x (length vars);
  left_alternative = λ vars x. alternative_left u x (length vars);
  replaced_stmt = λ vars before x. in_front before (normal_image u (length vars) x);
}

-- The body of a unit in the normal form.
abbrev pub normal_body : RewrittenUnit → PBody → PBody
normal_body u b = inside_body (normal_rewriter u) b []

-- The variables that a unit gets, as declarations in order.
abbrev pub unit_variables : RewrittenUnit → PBody → List PDecl
unit_variables u b = after_body (normal_rewriter u) b []
