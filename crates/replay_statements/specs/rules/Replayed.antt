-- The statements of a unit of a replay text, by ids that are looked up once: what stands in the place of each, and the body of the unit.
use Rattle.std.specs.Prelude.{ℕ, ◌==◌, Bool, true, false, if◌then◌else◌, List, [], ◌∷◌, Option, Some, None}
use Rattle.ada_tree.specs.declared.naming.Span.{Span}
use Rattle.ada_tree.specs.PlainStmt.{PCallee, PCall, PStmt, SNull, SAbort, SCall, SAccept, SWait, SConditional, STimed, SBlock, PStmts, no_stmt, stmt_then, PAlt, PAlts, no_alt, alt_then, PBody, body, PHandlers, no_handler, handler_then, no_arm, arm_then, arm}
use Rattle.normal_model.specs.Walk.{inside_body}
use Rattle.normal_model.specs.Making.{one}
use Rattle.replay_model.specs.Serving.{whatever}
use Rattle.replay_model.specs.ReplayStmts.{with_handlers, last_kind}
use Rattle.replay_asking.specs.Voice.{Voice}
use Rattle.replay_asking.specs.Spoken.{done, is_for, ask_only, ask_which}
use Rattle.replay_asking.specs.Served.{accept_image}
use Rattle.replay_asking.specs.Called.{task_called, plain_image, conditional_image, timed_image}
use Rattle.replay_statements.specs.waiting.Waited.{wait_image}
use Rattle.tree_rewriting.specs.walking.Rules.{Rule, walk_of}

-- what follows the abort of this task: who aborts itself says no more
abbrev pub after_abort : Voice → Span → ℕ → PStmts
after_abort x s t = if t == x.task then no_stmt else one (done x s)

-- what stands in the place of the abort of one task, which is the only one that the statement names
abbrev pub abort_image : Voice → Span → List PCallee → PCallee → PStmts
abort_image x s cs c =
    ask_which x s
    (arm_then (arm (is_for x s 9 (task_called x.numbers c.name.name)) (stmt_then (SAbort cs s) (after_abort x s (task_called x.numbers c.name.name)))) no_arm)

-- the one task that is named, where there is one alone
abbrev pub only_callee : List PCallee → Option PCallee
only_callee [] = None
only_callee (c ∷ []) = Some c
only_callee (c ∷ d ∷ cs) = None

abbrev pub abort_by : Voice → Span → List PCallee → Option PCallee → PStmts
abort_by x s cs None = one (SAbort cs s)
abort_by x s cs (Some c) = abort_image x s cs c

-- the alternatives of a row
abbrev pub alt_list : PAlts → List PAlt
alt_list no_alt = []
alt_list (alt_then x rest) = x ∷ alt_list rest

-- what stands in the place of calls; proofs see into these where they ask to
unfoldable pub call_image : Voice → Span → PCall → PStmts
call_image x s c = plain_image x s c

unfoldable pub choice_image : Voice → Span → PCall → PStmts → PStmts → PStmts
choice_image x s c behind otherwise = conditional_image x s c behind otherwise

unfoldable pub delay_image : Voice → Span → PCall → PStmts → ℕ → PStmts → PStmts
delay_image x s c behind duration after = timed_image x s c behind duration after

abbrev pub image : Voice → PStmt → PStmts
image x (SCall c s) = call_image x s c
image x (SConditional c behind otherwise s) = choice_image x s c behind otherwise
image x (STimed c behind duration after s) = delay_image x s c behind duration after
image x (SAccept a s) = accept_image x s a
image x (SWait alts otherwise s) = wait_image x s (alt_list alts) otherwise
image x (SAbort cs s) = abort_by x s cs (only_callee cs)
image x y = one y

-- the rewriter, which keeps nothing on its way
abbrev pub rule_of : Voice → Rule ℕ
rule_of x = record { number = λ n. n; entered_stmt = λ n y. n; entered_alternative = λ n y. n; lead = λ n y. no_stmt; left_alternative = λ n y. y; replaced_stmt = λ n y. image x y }

-- there are handlers
abbrev pub has_handlers : PHandlers → Bool
has_handlers no_handler = false
has_handlers (handler_then h hs) = true

abbrev pub asking_at_end : Voice → Span → PBody → PBody
asking_at_end x s b = body (stmt_then (SBlock (body (with_handlers s b) (whatever s (one (SNull s)))) s) (ask_only x s (last_kind x.task))) no_handler

abbrev pub body_image : Voice → Span → PBody → PBody
body_image x s b = asking_at_end x s (inside_body (walk_of (rule_of x)) b 0)
