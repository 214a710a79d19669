-- Entry calls in a replay text (9.5, 9.7.2, 9.7.3; this project's rule). A permit is for the rendezvous, for the call's failing where the acceptor has completed, and of a conditional or timed call for its other part. Where the call is not to be taken the double of the entry is called, which nobody accepts.
use Rattle.std.specs.Prelude.{ℕ}
use Rattle.ada_tree.specs.declared.naming.Span.{Span}
use Rattle.ada_tree.specs.PlainExpr.{PExpr}
use Rattle.ada_tree.specs.PlainStmt.{PCall, SCall, SConditional, STimed, PStmts, no_stmt, stmt_then, PArms, no_arm}
use Rattle.normal_model.specs.Making.{one}
use Rattle.normal_model.specs.Calls.{entry_called, lists_called}
use Rattle.normal_model.specs.RewrittenUnit.{RewrittenUnit}
use Rattle.replay_model.specs.Names.{double_word}
use Rattle.replay_model.specs.Asking.{done, permit_is_at, ask_which, branch}
use Rattle.replay_model.specs.Serving.{saying_so}

-- the same call of the entry's double
abbrev pub double_call : RewrittenUnit → PCall → PCall
double_call u c = record { task = c.task; entry = double_word u.setting.program c.entry; args = c.args }

-- the permit is for an event of that kind of this call
abbrev pub is_called : RewrittenUnit → Span → ℕ → PCall → PExpr
is_called u s k c = permit_is_at u s k (entry_called u.setting c) (lists_called u.setting c).index

-- What stands in the place of a call of any form: the branch of the rendezvous, that of the failing call, and others.
abbrev pub call_image : RewrittenUnit → Span → PCall → PStmts → PArms → PStmts
call_image u s c met others = ask_which u s (branch (is_called u s 1 c) met (branch (is_called u s 7 c) (one (saying_so u s (SCall (double_call u c) s))) others))

-- A plain call.
abbrev pub plain_image : RewrittenUnit → Span → PCall → PStmts
plain_image u s c = call_image u s c (one (SCall c s)) no_arm

-- A conditional call: `select` the double `else DONE end select;` and then its else part.
abbrev pub conditional_image : RewrittenUnit → Span → PCall → PStmts → PStmts → PStmts
conditional_image u s c behind otherwise =
    call_image u s c (stmt_then (SCall c s) behind)
    (branch (is_called u s 5 c) (stmt_then (SConditional (double_call u c) no_stmt (one (done u s)) s) otherwise) no_arm)

-- A timed call: `select` the double `or delay d; DONE end select;` and then what stands behind its delay.
abbrev pub timed_image : RewrittenUnit → Span → PCall → PStmts → ℕ → PStmts → PStmts
timed_image u s c behind duration after =
    call_image u s c (stmt_then (SCall c s) behind)
    (branch (is_called u s 6 c) (stmt_then (STimed (double_call u c) no_stmt duration (one (done u s)) s) after) no_arm)
