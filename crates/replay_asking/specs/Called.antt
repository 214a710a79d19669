-- Entry calls of a replay text, by ids that are looked up once.
use Rattle.std.specs.Prelude.{ℕ, unwrap_or}
use Rattle.ada_tree.specs.declared.naming.NameId.{NameId}
use Rattle.ada_tree.specs.declared.naming.Span.{Span}
use Rattle.ada_tree.specs.declared.naming.Word.{Word}
use Rattle.ada_tree.specs.PlainExpr.{PExpr}
use Rattle.ada_tree.specs.PlainStmt.{PCall, SCall, SConditional, STimed, PStmts, no_stmt, stmt_then, PArms, no_arm, arm_then, arm}
use Rattle.syn_event.specs.Numbering.{Numbering, task_named}
use Rattle.task_model.specs.Setting.{entry_of, Lists, lists_of}
use Rattle.normal_model.specs.Ranges.{word_at}
use Rattle.normal_model.specs.Making.{one}
use Rattle.replay_asking.specs.Spoken.{done, is_at, ask_which}
use Rattle.replay_asking.specs.Served.{saying_so}
use Rattle.replay_asking.specs.Voice.{Voice}

-- the first task of that name
abbrev pub task_called : Numbering → NameId → ℕ
task_called numbers name = unwrap_or (task_named numbers name) 0

abbrev pub entry_called : Voice → PCall → ℕ
entry_called x c = entry_of x.numbers (task_called x.numbers c.task.name.name) c.entry.name

abbrev pub lists_called : Voice → PCall → Lists
lists_called x c = lists_of x.numbers (entry_called x c) c.args

abbrev pub double_word : Voice → Word → Word
double_word x w = word_at w.span (x.double w.name)

abbrev pub double_call : Voice → PCall → PCall
double_call x c = record { task = c.task; entry = double_word x c.entry; args = c.args }

abbrev pub is_called : Voice → Span → ℕ → PCall → PExpr
is_called x s k c = is_at x s k (entry_called x c) (lists_called x c).index

-- the branch of the failing call
abbrev pub failing : Voice → Span → PCall → PStmts
failing x s c = one (saying_so x s (SCall (double_call x c) s))

abbrev pub call_arms : Voice → Span → PCall → PStmts → PArms → PArms
call_arms x s c met others = arm_then (arm (is_called x s 1 c) met) (arm_then (arm (is_called x s 7 c) (failing x s c)) others)

abbrev pub plain_image : Voice → Span → PCall → PStmts
plain_image x s c = ask_which x s (call_arms x s c (one (SCall c s)) no_arm)

-- the branch of the other part of a conditional call, and of a timed one
abbrev pub else_part : Voice → Span → PCall → PStmts → PStmts
else_part x s c otherwise = stmt_then (SConditional (double_call x c) no_stmt (one (done x s)) s) otherwise

abbrev pub delay_part : Voice → Span → PCall → ℕ → PStmts → PStmts
delay_part x s c duration after = stmt_then (STimed (double_call x c) no_stmt duration (one (done x s)) s) after

abbrev pub conditional_image : Voice → Span → PCall → PStmts → PStmts → PStmts
conditional_image x s c behind otherwise =
    ask_which x s (call_arms x s c (stmt_then (SCall c s) behind) (arm_then (arm (is_called x s 5 c) (else_part x s c otherwise)) no_arm))

abbrev pub timed_image : Voice → Span → PCall → PStmts → ℕ → PStmts → PStmts
timed_image x s c behind duration after =
    ask_which x s (call_arms x s c (stmt_then (SCall c s) behind) (arm_then (arm (is_called x s 6 c) (delay_part x s c duration after)) no_arm))
