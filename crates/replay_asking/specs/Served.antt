-- Accept statements of a replay text, by ids that are looked up once.
use Rattle.ada_tree.specs.declared.naming.Span.{Span}
use Rattle.ada_tree.specs.PlainExpr.{PExpr}
use Rattle.ada_tree.specs.PlainStmt.{PHead, PStmt, SAccept, SBlock, PStmts, stmt_then, PMaybe, absent, present, PAccept, accepting, body, no_arm, arm_then, arm}
use Rattle.task_model.specs.Setting.{entry_of}
use Rattle.task_model.specs.Frames.{in_front}
use Rattle.normal_model.specs.Making.{one}
use Rattle.normal_model.specs.Waits.{head_of}
use Rattle.replay_model.specs.Serving.{raise_again, whatever}
use Rattle.replay_asking.specs.Spoken.{done, is_at, ask_only, ask_which}
use Rattle.replay_asking.specs.Voice.{Voice}

abbrev pub finish : Voice → Span → PStmts
finish x s = ask_only x s 2

abbrev pub body_kept : Voice → Span → PStmts → PStmt
body_kept x s stmts = SBlock (body stmts (whatever s (in_front (finish x s) (one (raise_again s))))) s

-- what stands in the body of an accept statement
abbrev pub accept_body : Voice → Span → PMaybe → PStmts
accept_body x s absent = stmt_then (done x s) (finish x s)
accept_body x s (present stmts) = stmt_then (done x s) (stmt_then (body_kept x s stmts) (finish x s))

abbrev pub saying_so : Voice → Span → PStmt → PStmt
saying_so x s y = SBlock (body (one y) (whatever s (stmt_then (done x s) (one (raise_again s))))) s

abbrev pub serve : Voice → Span → PAccept → PStmts
serve x s (accepting head absent) = stmt_then (SAccept (accepting head (present (accept_body x s absent))) s) (one (done x s))
serve x s (accepting head (present stmts)) = stmt_then (saying_so x s (SAccept (accepting head (present (accept_body x s (present stmts)))) s)) (one (done x s))

abbrev pub permits_start : Voice → Span → PHead → PExpr
permits_start x s head = is_at x s 1 (entry_of x.numbers x.task head.entry.name) head.index

abbrev pub accept_image : Voice → Span → PAccept → PStmts
accept_image x s a = ask_which x s (arm_then (arm (permits_start x s (head_of a)) (serve x s a)) no_arm)
