-- Accept statements in a replay text (9.5; this project's rule): the acceptor says that the rendezvous has begun, and asks once more before it ends. The end of a rendezvous is an event of its own, also where its body ends by an exception (11.5), so both ways ask.
use Rattle.std.specs.Prelude.{[], None}
use Rattle.ada_tree.specs.declared.naming.Span.{Span}
use Rattle.ada_tree.specs.PlainExpr.{PExpr}
use Rattle.ada_tree.specs.PlainStmt.{PHead, PStmt, SRaise, SAccept, SBlock, PStmts, stmt_then, absent, present, PAccept, accepting, body, PHandlers, no_handler, handler_then, handler, no_arm}
use Rattle.task_model.specs.Setting.{entry_of}
use Rattle.task_model.specs.Frames.{in_front}
use Rattle.normal_model.specs.Making.{one}
use Rattle.normal_model.specs.RewrittenUnit.{RewrittenUnit}
use Rattle.normal_model.specs.Waits.{head_of}
use Rattle.replay_model.specs.Asking.{done, permit_is_at, ask_only, ask_which, branch}

-- FINISH: the task asks for the end of its innermost rendezvous
abbrev pub finish : RewrittenUnit → Span → PStmts
finish u s = ask_only u s 2

-- `raise;`
abbrev pub raise_again : Span → PStmt
raise_again s = SRaise None s

-- `when others =>` these statements
abbrev pub whatever : Span → PStmts → PHandlers
whatever s stmts = handler_then (handler [] stmts s) no_handler

-- the body of an accept statement between the event's begin and its end: `begin` S `exception when others => FINISH raise; end;`
abbrev pub body_kept : RewrittenUnit → Span → PStmts → PStmt
body_kept u s stmts = SBlock (body stmts (whatever s (in_front (finish u s) (one (raise_again s))))) s

-- The accept statement with what stands in its body: DONE, the body, FINISH.
abbrev pub accept_asking : RewrittenUnit → Span → PAccept → PStmt
accept_asking u s (accepting head absent) = SAccept (accepting head (present (stmt_then (done u s) (finish u s)))) s
accept_asking u s (accepting head (present stmts)) = SAccept (accepting head (present (stmt_then (done u s) (stmt_then (body_kept u s stmts) (finish u s))))) s

-- a statement that says that it is done also where it raises an exception: `begin` it `exception when others => DONE raise; end;`
abbrev pub saying_so : RewrittenUnit → Span → PStmt → PStmt
saying_so u s x = SBlock (body (one x) (whatever s (stmt_then (done u s) (one (raise_again s))))) s

-- SERVE: the rendezvous of an accept statement, from the permit for its begin on.
abbrev pub serve : RewrittenUnit → Span → PAccept → PStmts
serve u s (accepting head absent) = stmt_then (accept_asking u s (accepting head absent)) (one (done u s))
serve u s (accepting head (present stmts)) = stmt_then (saying_so u s (accept_asking u s (accepting head (present stmts)))) (one (done u s))

-- the permit is for the begin of this rendezvous
abbrev pub permits_start : RewrittenUnit → Span → PHead → PExpr
permits_start u s head = permit_is_at u s 1 (entry_of u.setting.numbers u.task head.entry.name) head.index

-- What stands in the place of an accept statement.
abbrev pub accept_image : RewrittenUnit → Span → PAccept → PStmts
accept_image u s a = ask_which u s (branch (permits_start u s (head_of a)) (serve u s a) no_arm)
