-- The parts of calls and waits that are taken without a rendezvous (9.7).
use Rattle.std.specs.Prelude.{ℕ, Option, Some, None}
use Rattle.ada_tree.specs.PlainStmt.{PStmt, SWait, SConditional, STimed, PStmts}
use Rattle.task_model.specs.Tasks.{Task, stmts_or_none, entered}
use Rattle.task_model.specs.Waits.{delay_stmts}
use Rattle.task_model.specs.Rendezvous.{behind_of}

-- the else part of a conditional call or a wait; a wait that has none has one of no statements (9.7.1, 9.7.2)
abbrev pub else_part : PStmt → Option PStmts
else_part (SConditional call more otherwise s) = Some otherwise
else_part (SWait alts otherwise s) = Some (stmts_or_none otherwise)
else_part _ = None

-- the statements behind the k-th delay of a wait, or behind the delay of a timed call (9.7.1, 9.7.3)
abbrev pub delay_part : ℕ → PStmt → Option PStmts
delay_part k (STimed call more duration after s) = Some after
delay_part k (SWait alts otherwise s) = Some (delay_stmts alts 0 k)
delay_part k _ = None

-- The task in a part of its next statement, where there is one.
abbrev pub part_taken : Option PStmts → Task → Task
part_taken None t = t
part_taken (Some stmts) t = entered stmts (behind_of t) t
