-- The room of a statement by its parts.
use Rattle.std.specs.Prelude.{ℕ}
use Rattle.ada_tree.specs.PlainStmt.{PStmt, SAccept, SWait, SConditional, STimed, SIf, SCase, SBlock, SLoop}
use Rattle.task_waits.specs.Room.{widest_stmts, widest_maybe, widest_accept, widest_alts, widest_arms, widest_case_arms, widest_body}

-- the room of the statements that come first in a statement
abbrev pub inner_width : PStmt → ℕ
inner_width (SAccept a s) = widest_accept a
inner_width (SWait alts otherwise s) = widest_alts alts
inner_width (SConditional c more otherwise s) = widest_stmts more
inner_width (STimed c more d after s) = widest_stmts more
inner_width (SIf arms otherwise s) = widest_arms arms
inner_width (SCase e arms others s) = widest_case_arms arms
inner_width (SBlock b s) = widest_body b
inner_width (SLoop w scheme stmts s) = widest_stmts stmts
inner_width _ = 0

-- the room of those behind them: of an else part, of a delay, for other choices
abbrev pub rest_width : PStmt → ℕ
rest_width (SWait alts otherwise s) = widest_maybe otherwise
rest_width (SConditional c more otherwise s) = widest_stmts otherwise
rest_width (STimed c more d after s) = widest_stmts after
rest_width (SIf arms otherwise s) = widest_maybe otherwise
rest_width (SCase e arms others s) = widest_maybe others
rest_width _ = 0
