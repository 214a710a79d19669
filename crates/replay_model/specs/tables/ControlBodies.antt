-- The body of the controller: a loop with one turn for each operation, and an accept that nobody calls where it then waits for ever (5.5, 9.5; this project's rule).
use Rattle.std.specs.Prelude.{ℕ, zero, suc, Bool, true, false, List, [], ◌∷◌, ◌++◌, length, Some, None}
use Rattle.ada_tree.specs.declared.naming.Span.{Span}
use Rattle.ada_tree.specs.PlainStmt.{PStmt, LFor, SLoop, stmts_of, absent, PBody, body, no_handler}
use Rattle.syn_event.specs.declared.numbering.TaskInfo.{TaskInfo}
use Rattle.control_script.specs.declared.Op.{Op}
use Rattle.normal_model.specs.Ranges.{word_at}
use Rattle.normal_model.specs.Making.{one}
use Rattle.replay_model.specs.declared.tables.names.ControlNames.{ControlNames}
use Rattle.replay_model.specs.tables.Columns.{acts, holds}
use Rattle.replay_model.specs.tables.Tables.{up_to}
use Rattle.replay_model.specs.tables.Turns.{accept_by, turn}

-- `for DED_N in 1 .. count loop`
abbrev pub loop_over : ControlNames → List TaskInfo → Span → ℕ → PStmt
loop_over n infos s count = SLoop None (Some (LFor (word_at s n.counter) false (up_to s count))) (one (turn n infos s)) s

-- the loop over so many operations; over none there is no loop
abbrev pub loops : ControlNames → List TaskInfo → Span → ℕ → List PStmt
loops n infos s zero = []
loops n infos s (suc count) = loop_over n infos s (suc count) ∷ []

-- `accept HOLD;`, where the controller waits for ever
abbrev pub waits : ControlNames → Span → Bool → List PStmt
waits n s true = accept_by s n.hold None [] absent ∷ []
waits n s false = []

-- The body of the controller that makes these operations.
abbrev pub control_block : ControlNames → List TaskInfo → Span → List Op → PBody
control_block n infos s ops = body (stmts_of (loops n infos s (length (acts ops)) ++ waits n s (holds ops))) no_handler
