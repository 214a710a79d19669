-- The branch of an if or case statement that is taken (5.3, 5.4).
use Rattle.std.specs.Prelude.{List, Result, Ok, Err}
use Rattle.std.specs.Borrow.{Bor}
use Rattle.ada_tree.specs.declared.statements.Stmt.{Stmt}
use Rattle.ada_tree.specs.PlainStmt.{PStmts, PMaybe, seen}
use Rattle.ada_value.specs.declared.values.Raised.{Raised}
use Rattle.ada_value.specs.Values.{and_then}
use Rattle.task_model.specs.Tasks.{Task, stmts_or_none, entered, or_raised}

-- the statements of the branch that is taken; where none is they are none (5.3, 5.4)
abbrev pub branch_in : Result PMaybe Raised → Result PStmts Raised
branch_in taken = and_then taken (λ branch. Ok (stmts_or_none branch))

-- The task in the branch that is taken, or as the exception is raised (5.3, 5.4).
abbrev pub enter_step : Result PStmts Raised → PStmts → Task → Task
enter_step branch behind t = or_raised (λ stmts. entered stmts behind t) t branch

-- a branch of the code, as a row
abbrev pub seen_branch : Result (Bor (List Stmt)) Raised → Result PStmts Raised
seen_branch (Ok stmts) = Ok (seen stmts.now)
seen_branch (Err x) = Err x
