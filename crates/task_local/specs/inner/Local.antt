-- One task as a contract sees it, and an abort statement some of whose names were passed.
use Rattle.std.specs.Prelude.{ℕ, ◌<◌, Bool, List, [], drop, length}
use Rattle.ada_tree.specs.PlainStmt.{PCallee, PStmt, SAbort, PStmts, no_stmt, stmt_then}
use Rattle.task_model.specs.Frames.{control}
use Rattle.task_model.specs.Tasks.{Task, rest_of, place_of, outer_of, vars_of, with_control}

-- A task, and whether there is room for one more frame, so that going back behind a call or into another part takes no memory.
pub record Local : Type 0 where
  pub task : Task
  pub reserved : Bool

-- ---- an abort statement some of whose names were passed (9.10)

-- a statement without so many of its first names, where it is an abort statement
abbrev pub named_from : ℕ → PStmt → PStmt
named_from n (SAbort callees s) = SAbort (drop n callees) s
named_from n s = s

-- the statements that are left, the next one without so many of its first names
abbrev pub left_from : ℕ → PStmts → PStmts
left_from n no_stmt = no_stmt
left_from n (stmt_then s rest) = stmt_then (named_from n s) rest

-- The task behind so many names of its next statement.
abbrev pub behind_names : ℕ → Task → Task
behind_names n t = with_control t (control (left_from n (rest_of t)) (place_of t) (outer_of t) (vars_of t))

-- the names of a statement that are passed one by one
abbrev pub names_at : PStmt → List PCallee
names_at (SAbort callees s) = callees
names_at s = []

-- those of the next statement
abbrev pub names_in : PStmts → List PCallee
names_in no_stmt = []
names_in (stmt_then s rest) = names_at s

-- Names are passed of an abort statement alone, and the last of them with the whole statement.
abbrev pub IsWithin : ℕ → PStmts → Type 0
IsWithin n rest = 0 < n → n < length (names_in rest)
