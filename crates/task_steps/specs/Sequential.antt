-- The steps of a task that are none of a synchronizing statement (the division into steps is this project's rule).
use Rattle.std.specs.Prelude.{Bool, true, false, List, [], ◌∷◌}
use Rattle.ada_tree.specs.PlainStmt.{PCallee, PStmt, PStmts}
use Rattle.task_model.specs.Tasks.{Task, rest_of, place_of, gone_to}
use Rattle.task_model.specs.Stands.{Stand, Steps, Raises, At, stand_of, stepped_at, stepped_with}

-- A task that stands there is at no synchronizing statement, and at no end of a unit or of an accept body (9.5, 9.7, 9.10).
abbrev pub is_step : Stand → Bool
is_step Steps = true
is_step (Raises x) = false
is_step (At offer) = false

-- the task behind an abort of no names, which is passed; at one of names it stays as it is (9.10; this project's rule)
abbrev pub aborted_none : List PCallee → PStmts → Task → Task
aborted_none [] behind t = gone_to behind t
aborted_none (callee ∷ callees) behind t = t

-- the task after the step at a statement at which it stands so; at a synchronizing one it stays as it is
abbrev pub stepped_there : Stand → PStmt → PStmts → Task → Task
stepped_there Steps s behind t = stepped_at s behind t
stepped_there (Raises x) s behind t = t
stepped_there (At offer) s behind t = t

-- the task after the step at which it stands so; elsewhere it stays as it is
abbrev pub sequential_by : Stand → Task → Task
sequential_by Steps t = stepped_with (rest_of t) (place_of t) t
sequential_by (Raises x) t = t
sequential_by (At offer) t = t

-- The task after its step, where it stands at a statement that is no synchronizing one or at the end of a loop's statements; elsewhere it stays as it is.
abbrev pub sequential_step : Task → Task
sequential_step t = sequential_by (stand_of t) t
