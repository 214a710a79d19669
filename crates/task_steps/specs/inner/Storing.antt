-- What comes of a value that goes to a target (5.2, 14.3).
use Rattle.std.specs.Prelude.{ℕ}
use Rattle.ada_tree.specs.PlainStmt.{PTarget, PStmts}
use Rattle.ada_value.specs.declared.values.Value.{Value}
use Rattle.task_model.specs.Tasks.{Task, with_vars, gone_to, or_raised}
use Rattle.task_model.specs.Steps.{stored}

-- The task after a value has gone to a place of a target: behind the statement, or, outside the target's subtype, as CONSTRAINT_ERROR is raised (5.2, 14.3).
abbrev pub store_step : PTarget → ℕ → Value → PStmts → Task → Task
store_step target k v behind t = or_raised (λ vars. gone_to behind (with_vars t vars)) t (stored t target k v)
