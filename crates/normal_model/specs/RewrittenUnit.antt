-- What a rewriter works on: one unit of a program, with what it must know of the whole (this project's rule).
use Rattle.std.specs.Prelude.{ℕ}
use Rattle.task_model.specs.Setting.{Setting}

-- A unit as it is rewritten: the program with its types and numbers, and the number of a task that runs the unit.
pub record RewrittenUnit : Type 0 where
  pub setting : Setting
  pub task : ℕ
