-- What is true of the names of a normal form while they are given: those of the program and of the members of its arrays of tasks stand there, and those of the first variables behind them.
use Rattle.std.specs.Prelude.{◌≡◌, ◌<◌, ℕ, length, map, slice_get, Some}
use Rattle.normal_lookups.specs.declared.names.names.NormalNames.{NormalNames}
use Rattle.task_model.specs.Setting.{Setting}
use Rattle.normal_model.specs.Names.{normal_names, task_name, variable_name}

-- These are the names of the normal form of this program, as far as they are given.
pub record AreNamesOf (g : Setting) (n : NormalNames) : Type 0 where
  -- the texts, up to those of the variables that have a name
  pub texts : n.names ≡ normal_names g (length n.variables.items)
  -- the name of each task, by its number
  pub tasks : n.tasks.items ≡ map (task_name g) g.numbers.tasks
  -- the name of each of these variables
  pub variables : (k : ℕ) → k < length n.variables.items → slice_get n.variables.items k ≡ Some (variable_name g k)
