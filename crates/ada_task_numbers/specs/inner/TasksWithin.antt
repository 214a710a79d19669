-- Members of an array of tasks, as they are counted.
use Rattle.std.specs.Prelude.{ℕ, ℤ, List, map, Some}
use Rattle.syn_event.specs.NamedTasks.{NamedTasks, NumberedTask, numbered_task, numbers_on}

-- so many members from an index on
abbrev pub tasks_within : NamedTasks → ℤ → ℕ → List NumberedTask
tasks_within x first n = map (λ i. numbered_task x (Some i)) (numbers_on first n)
