-- The parts of a task as the code has them: the task that they are, and what is always true of them.
use Rattle.std.specs.Prelude.{◌≡◌, ◌<◌, ◌≤◌, ◌^◌}
use Rattle.std.specs.Vec.{vec_capacity}
use Rattle.task_model.specs.Tasks.{Task, rest_of}
use Rattle.task_model.specs.Stands.{stand_of}
use Rattle.task_local.specs.room.Fitting.{HasRoom}
use Rattle.task_state.specs.Plain.{plain_task}
use Rattle.task_waits.specs.Standing.{stand_as}
use Rattle.task_local.specs.declared.task_parts.TaskParts.{TaskParts}
use Rattle.task_local.specs.inner.Local.{Local, IsWithin, behind_names}

-- the task
abbrev pub task_of : TaskParts → Task
task_of p = behind_names p.passed (plain_task p.state)

-- the task, and whether there is room for one more frame
abbrev pub local_of : TaskParts → Local
local_of p = record { task = task_of p; reserved = p.state.frames.reserved }

-- The list has room for the choices of each wait to which the task can come.
pub record IsRoomy (p : TaskParts) (t : Task) : Type 0 where
  pub room : HasRoom p.widest t
  pub wide : p.widest ≤ vec_capacity p.choices
  pub few : p.widest < 2 ^ 32

-- What is always true: the stand that is kept is where the task stands, and the list has room for each one that can come.
pub record IsInOrder (p : TaskParts) : Type 0 where
  pub stand : stand_as p.stand p.choices.items ≡ stand_of (task_of p)
  pub within : IsWithin p.passed (rest_of (plain_task p.state))
  pub roomy : IsRoomy p (task_of p)
