-- What the tasks of a machine have written so far (14.3; that each task has an output of its own is this project's rule).
use Rattle.std.specs.Prelude.{ℕ, List, slice_index_or}
use Rattle.event_machine.specs.States as seats
use Rattle.task_model.specs.Starting.{nobody}
use Rattle.task_model.specs.Machine.{MachineState}

-- The bytes that the task of this number has written; a number that is no task's has none.
abbrev pub output_of : MachineState → ℕ → List ℕ
output_of m t = (slice_index_or m.state.seats t (seats.completed nobody)).local.output
