-- What a task has written where the runs with these events come to rest (this project's rule).
use Rattle.std.specs.Prelude.{◌≡◌, ℕ, List}
use Rattle.event_machine.specs.declared.Action.{Action}
use Rattle.event_machine.specs.declared.Event.{Event}
use Rattle.event_machine.specs.Laws.{IsQuiet}
use Rattle.event_machine.specs.Programs.{task_of}
use Rattle.event_machine.specs.Runs.{IsRun, end_of, events_of}
use Rattle.event_machine.specs.States.{State}
use Rattle.syn_event.specs.Numbering.{Numbering}
use Rattle.task_model.specs.Machine.{ProgramWithInputs, Tasks, rules_of, opening_of}
use Rattle.task_model.specs.TaskOps.{task_ops}
use Rattle.task_machine.specs.Table.{seat_of}

-- The state is the end of a run of the program with exactly these events, and no live task has a local step there.
pub record IsQuietEnd (setup : ProgramWithInputs) (numbers : Numbering) (events : List Event) (s : State Tasks) : Type 0 where
  pub actions : List Action
  pub applies : IsRun (rules_of numbers) (opening_of setup numbers).state actions
  pub has_events : events_of (rules_of numbers) (opening_of setup numbers).state actions ≡ events
  pub ends : end_of (rules_of numbers) (opening_of setup numbers).state actions ≡ s
  pub quiet : IsQuiet task_ops (task_of (rules_of numbers) s)

-- The output of the task: each run with these events that ends quiet leaves it with this text.
abbrev pub IsOutput : ProgramWithInputs → Numbering → List Event → ℕ → List ℕ → Type 0
IsOutput setup numbers events t output = (s : State Tasks) → IsQuietEnd setup numbers events s → (seat_of s.seats t).local.output ≡ output
