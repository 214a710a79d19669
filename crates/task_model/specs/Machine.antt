-- The table of actions for the tasks of one program, which are kept in a list by their numbers, and how a program starts (9; activation is no step by this project's rule).
use Rattle.std.specs.Prelude.{ℕ, ℤ, zero, suc, false, List, [], ◌∷◌, ◌++◌, length, Option}
use Rattle.ada_tree.specs.TypeTable.{TypeTable}
use Rattle.ada_tree.specs.PlainProgram.{PProgram}
use Rattle.event_machine.specs.declared.Action.{Action}
use Rattle.event_machine.specs.declared.Event.{Event}
use Rattle.event_machine.specs.States as seats
use Rattle.event_machine.specs.Applying as applying
use Rattle.event_machine.specs.Effects as effects
use Rattle.syn_event.specs.Numbering.{Numbering, owner_of}
use Rattle.task_model.specs.Setting.{Setting}
use Rattle.task_model.specs.Tasks.{Task}
use Rattle.task_model.specs.Starting.{started}
use Rattle.task_model.specs.TaskOps.{task_ops}

-- What a program starts from: its tree, its types, and the input of each task.
pub record ProgramWithInputs : Type 0 where
  pub program : PProgram
  pub types : TypeTable
  pub inputs : List (List ℤ)

-- The tasks of a program with their standings, in the order of their numbers.
abbrev pub Tasks : Type 0
Tasks = List (seats.Seat Task)

-- The machine: the program's numbers, and the state of its tasks, queues and end.
pub record MachineState : Type 0 where
  pub numbers : Numbering
  pub state : seats.State Tasks

-- The rules of a program with these numbers.
abbrev pub rules_of : Numbering → seats.Rules Task Tasks
rules_of numbers = record { ops = task_ops; store = seats.on_list task_ops; owner = owner_of numbers }

-- The list of the actions that apply, in their order.
abbrev pub enabled_of : MachineState → List Action
enabled_of m = applying.enabled_of (rules_of m.numbers) m.state

-- The machine after an action.
abbrev pub after : MachineState → Action → MachineState
after m action = record { numbers = m.numbers; state = effects.after (rules_of m.numbers) m.state action }

-- The event of an action, if it has one.
abbrev pub event_of : MachineState → Action → Option Event
event_of m action = effects.event_of (rules_of m.numbers) m.state action

-- ---- the start

-- what each task reads of a program: its tree and types, with the numbers of its tasks and entries
abbrev pub setting_of : ProgramWithInputs → Numbering → Setting
setting_of setup numbers = record { program = setup.program; types = setup.types; numbers = numbers }

-- the first n tasks, in order
abbrev pub first_tasks : ProgramWithInputs → Numbering → ℕ → Tasks
first_tasks setup numbers zero = []
first_tasks setup numbers (suc n) = first_tasks setup numbers n ++ (seats.live (started (setting_of setup numbers) setup.inputs n)) ∷ []

-- The machine as a program starts: all tasks are live at their first statement.
abbrev pub opening_of : ProgramWithInputs → Numbering → MachineState
opening_of setup numbers = record {
  numbers = numbers;
  state = record { seats = first_tasks setup numbers (length numbers.tasks); line = []; ended = false };
}
