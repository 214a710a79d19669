-- What the code reads of the tasks of a program, which are kept in a list by their numbers: what stands at a number, and whether an action applies.
use Rattle.std.specs.Prelude.{ℕ, ℤ, ◌==◌, Bool, false, List, [], ◌∷◌, Option, Some, None, if◌then◌else◌, length, slice_index_or, slice_set}
use Rattle.event_machine.specs.declared.Action.{Action}
use Rattle.event_machine.specs.declared.Event.{Event}
use Rattle.event_machine.specs.Offers.{Offer}
use Rattle.event_machine.specs.States as seats
use Rattle.event_machine.specs.Applying as applying
use Rattle.event_machine.specs.Effects as effects
use Rattle.ada_value.specs.declared.values.Value.{Value}
use Rattle.ada_value.specs.declared.values.Raised.{Raised}
use Rattle.syn_event.specs.Numbering.{Numbering, owner_of}
use Rattle.task_model.specs.Setting.{Setting}
use Rattle.task_model.specs.Tasks.{Task}
use Rattle.task_model.specs.Stands.{offer_of}
use Rattle.task_model.specs.Rendezvous.{resumed_with}
use Rattle.task_model.specs.Starting.{nobody}
use Rattle.task_model.specs.TaskOps.{task_ops}
use Rattle.task_model.specs.Machine.{ProgramWithInputs, Tasks, MachineState, rules_of, opening_of}

-- the tasks are kept in a list
abbrev pub store : seats.Store Task Tasks
store = seats.on_list task_ops

-- the task of a number, with its standing
abbrev pub seat_of : Tasks → ℕ → seats.Seat Task
seat_of tasks t = slice_index_or tasks t (seats.completed nobody)

-- what a task offers that is kept so
abbrev pub offer_in_seat : seats.Seat Task → Offer
offer_in_seat seat = offer_of seat.local

-- a caller of the acceptor a as the rendezvous ends with this exception pending, or with these values; who is not served by a stays as it is
abbrev pub parted_with : ℕ → Option Raised → List Value → seats.Seat Task → seats.Seat Task
parted_with a pending values seat =
    if seats.is_served_by a seat.standing
    then (if seats.is_abnormal seat.standing then seats.completed seat.local else seats.live (resumed_with pending values seat.local))
    else seat

-- the tasks as the caller c leaves its rendezvous with the acceptor a, where it is another task
abbrev pub other_parted : ℕ → Option Raised → List Value → ℕ → Tasks → Tasks
other_parted a pending values c tasks = if c == a then tasks else slice_set tasks c (parted_with a pending values (seat_of tasks c))

-- the tasks as the first of these callers leaves its rendezvous with the acceptor a
abbrev pub first_parted : ℕ → Option Raised → List Value → List ℕ → Tasks → Tasks
first_parted a pending values [] tasks = tasks
first_parted a pending values (c ∷ callers) tasks = other_parted a pending values c tasks

-- the tasks as t aborts the task that its offer names
abbrev pub aborted_seats : Numbering → Tasks → ℕ → Option ℕ → Tasks
aborted_seats numbers tasks t None = tasks
aborted_seats numbers tasks t (Some x) = effects.abort_seats (rules_of numbers) tasks t x

-- the line of arrivals as the task that an offer names is aborted
abbrev pub aborted_line : Tasks → List ℕ → Option ℕ → List ℕ
aborted_line tasks line None = line
aborted_line tasks line (Some x) = if seats.is_closed (seat_of tasks x).standing then line else effects.without x line

-- what conditions read of tasks and the line of arrivals
abbrev pub seen_in : Tasks → List ℕ → seats.Seen Task
seen_in tasks line = record { tasks = λ t. seat_of tasks t; size = length tasks; line = line }

-- the condition of an action
abbrev pub applies_in : Numbering → Tasks → List ℕ → Action → Bool
applies_in numbers tasks line action = applying.action_applies task_ops (owner_of numbers) (seen_in tasks line) action

-- the machine of these parts
abbrev pub whole : Numbering → Tasks → List ℕ → Bool → MachineState
whole numbers tasks line ended = record { numbers = numbers; state = record { seats = tasks; line = line; ended = ended } }

-- The action applies to the machine.
abbrev pub can : MachineState → Action → Bool
can m action = applying.can (rules_of m.numbers) m.state action

-- the event of an action of these tasks; it depends on nothing else
abbrev pub event_in : Tasks → Action → Option Event
event_in tasks action = effects.event_of (rules_of nobody.setting.numbers) (record { seats = tasks; line = []; ended = false }) action

-- ---- a machine

-- what a program starts from that is set so, with the input of each task
abbrev pub setup_in : Setting → List (List ℤ) → ProgramWithInputs
setup_in g inputs = record { program = g.program; types = g.types; inputs = inputs }

-- The machine as the program that is set so starts.
abbrev pub opening_in : Setting → List (List ℤ) → MachineState
opening_in g inputs = opening_of (setup_in g inputs) g.numbers

-- What the task of a number has written (14.3).
abbrev pub output_of : MachineState → ℕ → List ℕ
output_of m t = (seat_of m.state.seats t).local.output
