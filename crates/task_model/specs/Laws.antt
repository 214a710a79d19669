-- What holds of these tasks, and of all runs of each program from its opening: the laws of the machine at this instance.
use Rattle.std.specs.Prelude.{◌≡◌, ◌↔◌, ℕ, List, [], ◌∷◌, length}
use Rattle.event_machine.specs.declared.Event.{Event}
use Rattle.event_machine.specs.declared.Standing.TheVariants.{Live}
use Rattle.event_machine.specs.Lawful.{IsLawful}
use Rattle.event_machine.specs.Programs.{Program, IsOpening, by_number}
use Rattle.event_machine.specs.Runs.{Feasible}
use Rattle.event_machine.specs.Tallies.{RestIs, HasNoEnd}
use Rattle.event_machine.specs.Worlds.{World, world_of}
use Rattle.event_machine.specs.Settling.{ran, HasSteps, Leads}
use Rattle.event_machine.specs.Laws.{Determinacy, FirstLaw, SecondLaw, KilledByEvents, FeasibleAdmitted}
use Rattle.syn_event.specs.Numbering.{Numbering, owner_of}
use Rattle.task_model.specs.Frames.{Around, OwnBody, PFrame}
use Rattle.task_model.specs.Tasks.{Task}
use Rattle.task_model.specs.TaskOps.{task_ops}
use Rattle.task_model.specs.Machine.{ProgramWithInputs, rules_of, opening_of}

-- The unit's own body is the outermost frame, and each other one stands in a frame.
abbrev pub IsStack : Around → List PFrame → Type 0
IsStack (OwnBody handlers taken) parts = parts ≡ []
IsStack place [] = ⊥
IsStack place (part ∷ parts) = IsStack part.place parts

-- A task as it can come about: its frames stand so.
abbrev pub IsProper : Task → Type 0
IsProper t = IsStack t.control.top.place t.control.outer

-- Each task keeps the rules that the laws of the machine use: one with a local step offers nothing, and callers come and go with accept bodies alone (9.5).
abbrev pub TasksAreLawful : Type 0
TasksAreLawful = IsLawful task_ops IsProper

-- Each program opens with all its tasks live and in no accept body, and with no queues.
abbrev pub OpeningsOpen : Type 0
OpeningsOpen = (setup : ProgramWithInputs) (numbers : Numbering) → IsOpening (rules_of numbers) (opening_of setup numbers).state

-- Two runs with the same events leave each task standing alike, and a free one with the same number of local steps, a served and a completed one in the same state.
abbrev pub RunsAgree : Type 0
RunsAgree = (setup : ProgramWithInputs) (numbers : Numbering) → Determinacy (rules_of numbers) (opening_of setup numbers).state

-- A task that a run leaves killed was aborted in its events.
abbrev pub KilledIsAborted : Type 0
KilledIsAborted = (setup : ProgramWithInputs) (numbers : Numbering) → KilledByEvents (rules_of numbers) (opening_of setup numbers).state

-- First law: states that free tasks can have come to, each by itself, are had by one single run.
abbrev pub RestsMeet : Type 0
RestsMeet = (setup : ProgramWithInputs) (numbers : Numbering) → FirstLaw (rules_of numbers) (opening_of setup numbers).state

-- Second law: an event is feasible next exactly where the tasks that it needs come to rest and its conditions hold of them there.
abbrev pub FeasibleByConditions : Type 0
FeasibleByConditions = (setup : ProgramWithInputs) (numbers : Numbering) → SecondLaw (rules_of numbers) (opening_of setup numbers).state

-- An event that is feasible next is one that the standings after the events admit.
abbrev pub FeasibleIsAdmitted : Type 0
FeasibleIsAdmitted = (setup : ProgramWithInputs) (numbers : Numbering) → FeasibleAdmitted (rules_of numbers) (opening_of setup numbers).state

-- a program as the machine without queues has it: what its tasks do, the owner of each entry, and how many tasks there are
abbrev pub program_in : ProgramWithInputs → Numbering → Program Task
program_in setup numbers = record { ops = task_ops; owner = owner_of numbers; size = length (opening_of setup numbers).state.seats }

-- the world of a program as it starts: the state of each task, with no queues
abbrev pub first_world : ProgramWithInputs → Numbering → World Task
first_world setup numbers = world_of (by_number (program_in setup numbers) (opening_of setup numbers).state)

-- A list of events is feasible exactly where the machine without queues has a world behind it.
abbrev pub FeasibleExactly : Type 0
FeasibleExactly = (setup : ProgramWithInputs) (numbers : Numbering) (events : List Event) →
    Feasible (rules_of numbers) (opening_of setup numbers).state events ↔ ((w : World Task) × Leads (program_in setup numbers) (first_world setup numbers) events w)

-- What a free task can have come to after n local steps is its state in that world, run on by n; and each such state is had.
abbrev pub RestExactly : Type 0
RestExactly = (setup : ProgramWithInputs) (numbers : Numbering) (events : List Event) → HasNoEnd events → (t n : ℕ) (task : Task) →
    RestIs (rules_of numbers) (opening_of setup numbers).state events t n task ↔
    ((w : World Task) × Leads (program_in setup numbers) (first_world setup numbers) events w × ((w.tasks t).standing ≡ Live) × HasSteps task_ops n (w.tasks t).local × (task ≡ ran task_ops n (w.tasks t).local))
