-- What earlier events tell is so of every run of a program, and refuses nothing that is feasible (this project's rule).
use Rattle.std.specs.Prelude.{◌≡◌, ℕ, Bool, true, List, [], ◌∷◌, ◌++◌, length, None}
use Rattle.event_machine.specs.declared.Action.{Action}
use Rattle.event_machine.specs.declared.Event.{Event}
use Rattle.event_machine.specs.States.{State}
use Rattle.event_machine.specs.Runs.{IsRun, end_of, events_of}
use Rattle.event_machine.specs.progress.Known.{Known, known_at_start, admits, advanced}
use Rattle.event_machine.specs.progress.Laws.{Opened}
use Rattle.syn_event.specs.Numbering.{Numbering, owner_of}
use Rattle.task_model.specs.Tasks.{Task}
use Rattle.task_model.specs.TaskOps.{task_ops}
use Rattle.task_model.specs.Machine.{ProgramWithInputs, Tasks, MachineState, rules_of, opening_of}
use Rattle.task_model.specs.picked_runs.Picked.{halted, picked}
use Rattle.task_machine.specs.Table.{can}
use Rattle.task_machine.specs.declared.verdict.Verdict.TheVariants.{Feasible}
use Rattle.task_machine.specs.Views.{IsFeasible}
use Rattle.task_machine.specs.Judging.{VerdictIs}
use Rattle.progress_law.specs.Telling.{known_in, IsSoIn}

-- What is known goes on event by event: before the first event all tasks are free, and one event more changes it as `advanced` says. So a `Progress` that is
-- made for the numbers, and that has gone on by some events, stands for these.
abbrev pub KnownByEvent : Type 0
KnownByEvent =
    (numbers : Numbering) → (known_in numbers [] ≡ known_at_start (length numbers.tasks)) ×
    ((events : List Event) (e : Event) → known_in numbers (events ++ e ∷ []) ≡ advanced (owner_of numbers) (known_in numbers events) e)

-- After each run what its events tell is so.
abbrev pub EventsTell : Type 0
EventsTell =
    (setup : ProgramWithInputs) (numbers : Numbering) (actions : List Action) → IsRun (rules_of numbers) (opening_of setup numbers).state actions →
    IsSoIn (known_in numbers (events_of (rules_of numbers) (opening_of setup numbers).state actions)) (end_of (rules_of numbers) (opening_of setup numbers).state actions)

-- An event that is feasible next is admitted by what the events before it tell.
abbrev pub FeasibleIsAdmitted : Type 0
FeasibleIsAdmitted =
    (setup : ProgramWithInputs) (numbers : Numbering) (events : List Event) (e : Event) →
    IsFeasible setup numbers (events ++ e ∷ []) → admits (owner_of numbers) (known_in numbers events) e ≡ true

-- Each event of a sequence that is judged feasible is admitted by what the events before it tell.
abbrev pub JudgedIsAdmitted : Type 0
JudgedIsAdmitted =
    (setup : ProgramWithInputs) (numbers : Numbering) (bound : ℕ) (events : List Event) → VerdictIs setup numbers bound events Feasible →
    (before rest : List Event) (e : Event) → events ≡ before ++ e ∷ rest → admits (owner_of numbers) (known_in numbers before) e ≡ true

-- The answer to whether an event can come next never refuses one that is feasible: it is yes wherever what is known is what some events tell, and the event is
-- feasible next after these.
abbrev pub NeverRefuses : Numbering → Known → Event → Bool → Type 0
NeverRefuses numbers k e answer =
    (setup : ProgramWithInputs) (events : List Event) → k ≡ known_in numbers events → IsFeasible setup numbers (events ++ e ∷ []) → answer ≡ true

-- Some run from the state has these events and comes to this machine.
pub record IsReached (numbers : Numbering) (s : State Tasks) (m : MachineState) (events : List Event) : Type 0 where
  pub actions : List Action
  pub applies : IsRun (rules_of numbers) s actions
  pub has_events : events_of (rules_of numbers) s actions ≡ events
  pub ends : record { numbers = numbers; state = end_of (rules_of numbers) s actions } ≡ m

-- The run that choices pick is a run: a run from the opening has its events and comes to its machine.
abbrev pub PickedIsRun : Type 0 → Type 0
PickedIsRun C =
    (word : C → ℕ) (next : C → C) (setup : ProgramWithInputs) (numbers : Numbering) (turns : ℕ) (choices : C) →
    let p = picked word next turns (opening_of setup numbers) choices in
    IsReached numbers (opening_of setup numbers).state p.machine p.events

-- Where a run halts by itself, since the program has ended or the list of the actions that apply is empty, no action applies.
abbrev pub HaltedIsOver : Type 0
HaltedIsOver = (m : MachineState) → (halted m ≡ None → ⊥) → (action : Action) → can m action ≡ true → ⊥

-- So what the events of the run that choices pick tell is so of its machine.
abbrev pub PickedEventsTell : Type 0 → Type 0
PickedEventsTell C =
    (word : C → ℕ) (next : C → C) (setup : ProgramWithInputs) (numbers : Numbering) (turns : ℕ) (choices : C) →
    let p = picked word next turns (opening_of setup numbers) choices in
    IsSoIn (known_in numbers p.events) p.machine.state

-- The program as abstract tasks in an opening state, which are these tasks in their opening state.
pub record IsInstance (setup : ProgramWithInputs) (numbers : Numbering) : Type 0 where
  pub opened : Opened Task
  pub ops : opened.ops ≡ task_ops
  pub owner : opened.owner ≡ owner_of numbers
  pub state : opened.state ≡ (opening_of setup numbers).state

-- Each program is what the laws of abstract tasks speak of.
abbrev pub AreInstances : Type 0
AreInstances = (setup : ProgramWithInputs) (numbers : Numbering) → IsInstance setup numbers
