-- For which list of events what a judge keeps stands (this project's rule).
use Rattle.std.specs.Prelude.{◌≡◌, ℕ, ◌+◌, ◌<◌, ◌≤◌, Bool, true, false, List, [], ◌∷◌, ◌++◌, length, take, slice_index, ⊤}
use Rattle.event_machine.specs.declared.Event.{Event}
use Rattle.event_machine.specs.declared.Event.TheVariants.{Z}
use Rattle.event_machine.specs.States.{is_live}
use Rattle.event_machine.specs.Settling.{Leads, Follows}
use Rattle.event_machine.specs.Worlds.{World, is_last}
use Rattle.syn_event.specs.Numbering.{Numbering}
use Rattle.task_model.specs.Laws.{program_in, first_world}
use Rattle.task_model.specs.Machine.{ProgramWithInputs, Tasks}
use Rattle.task_model.specs.Stands.{can_step}
use Rattle.task_model.specs.Tasks.{Task}
use Rattle.task_machine.specs.declared.verdict.Verdict.{Verdict}
use Rattle.task_machine.specs.declared.verdict.Verdict.TheVariants.{Feasible, Infeasible, Unsettled}
use Rattle.task_machine.specs.Judging.{VerdictIs}
use Rattle.task_machine.specs.Table.{seat_of}
use Rattle.feasible.specs.Kept.{Kept}

-- kept tasks as a world
abbrev pub world_kept : Tasks → Bool → World Task
world_kept tasks ended = record { tasks = λ t. seat_of tasks t; ended = ended }

-- The tasks are kept for these events: the events lead from the opening to bases, each task is its base run on by its count of local steps, and
-- no count is above the bound.
pub record AreKept (setup : ProgramWithInputs) (numbers : Numbering) (bound : ℕ) (events : List Event) (tasks : Tasks) (steps : List ℕ) (ended : Bool) : Type 0 where
  pub bases : World Task
  pub leads : Leads (program_in setup numbers) (first_world setup numbers) events bases
  pub follows : Follows (program_in setup numbers) bases (world_kept tasks ended) (λ t. slice_index steps t)
  pub size : length tasks ≡ length numbers.tasks
  pub counts : length steps ≡ length numbers.tasks
  pub within : (t : ℕ) → slice_index steps t ≤ bound

-- how many of the events have happened, by the verdict on them
abbrev pub Counts : List Event → ℕ → Verdict → Type 0
Counts events taken Feasible = taken ≡ length events
Counts events taken (Infeasible at why) = (at ≡ taken + 1) × (taken < length events)
Counts events taken (Unsettled at task) = (at ≡ taken + 1) × (taken < length events)

-- The judge stands for this list of events: its verdict is that of the list, and its tasks are kept for those of the events that have happened.
pub record StandsFor (setup : ProgramWithInputs) (events : List Event) (judge : Kept) : Type 0 where
  pub memory : judge.lost ≡ false
  pub verdict : VerdictIs setup judge.numbers judge.bound events judge.verdict
  pub counts : Counts events judge.taken judge.verdict
  pub keeps : AreKept setup judge.numbers judge.bound (take judge.taken events) judge.tasks judge.steps judge.ended

-- Nothing follows the end of the program.
abbrev pub NothingFollows : List Event → Type 0
NothingFollows [] = ⊤
NothingFollows (e ∷ rest) = (is_last e ≡ true → rest ≡ []) × NothingFollows rest

-- the judge has found its events feasible
abbrev pub is_feasible : Verdict → Bool
is_feasible Feasible = true
is_feasible (Infeasible at why) = false
is_feasible (Unsettled at task) = false

abbrev pub is_infeasible : Verdict → Bool
is_infeasible Feasible = false
is_infeasible (Infeasible at why) = true
is_infeasible (Unsettled at task) = false

-- The task is closed, served or settled: where it is free, it has no local step left.
abbrev pub IsSettled : Tasks → ℕ → Type 0
IsSettled tasks t = is_live (seat_of tasks t).standing ≡ true → can_step (seat_of tasks t).local ≡ false

-- The last of the events is the end of the program.
abbrev pub HaveEnded : List Event → Type 0
HaveEnded events = (front : List Event) × (events ≡ (front ++ Z ∷ []))
