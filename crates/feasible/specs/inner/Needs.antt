-- What running the needed tasks on leaves.
use Rattle.std.specs.Prelude.{◌≡◌, ℕ, zero, suc, ◌+◌, ◌≤◌, true, false, List, [], ◌∷◌, ◌++◌, length, slice_index, All, Option, Some, None}
use Rattle.event_machine.specs.States.{is_live}
use Rattle.event_machine.specs.Settling.{ran, HasSteps}
use Rattle.task_model.specs.Machine.{Tasks}
use Rattle.task_model.specs.Stands.{can_step}
use Rattle.task_model.specs.TaskOps.{task_ops}
use Rattle.task_model.specs.Tasks.{Task}
use Rattle.task_machine.specs.Table.{seat_of}
use Rattle.feasible.specs.Keeping.{IsSettled}

-- one task has made some more local steps, and they are counted
pub record HasRun (old : Task) (steps : ℕ) (new : Task) (counted : ℕ) : Type 0 where
  pub more : ℕ
  pub made : HasSteps task_ops more old
  pub state : new ≡ ran task_ops more old
  pub count : counted ≡ more + steps

-- free tasks have made some more local steps, which are counted, and none has passed the bound; all others are as they were
pub record HaveRun (bound : ℕ) (tasks : Tasks) (steps : List ℕ) (tasks' : Tasks) (steps' : List ℕ) : Type 0 where
  pub standing : (t : ℕ) → (seat_of tasks' t).standing ≡ (seat_of tasks t).standing
  pub each : (t : ℕ) → HasRun (seat_of tasks t).local (slice_index steps t) (seat_of tasks' t).local (slice_index steps' t)
  pub others : (t : ℕ) → is_live (seat_of tasks t).standing ≡ false → (seat_of tasks' t ≡ seat_of tasks t) × (slice_index steps' t ≡ slice_index steps t)
  pub size : length tasks' ≡ length tasks
  pub counts : length steps' ≡ length steps
  pub within : ((t : ℕ) → slice_index steps t ≤ bound) → (t : ℕ) → slice_index steps' t ≤ bound

-- the task is free, has made as many steps as are allowed, and has one more
pub record IsStuck (bound : ℕ) (tasks : Tasks) (steps : List ℕ) (t : ℕ) : Type 0 where
  pub free : is_live (seat_of tasks t).standing ≡ true
  pub more : can_step (seat_of tasks t).local ≡ true
  pub count : bound ≤ slice_index steps t

-- the task is the first of the needed ones that is stuck, and those before it are settled
pub record IsFirstStuck (bound : ℕ) (tasks : Tasks) (steps : List ℕ) (needed : List ℕ) (t : ℕ) : Type 0 where
  pub earlier : List ℕ
  pub later : List ℕ
  pub order : needed ≡ earlier ++ t ∷ later
  pub settled : All (IsSettled tasks) earlier
  pub stuck : IsStuck bound tasks steps t

-- all needed tasks are settled, or the first that is stuck is this
abbrev pub Settled : ℕ → Tasks → List ℕ → List ℕ → Option ℕ → Type 0
Settled bound tasks steps needed None = All (IsSettled tasks) needed
Settled bound tasks steps needed (Some t) = IsFirstStuck bound tasks steps needed t

-- the tasks below n, in order
abbrev pub tasks_below : ℕ → List ℕ
tasks_below zero = []
tasks_below (suc n) = tasks_below n ++ n ∷ []
