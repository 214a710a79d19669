-- What the judge's step does, as the code does it: the needed tasks run on, then the conditions, then the event.
use Rattle.std.specs.Prelude.{◌≡◌, ℕ, ◌+◌, Bool, ◌||◌, if◌then◌else◌, List, [], ◌∷◌, ◌++◌, take, All, Some, None}
use Rattle.event_machine.specs.declared.Event.{Event}
use Rattle.event_machine.specs.Worlds.{acted, is_last}
use Rattle.syn_event.specs.Numbering.{Numbering}
use Rattle.task_model.specs.Machine.{ProgramWithInputs, Tasks, rules_of}
use Rattle.task_machine.specs.declared.verdict.Verdict.{Verdict}
use Rattle.task_machine.specs.declared.verdict.Verdict.TheVariants.{Feasible, Infeasible, Unsettled}
use Rattle.task_machine.specs.Conditions.{needed_of}
use Rattle.task_machine.specs.Judging.{VerdictIs}
use Rattle.feasible.specs.Failing.{asked}
use Rattle.feasible.specs.Keeping.{AreKept, Counts, IsSettled, is_feasible}
use Rattle.feasible.specs.inner.Needs.{HaveRun, Settled}
use Rattle.feasible.specs.inner.Recounts.{AreRecounted}

-- the verdict on the event, and what it leaves of the tasks that were run on
abbrev pub Leaves : Numbering → ℕ → ℕ → Event → Tasks → List ℕ → Tasks → List ℕ → Verdict → Type 0
Leaves numbers bound taken e tasks steps tasks' steps' Feasible =
    All (IsSettled tasks) (needed_of numbers e) × (asked numbers tasks e ≡ None)
    × (tasks' ≡ acted (rules_of numbers) tasks e) × AreRecounted numbers tasks e steps steps'
Leaves numbers bound taken e tasks steps tasks' steps' (Infeasible at why) =
    (at ≡ taken + 1) × All (IsSettled tasks) (needed_of numbers e) × (asked numbers tasks e ≡ Some why)
    × (tasks' ≡ tasks) × (steps' ≡ steps)
Leaves numbers bound taken e tasks steps tasks' steps' (Unsettled at t) =
    (at ≡ taken + 1) × Settled bound tasks steps (needed_of numbers e) (Some t) × (tasks' ≡ tasks) × (steps' ≡ steps)

-- The tasks that the event needs have run on, and then the verdict is this.
pub record IsDecided (numbers : Numbering) (bound taken : ℕ) (e : Event) (tasks : Tasks) (steps : List ℕ) (tasks' : Tasks) (steps' : List ℕ) (v : Verdict) : Type 0 where
  pub found : Tasks
  pub counted : List ℕ
  pub run : HaveRun bound tasks steps found counted
  pub leaves : Leaves numbers bound taken e found counted tasks' steps' v

-- how many events have happened, and whether the last was Z, with one more of this verdict
abbrev pub taken_with : Verdict → ℕ → ℕ
taken_with v taken = if is_feasible v then taken + 1 else taken

abbrev pub ended_with : Verdict → Event → Bool → Bool
ended_with v e ended = if is_feasible v then is_last e || ended else ended

-- With one more event the verdict is this, and what is kept stands for the events that have happened.
pub record GoesOn (setup : ProgramWithInputs) (numbers : Numbering) (bound : ℕ) (events : List Event) (e : Event) (taken : ℕ) (ended : Bool) (tasks' : Tasks) (steps' : List ℕ) (v : Verdict) : Type 0 where
  pub verdict : VerdictIs setup numbers bound (events ++ e ∷ []) v
  pub counts : Counts (events ++ e ∷ []) (taken_with v taken) v
  pub keeps : AreKept setup numbers bound (take (taken_with v taken) (events ++ e ∷ [])) tasks' steps' (ended_with v e ended)
