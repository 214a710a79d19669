-- What a list of events is found to be, with so many local steps allowed to a task between the events that change it (this project's rule).
use Rattle.std.specs.Prelude.{◌≡◌, ℕ, ◌+◌, List, [], ◌∷◌, ◌++◌, length, All, Some}
use Rattle.event_machine.specs.declared.Event.{Event}
use Rattle.event_machine.specs.declared.Standing.{Standing}
use Rattle.event_machine.specs.States as seats
use Rattle.syn_event.specs.Numbering.{Numbering}
use Rattle.task_model.specs.Machine.{ProgramWithInputs}
use Rattle.task_machine.specs.declared.verdict.Why.{Why}
use Rattle.task_machine.specs.declared.verdict.Verdict.{Verdict}
use Rattle.task_machine.specs.declared.verdict.Verdict.TheVariants.{Feasible, Infeasible, Unsettled}
use Rattle.task_machine.specs.Views.{IsFeasible, IsOpenAt, StandsInSomeRun, View, ViewIs}
use Rattle.task_machine.specs.Conditions.{is_closed_view, needed_of, first_failing}

-- The views of the tasks that the event needs; of any other task it counts only whether it is closed.
pub record AreViews (setup : ProgramWithInputs) (numbers : Numbering) (events : List Event) (e : Event) (views : ℕ → View) : Type 0 where
  pub needed : All (λ t. ViewIs setup numbers events t (views t)) (needed_of numbers e)
  pub closed : (t : ℕ) → (z : Standing) × StandsInSomeRun setup numbers events t z × (seats.is_closed z ≡ is_closed_view (views t))

-- none of the tasks is open at the bound after the events
abbrev pub NoneOpen : ProgramWithInputs → Numbering → ℕ → List Event → List ℕ → Type 0
NoneOpen setup numbers bound events tasks = All (λ t. IsOpenAt setup numbers events t bound → ⊥) tasks

-- Each event in turn finds none of the tasks that it needs open, and is feasible behind those before it.
abbrev pub AllFeasible : ProgramWithInputs → Numbering → ℕ → List Event → Type 0
AllFeasible setup numbers bound events =
    (before rest : List Event) (e : Event) → events ≡ before ++ e ∷ rest →
    NoneOpen setup numbers bound before (needed_of numbers e) × IsFeasible setup numbers (before ++ e ∷ [])

-- The event at this place, counted from 1, is e, and all went well before it.
pub record IsReached (setup : ProgramWithInputs) (numbers : Numbering) (bound : ℕ) (events : List Event) (at : ℕ) (before : List Event) (e : Event) : Type 0 where
  pub rest : List Event
  pub splits : events ≡ before ++ e ∷ rest
  pub place : at ≡ length before + 1
  pub went_well : AllFeasible setup numbers bound before

-- The event at this place is not feasible though none of the tasks that it needs is open; the first of its conditions that fails is why.
pub record IsInfeasibleAt (setup : ProgramWithInputs) (numbers : Numbering) (bound : ℕ) (events : List Event) (at : ℕ) (why : Why) : Type 0 where
  pub before : List Event
  pub event : Event
  pub reached : IsReached setup numbers bound events at before event
  pub none_open : NoneOpen setup numbers bound before (needed_of numbers event)
  pub infeasible : IsFeasible setup numbers (before ++ event ∷ []) → ⊥
  pub views : ℕ → View
  pub seen : AreViews setup numbers before event views
  pub fails : first_failing numbers views event ≡ Some why

-- At this place the task is the first of those that the event needs that is open.
pub record IsHeldUp (setup : ProgramWithInputs) (numbers : Numbering) (bound : ℕ) (events : List Event) (at task : ℕ) : Type 0 where
  pub before : List Event
  pub event : Event
  pub reached : IsReached setup numbers bound events at before event
  pub earlier : List ℕ
  pub later : List ℕ
  pub order : needed_of numbers event ≡ earlier ++ task ∷ later
  pub none_open : NoneOpen setup numbers bound before earlier
  pub stays_open : IsOpenAt setup numbers before task bound

-- The verdict of a list of events, where a task may make so many local steps since the last event that changed it.
abbrev pub VerdictIs : ProgramWithInputs → Numbering → ℕ → List Event → Verdict → Type 0
VerdictIs setup numbers bound events Feasible = AllFeasible setup numbers bound events
VerdictIs setup numbers bound events (Infeasible at why) = IsInfeasibleAt setup numbers bound events at why
VerdictIs setup numbers bound events (Unsettled at task) = IsHeldUp setup numbers bound events at task
