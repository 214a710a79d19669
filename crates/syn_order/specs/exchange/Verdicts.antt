-- When all goes well with a list of events, where a task may make so many local steps since the last event that changed it (this project's rule).
use Rattle.std.specs.Prelude.{◌≡◌, ℕ, true, List, [], ◌∷◌, ◌++◌}
use Rattle.event_machine.specs.declared.Event.{Event}
use Rattle.event_machine.specs.States.{State, Rules}
use Rattle.event_machine.specs.Runs.{Feasible}
use Rattle.event_machine.specs.Worlds.{needs}
use Rattle.event_machine.specs.Tallies.{RestIs, before_end}
use Rattle.event_machine.specs.Laws.{program_of}

-- t is open at n after the events: in some run with them it is free, has made n local steps since the last event that changed it, and has one more.
abbrev pub IsOpenAt : {L C : Type 0} → Rules L C → State C → List Event → ℕ → ℕ → Type 0
IsOpenAt {L} rules s events t n = (l : L) × RestIs rules s (before_end events) t n l × (rules.ops.can_step l ≡ true)

-- Each event in turn finds none of the tasks that it needs open at the bound, and is feasible behind those before it.
abbrev pub AllFeasible : {L C : Type 0} → Rules L C → State C → ℕ → List Event → Type 0
AllFeasible rules s bound events =
    (before rest : List Event) (e : Event) → events ≡ before ++ e ∷ rest →
    ((t : ℕ) → needs (program_of rules s) e t ≡ true → IsOpenAt rules s before t bound → ⊥) × Feasible rules s (before ++ e ∷ [])
