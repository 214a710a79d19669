-- What runs come to, with the local steps of each task since the last event that changed it; and what so is true of a task after a list of events.
use Rattle.std.specs.Prelude.{◌≡◌, ℕ, Bool, true, false, not, ◌==◌, if◌then◌else◌, suc, List, [], ◌∷◌, ◌++◌, Option, Some, None}
use Rattle.std.specs.List.{list_all}
use Rattle.event_machine.specs.declared.Standing.{Standing}
use Rattle.event_machine.specs.declared.Action.{Action}
use Rattle.event_machine.specs.declared.Action.TheVariants.{Local, Arrive, Start, Finish, Else, Delay, CallElse, Expire, Fail, Complete, Abort, End}
use Rattle.event_machine.specs.declared.Event.{Event}
use Rattle.event_machine.specs.declared.Event.TheVariants.{R, E, S, D, C, T, F, X, B, Z}
use Rattle.event_machine.specs.States.{Ops, Seat, State, Rules, live}
use Rattle.event_machine.specs.Effects.{event_of, after}
use Rattle.event_machine.specs.Runs.{IsRun, end_of, events_of}
use Rattle.event_machine.specs.Programs.{task_of}
use Rattle.event_machine.specs.Worlds.{still, changes, is_last}

-- t makes a local step in the action
abbrev pub is_step_of : ℕ → Action → Bool
is_step_of t (Local u) = t == u
is_step_of t (Arrive u) = false
is_step_of t (Start c) = false
is_step_of t (Finish a) = false
is_step_of t (Else a) = false
is_step_of t (Delay a k) = false
is_step_of t (CallElse c) = false
is_step_of t (Expire c) = false
is_step_of t (Fail c) = false
is_step_of t (Complete a) = false
is_step_of t (Abort u) = false
is_step_of t End = false

-- the event of an action, if it has one, changes t
abbrev pub is_changed : {L : Type 0} → Ops L → (ℕ → ℕ) → (ℕ → Seat L) → Option Event → ℕ → Bool
is_changed ops owner tasks None t = false
is_changed ops owner tasks (Some e) t = changes ops owner tasks e t

-- The tally: the local steps of each task since the last event that changed it, after one more action.
abbrev pub tallied : {L C : Type 0} → Rules L C → State C → Action → (ℕ → ℕ) → ℕ → ℕ
tallied rules s action tally t =
    if is_changed rules.ops rules.owner (task_of rules s) (event_of rules s action) t then 0
    else (if is_step_of t action then suc (tally t) else tally t)

-- the tallies after the actions
abbrev pub tallies : {L C : Type 0} → Rules L C → State C → List Action → (ℕ → ℕ) → ℕ → ℕ
tallies rules s [] tally = tally
tallies rules s (action ∷ actions) tally = tallies rules (after rules s action) actions (tallied rules s action tally)

-- Some run from the state has exactly these events, and leaves the tasks and their tallies so.
pub record ComesTo {L C : Type 0} (rules : Rules L C) (s : State C) (events : List Event) (tasks : ℕ → Seat L) (tally : ℕ → ℕ) : Type 0 where
  pub actions : List Action
  pub applies : IsRun rules s actions
  pub has_events : events_of rules s actions ≡ events
  pub leaves : (t : ℕ) → task_of rules (end_of rules s actions) t ≡ tasks t
  pub counts : (t : ℕ) → tallies rules s actions (λ u. 0) t ≡ tally t

-- Rest: in some run with these events t is live, has made exactly n local steps since the last event that changed it, and is in this state.
abbrev pub RestIs : {L C : Type 0} → Rules L C → State C → List Event → ℕ → ℕ → L → Type 0
RestIs {L} rules s events t n l =
    (tasks : ℕ → Seat L) × (tally : ℕ → ℕ) × ComesTo rules s events tasks tally × (tasks t ≡ live l) × (tally t ≡ n)

-- How t stands after the events, where one that waits or is queued is called live: in some run with these events it stands so.
abbrev pub StandsAfter : {L C : Type 0} → Rules L C → State C → List Event → ℕ → Standing → Type 0
StandsAfter {L} rules s events t standing =
    (tasks : ℕ → Seat L) × (tally : ℕ → ℕ) × ComesTo rules s events tasks tally × (still (tasks t).standing ≡ standing)

-- the events without the end of the program
abbrev pub before_end : List Event → List Event
before_end [] = []
before_end (e ∷ events) = if is_last e then [] else e ∷ before_end events

-- The program has not ended in the events.
abbrev pub HasNoEnd : List Event → Type 0
HasNoEnd events = list_all (λ e. not (is_last e)) events ≡ true

-- the event is the completion of t at the end of its body
abbrev pub is_completion : ℕ → Event → Bool
is_completion t (R c e i) = false
is_completion t (E a) = false
is_completion t (S a) = false
is_completion t (D a k) = false
is_completion t (C c e i) = false
is_completion t (T c e i) = false
is_completion t (F c e i) = false
is_completion t (X a) = t == a
is_completion t (B u x) = false
is_completion t Z = false

-- Killed: the task is aborted, and has not completed before at the end of its body.
abbrev pub IsKilledIn : List Event → ℕ → Type 0
IsKilledIn events t =
    (before rest : List Event) × (u : ℕ) × (events ≡ before ++ B u t ∷ rest) × (list_all (λ e. not (is_completion t e)) before ≡ true)
