-- Runs: lists of actions that apply one after the other, with their events and their end (this project's rule: one action is the atomic step).
use Rattle.std.specs.Prelude.{◌≡◌, true, List, [], ◌∷◌, ◌++◌, option_to_list}
use Rattle.event_machine.specs.declared.Action.{Action}
use Rattle.event_machine.specs.declared.Event.{Event}
use Rattle.event_machine.specs.States.{Rules, State}
use Rattle.event_machine.specs.Applying.{can}
use Rattle.event_machine.specs.Effects.{after, event_of}

-- All actions apply, one after the other, from the state.
abbrev pub IsRun : {L C : Type 0} → Rules L C → State C → List Action → Type 0
IsRun rules s [] = Unit {0}
IsRun rules s (action ∷ actions) = (can rules s action ≡ true) × IsRun rules (after rules s action) actions

-- the state after the actions
abbrev pub end_of : {L C : Type 0} → Rules L C → State C → List Action → State C
end_of rules s [] = s
end_of rules s (action ∷ actions) = end_of rules (after rules s action) actions

-- the events of the actions, in order
abbrev pub events_of : {L C : Type 0} → Rules L C → State C → List Action → List Event
events_of rules s [] = []
events_of rules s (action ∷ actions) = option_to_list (event_of rules s action) ++ events_of rules (after rules s action) actions

-- Some run from the state has exactly these events.
abbrev pub Feasible : {L C : Type 0} → Rules L C → State C → List Event → Type 0
Feasible rules s events = (actions : List Action) × IsRun rules s actions × (events_of rules s actions ≡ events)
