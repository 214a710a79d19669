-- The run that a list of choices picks (this project's rule): each turn makes the action, among those that apply in their order, at the place that
-- the next choice names, counted from 0 and modulo their number. Past the end of the list the choice is 0.
use Rattle.std.specs.Prelude.{ℕ, zero, suc, ◌%◌, Bool, true, false, List, [], ◌∷◌, ◌++◌, length, map, slice_index_or, option_to_list, Option, Some, None}
use Rattle.event_machine.specs.declared.Action.{Action}
use Rattle.event_machine.specs.declared.Action.TheVariants.{End}
use Rattle.event_machine.specs.declared.Event.{Event}
use Rattle.task_model.specs.Machine.{MachineState, enabled_of, after, event_of}

-- How a run ends: the program has ended, no action applies, or its turns are spent.
pub data Ending : Type 0 where
  Ended : Ending
  Stuck : Ending
  Spent : Ending

-- A run: the machine behind it, its events, how many actions were made, and how it ends.
pub record Run : Type 0 where
  pub machine : MachineState
  pub events : List Event
  pub made : ℕ
  pub ending : Ending

-- a run of these parts
abbrev pub run_at : MachineState → List Event → ℕ → Ending → Run
run_at m events made ending = record { machine = m; events = events; made = made; ending = ending }

-- the next choice, which is 0 past the end of the list
abbrev pub first_choice : List ℕ → ℕ
first_choice [] = 0
first_choice (c ∷ rest) = c

-- the choices behind the next one
abbrev pub later_choices : List ℕ → List ℕ
later_choices [] = []
later_choices (c ∷ rest) = rest

-- how a run stands that has ended by itself, by whether the program has ended and which actions apply
abbrev pub halted : Bool → List Action → Option Ending
halted true actions = Some Ended
halted false [] = Some Stuck
halted false (action ∷ actions) = None

-- how a run ends at a machine that can go on no more
abbrev pub halted_at : MachineState → Option Ending
halted_at m = halted m.state.ended (enabled_of m)

-- the action that a choice names
abbrev pub action_at : List Action → ℕ → Action
action_at actions c = slice_index_or actions (c % length actions) End

-- how a run whose turns are spent ends: by itself, where its machine can go on no more
abbrev pub ending_or : Option Ending → Ending
ending_or (Some e) = e
ending_or None = Spent

-- what is left of a run of at most n turns, from a machine with these events and actions made
abbrev pub run_on : ℕ → MachineState → List ℕ → List Event → ℕ → Run
run_on zero m choices events made = run_at m events made (ending_or (halted_at m))
run_on (suc n) m choices events made = turned (halted_at m) (λ action. run_on n (after m action) (later_choices choices) (events ++ option_to_list (event_of m action)) (suc made))
  where
    turned : Option Ending → (Action → Run) → Run
    turned (Some e) more = run_at m events made e
    turned None more = more (action_at (enabled_of m) (first_choice choices))

-- What each task has written, in the order of their numbers.
abbrev pub outputs_of : MachineState → List (List ℕ)
outputs_of m = map (λ seat. seat.local.output) m.state.seats

-- The run of at most n turns that choices pick from a machine.
abbrev pub picked : ℕ → MachineState → List ℕ → Run
picked n m choices = run_on n m choices [] 0
