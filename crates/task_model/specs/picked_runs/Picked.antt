-- The run that given choices pick: each turn makes the action, among those that apply in their order, at the place that the next choice names (this project's rule).
use Rattle.std.specs.Prelude.{ℕ, zero, suc, ◌+◌, ◌%◌, Bool, true, false, List, [], ◌∷◌, ◌++◌, length, slice_index_or, Option, Some, None, option_to_list, unwrap_or, if◌then◌else◌}
use Rattle.event_machine.specs.declared.Action.{Action}
use Rattle.event_machine.specs.declared.Action.TheVariants.{End}
use Rattle.event_machine.specs.declared.Event.{Event}
use Rattle.task_model.specs.Machine.{MachineState, enabled_of, after, event_of}
use Rattle.task_model.specs.declared.picked_runs.report.RunEnd.{RunEnd}
use Rattle.task_model.specs.declared.picked_runs.report.RunEnd.TheVariants.{Ended, Stuck, Turns}

-- Where a run stands: the machine, what is left of the choices, the events so far, and how many actions were made.
pub record Position (C : Type 0) : Type 0 where
  pub machine : MachineState
  pub chooser : C
  pub events : List Event
  pub made : ℕ

-- the run has made nothing yet
abbrev pub start_position : {C : Type 0} → MachineState → C → Position C
start_position m c = record { machine = m; chooser = c; events = []; made = 0 }

-- the list has no action
abbrev pub is_nil : List Action → Bool
is_nil [] = true
is_nil (action ∷ actions) = false

-- how a run ends here by itself: the program has ended, or no action applies
abbrev pub halted : MachineState → Option RunEnd
halted m = if m.state.ended then Some Ended else (if is_nil (enabled_of m) then Some Stuck else None)

-- the action at the place that the word of the choices names, counted from 0, modulo the number of those that apply
abbrev pub picked_action : MachineState → ℕ → Action
picked_action m word = slice_index_or (enabled_of m) (word % length (enabled_of m)) End

-- one more action, which applies, was made
abbrev pub with_action : {C : Type 0} → (C → C) → Position C → Action → Position C
with_action next p action = record {
  machine = after p.machine action;
  chooser = next p.chooser;
  events = p.events ++ option_to_list (event_of p.machine action);
  made = p.made + 1;
}

-- a turn: the picked action, or nothing where the run has ended by itself
abbrev pub turned_by : {C : Type 0} → (C → ℕ) → (C → C) → Position C → Option RunEnd → Position C
turned_by word next p (Some end) = p
turned_by word next p None = with_action next p (picked_action p.machine (word p.chooser))

-- where the run stands after one turn more (this project's rule)
abbrev pub turned : {C : Type 0} → (C → ℕ) → (C → C) → Position C → Position C
turned word next p = turned_by word next p (halted p.machine)

-- the run after n turns
abbrev pub after_turns : {C : Type 0} → (C → ℕ) → (C → C) → ℕ → Position C → Position C
after_turns word next zero p = p
after_turns word next (suc n) p = turned word next (after_turns word next n p)

-- The picked run of at most n actions from a machine and choices.
abbrev pub picked : {C : Type 0} → (C → ℕ) → (C → C) → ℕ → MachineState → C → Position C
picked word next n m c = after_turns word next n (start_position m c)

-- How a run ends that stands here when its turns are spent.
abbrev pub run_end : {C : Type 0} → Position C → RunEnd
run_end p = unwrap_or (halted p.machine) Turns
