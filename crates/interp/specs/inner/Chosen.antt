-- What the code's turn decides, and how the making of an action may break off.
use Rattle.std.specs.Prelude.{◌≡◌, ℕ, true, List, Option, Some, None, option_to_list}
use Rattle.ded_io.specs.Counts.{Rose}
use Rattle.ded_io.specs.Written.{Began}
use Rattle.event_machine.specs.declared.Action.{Action}
use Rattle.syn_event.specs.Numbering.{Numbering}
use Rattle.task_model.specs.Machine.{MachineState, after, event_of}
use Rattle.task_machine.specs.Table.{can}
use Rattle.interp.specs.declared.report.RunError.{RunError}
use Rattle.interp.specs.declared.report.RunError.TheVariants.{Memory, Sink}
use Rattle.interp.specs.declared.running.Turn.{Turn}
use Rattle.interp.specs.declared.running.Turn.TheVariants.{Halted, Make}
use Rattle.task_model.specs.picked_runs.Picked.{halted, picked_action}
use Rattle.task_model.specs.picked_runs.Lines.{lines_of}

-- an action was picked, and it applies
pub record IsPicked {C : Type 0} (word : C → ℕ) (next : C → C) (m : MachineState) (old new : C) (action : Action) : Type 0 where
  pub goes_on : halted m ≡ None
  pub picked : action ≡ picked_action m (word old)
  pub applies : can m action ≡ true
  pub chooser : new ≡ next old

-- the run has ended by itself and no choice was taken, or an action was picked
abbrev pub IsChosen : {C : Type 0} → (C → ℕ) → (C → C) → MachineState → C → C → Turn → Type 0
IsChosen word next m old new (Halted end) = (halted m ≡ Some end) × (new ≡ old)
IsChosen word next m old new (Make action) = IsPicked word next m old new action

-- Without memory nothing has changed; where a write failed the action was made, and a front of its line is written.
abbrev pub IsBroken : Numbering → MachineState → Action → MachineState → Option (List ℕ) → Option (List ℕ) → ℕ → ℕ → RunError → Type 0
IsBroken numbers m action m' told told' faults faults' Memory = (m' ≡ m) × (told' ≡ told) × (faults' ≡ faults)
IsBroken numbers m action m' told told' faults faults' Sink = (m' ≡ after m action) × Began told told' (lines_of numbers (option_to_list (event_of m action))) × Rose faults faults'
