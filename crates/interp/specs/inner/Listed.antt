-- The list of the actions that apply, and when it is kept from one turn to the next.
use Rattle.std.specs.Prelude.{◌≡◌, ◌<◌, ◌^◌, Bool, false, List, length, None}
use Rattle.event_machine.specs.declared.Action.{Action}
use Rattle.event_machine.specs.declared.Action.TheVariants.{Local}
use Rattle.task_model.specs.Machine.{MachineState, enabled_of}
use Rattle.task_machine.specs.Table.{can}
use Rattle.interp.specs.declared.running.Turn.{Turn}
use Rattle.interp.specs.declared.running.Turn.TheVariants.{Halted, Make}
use Rattle.task_model.specs.picked_runs.Picked.{halted}

-- the run goes on, and these are the actions that apply
pub record IsListed (m : MachineState) (actions : List Action) : Type 0 where
  pub goes_on : halted m ≡ None
  pub listed : actions ≡ enabled_of m
  pub some : 0 < length actions
  pub few : length actions < 2 ^ 32

-- where the turn makes an action the list is that of the actions that apply
abbrev pub IsListedFor : MachineState → List Action → Turn → Type 0
IsListedFor m actions (Halted end) = Unit {0}
IsListedFor m actions (Make action) = IsListed m actions

-- The action was a local step of a task that has another one (this project's rule).
abbrev pub steps_again : MachineState → Action → Bool
steps_again m (Local t) = can m (Local t)
steps_again m _ = false
