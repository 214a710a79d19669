-- Runs with the same events that end quiet leave each task that is not killed with the same output.
use Rattle.std.proofs.Common.{ℕ, List, refl, ap}
use Rattle.event_machine.specs.declared.Event.{Event}
use Rattle.event_machine.specs.Programs.{task_of}
use Rattle.event_machine.specs.States.{Seat, State}
use Rattle.event_machine.specs.Tallies.{ComesTo, IsKilledIn, tallies}
use Rattle.syn_event.specs.Numbering.{Numbering}
use Rattle.task_model.specs.Machine.{ProgramWithInputs, Tasks, rules_of, opening_of}
use Rattle.task_model.specs.TaskOps.{task_ops}
use Rattle.task_model.specs.Tasks.{Task}
use Rattle.task_model.proofs.Following.{runs_agree, killed_is_aborted}
use Rattle.task_machine.specs.Outputs.{IsQuietEnd, IsOutput}
use Rattle.task_machine.specs.Table.{seat_of}

module _ (setup : ProgramWithInputs) (numbers : Numbering) (events : List Event) where
  abbrev opening : State Tasks
  opening = (opening_of setup numbers).state

  abbrev tasks_in : State Tasks → ℕ → Seat Task
  tasks_in s = task_of (rules_of numbers) s

  -- such a run comes to the tasks of its end
  comes : (s : State Tasks) (end : IsQuietEnd setup numbers events s) → ComesTo (rules_of numbers) opening events (tasks_in s) (tallies (rules_of numbers) opening end.actions (λ u. 0))
  comes s end = record { actions = end.actions; applies = end.applies; has_events = end.has_events; leaves = λ t. ap (λ x. tasks_in x t) end.ends; counts = λ t. refl }

  pub output_once : (s : State Tasks) (t : ℕ) → IsQuietEnd setup numbers events s → (IsKilledIn events t → ⊥) → IsOutput setup numbers events t (seat_of s.seats t).local.output
  output_once s t end alive other other_end =
      let alike = runs_agree setup numbers events (tasks_in other) (tasks_in s) (tallies (rules_of numbers) opening other_end.actions (λ u. 0)) (tallies (rules_of numbers) opening end.actions (λ u. 0))
      (comes other other_end) (comes s end) in
      ap (λ (x : Task). x.output) (alike.quiet other_end.quiet end.quiet t (λ killed. alive (killed_is_aborted setup numbers events (tasks_in other) (tallies (rules_of numbers) opening other_end.actions (λ u. 0)) t (comes other other_end) killed)))
