-- What the machine of a collecting text records, which has its tasks in a list.
use Rattle.std.proofs.Common.{◌≡◌, ℕ, ℤ, true, List, refl, sym, ap, ◌∙◌, subst}
use Rattle.event_machine.specs.declared.Action.{Action}
use Rattle.event_machine.specs.declared.Event.{Event}
use Rattle.event_machine.specs.Applying.{can}
use Rattle.event_machine.specs.Runs.{IsRun}
use Rattle.event_machine.specs.Programs.{numbered, by_number}
use Rattle.event_machine.proofs.Joining.{same_can, same_run}
use Rattle.ada_tree.specs.PlainProgram.{PProgram}
use Rattle.task_model.specs.Tasks.{Task}
use Rattle.task_model.specs.Machine.{MachineState, rules_of}
use Rattle.task_model.specs.picked_runs.Outputs.{output_of}
use Rattle.task_laws.proofs.actions.Seats.{run_length}
use Rattle.run_laws.specs.imitation.Shown.{Opened, end_from}
use Rattle.normal_laws.specs.runs.forms.Normalisable.{numbers_of}
use Rattle.replay_runs.specs.controls.replayed.Replaying.{starting, output_after, IsOver}
use Rattle.collect_runs.specs.originals.Recording.{has_ended}
use Rattle.collect_runs.specs.files.Sequences.{opening_with, IsRecordedIn}
use Rattle.collect_runs.specs.files.Laws.{machine_after, NoneApplies, MachinesAreRecorded}
use Rattle.collect_runs.proofs.files.Sequences.{runs_are_recorded}

-- ---- a program at its start

module _ (q : PProgram) (others : List (List ℤ)) (actions : List Action) (run : IsRun (rules_of (numbers_of q)) (opening_with q others).state actions) where
  abbrev it : Opened Task
  it = starting q others

  abbrev m : MachineState
  m = machine_after q others actions

  joined : IsRun (numbered it.program) it.at actions × (by_number it.program m.state ≡ end_from it actions)
  joined = same_run it.program actions (opening_with q others).state refl run

  same_output : (t : ℕ) → output_after it actions t ≡ output_of m t
  same_output t = ap (λ z. (z.seats t).local.output) (sym joined.1)

  same_end : has_ended it actions ≡ m.state.ended
  same_end = ap (λ z. z.ended) (sym joined.1)

  over : NoneApplies m → IsOver it actions
  over none = subst (λ z. (action : Action) → can (numbered it.program) z action ≡ true → ⊥) joined.1
      (λ action h. none action (same_can it.program m.state (run_length it.program actions (opening_with q others).state refl run) action ∙ h))

  module _ (p : PProgram) (inputs : List (List ℤ)) (events : List Event) where
    recorded : IsRecordedIn p inputs (λ t. output_after it actions t) (has_ended it actions) (IsOver it actions) events → IsRecordedIn p inputs (output_of m) m.state.ended (NoneApplies m) events
    recorded r =
        subst (λ o. IsRecordedIn p inputs o m.state.ended (NoneApplies m) events) (λ i t. same_output t i)
        (subst (λ b. IsRecordedIn p inputs (λ t. output_after it actions t) b (NoneApplies m) events) same_end
        (record { feasible = r.feasible; shown = r.shown; quiet = λ none. r.quiet (over none); ends = r.ends; end = r.end; text = r.text }))

pub machines_are_recorded : MachinesAreRecorded
machines_are_recorded p q legal collects inputs others agree actions run =
    let r = runs_are_recorded p q legal collects inputs others agree actions (joined q others actions run).0 in
    (r.0, recorded q others actions run p inputs r.0 r.1)
