-- The list of the actions that apply is kept behind a local step of a task that has another one.
use Rattle.std.proofs.Common.{◌≡◌, ℕ, true, List, ap, sym, subst, ◌∙◌, if◌then◌else◌, true≢false, Some, None}
use Rattle.event_machine.specs.declared.Action.{Action}
use Rattle.event_machine.specs.declared.Action.TheVariants.{Local, Arrive, Start, Finish, Else, Delay, CallElse, Expire, Fail, Complete, Abort, End}
use Rattle.event_machine.specs.Programs.{Program}
use Rattle.syn_event.specs.Numbering.{Numbering, owner_of}
use Rattle.task_model.proofs.Lawful.{lawful}
use Rattle.task_model.specs.Machine.{MachineState, after, enabled_of}
use Rattle.task_model.specs.TaskOps.{task_ops}
use Rattle.task_model.specs.Tasks.{Task}
use Rattle.task_machine.specs.Table.{can}
use Rattle.task_model.specs.declared.picked_runs.report.RunEnd.TheVariants.{Ended, Stuck}
use Rattle.task_model.specs.picked_runs.Picked.{is_nil}
use Rattle.interp.specs.inner.Listed.{IsListed, steps_again}
use Rattle.interp.proofs.Looking.{enabled_kept}

-- the rules of these tasks, which go by no number of tasks
abbrev program : Numbering → Program Task
program numbers = record { ops = task_ops; owner = owner_of numbers; size = 0 }

-- a machine with the same list goes on as this one
listed_behind : (m : MachineState) (t : ℕ) (actions : List Action) → IsListed m actions → enabled_of (after m (Local t)) ≡ enabled_of m → IsListed (after m (Local t)) actions
listed_behind m t actions h same = record {
  goes_on = ap (λ xs. if m.state.ended then Some Ended else (if is_nil xs then Some Stuck else None)) same ∙ h.goes_on;
  listed = h.listed ∙ sym same;
  some = h.some;
  few = h.few;
}

-- the list behind such a step is that before it
pub listed_on : (m m' : MachineState) (action : Action) (actions : List Action) → IsListed m actions → can m action ≡ true → m' ≡ after m action → steps_again m' action ≡ true → IsListed m' actions
listed_on m m' (Local t) actions h first made again =
    subst (λ w. IsListed w actions) (sym made) (listed_behind m t actions h
    (enabled_kept (program m.numbers) lawful.rests m.state t first (ap (λ w. can w (Local t)) (sym made) ∙ again)))
listed_on m m' (Arrive t) actions h first made again = absurd (true≢false (sym again))
listed_on m m' (Start c) actions h first made again = absurd (true≢false (sym again))
listed_on m m' (Finish a) actions h first made again = absurd (true≢false (sym again))
listed_on m m' (Else a) actions h first made again = absurd (true≢false (sym again))
listed_on m m' (Delay a k) actions h first made again = absurd (true≢false (sym again))
listed_on m m' (CallElse c) actions h first made again = absurd (true≢false (sym again))
listed_on m m' (Expire c) actions h first made again = absurd (true≢false (sym again))
listed_on m m' (Fail c) actions h first made again = absurd (true≢false (sym again))
listed_on m m' (Complete a) actions h first made again = absurd (true≢false (sym again))
listed_on m m' (Abort t) actions h first made again = absurd (true≢false (sym again))
listed_on m m' End actions h first made again = absurd (true≢false (sym again))
