-- Which tasks the answer to an event leaves settled (this project's rule).
use Rattle.std.specs.Prelude.{◌≡◌, ℕ, Bool, true, List, ◌∷◌, ◌++◌, All}
use Rattle.event_machine.specs.declared.Event.{Event}
use Rattle.event_machine.specs.Worlds.{changes, is_last}
use Rattle.syn_event.specs.Numbering.{Numbering, owner_of}
use Rattle.task_model.specs.Machine.{Tasks}
use Rattle.task_model.specs.TaskOps.{task_ops}
use Rattle.task_machine.specs.Conditions.{needed_of}
use Rattle.task_machine.specs.declared.verdict.Verdict.{Verdict}
use Rattle.task_machine.specs.declared.verdict.Verdict.TheVariants.{Feasible, Infeasible, Unsettled}
use Rattle.task_machine.specs.Table.{seat_of}
use Rattle.feasible.specs.Keeping.{IsSettled}

-- The event changes the task, if it happens: it is a party, its rendezvous ends, or it is closed.
abbrev pub is_changed : Numbering → Tasks → Event → ℕ → Bool
is_changed numbers tasks e t = changes task_ops (owner_of numbers) (λ u. seat_of tasks u) e t

-- These of the tasks that an event needs are settled by the answer to it: all of them where it is infeasible or is the end of the program, and those
-- before the open one where it is held up. Each other event that happens changes all that it needs.
abbrev pub HaveRested : Numbering → Event → Tasks → Verdict → Type 0
HaveRested numbers e tasks Feasible = is_last e ≡ true → All (IsSettled tasks) (needed_of numbers e)
HaveRested numbers e tasks (Infeasible at why) = All (IsSettled tasks) (needed_of numbers e)
HaveRested numbers e tasks (Unsettled at task) =
    (earlier : List ℕ) × (later : List ℕ) × (needed_of numbers e ≡ earlier ++ task ∷ later) × All (IsSettled tasks) earlier
