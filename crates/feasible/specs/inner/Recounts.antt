-- The counts after an event: those of the tasks that it changes begin anew.
use Rattle.std.specs.Prelude.{◌≡◌, ℕ, Bool, List, length, slice_index, nat_lt, ◌&&◌, if◌then◌else◌}
use Rattle.event_machine.specs.declared.Event.{Event}
use Rattle.event_machine.specs.Worlds.{changes}
use Rattle.syn_event.specs.Numbering.{Numbering, owner_of}
use Rattle.task_model.specs.Machine.{Tasks}
use Rattle.task_model.specs.TaskOps.{task_ops}
use Rattle.task_machine.specs.Table.{seat_of}

-- the counts of the tasks that pass the test are 0, and all others stay
pub record BeginAnew (test : ℕ → Bool) (steps steps' : List ℕ) : Type 0 where
  pub each : (t : ℕ) → slice_index steps' t ≡ (if test t then 0 else slice_index steps t)
  pub size : length steps' ≡ length steps

-- the tasks below n that pass the test
abbrev pub below : (ℕ → Bool) → ℕ → ℕ → Bool
below test n t = nat_lt t n && test t

-- those of the tasks that the event changes
abbrev pub AreRecounted : Numbering → Tasks → Event → List ℕ → List ℕ → Type 0
AreRecounted numbers tasks e steps steps' =
    BeginAnew (changes task_ops (owner_of numbers) (λ u. seat_of tasks u) e) steps steps'
