-- What a judge keeps, as plain data (this project's rule): of each task its state, how it stands and its count, but neither the events nor any queue.
use Rattle.std.specs.Prelude.{◌≡◌, ◌<◌, ◌^◌, ℕ, Bool, List, length}
use Rattle.syn_event.specs.Numbering.{Numbering}
use Rattle.task_model.specs.Machine.{Tasks}
use Rattle.task_machine.specs.declared.verdict.Verdict.{Verdict}

pub record Kept : Type 0 where
  -- the numbers of the program
  pub numbers : Numbering
  -- each task as far as it was run on
  pub tasks : Tasks
  -- the local steps of each task since the last event that changed it
  pub steps : List ℕ
  -- Z has come
  pub ended : Bool
  -- so many local steps are allowed
  pub bound : ℕ
  -- how many events have happened
  pub taken : ℕ
  -- the last verdict
  pub verdict : Verdict
  -- there was no memory once
  pub lost : Bool

-- each task is kept with its count, and there are few of them
pub record IsWhole (numbers : Numbering) (tasks : Tasks) (steps : List ℕ) : Type 0 where
  pub size : length tasks ≡ length numbers.tasks
  pub same : length steps ≡ length tasks
  pub few : length tasks < 2 ^ 32
