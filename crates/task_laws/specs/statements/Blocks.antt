-- No task stands at the end of a block or of a handler of a block: such a frame is left at once (5.6, 11.2).
use Rattle.std.specs.Prelude.{◌≡◌, ℕ, ℤ, List}
use Rattle.task_model.specs.Setting.{Setting}
use Rattle.task_model.specs.Frames.{settled}
use Rattle.task_model.specs.Tasks.{Task}
use Rattle.task_model.specs.Stands.{stepped}
use Rattle.task_model.specs.Rendezvous.{accepted, finished, resumed, call_failed, took_else, took_delay, past_name}
use Rattle.task_model.specs.Starting.{started}

-- The task does not stand at the end of a block or of a handler of a block.
abbrev pub HasLeftBlocks : Task → Type 0
HasLeftBlocks t = settled t.control ≡ t.control

-- So it is after a local step, and after what each event makes of the task.
pub record LeavesBlocks (t : Task) : Type 0 where
  pub stepped : HasLeftBlocks (stepped t)
  pub accepted : (e : ℕ) (i : ℤ) (caller : ℕ) (calling : Task) → HasLeftBlocks (accepted e i caller calling t)
  pub finished : HasLeftBlocks (finished t)
  pub resumed : (acceptor : Task) → HasLeftBlocks (resumed acceptor t)
  pub raised : HasLeftBlocks (call_failed t)
  pub took_else : HasLeftBlocks (took_else t)
  pub took_delay : (k : ℕ) → HasLeftBlocks (took_delay k t)
  pub passed : HasLeftBlocks (past_name t)

-- Each task of each program starts so.
abbrev pub TasksStartOutside : Type 0
TasksStartOutside = (g : Setting) (inputs : List (List ℤ)) (t : ℕ) → HasLeftBlocks (started g inputs t)

-- It stays so.
abbrev pub TasksLeaveBlocks : Type 0
TasksLeaveBlocks = (t : Task) → HasLeftBlocks t → LeavesBlocks t
