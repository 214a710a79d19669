-- A task of the normal form and its image in the replay text: as both make local steps, and as the image comes to where it asks for a permit (this
-- project's rule).
use Rattle.std.specs.Prelude.{◌≡◌, ℕ, ◌≤◌, false, List}
use Rattle.event_machine.specs.declared.Event.{Event}
use Rattle.ada_tree.specs.PlainProgram.{PProgram}
use Rattle.task_model.specs.Tasks.{Task}
use Rattle.task_model.specs.Stands.{can_step}
use Rattle.task_laws.specs.statements.Blocks.{HasLeftBlocks}
use Rattle.task_laws.specs.statements.Each.{HoldsOf}
use Rattle.task_laws.specs.statements.Laws.{ExitLeaves}
use Rattle.task_laws.specs.translation.Controls.{Alike}
use Rattle.normal_laws.specs.runs.floors.Preludes.{Reaches}
use Rattle.normal_laws.specs.existence.statements.Laws.{NamesTasksSimply}
use Rattle.replay_model.specs.ReplayTree.{last_task}
use Rattle.replay_runs.specs.starts.Laws.{form_in}
use Rattle.replay_runs.specs.controls.formed.Laws.{IsFormed}
use Rattle.replay_runs.specs.controls.images.Laws.{StandsBeforeAsk}
use Rattle.replay_runs.specs.controls.indices.Laws.{KeepsUnit}
use Rattle.replay_runs.specs.controls.translated.Laws.{unit_translation}

-- What is so of main and of each task of the normal form, wherever it stands. It has this number, and stands at the end of no block. Its statements
-- are formed as those of a normal form, its exits leave loops, it names tasks by simple names, and its variables are those of its unit, with values
-- of their subtypes.
pub record IsOfForm (p : PProgram) (t : ℕ) (σ : Task) : Type 0 where
  pub there : t ≤ last_task (form_in p).numbers
  pub number : σ.number ≡ t
  pub left : HasLeftBlocks σ
  pub formed : HoldsOf (IsFormed p t) σ
  pub exits : HoldsOf ExitLeaves σ
  pub simply : HoldsOf NamesTasksSimply σ
  pub variables : KeepsUnit p t σ

-- Such a task and its image stand alike, and the image too is at the end of no block.
pub record IsPair (p : PProgram) (events : List Event) (t : ℕ) (σ κ : Task) : Type 0 where
  pub own : IsOfForm p t σ
  pub alike : Alike (unit_translation p events t) σ κ
  pub left : HasLeftBlocks κ

-- So they do, and where the task has no local step the image stands before its call of GO.
pub record IsBased (p : PProgram) (events : List Event) (t : ℕ) (σ κ : Task) : Type 0 where
  pub pair : IsPair p events t σ κ
  pub asks : can_step σ ≡ false → StandsBeforeAsk p events t κ

-- By finitely many local steps that write nothing the image comes to where it is so.
pub record Comes (p : PProgram) (events : List Event) (t : ℕ) (σ κ : Task) : Type 0 where
  pub reached : Task
  pub reach : Reaches κ reached
  pub based : IsBased p events t σ reached
