-- How the tasks of a collecting text with abort statements tell the recorder (this project's rule).
use Rattle.std.specs.Prelude.{◌≡◌, ℕ, true, false}
use Rattle.task_model.specs.Tasks.{Task}
use Rattle.task_model.specs.Stands.{Steps, stand_of, can_step, stepped}
use Rattle.collect_runs.specs.telling.Meetings.{ComesTo}
use Rattle.collect_runs.specs.aborts.telling.Texts.{Texts}
use Rattle.collect_runs.specs.aborts.telling.Forms.{Form}
use Rattle.collect_runs.specs.aborts.telling.Meetings.{IsPair, IsBased, ActsAlike}

-- What is so of each task of a form and its image: they come to where they are based; from there both have the same local steps; and where the task has
-- none, the image acts alike.
pub record TellsAlike {x : Texts} (f : Form x) : Type 0 where
  pub comes : (t : ℕ) (σ κ : Task) → IsPair f t σ κ → ComesTo (IsBased f t σ) κ
  pub steps : (t : ℕ) (σ κ : Task) → IsBased f t σ κ → stand_of σ ≡ Steps → (can_step κ ≡ true) × ComesTo (IsBased f t (stepped σ)) (stepped κ)
  pub acts : (t : ℕ) (σ κ : Task) → IsBased f t σ κ → can_step σ ≡ false → ActsAlike f t σ κ
