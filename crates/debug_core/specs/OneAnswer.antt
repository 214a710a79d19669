-- That no answer is free where files and outputs are told: two calls of the same words over the same of these end alike (this project's rule). Of files and
-- outputs of which nothing is told nothing is said.
use Rattle.std.specs.Prelude.{◌≡◌, ℕ, List, Option, Some, ◌⊎◌}
use Rattle.ded_io.specs.Counts.{Rose}
use Rattle.ded_io.specs.Told.{ToldFile}
use Rattle.debug_outcome.specs.words.Words.{Asked}
use Rattle.debug_outcome.specs.Delivery.{Sides}
use Rattle.debug_core.specs.Answers.{Answers}

-- No reading and no write failed in the call.
pub record IsUnfailed (s : Sides) : Type 0 where
  pub files : Rose s.file_faults s.file_faults' → ⊥
  pub out : Rose s.out_faults s.out_faults' → ⊥
  pub err : Rose s.err_faults s.err_faults' → ⊥

-- Before both calls the same files are told, and the same of the outputs.
pub record AreAlike (s t : Sides) : Type 0 where
  pub files : List ToldFile
  pub its_files : s.files ≡ Some files
  pub other_files : t.files ≡ Some files
  pub out : s.out ≡ t.out
  pub err : s.err ≡ t.err

-- Both calls have the same status, and the same is told of the outputs behind them.
pub record EndAlike (s t : Sides) (status other : ℕ) : Type 0 where
  pub status_is : status ≡ other
  pub out : s.out' ≡ t.out'
  pub err : s.err' ≡ t.err'

-- Two answers of the same words, over the same told files and outputs and where nothing failed, are alike, or one of them is want of memory.
abbrev pub OneAnswer : Type 0
OneAnswer =
    (asked : Option Asked) (s t : Sides) (status other : ℕ) → AreAlike s t → IsUnfailed s → IsUnfailed t → Answers asked s status → Answers asked t other →
    (status ≡ 9) ⊎ ((other ≡ 9) ⊎ EndAlike s t status other)
