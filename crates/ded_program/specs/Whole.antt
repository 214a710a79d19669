-- What the program answers over the operating system, of whose words, files and outputs nothing is told (this project's rule).
use Rattle.std.specs.Prelude.{◌≡◌, ℕ, List, None, Result, Ok, Err}
use Rattle.debug_outcome.specs.words.Words.{asked_by}
use Rattle.debug_outcome.specs.declared.words.command.NoWords.{NoWords}
use Rattle.debug_outcome.specs.Delivery.{Sides}
use Rattle.debug_core.specs.Answers.{Answers, AnswersNoWords}

-- what a call answers for what came of its words
abbrev pub AnswersWords : Result (List (List ℕ)) NoWords → Sides → ℕ → Type 0
AnswersWords (Ok words) sides status = Answers (asked_by words) sides status
AnswersWords (Err why) sides status = AnswersNoWords why sides status

-- Nothing is told of the files and the outputs, and nothing has failed before the call.
pub record IsFresh (sides : Sides) : Type 0 where
  pub files : sides.files ≡ None
  pub out : sides.out ≡ None
  pub err : sides.err ≡ None
  pub file_faults : sides.file_faults ≡ 0
  pub out_faults : sides.out_faults ≡ 0
  pub err_faults : sides.err_faults ≡ 0

-- There are words, or a reason why there are none, for which a call that began afresh answers this status.
pub record IsWholeAnswer (status : ℕ) : Type 0 where
  pub words : Result (List (List ℕ)) NoWords
  pub sides : Sides
  pub fresh : IsFresh sides
  pub answers : AnswersWords words sides status
