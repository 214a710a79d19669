-- The run of a program under the choices that are given (this project's rules).
use Rattle.std.specs.Prelude.{ℕ}
use Rattle.ded_io.specs.Stored.{first_choice, behind_choice}
use Rattle.ded_io.specs.seeds.Seeded.{seeded, word_of, behind_word}
use Rattle.syn_event.specs.Numbering.{Numbering}
use Rattle.task_model.specs.Machine.{ProgramWithInputs}
use Rattle.debug_outcome.specs.files.Giving.{Given}
use Rattle.debug_outcome.specs.Outcomes.{Outcome}
use Rattle.debug_run.specs.RunOutcomes.{IsRunOf}
use Rattle.debug_core.specs.ChoiceTexts.{Choosing, FromList, FromSeed, UnderChoices}

-- the outcome is that of the run that the choices pick
abbrev pub IsRunBy : ProgramWithInputs → Numbering → ℕ → Choosing → Outcome → Type 0
IsRunBy setup numbers turns (FromList choices) o = IsRunOf first_choice behind_choice setup numbers choices turns o
IsRunBy setup numbers turns (FromSeed seed) o = IsRunOf word_of behind_word setup numbers (seeded seed) turns o

-- What a program comes to that is run under the choices that are given.
abbrev pub RunsUnder : ProgramWithInputs → Numbering → Given → ℕ → Outcome → Type 0
RunsUnder setup numbers given turns o = UnderChoices (IsRunBy setup numbers turns) given o
