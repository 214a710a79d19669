-- What the files of a run of a collecting text call for: a program, the inputs of its tasks, and choices (this project's rules).
use Rattle.std.specs.Prelude.{ℕ, List, Option, ◌⊎◌}
use Rattle.ded_io.specs.Stored.{first_choice, behind_choice}
use Rattle.ded_io.specs.seeds.Seeded.{seeded, word_of, behind_word}
use Rattle.syn_event.specs.declared.numbering.Mode.TheVariants.{Original}
use Rattle.syn_event.specs.Numbering.{Numbering}
use Rattle.task_model.specs.Machine.{ProgramWithInputs}
use Rattle.debug_collect.specs.Recorded.{IsRecorded}
use Rattle.debug_outcome.specs.files.Giving.{Given}
use Rattle.debug_outcome.specs.Outcomes.{Outcome}
use Rattle.debug_core.specs.ChoiceTexts.{Choosing, FromList, FromSeed, UnderChoices}
use Rattle.debug_core.specs.Starts.{IsStart, IsRefusedStart}

-- the outcome is that of the run of the collecting text that the choices pick
abbrev pub RecordsBy : ProgramWithInputs → Numbering → ℕ → Choosing → Outcome → Type 0
RecordsBy setup numbers turns (FromList choices) o = IsRecorded first_choice behind_choice setup.program setup.types numbers setup.inputs choices turns o
RecordsBy setup numbers turns (FromSeed seed) o = IsRecorded word_of behind_word setup.program setup.types numbers setup.inputs (seeded seed) turns o

-- What a program comes to whose collecting text is run under the choices that are given.
abbrev pub RecordsUnder : ProgramWithInputs → Numbering → Given → ℕ → Outcome → Type 0
RecordsUnder setup numbers given turns o = UnderChoices (RecordsBy setup numbers turns) given o

-- The text and the inputs give a start from a legal original, and the outcome is that of the run of its collecting text under the choices, of at most so many turns.
pub record IsRecordedText (text : List ℕ) (inputs : Option (List ℕ)) (choices : Given) (turns : ℕ) (o : Outcome) : Type 0 where
  pub setup : ProgramWithInputs
  pub numbers : Numbering
  pub is_start : IsStart text Original inputs setup numbers
  pub recorded : RecordsUnder setup numbers choices turns o

-- The bytes of a program and of inputs, and choices, call for this outcome.
abbrev pub CollectRunMeans : List ℕ → Option (List ℕ) → Given → ℕ → Outcome → Type 0
CollectRunMeans text inputs choices turns o = IsRecordedText text inputs choices turns o ⊎ IsRefusedStart text Original inputs o
