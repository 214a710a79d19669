-- Going on from a sequence of events by the choices that are given (this project's rules).
use Rattle.std.specs.Prelude.{ℕ, List}
use Rattle.ded_io.specs.Stored.{first_choice, behind_choice}
use Rattle.ded_io.specs.seeds.Seeded.{seeded, word_of, behind_word}
use Rattle.syn_event.specs.Numbering.{Numbering}
use Rattle.task_model.specs.Machine.{ProgramWithInputs}
use Rattle.debug_outcome.specs.files.Giving.{Given}
use Rattle.debug_outcome.specs.Outcomes.{Outcome}
use Rattle.debug_variants.specs.ContinueOutcomes.{ContinueMeans}
use Rattle.debug_core.specs.ChoiceTexts.{Choosing, FromList, FromSeed, UnderChoices}

-- the lines call for the outcome as a sequence that goes on as the choices pick
abbrev pub GoesOnBy : ProgramWithInputs → Numbering → List ℕ → ℕ → ℕ → Choosing → Outcome → Type 0
GoesOnBy setup numbers lines count bound (FromList choices) o = ContinueMeans first_choice behind_choice setup numbers lines choices count bound o
GoesOnBy setup numbers lines count bound (FromSeed seed) o = ContinueMeans word_of behind_word setup numbers lines (seeded seed) count bound o

-- What lines come to that go on by the choices that are given.
abbrev pub GoesOnUnder : ProgramWithInputs → Numbering → List ℕ → Given → ℕ → ℕ → Outcome → Type 0
GoesOnUnder setup numbers lines given count bound o = UnderChoices (GoesOnBy setup numbers lines count bound) given o
