-- Which choices are made by what is given for them, and as what a bad file of choices is told (this project's rules).
use Rattle.std.specs.Prelude.{◌≡◌, ℕ, List, [], Option, Some, None, ◌⊎◌}
use Rattle.seq_file.specs.text_lines.LineFiles.{HasFirstFault}
use Rattle.input_file.specs.ChoiceFiles.{ChoicesRead, choice_format}
use Rattle.input_file.specs.declared.errors.InputError.{InputError}
use Rattle.input_file.specs.declared.errors.InputError.TheVariants as error
use Rattle.debug_outcome.specs.files.Giving.{Given, NothingGiven, BytesGiven, SeedGiven}
use Rattle.debug_outcome.specs.Coming.{IsRefusal}
use Rattle.debug_outcome.specs.Outcomes.{Outcome}
use Rattle.debug_outcome.specs.declared.refusal.Refusal.{Refusal}
use Rattle.debug_outcome.specs.declared.refusal.Refusal.TheVariants.{BadChoices, TooMany}
use Rattle.debug_outcome.specs.declared.refusal.InputFault.TheVariants as fault
use Rattle.debug_outcome.specs.declared.refusal.Listed.TheVariants as listed

-- How choices are made.
pub data Choosing : Type 0 where
  -- a list of choices in order, and 0 behind its end
  FromList : List ℕ → Choosing
  -- the words of the generator of a seed
  FromSeed : ℕ → Choosing

-- The bytes are a file of choices, and these are made.
pub record AreReadChoices (bytes : List ℕ) (choosing : Choosing) : Type 0 where
  pub choices : List ℕ
  pub reads : ChoicesRead bytes choices
  pub is : choosing ≡ FromList choices

-- The choices that are made by what is given: none, those of a file, or those of a seed.
abbrev pub AreChoices : Given → Choosing → Type 0
AreChoices NothingGiven choosing = choosing ≡ FromList []
AreChoices (BytesGiven bytes) choosing = AreReadChoices bytes choosing
AreChoices (SeedGiven seed) choosing = choosing ≡ FromSeed seed

-- the refusal for each error of the reader of choices; none for want of memory
abbrev pub refusal_of_choices : InputError → Option Refusal
refusal_of_choices (error.BadLine line) = Some (BadChoices fault.BadLine line)
refusal_of_choices (error.UnknownTask line) = Some (BadChoices fault.UnknownTask line)
refusal_of_choices (error.TooMany limit) = Some (TooMany listed.Choices limit)
refusal_of_choices error.Memory = None

-- The first bad line of a file of choices has a fault, and the outcome tells it.
pub record IsBadChoices (bytes : List ℕ) (o : Outcome) : Type 0 where
  pub error : InputError
  pub fault : HasFirstFault choice_format bytes error
  pub told : IsRefusal (refusal_of_choices error) o

-- the file of choices is bad, if there is one
abbrev pub AreBadChoices : Given → Outcome → Type 0
AreBadChoices NothingGiven o = ⊥
AreBadChoices (BytesGiven bytes) o = IsBadChoices bytes o
AreBadChoices (SeedGiven seed) o = ⊥

-- What is given makes choices, and these call for the outcome.
pub record IsByChoices (CallsFor : Choosing → Outcome → Type 0) (given : Given) (o : Outcome) : Type 0 where
  pub choosing : Choosing
  pub are : AreChoices given choosing
  pub called : CallsFor choosing o

-- What is given for choices calls for this outcome, where this is what choices call for. A bad file of choices is told before anything else is asked.
abbrev pub UnderChoices : (Choosing → Outcome → Type 0) → Given → Outcome → Type 0
UnderChoices CallsFor given o = IsByChoices CallsFor given o ⊎ AreBadChoices given o
