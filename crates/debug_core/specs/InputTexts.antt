-- What the tasks of a program read by the bytes of a file of inputs, and as what a bad file is told (this project's rules).
use Rattle.std.specs.Prelude.{◌≡◌, ℕ, ℤ, List, [], Option, Some, None}
use Rattle.syn_event.specs.Numbering.{Numbering}
use Rattle.seq_file.specs.text_lines.LineFiles.{HasFirstFault}
use Rattle.input_file.specs.InputFiles.{InputsRead, input_format}
use Rattle.input_file.specs.declared.errors.InputError.{InputError}
use Rattle.input_file.specs.declared.errors.InputError.TheVariants as error
use Rattle.debug_outcome.specs.Coming.{IsRefusal}
use Rattle.debug_outcome.specs.Outcomes.{Outcome}
use Rattle.debug_outcome.specs.declared.refusal.Refusal.{Refusal}
use Rattle.debug_outcome.specs.declared.refusal.Refusal.TheVariants.{BadInputs, TooMany}
use Rattle.debug_outcome.specs.declared.refusal.InputFault.TheVariants as fault
use Rattle.debug_outcome.specs.declared.refusal.Listed.TheVariants as listed

-- what the tasks of these numbers read: the lists of the file, and without a file nothing
abbrev pub AreInputs : Numbering → Option (List ℕ) → List (List ℤ) → Type 0
AreInputs numbers None inputs = inputs ≡ []
AreInputs numbers (Some bytes) inputs = InputsRead numbers bytes inputs

-- the refusal for each error of the reader of inputs; none for want of memory
abbrev pub refusal_of_inputs : InputError → Option Refusal
refusal_of_inputs (error.BadLine line) = Some (BadInputs fault.BadLine line)
refusal_of_inputs (error.UnknownTask line) = Some (BadInputs fault.UnknownTask line)
refusal_of_inputs (error.TooMany limit) = Some (TooMany listed.Inputs limit)
refusal_of_inputs error.Memory = None

-- The first bad line of a file of inputs has a fault, and the outcome tells it.
pub record IsBadInputs (numbers : Numbering) (bytes : List ℕ) (o : Outcome) : Type 0 where
  pub error : InputError
  pub fault : HasFirstFault (input_format numbers) bytes error
  pub told : IsRefusal (refusal_of_inputs error) o

-- the file of inputs is bad, if there is one
abbrev pub AreBadInputs : Numbering → Option (List ℕ) → Outcome → Type 0
AreBadInputs numbers None o = ⊥
AreBadInputs numbers (Some bytes) o = IsBadInputs numbers bytes o
