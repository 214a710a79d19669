-- What the files call for where the variants of a sequence are asked for: a program, the inputs of its tasks, and a sequence (this project's rules).
use Rattle.std.specs.Prelude.{ℕ, List, Option, ◌⊎◌}
use Rattle.syn_event.specs.declared.numbering.Mode.TheVariants.{Original}
use Rattle.syn_event.specs.Numbering.{Numbering}
use Rattle.task_model.specs.Machine.{ProgramWithInputs}
use Rattle.debug_variants.specs.VariantsOutcomes.{VariantsMean}
use Rattle.debug_outcome.specs.Outcomes.{Outcome}
use Rattle.debug_core.specs.Starts.{IsStart, IsRefusedStart}

-- The text and the inputs give a start, and the lines call for the outcome as a sequence of events from there whose variants are told.
pub record AreVariedFromStart (text : List ℕ) (inputs : Option (List ℕ)) (lines : List ℕ) (bound : ℕ) (o : Outcome) : Type 0 where
  pub setup : ProgramWithInputs
  pub numbers : Numbering
  pub is_start : IsStart text Original inputs setup numbers
  pub varied : VariantsMean setup numbers lines bound o

-- The bytes of a program, of inputs and of a sequence call for this outcome, where a task may make so many local steps between the events that change it.
abbrev pub VariantsMeans : List ℕ → Option (List ℕ) → List ℕ → ℕ → Outcome → Type 0
VariantsMeans text inputs lines bound o = AreVariedFromStart text inputs lines bound o ⊎ IsRefusedStart text Original inputs o
