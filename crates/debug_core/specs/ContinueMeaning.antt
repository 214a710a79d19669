-- What the files of going on from a sequence call for: a program, the inputs of its tasks, choices, and a sequence (this project's rules).
use Rattle.std.specs.Prelude.{ℕ, List, Option, ◌⊎◌}
use Rattle.syn_event.specs.declared.numbering.Mode.TheVariants.{Original}
use Rattle.syn_event.specs.Numbering.{Numbering}
use Rattle.task_model.specs.Machine.{ProgramWithInputs}
use Rattle.race_variant.specs.KnownOffers.{OffersAreKnown}
use Rattle.debug_outcome.specs.files.Giving.{Given}
use Rattle.debug_outcome.specs.Outcomes.{Outcome}
use Rattle.debug_core.specs.ChosenEvents.{GoesOnUnder}
use Rattle.debug_core.specs.Starts.{IsStart, IsRefusedStart}

-- The text and the inputs give a start, and the choices and the lines call for the outcome: that of a sequence that goes on from there. Each number in what
-- the tasks of such a program offer is one that it has, so a file that is written is read as its events.
pub record GoesOnFromStart (text : List ℕ) (inputs : Option (List ℕ)) (lines : List ℕ) (choices : Given) (count bound : ℕ) (o : Outcome) : Type 0 where
  pub setup : ProgramWithInputs
  pub numbers : Numbering
  pub is_start : IsStart text Original inputs setup numbers
  pub known : OffersAreKnown setup numbers
  pub goes_on : GoesOnUnder setup numbers lines choices count bound o

-- The bytes of a program, of inputs and of a sequence, and choices, call for this outcome, where at most so many events are added and a task may make
-- so many local steps between the events that change it.
abbrev pub ContinueMeans : List ℕ → Option (List ℕ) → List ℕ → Given → ℕ → ℕ → Outcome → Type 0
ContinueMeans text inputs lines choices count bound o =
    GoesOnFromStart text inputs lines choices count bound o ⊎ IsRefusedStart text Original inputs o
