-- Places as they are told, one after the other: what came of one, and how far they are told (this project's rule).
use Rattle.std.specs.Prelude.{◌≡◌, ℕ, List, length, take, slice_get, Option, Some, Result, Ok, Err}
use Rattle.ded_io.specs.Written.{appended}
use Rattle.event_machine.specs.declared.Event.{Event}
use Rattle.syn_event.specs.Numbering.{Numbering}
use Rattle.task_model.specs.Machine.{ProgramWithInputs}
use Rattle.feasible.specs.Keeping.{StandsFor}
use Rattle.feasible.specs.Kept.{Kept}
use Rattle.race_variant.specs.Variants.{AreVariants}
use Rattle.debug_outcome.specs.Outputs.{IsWritten, IsBrokenOff, IsUntouched}
use Rattle.debug_outcome.specs.declared.stopping.Stop.{Stop}
use Rattle.debug_outcome.specs.declared.stopping.Stop.TheVariants.{Refused, OutputFailed, Memory}
use Rattle.debug_variants.specs.VariantsOutcomes.{Place, IsPlaceBehind, place_text, variants_text}

-- The place has the variants of the events but for the one that is skipped, and its text came so.
pub record HasPlace (setup : ProgramWithInputs) (numbers : Numbering) (bound : ℕ) (events : List Event) (skip : Option Event) (number : ℕ) (Came : List ℕ → Type 0) : Type 0 where
  pub place : Place
  pub variants : AreVariants setup numbers bound events skip place.found place.unsettled
  pub came : Came (place_text number place)

-- What came of the place of this number behind the events: it was written whole, a write of it failed, or there was no memory before any of it.
abbrev pub PlaceComes : ProgramWithInputs → Numbering → ℕ → List Event → Option Event → ℕ → Option (List ℕ) → Option (List ℕ) → ℕ → ℕ → Result (Unit {0}) Stop → Type 0
PlaceComes setup numbers bound events skip number told told' faults faults' (Ok x) = HasPlace setup numbers bound events skip number (IsWritten told told' faults faults')
PlaceComes setup numbers bound events skip number told told' faults faults' (Err (Refused refusal)) = ⊥
PlaceComes setup numbers bound events skip number told told' faults faults' (Err OutputFailed) = HasPlace setup numbers bound events skip number (IsBrokenOff told told' faults faults')
PlaceComes setup numbers bound events skip number told told' faults faults' (Err Memory) = IsUntouched told told' faults faults'

-- What is told of the first n places, in order.
pub record AreFirst (setup : ProgramWithInputs) (numbers : Numbering) (bound : ℕ) (events : List Event) (n : ℕ) (places : List Place) : Type 0 where
  pub count : length places ≡ n
  pub each : (k : ℕ) (place : Place) → slice_get places k ≡ Some place → IsPlaceBehind setup numbers bound events k place

-- The first n places are written, and the judge stands for the first n events.
pub record AreToldTo (setup : ProgramWithInputs) (numbers : Numbering) (bound : ℕ) (events : List Event) (n : ℕ) (judge : Kept) (told told' : Option (List ℕ)) (faults faults' : ℕ) : Type 0 where
  pub stands : StandsFor setup (take n events) judge
  pub numbers_are : judge.numbers ≡ numbers
  pub bound_is : judge.bound ≡ bound
  pub places : List Place
  pub first : AreFirst setup numbers bound events n places
  pub written : told' ≡ appended told (variants_text events places)
  pub still : faults' ≡ faults
