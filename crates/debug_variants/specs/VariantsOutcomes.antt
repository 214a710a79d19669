-- What the telling of race variants comes to: of each place of a feasible sequence what else can come there, and which tasks are open (this project's rules).
use Rattle.std.specs.Prelude.{◌≡◌, ℕ, ◌+◌, List, [], ◌∷◌, length, take, slice_get, codes, Some, if◌then◌else◌, ◌⊎◌}
use Rattle.ded_io.specs.Written.{◌⧺◌, each_text}
use Rattle.event_machine.specs.declared.Event.{Event}
use Rattle.syn_event.specs.Numbering.{Numbering}
use Rattle.seq_file.specs.Files.{event_line, has_ended}
use Rattle.task_model.specs.Machine.{ProgramWithInputs}
use Rattle.task_machine.specs.declared.verdict.Verdict.TheVariants.{Feasible}
use Rattle.task_machine.specs.Judging.{VerdictIs}
use Rattle.divergence.specs.ViewText.{number_line}
use Rattle.race_variant.specs.Variants.{AreVariants}
use Rattle.debug_outcome.specs.Outcomes.{Outcome, writes}
use Rattle.debug_sequence.specs.Sequences.{ReadsAs, IsRefusedSequence}
use Rattle.debug_judge.specs.JudgeOutcomes.{IsOtherVerdictText}

-- ---- places

-- What is told of a place: the events that can come there but for the sequence's own, and the tasks that are open there.
pub record Place : Type 0 where
  pub found : List Event
  pub unsettled : List ℕ

-- how many places a sequence has: one for each event, and one behind the last unless the program has ended
abbrev pub place_count : List Event → ℕ
place_count events = if has_ended events then length events else length events + 1

-- This is told of the place behind the first k events: their variants but for the next event, if there is one.
abbrev pub IsPlaceBehind : ProgramWithInputs → Numbering → ℕ → List Event → ℕ → Place → Type 0
IsPlaceBehind setup numbers bound events k place = AreVariants setup numbers bound (take k events) (slice_get events k) place.found place.unsettled

-- What is told of all places, in order.
pub record ArePlaces (setup : ProgramWithInputs) (numbers : Numbering) (bound : ℕ) (events : List Event) (places : List Place) : Type 0 where
  pub count : length places ≡ place_count events
  pub each : (k : ℕ) (place : Place) → slice_get places k ≡ Some place → IsPlaceBehind setup numbers bound events k place

-- ---- texts

-- the line of an open task
abbrev pub open_line : ℕ → List ℕ
open_line t = number_line (codes "open ") t

-- a place: its number, then a line for each event that can come there, then one for each open task
abbrev pub place_text : ℕ → Place → List ℕ
place_text number place = number_line (codes "place ") number ⧺ (each_text event_line place.found ⧺ each_text open_line place.unsettled)

-- places one after the other, the first of which has this number
abbrev pub places_text : ℕ → List Place → List ℕ
places_text number [] = []
places_text number (place ∷ places) = place_text number place ⧺ places_text (number + 1) places

-- The text of variants: how many events the sequence has, then its places, counted from 1.
abbrev pub variants_text : List Event → List Place → List ℕ
variants_text events places = number_line (codes "variants ") (length events) ⧺ places_text 1 places

-- ---- outcomes

-- The events are feasible, and the outcome tells of each of their places.
pub record IsVariantsText (setup : ProgramWithInputs) (numbers : Numbering) (bound : ℕ) (events : List Event) (o : Outcome) : Type 0 where
  pub feasible : VerdictIs setup numbers bound events Feasible
  pub places : List Place
  pub are : ArePlaces setup numbers bound events places
  pub is : o ≡ writes (variants_text events places) 0

-- The events call for this outcome: their places, or the text of another verdict.
abbrev pub VariantsOf : ProgramWithInputs → Numbering → ℕ → List Event → Outcome → Type 0
VariantsOf setup numbers bound events o = IsVariantsText setup numbers bound events o ⊎ IsOtherVerdictText setup numbers bound events o

-- The bytes stand for a sequence of the program, and its events call for the outcome.
pub record AreVariantsOfSequence (setup : ProgramWithInputs) (numbers : Numbering) (lines : List ℕ) (bound : ℕ) (o : Outcome) : Type 0 where
  pub events : List Event
  pub reads : ReadsAs lines numbers setup.program.names events
  pub told : VariantsOf setup numbers bound events o

-- The bytes of a sequence call for this outcome: its variants, the text of another verdict than feasible, or why they stand for no sequence.
abbrev pub VariantsMean : ProgramWithInputs → Numbering → List ℕ → ℕ → Outcome → Type 0
VariantsMean setup numbers lines bound o = AreVariantsOfSequence setup numbers lines bound o ⊎ IsRefusedSequence setup.program.names numbers lines o
