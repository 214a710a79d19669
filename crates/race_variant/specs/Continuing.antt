-- Going on from a feasible list of events by choices: each time one of the events that can come next is taken (this project's rule).
use Rattle.std.specs.Prelude.{◌≡◌, ℕ, ◌≤◌, ◌%◌, List, ◌∷◌, ◌++◌, length, slice_get, Some, None}
use Rattle.std.specs.Fn.{iterate}
use Rattle.event_machine.specs.declared.Event.{Event}
use Rattle.event_machine.specs.Tallies.{HasNoEnd}
use Rattle.syn_event.specs.Numbering.{Numbering}
use Rattle.task_model.specs.Machine.{ProgramWithInputs}
use Rattle.feasible.specs.Keeping.{HaveEnded}
use Rattle.race_variant.specs.Variants.{CanFollow, HoldsUp, AreVariants}
use Rattle.race_variant.specs.declared.continuing.GoEnd.{GoEnd}
use Rattle.race_variant.specs.declared.continuing.GoEnd.TheVariants.{Ended, Stuck, Open, Count}

-- The event is, of all that can come next after the events, the one at the place that the word names, counted from 0, modulo their number.
pub record IsPicked (setup : ProgramWithInputs) (numbers : Numbering) (bound : ℕ) (events : List Event) (word : ℕ) (e : Event) : Type 0 where
  pub found : List Event
  pub unsettled : List ℕ
  pub variants : AreVariants setup numbers bound events None found unsettled
  pub place : slice_get found (word % length found) ≡ Some e

-- How it ends here: the last event is the end of the program; nothing can come next, and no task is open; nothing can, and some task is open; or
-- something can come next still.
abbrev pub EndsSo : ProgramWithInputs → Numbering → ℕ → List Event → GoEnd → Type 0
EndsSo setup numbers bound events Ended = HaveEnded events
EndsSo setup numbers bound events Stuck =
    HasNoEnd events × ((e : Event) → CanFollow setup numbers bound events e → ⊥) × ((t : ℕ) → HoldsUp setup numbers bound events t → ⊥)
EndsSo setup numbers bound events Open =
    ((e : Event) → CanFollow setup numbers bound events e → ⊥) × ((t : ℕ) × HoldsUp setup numbers bound events t)
EndsSo setup numbers bound events Count = (e : Event) × CanFollow setup numbers bound events e

-- Each chosen event is picked, from what can come next after the events and the chosen ones before it, by the word of its turn: `next` leads from
-- one turn of the chooser to the next.
abbrev pub AreChosen : {C : Type 0} → (C → ℕ) → (C → C) → ProgramWithInputs → Numbering → ℕ → List Event → C → List Event → Type 0
AreChosen word next setup numbers bound events chooser chosen =
    (before rest : List Event) (e : Event) → chosen ≡ before ++ e ∷ rest →
    IsPicked setup numbers bound (events ++ before) (word (iterate next (length before) chooser)) e

-- From the events on these are chosen, at most so many, and then it ends so; it ends by their number only where all of them are chosen.
pub record IsContinued {C : Type 0} (word : C → ℕ) (next : C → C) (setup : ProgramWithInputs) (numbers : Numbering) (bound : ℕ) (events : List Event) (chooser : C) (most : ℕ) (chosen : List Event) (end : GoEnd) : Type 0 where
  pub picked : AreChosen word next setup numbers bound events chooser chosen
  pub within : length chosen ≤ most
  pub ends : EndsSo setup numbers bound (events ++ chosen) end
  pub all : end ≡ Count → length chosen ≡ most
