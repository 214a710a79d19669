-- Going on as it is done: at each turn it ends by itself, or one more event is chosen.
use Rattle.std.specs.Prelude.{◌≡◌, ◌<◌, ◌%◌, ◌++◌, ◌∷◌, [], ℕ, List, true, false, Option, Some, None, length, slice_get}
use Rattle.std.specs.Fn.{iterate}
use Rattle.std.specs.List.{Contains}
use Rattle.event_machine.specs.declared.Event.{Event}
use Rattle.event_machine.specs.Tallies.{HasNoEnd}
use Rattle.syn_event.specs.Numbering.{Numbering}
use Rattle.task_model.specs.Machine.{ProgramWithInputs}
use Rattle.feasible.specs.Keeping.{StandsFor, is_feasible}
use Rattle.feasible.specs.Kept.{Kept}
use Rattle.race_variant.specs.Variants.{AreVariants, CanFollow}
use Rattle.race_variant.specs.Continuing.{EndsSo, AreChosen}
use Rattle.race_variant.specs.declared.continuing.GoEnd.{GoEnd}
use Rattle.race_variant.specs.declared.continuing.GoEnd.TheVariants.{Count}

-- It ends here by itself in this way, or these events can come next.
abbrev pub HaltsBy : ProgramWithInputs → Numbering → ℕ → List Event → List Event → Option GoEnd → Type 0
HaltsBy setup numbers bound events found (Some end) = EndsSo setup numbers bound events end
HaltsBy setup numbers bound events found None = (unsettled : List ℕ) × AreVariants setup numbers bound events None found unsettled

-- It does not end here by the number of events; and where it does not end by itself, something was found.
abbrev pub HasSome : List Event → Option GoEnd → Type 0
HasSome found (Some end) = end ≡ Count → ⊥
HasSome found None = 0 < length found

-- One more event is chosen from those that were found, and the judge was given it.
pub record IsOneMore {C : Type 0} (word : C → ℕ) (next : C → C) (found : List Event) (old new : C) (before after : List Event) (j j' : Kept) : Type 0 where
  pub event : Event
  pub place : slice_get found (word old % length found) ≡ Some event
  pub chosen : after ≡ before ++ event ∷ []
  pub chooser : new ≡ next old
  pub stands : (setup : ProgramWithInputs) (events : List Event) → StandsFor setup events j → HasNoEnd events → StandsFor setup (events ++ event ∷ []) j'

-- Whatever comes of it, a judge that has found its events feasible still has, where all that was found can come next.
abbrev pub LeavesFeasible : List Event → Kept → Kept → Type 0
LeavesFeasible found j j' =
    (setup : ProgramWithInputs) (events : List Event) → StandsFor setup events j → is_feasible j.verdict ≡ true → ((e : Event) → Contains found e → CanFollow setup j.numbers j.bound events e) →
    is_feasible j'.verdict ≡ true

-- From a judge and a chooser on these events were chosen, for each list for which the judge stands.
pub record AreChosenBy {C : Type 0} (word : C → ℕ) (next : C → C) (j : Kept) (chooser : C) (chosen : List Event) (j' : Kept) : Type 0 where
  pub picked : (setup : ProgramWithInputs) (events : List Event) → StandsFor setup events j → AreChosen word next setup j.numbers j.bound events chooser chosen
  pub feasible : (setup : ProgramWithInputs) (events : List Event) → StandsFor setup events j → is_feasible j'.verdict ≡ true
  pub numbers : j'.numbers ≡ j.numbers
  pub bound : j'.bound ≡ j.bound

-- And the judge now stands for that list with the chosen events behind it, and the chooser has had as many turns.
pub record HasGoneOn {C : Type 0} (word : C → ℕ) (next : C → C) (j : Kept) (chooser : C) (chosen : List Event) (j' : Kept) (chooser' : C) : Type 0 where
  pub chosen_by : AreChosenBy word next j chooser chosen j'
  pub stands : (setup : ProgramWithInputs) (events : List Event) → StandsFor setup events j → StandsFor setup (events ++ chosen) j'
  pub turns : chooser' ≡ iterate next (length chosen) chooser
  pub kept : j'.lost ≡ false → j.lost ≡ false

-- It ended so, after these events.
pub record HasEnded (j : Kept) (most : ℕ) (chosen : List Event) (end : GoEnd) : Type 0 where
  pub ends : (setup : ProgramWithInputs) (events : List Event) → StandsFor setup events j → EndsSo setup j.numbers j.bound (events ++ chosen) end
  pub all : end ≡ Count → length chosen ≡ most
