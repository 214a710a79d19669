-- Offers of which each number is one that the program has, so that the events that come of them can stand in a sequence file (this project's rule).
use Rattle.std.specs.Prelude.{◌≡◌, ℕ, Bool, true, ◌&&◌, List}
use Rattle.std.specs.List.{list_all}
use Rattle.event_machine.specs.declared.Choice.{Choice}
use Rattle.event_machine.specs.declared.Choice.TheVariants.{Accept, Else, Delay, Terminate}
use Rattle.event_machine.specs.declared.Event.{Event}
use Rattle.event_machine.specs.Offers.{Offer, Nothing, Calls, Waits, Finishes, Ends, Aborts}
use Rattle.seq_file.specs.Known.{is_task, is_task_beside_main, is_alternative, is_known_member}
use Rattle.syn_event.specs.Numbering.{Numbering}
use Rattle.task_model.specs.Machine.{ProgramWithInputs}
use Rattle.task_machine.specs.Views.{At, ViewIs}

-- a delay has the number of an alternative
abbrev pub is_known_choice : Choice → Bool
is_known_choice (Accept e i) = true
is_known_choice Else = true
is_known_choice (Delay k) = is_alternative k
is_known_choice Terminate = true

-- A task of the program calls a member that there is, and aborts a task beside main; main accepts nothing.
abbrev pub is_known_offer : Numbering → ℕ → Offer → Bool
is_known_offer numbers t Nothing = true
is_known_offer numbers t (Calls form e i) = is_task numbers t && is_known_member numbers e i
is_known_offer numbers t (Waits choices) = is_task_beside_main numbers t && list_all is_known_choice choices
is_known_offer numbers t Finishes = is_task_beside_main numbers t
is_known_offer numbers t Ends = is_task numbers t
is_known_offer numbers t (Aborts x) = is_task numbers t && is_task_beside_main numbers x

-- Whatever a task offers after any events is so. The static rules see to it.
abbrev pub OffersAreKnown : ProgramWithInputs → Numbering → Type 0
OffersAreKnown setup numbers = (events : List Event) (t : ℕ) (offer : Offer) → ViewIs setup numbers events t (At offer) → is_known_offer numbers t offer ≡ true
