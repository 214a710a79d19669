-- A place with the event there, as the code takes it.
use Rattle.std.specs.Prelude.{ℕ, List, Option, option_map}
use Rattle.event_machine.specs.declared.Event.{Event}
use Rattle.syn_constraint.specs.Breaking.{event_at}
use Rattle.debug_sequence.specs.declared.requiring.Broken.{Broken}

abbrev pub broken_with : ℕ → Event → Broken
broken_with place event = record { place = place; event = event }

-- the place with the event there, if there is one
abbrev pub broken_at : List Event → ℕ → Option Broken
broken_at events place = option_map (broken_with place) (event_at events place)
