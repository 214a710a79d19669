-- What the runs of a replay text show of its sequence (this project's rule), for the examples: all runs of at most so many events are gone through.
use Rattle.std.specs.Prelude.{Bool, true, false, ◌&&◌, ◌||◌, List, [], ◌∷◌, length, take, nat_lt, nat_eq}
use Rattle.std.specs.List.{filter_map, list_all, list_any}
use Rattle.std.specs.Cmp.Lexicographic.{pointwise}
use Rattle.event_machine.specs.declared.Event.{Event}
use Rattle.syn_event.specs.Numbering.{Numbering}
use Rattle.syn_event.specs.Origin.{back_of}
use Rattle.progress_law.specs.rewritten.normal.Showing.{Show, same_event}

-- the events of the original that the events of a text with these numbers stand for
abbrev pub stand_for : Numbering → List Event → List Event
stand_for numbers events = filter_map (back_of numbers) events

-- the second events begin with the first ones
abbrev pub is_front : List Event → List Event → Bool
is_front [] ys = true
is_front (x ∷ xs) [] = false
is_front (x ∷ xs) (y ∷ ys) = same_event x y && is_front xs ys

-- Whatever the schedule, the events stand for a front of the sequence.
abbrev pub shows_fronts : Numbering → List Event → List Show → Bool
shows_fronts numbers s shown = list_all (λ x. is_front (stand_for numbers x.events) s) shown

-- Some schedule shows the whole sequence.
abbrev pub shows_whole : Numbering → List Event → List Show → Bool
shows_whole numbers s shown = list_any (λ x. is_front s (stand_for numbers x.events)) shown

-- the second run goes on where the first one stands
abbrev pub goes_on : Show → Show → Bool
goes_on x y = nat_lt (length x.events) (length y.events) && is_front x.events y.events

-- a run of the text has shown the whole sequence, a run of the original has it too, and each task of the original has written the same in both
abbrev pub is_like : Numbering → List Event → Show → Show → Bool
is_like numbers s x y =
    pointwise same_event (stand_for numbers x.events) s
    && (pointwise same_event y.events s && pointwise (pointwise nat_eq) y.outputs (take (length y.outputs) x.outputs))

-- Where no event can follow, the whole sequence has been shown, with the output of the original.
abbrev pub ends_alike : Numbering → List Event → List Show → List Show → Bool
ends_alike numbers s original shown = list_all (λ x. list_any (goes_on x) shown || list_any (is_like numbers s x) original) shown
