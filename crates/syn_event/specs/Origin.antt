-- What an event of a rewritten text stands for in the original (this project's rule).
use Rattle.std.specs.Prelude.{ℕ, ◌||◌, if◌then◌else◌, count_by, take, Option, Some, None, option_map}
use Rattle.event_machine.specs.declared.Event.{Event}
use Rattle.event_machine.specs.declared.Event.TheVariants.{R, E, S, D, C, T, F, X, B, Z}
use Rattle.syn_event.specs.declared.numbering.EntryInfo.{EntryInfo}
use Rattle.syn_event.specs.Numbering.{Numbering, entry_at, owner_of, is_added_task, is_original_entry}

-- the number of an entry among the original ones: an entry of the original counts those up to itself, one that stands for another has that one's, any other added one has none
abbrev pub entry_number : Numbering → ℕ → Option EntryInfo → Option ℕ
entry_number numbers e None = None
entry_number numbers e (Some info) = number_for info.stands_for
  where
    number_for : Option ℕ → Option ℕ
    number_for (Some n) = Some n
    number_for None = if info.added then None else Some (count_by is_original_entry (take e numbers.entries))

-- the number in the original of an entry, or of the one that it stands for; none of any other (this project's rule)
abbrev pub original_entry : Numbering → ℕ → Option ℕ
original_entry numbers e = entry_number numbers e (entry_at numbers e)

-- the original number of the called entry: none where the caller or the owner is added
abbrev pub original_call : Numbering → ℕ → ℕ → Option ℕ
original_call numbers c e =
    if is_added_task numbers c || is_added_task numbers (owner_of numbers e) then None else original_entry numbers e

-- the event itself, unless the task is added
abbrev pub unless_added : Numbering → ℕ → Event → Option Event
unless_added numbers t event = if is_added_task numbers t then None else Some event

-- The event of the original that this one stands for: none where a task of it or the owner of its entry is added; else the event at the original number of its entry, where it has one.
abbrev pub back_of : Numbering → Event → Option Event
back_of numbers (R c e i) = option_map (λ n. R c n i) (original_call numbers c e)
back_of numbers (C c e i) = option_map (λ n. C c n i) (original_call numbers c e)
back_of numbers (T c e i) = option_map (λ n. T c n i) (original_call numbers c e)
back_of numbers (F c e i) = option_map (λ n. F c n i) (original_call numbers c e)
back_of numbers (E a) = unless_added numbers a (E a)
back_of numbers (S a) = unless_added numbers a (S a)
back_of numbers (D a k) = unless_added numbers a (D a k)
back_of numbers (X a) = unless_added numbers a (X a)
back_of numbers (B t x) = if is_added_task numbers t || is_added_task numbers x then None else Some (B t x)
back_of numbers Z = Some Z
