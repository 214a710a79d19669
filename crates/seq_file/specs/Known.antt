-- The numbers in events that a program has (this project's rule).
use Rattle.std.specs.Prelude.{ℕ, ℤ, pos, negsuc, Bool, true, false, ◌&&◌, nat_lt, nat_le, int_le, length, if◌then◌else◌}
use Rattle.std.specs.Option.{option_map_or}
use Rattle.event_machine.specs.declared.Event.{Event}
use Rattle.event_machine.specs.declared.Event.TheVariants.{R, E, S, D, C, T, F, X, B, Z}
use Rattle.syn_event.specs.declared.numbering.EntryInfo.{EntryInfo}
use Rattle.syn_event.specs.Numbering.{Numbering, entry_at}

-- the number of a task, main among them, which is 0
abbrev pub is_task : Numbering → ℕ → Bool
is_task numbers t = nat_lt t (length numbers.tasks)

-- the number of a task beside main
abbrev pub is_task_beside_main : Numbering → ℕ → Bool
is_task_beside_main numbers t = is_task numbers t && nat_lt 0 t

-- an index is a value of INTEGER, which has 32 bits (this project's rule)
abbrev pub is_index : ℤ → Bool
is_index i = int_le (negsuc 2147483647) i && int_le i (pos 2147483647)

-- the index of a member: 0 for a plain entry, and from the first to the last for a family
abbrev pub fits_entry : ℤ → EntryInfo → Bool
fits_entry i info =
    is_index i && (if info.family then int_le info.first i && int_le i info.last else int_le (pos 0) i && int_le i (pos 0))

-- the number of an entry, from 1, with the index of a member of it
abbrev pub is_known_member : Numbering → ℕ → ℤ → Bool
is_known_member numbers e i = option_map_or (fits_entry i) (entry_at numbers e) false

-- a selective wait has at most 32 alternatives
abbrev pub is_alternative : ℕ → Bool
is_alternative k = nat_le 1 k && nat_le k 32

-- the numbers of a caller and of an entry, with the index of a member of that entry
abbrev pub is_call : Numbering → ℕ → ℕ → ℤ → Bool
is_call numbers c e i = is_task numbers c && is_known_member numbers e i

-- Each number of the event is one that the program has. Main accepts nothing, has no end of its own, and can't be aborted.
abbrev pub is_known : Numbering → Event → Bool
is_known numbers (R c e i) = is_call numbers c e i
is_known numbers (E a) = is_task_beside_main numbers a
is_known numbers (S a) = is_task_beside_main numbers a
is_known numbers (D a k) = is_task_beside_main numbers a && is_alternative k
is_known numbers (C c e i) = is_call numbers c e i
is_known numbers (T c e i) = is_call numbers c e i
is_known numbers (F c e i) = is_call numbers c e i
is_known numbers (X a) = is_task_beside_main numbers a
is_known numbers (B t x) = is_task numbers t && is_task_beside_main numbers x
is_known numbers Z = true
