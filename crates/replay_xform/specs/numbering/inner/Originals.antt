-- Entries that are not added, by the names of their doubles: an entry stands for one of them where it has such a name.
use Rattle.std.specs.Prelude.{ℕ, List, [], map, Option, None, codes, nat_eq, if◌then◌else◌}
use Rattle.std.specs.List.{filter, starts_with}
use Rattle.syn_event.specs.declared.numbering.EntryInfo.{EntryInfo}
use Rattle.syn_event.specs.Numbering.{Numbering, is_original_entry, entry_named}
use Rattle.syn_event.specs.DeclaredTasks.{text_of}
use Rattle.normal_model.specs.Names.{id_of}
use Rattle.replay_model.specs.Names.{double_text}

-- the entry under the name of its double
abbrev pub as_double : List (List ℕ) → EntryInfo → EntryInfo
as_double names x = record {
  name = id_of names (double_text (text_of names x.name));
  owner = x.owner;
  family = x.family;
  first = x.first;
  last = x.last;
  added = x.added;
  stands_for = x.stands_for;
}

-- the entries that are not added under these names, in order
abbrev pub doubled : List (List ℕ) → List EntryInfo → List EntryInfo
doubled names all = map (as_double names) (filter is_original_entry all)

-- as numbers without tasks
abbrev pub originals : List (List ℕ) → List EntryInfo → Numbering
originals names all = record { main = record { 0 = 0 }; tasks = []; entries = doubled names all }

-- an entry that stands for that of this original number
abbrev pub with_number : EntryInfo → Option ℕ → EntryInfo
with_number x n = record { name = x.name; owner = x.owner; family = x.family; first = x.first; last = x.last; added = x.added; stands_for = n }

-- the original number of what an entry stands for: only a name that begins so speaks of another entry
abbrev pub origin_in : List (List ℕ) → Numbering → EntryInfo → Option ℕ
origin_in names numbers info = if starts_with nat_eq (text_of names info.name) (codes "DED_S_") then entry_named numbers info.owner info.name else None
