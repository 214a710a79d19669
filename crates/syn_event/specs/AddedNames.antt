-- Which tasks and entries a rewriter added, and what its entries stand for (this project's rule).
use Rattle.std.specs.Prelude.{ℕ, Bool, not, ◌==◌, ◌&&◌, ◌+◌, List, ◌++◌, map, take, count_by, position, nat_eq, None, option_map, codes}
use Rattle.std.specs.List.{starts_with}
use Rattle.std.specs.Cmp.Lexicographic.{pointwise}
use Rattle.ada_tree.specs.declared.naming.NameId.{NameId}
use Rattle.syn_event.specs.declared.numbering.TaskInfo.{TaskInfo}
use Rattle.syn_event.specs.declared.numbering.EntryInfo.{EntryInfo}
use Rattle.syn_event.specs.Numbering.{is_original_entry}
use Rattle.syn_event.specs.DeclaredTasks.{text_of}

-- a rewriter made the name: it begins with DED_
abbrev pub is_added_name : List (List ℕ) → NameId → Bool
is_added_name names id = starts_with nat_eq (text_of names id) (codes "DED_")

-- a task that runs its own body
abbrev pub task_info : List (List ℕ) → NameId → TaskInfo
task_info names id = record { name = id; added = is_added_name names id; unit = id; member = None }

-- the name of an entry is DED_S_ and then that of the other one, which is an entry of the same task and not added
abbrev pub speaks_of : List (List ℕ) → EntryInfo → EntryInfo → Bool
speaks_of names info other =
    (other.owner == info.owner) && not other.added
    && pointwise nat_eq (text_of names info.name) (codes "DED_S_" ++ text_of names other.name)

-- the number of an entry among those that are not added, from 1, given its place from 0 among all
abbrev pub original_number : List EntryInfo → ℕ → ℕ
original_number all place = count_by is_original_entry (take (place + 1) all)

-- the entry with what it stands for: the entry that its name speaks of, by its original number
abbrev pub with_origin : List (List ℕ) → List EntryInfo → EntryInfo → EntryInfo
with_origin names all info = record {
  name = info.name;
  owner = info.owner;
  family = info.family;
  first = info.first;
  last = info.last;
  added = info.added;
  stands_for = option_map (original_number all) (position (speaks_of names info) all);
}

-- each entry with what it stands for
abbrev pub with_origins : List (List ℕ) → List EntryInfo → List EntryInfo
with_origins names all = map (with_origin names all) all
