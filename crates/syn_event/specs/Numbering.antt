-- The numbers of a program as plain data, and what is read off them (this project's rule).
use Rattle.std.specs.Prelude.{ℕ, Bool, false, not, ◌==◌, ◌-◌, if◌then◌else◌, ◌&&◌, ◌+◌, List, slice_get, count_by, position, drop, Option, option_map, None}
use Rattle.std.specs.Option.{option_map_or}
use Rattle.ada_tree.specs.declared.naming.NameId.{NameId}
use Rattle.syn_event.specs.declared.numbering.TaskInfo.{TaskInfo}
use Rattle.syn_event.specs.declared.numbering.EntryInfo.{EntryInfo}

-- The program's name, its tasks from 0, and its entries from 1.
pub record Numbering : Type 0 where
  pub main : NameId
  pub tasks : List TaskInfo
  pub entries : List EntryInfo

-- the task of that number, 0 being main, where there is one (this project's rule)
abbrev pub task_at : Numbering → ℕ → Option TaskInfo
task_at numbers t = slice_get numbers.tasks t

-- the entry of that number, counted from 1, where there is one (this project's rule)
abbrev pub entry_at : Numbering → ℕ → Option EntryInfo
entry_at numbers e = if e == 0 then None else slice_get numbers.entries (e - 1)

-- the task that owns the entry
abbrev pub owner_of : Numbering → ℕ → ℕ
owner_of numbers e = option_map_or (λ info. info.owner) (entry_at numbers e) 0

-- a rewriter added the task
abbrev pub is_added_task : Numbering → ℕ → Bool
is_added_task numbers t = option_map_or (λ info. info.added) (task_at numbers t) false

-- no rewriter added the task
abbrev pub is_original_task : TaskInfo → Bool
is_original_task info = not info.added

-- no rewriter added the entry
abbrev pub is_original_entry : EntryInfo → Bool
is_original_entry info = not info.added

-- how many tasks beside main, and how many entries, are the original's
abbrev pub original_tasks : Numbering → ℕ
original_tasks numbers = count_by is_original_task (drop 1 numbers.tasks)

-- how many of the entries are the original's (this project's rule)
abbrev pub original_entries : Numbering → ℕ
original_entries numbers = count_by is_original_entry numbers.entries

-- the first task of that name
abbrev pub task_named : Numbering → NameId → Option ℕ
task_named numbers name = position (λ info. info.name.0 == name.0) numbers.tasks

-- the first entry of that name among those of the owner, counted from 1
abbrev pub entry_named : Numbering → ℕ → NameId → Option ℕ
entry_named numbers owner name =
    option_map (λ k. k + 1) (position (λ info. (info.owner == owner) && (info.name.0 == name.0)) numbers.entries)
