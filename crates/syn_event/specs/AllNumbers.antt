-- The numbers of the tasks and entries of any program (this project's rule). Main is task 0; the other tasks follow in declared order, and the entries task by task.
use Rattle.std.specs.Prelude.{ℕ, ℤ, pos, ◌||◌, ◌+◌, List, [], ◌∷◌, ◌++◌, map, Option, Some, None, is_some}
use Rattle.ada_tree.specs.PlainExpr.{PDrange}
use Rattle.ada_tree.specs.PlainDecl.{PEntry}
use Rattle.ada_tree.specs.PlainProgram.{PProgram}
use Rattle.ada_tree.specs.TypeTable.{TypeTable}
use Rattle.syn_event.specs.declared.numbering.TaskInfo.{TaskInfo}
use Rattle.syn_event.specs.declared.numbering.EntryInfo.{EntryInfo}
use Rattle.syn_event.specs.Numbering.{Numbering}
use Rattle.syn_event.specs.AddedNames.{is_added_name, with_origins, task_info}
use Rattle.syn_event.specs.Extents.{Extent, extent}
use Rattle.syn_event.specs.NamedTasks.{NumberedTask, numbered_tasks}

-- a task is added where its name is a rewriter's; a member of an array has the array's name
abbrev pub info_of_task : List (List ℕ) → NumberedTask → TaskInfo
info_of_task names x = record { name = x.name; added = is_added_name names x.name; unit = x.unit.name.name; member = x.member }

-- the first and the last index of a family; 0 of a plain entry
abbrev pub first_of : Option Extent → ℤ
first_of (Some x) = x.first
first_of None = pos 0

-- the last index of a range that is known; 0 where there is none, as of a plain entry (this project's rule)
abbrev pub last_index : Option Extent → ℤ
last_index (Some x) = x.last
last_index None = pos 0

-- the first and the last index of an entry family, where both are known (9.5); none of a plain entry
abbrev pub family_extent : TypeTable → Option PDrange → Option Extent
family_extent types (Some r) = extent types r
family_extent types None = None

-- an entry of a task, before it is known what it stands for; it is added where its own name or its task's is
abbrev pub entry_of_task : List (List ℕ) → TypeTable → ℕ → NumberedTask → PEntry → EntryInfo
entry_of_task names types owner x e = record {
  name = e.name.name;
  owner = owner;
  family = is_some e.family;
  first = first_of (family_extent types e.family);
  last = last_index (family_extent types e.family);
  added = is_added_name names x.name || is_added_name names e.name.name;
  stands_for = None;
}

-- the entries of tasks that are numbered from `t` on
abbrev pub entries_of_tasks : List (List ℕ) → TypeTable → ℕ → List NumberedTask → List EntryInfo
entries_of_tasks names types t [] = []
entries_of_tasks names types t (x ∷ rest) = map (entry_of_task names types t x) x.unit.entries ++ entries_of_tasks names types (t + 1) rest

-- The numbers of a program with those types.
abbrev pub all_numbers : TypeTable → PProgram → Numbering
all_numbers types p = record {
  main = p.name.name;
  tasks = task_info p.names p.name.name ∷ map (info_of_task p.names) (numbered_tasks types p);
  entries = with_origins p.names (entries_of_tasks p.names types 1 (numbered_tasks types p));
}
