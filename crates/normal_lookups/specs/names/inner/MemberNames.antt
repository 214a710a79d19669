-- The name of a task by the names of its program and those that stand there once all members are named.
use Rattle.std.specs.Prelude.{◌≡◌, ℕ, ℤ, List, Option, Some, None, position}
use Rattle.std.specs.Str.{bytes_eq}
use Rattle.ada_tree.specs.declared.naming.NameId.{NameId}
use Rattle.syn_event.specs.declared.numbering.TaskInfo.{TaskInfo}
use Rattle.syn_event.specs.DeclaredTasks.{text_of}
use Rattle.normal_model.specs.Names.{id_of, name_of_member}

-- the name of a member of an array, or the name that is there
abbrev pub member_behind : List (List ℕ) → List (List ℕ) → NameId → Option ℤ → NameId
member_behind old texts name None = name
member_behind old texts name (Some i) = id_of texts (name_of_member (text_of old name) i)

abbrev pub name_behind : List (List ℕ) → List (List ℕ) → TaskInfo → NameId
name_behind old texts info = member_behind old texts info.name info.member

-- the id is that of the task, among texts in which its name stands
abbrev pub IsNamed : List (List ℕ) → List (List ℕ) → NameId → Option ℤ → NameId → Type 0
IsNamed old texts name None id = id ≡ name
IsNamed old texts name (Some i) id = position (bytes_eq (name_of_member (text_of old name) i)) texts ≡ Some id.0
