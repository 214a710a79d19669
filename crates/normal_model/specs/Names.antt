-- The names that the normal form adds (this project's rule): a name of its own for each member of an array of tasks, and the variables DED_V1, DED_V2 and so on. No declared name of an original begins with DED_ or has _DED_ in it, so none of them means anything else there. Each goes behind the program's names, where it is not among them: first the members, by their tasks' numbers, then the variables.
use Rattle.std.specs.Prelude.{ℕ, zero, suc, ◌+◌, ℤ, pos, negsuc, List, [], ◌∷◌, ◌++◌, flat_map, position, Option, Some, None, unwrap_or, codes, decimal}
use Rattle.std.specs.List.{fold}
use Rattle.std.specs.Str.{bytes_eq}
use Rattle.ada_tree.specs.declared.naming.NameId.{NameId}
use Rattle.ada_tree.specs.NameList.{interned}
use Rattle.syn_event.specs.declared.numbering.TaskInfo.{TaskInfo}
use Rattle.syn_event.specs.DeclaredTasks.{text_of}
use Rattle.syn_event.specs.Numbering.{task_at}
use Rattle.task_model.specs.Setting.{Setting}

-- ---- texts

-- the digits of an index, with M in front of those of a negative one
abbrev pub index_text : ℤ → List ℕ
index_text (pos n) = decimal n
index_text (negsuc n) = codes "M" ++ decimal (suc n)

-- The member of an array A at the index or position 2 is named A_DED_2.
abbrev pub name_of_member : List ℕ → ℤ → List ℕ
name_of_member array i = array ++ codes "_DED_" ++ index_text i

-- The variables of a unit are named DED_V1, DED_V2 and so on; counted from 0 here.
abbrev pub variable_text : ℕ → List ℕ
variable_text k = codes "DED_V" ++ decimal (k + 1)

-- ---- the names of the result

-- the new name of a task, where it is a member of an array
abbrev pub texts_of_member : List ℕ → Option ℤ → List (List ℕ)
texts_of_member array None = []
texts_of_member array (Some i) = name_of_member array i ∷ []

-- the new names of tasks, in order
abbrev pub member_texts : List (List ℕ) → List TaskInfo → List (List ℕ)
member_texts names infos = flat_map (λ info. texts_of_member (text_of names info.name) info.member) infos

-- the names of a program and of the members of its arrays of tasks
abbrev pub with_members : Setting → List (List ℕ)
with_members g = fold interned g.program.names (member_texts g.program.names g.numbers.tasks)

-- names, and those of the first n variables
abbrev pub with_variables : List (List ℕ) → ℕ → List (List ℕ)
with_variables names zero = names
with_variables names (suc n) = interned (with_variables names n) (variable_text n)

-- The names of a normal form in which no unit has more than n variables.
abbrev pub normal_names : Setting → ℕ → List (List ℕ)
normal_names g n = with_variables (with_members g) n

-- ---- ids

-- the id of a text among names
abbrev pub id_of : List (List ℕ) → List ℕ → NameId
id_of names text = record { 0 = unwrap_or (position (bytes_eq text) names) 0 }

-- The name of the variable of a number; it hangs on no later one.
abbrev pub variable_name : Setting → ℕ → NameId
variable_name g k = id_of (normal_names g (k + 1)) (variable_text k)

-- a member's name, or the name that is there
abbrev pub member_name : Setting → NameId → Option ℤ → NameId
member_name g name None = name
member_name g name (Some i) = id_of (with_members g) (name_of_member (text_of g.program.names name) i)

-- The name that a task has in the normal form: a member of an array has one of its own, and any other task keeps its own.
abbrev pub task_name : Setting → TaskInfo → NameId
task_name g info = member_name g info.name info.member

-- the name of the task of a number; 0 where there is none, as in no legal program
abbrev pub name_of_task : Setting → Option TaskInfo → NameId
name_of_task g None = record { 0 = 0 }
name_of_task g (Some info) = task_name g info

abbrev pub task_name_at : Setting → ℕ → NameId
task_name_at g t = name_of_task g (task_at g.numbers t)
