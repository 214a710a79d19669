-- The tasks of a program in the order of their numbers: each single task, each object of a task type, and each member of an array of tasks (this project's rule). The names of one declaration go from left to right, and the members of an array by ascending index.
use Rattle.std.specs.Prelude.{ℕ, ℤ, pos, ◌+ℤ◌, zero, suc, Bool, true, false, ◌==◌, List, [], ◌∷◌, ◌++◌, map, flat_map, find, Option, Some, None}
use Rattle.ada_tree.specs.declared.naming.NameId.{NameId}
use Rattle.ada_tree.specs.declared.naming.Span.{Span}
use Rattle.ada_tree.specs.declared.naming.Word.{Word}
use Rattle.ada_tree.specs.TypeTable.{TypeTable}
use Rattle.ada_tree.specs.PlainExpr.{PDrange}
use Rattle.ada_tree.specs.PlainDecl.{PShape, OPlain, OArray, PTask, DObject, DTask, PDecls, no_decl, decl_then}
use Rattle.ada_tree.specs.PlainProgram.{PProgram}
use Rattle.syn_event.specs.Extents.{Extent, extent, size, size_of}

-- a name that stands for tasks: the name, the place of its declaration (of an object the name itself), the task or type whose body they run, and for an array of tasks the range of its index
pub record NamedTasks : Type 0 where
  pub name : Word
  pub place : Span
  pub unit : PTask
  pub index_range : Option PDrange

-- a name that stands for tasks, with its place, its task or type, and its index range
abbrev pub named_tasks : Word → Span → PTask → Option PDrange → NamedTasks
named_tasks name place unit index_range = record { name = name; place = place; unit = unit; index_range = index_range }

-- ---- the names in order

-- the task type of that name
abbrev pub type_named : List PTask → NameId → Option PTask
type_named kinds id = find (λ t. t.name.name.0 == id.0) kinds

-- objects are tasks where their mark, or that of their components, is a task type
abbrev pub task_names_of_type : Option PTask → List Word → Option PDrange → List NamedTasks
task_names_of_type (Some t) names index_range = map (λ w. named_tasks w w.span t index_range) names
task_names_of_type None names index_range = []

-- the names of an object declaration that stand for tasks: all, where the mark of the object or its components is a task type (9.2)
abbrev pub object_task_names : List PTask → List Word → PShape → List NamedTasks
object_task_names kinds names (OPlain x) = task_names_of_type (type_named kinds x.mark.name) names None
object_task_names kinds names (OArray index x) = task_names_of_type (type_named kinds x.mark.name) names (Some index)

-- the task types after a task declaration: with this one, where it is a task type (9.2)
abbrev pub with_type : List PTask → Bool → PTask → List PTask
with_type kinds true t = t ∷ kinds
with_type kinds false t = kinds

-- a task type is no task itself
abbrev pub single_task_name : Bool → PTask → Span → List NamedTasks
single_task_name true t s = []
single_task_name false t s = named_tasks t.name s t None ∷ []

-- the names of tasks in declarations behind some task types
abbrev pub task_names_in : List PTask → PDecls → List NamedTasks
task_names_in kinds no_decl = []
task_names_in kinds (decl_then (DTask t s) rest) = single_task_name t.of_kind t s ++ task_names_in (with_type kinds t.of_kind t) rest
task_names_in kinds (decl_then (DObject names constant shape init s) rest) = object_task_names kinds names shape ++ task_names_in kinds rest
task_names_in kinds (decl_then _ rest) = task_names_in kinds rest

-- The names of a program's tasks, in declared order.
abbrev pub task_names_of : PProgram → List NamedTasks
task_names_of p = task_names_in [] p.decls

-- ---- the tasks themselves

-- how many tasks a name stands for
abbrev pub count_of_range : TypeTable → Option PDrange → ℕ
count_of_range types (Some r) = size types r
count_of_range types None = 1

-- how many tasks a name stands for: the size of its index range, or one where it has none
abbrev pub task_count : TypeTable → NamedTasks → ℕ
task_count types x = count_of_range types x.index_range

-- one task: its name, the task or type whose body it runs, and its index where it is a member of an array
pub record NumberedTask : Type 0 where
  pub name : NameId
  pub unit : PTask
  pub member : Option ℤ

-- one of the tasks that a name stands for, with its index where it is a member of an array
abbrev pub numbered_task : NamedTasks → Option ℤ → NumberedTask
numbered_task x member = record { name = x.name.name; unit = x.unit; member = member }

-- so many numbers, one after the other
abbrev pub numbers_on : ℤ → ℕ → List ℤ
numbers_on first zero = []
numbers_on first (suc n) = first ∷ numbers_on (first +ℤ pos 1) n

-- the values of an extent, in ascending order; none where it is not known
abbrev pub indices : Option Extent → List ℤ
indices (Some x) = numbers_on x.first (size_of x)
indices None = []

-- the tasks that a name stands for: one for each index of that range, or the name's own one where there is no range
abbrev pub tasks_of_range : TypeTable → NamedTasks → Option PDrange → List NumberedTask
tasks_of_range types x (Some r) = map (λ i. numbered_task x (Some i)) (indices (extent types r))
tasks_of_range types x None = numbered_task x None ∷ []

-- the tasks that a name stands for, in the order of their numbers (this project's rule)
abbrev pub tasks_of_name : TypeTable → NamedTasks → List NumberedTask
tasks_of_name types x = tasks_of_range types x x.index_range

-- The tasks of a program beside main, in the order of their numbers.
abbrev pub numbered_tasks : TypeTable → PProgram → List NumberedTask
numbered_tasks types p = flat_map (tasks_of_name types) (task_names_of p)
