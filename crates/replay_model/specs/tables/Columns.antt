-- What the tables of the controller say of operations (this project's rule).
use Rattle.std.specs.Prelude.{ℤ, pos, Bool, true, false, List, [], ◌∷◌}
use Rattle.std.specs.List.{list_any, before_first}
use Rattle.control_script.specs.declared.Op.{Op}
use Rattle.control_script.specs.declared.Op.TheVariants.{Go, Done, Join, Hold}
use Rattle.ada_tree.specs.declared.naming.NameId.{NameId}
use Rattle.replay_model.specs.declared.tables.columns.Column.{Column}
use Rattle.replay_model.specs.declared.tables.columns.Column.TheVariants.{Operation, Task, Kind, Argument, Index}
use Rattle.replay_model.specs.declared.tables.names.ControlNames.{ControlNames}

-- ---- operations

-- the controller waits for ever
abbrev pub is_hold : Op → Bool
is_hold (Go task kind arg index) = false
is_hold (Done task) = false
is_hold (Join task) = false
is_hold Hold = true

-- The operations that are made: those before the first that waits for ever, since nothing follows it.
abbrev pub acts : List Op → List Op
acts ops = before_first is_hold ops

-- There is one that waits for ever.
abbrev pub holds : List Op → Bool
holds ops = list_any is_hold ops

-- ---- columns

-- the tables, in the order in which they are declared
abbrev pub columns : List Column
columns = Operation ∷ Task ∷ Kind ∷ Argument ∷ Index ∷ []

-- 1 stands for a permit, 2 for hearing that it is used, and 3 for waiting until a task is closed
abbrev pub number_of_act : Op → ℤ
number_of_act (Go task kind arg index) = pos 1
number_of_act (Done task) = pos 2
number_of_act (Join task) = pos 3
number_of_act Hold = pos 3

abbrev pub task_of_act : Op → ℤ
task_of_act (Go task kind arg index) = pos task
task_of_act (Done task) = pos task
task_of_act (Join task) = pos task
task_of_act Hold = pos 0

-- the parts of a permit; what hands out none has 0
abbrev pub kind_of_act : Op → ℤ
kind_of_act (Go task kind arg index) = pos kind
kind_of_act (Done task) = pos 0
kind_of_act (Join task) = pos 0
kind_of_act Hold = pos 0

abbrev pub argument_of_act : Op → ℤ
argument_of_act (Go task kind arg index) = pos arg
argument_of_act (Done task) = pos 0
argument_of_act (Join task) = pos 0
argument_of_act Hold = pos 0

abbrev pub index_of_act : Op → ℤ
index_of_act (Go task kind arg index) = index
index_of_act (Done task) = pos 0
index_of_act (Join task) = pos 0
index_of_act Hold = pos 0

-- What a table says of an operation.
abbrev pub says : Column → Op → ℤ
says Operation op = number_of_act op
says Task op = task_of_act op
says Kind op = kind_of_act op
says Argument op = argument_of_act op
says Index op = index_of_act op

-- the name of the table
abbrev pub table_name : ControlNames → Column → NameId
table_name n Operation = n.operations
table_name n Task = n.tasks
table_name n Kind = n.kinds
table_name n Argument = n.arguments
table_name n Index = n.indices
