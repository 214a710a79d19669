-- Which meanings a name may not have at a place.
use Rattle.std.specs.Prelude.{Bool, true, false, ◌==◌, Option, Some}
use Rattle.ada_tree.specs.declared.naming.NameId.{NameId}
use Rattle.syn_event.specs.declared.meanings.Meant.{Meant}
use Rattle.syn_event.specs.declared.meanings.Meant.TheVariants.{MainProcedure, TaskType, TaskOf, Shared}

abbrev pub is_shared : Option Meant → Bool
is_shared (Some Shared) = true
is_shared _ = false

abbrev pub is_no_task : Option Meant → Bool
is_no_task (Some MainProcedure) = true
is_no_task (Some TaskType) = true
is_no_task _ = false

-- a task that runs the body of the task or task type of that name
abbrev pub is_own_task : Option NameId → Option Meant → Bool
is_own_task (Some own) (Some (TaskOf unit)) = own.0 == unit.0
is_own_task _ _ = false
