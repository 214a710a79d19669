-- Rule MainEntry: the name of the main procedure or of a task type stands where that of a task is needed (9.5, 9.10).
use Rattle.std.specs.Prelude.{List, [], ◌∷◌, Option, Some}
use Rattle.ada_tree.specs.declared.naming.Span.{Span}
use Rattle.syn_event.specs.declared.meanings.Meant.{Meant}
use Rattle.syn_event.specs.declared.meanings.Meant.TheVariants.{MainProcedure, TaskType}
use Rattle.syn_event.specs.CheckScope.{CheckScope, meaning, CheckDemand, addresses}

-- the place of a name that means the main procedure or a task type; none of any other name (9.5, 9.10)
abbrev pub no_task : Option Meant → Span → List Span
no_task (Some MainProcedure) s = s ∷ []
no_task (Some TaskType) s = s ∷ []
no_task _ s = []

-- The names of the procedure and of task types in the place of a task's.
abbrev pub main_entry : CheckScope → CheckDemand → List Span
main_entry around (addresses w) = no_task (meaning around w.name) w.span
main_entry around _ = []
