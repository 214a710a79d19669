-- How much of each task's body the rewriters would copy (this project's measure): the length of the body's declaration in the source, and 100 times the length of an array of tasks for each callee index in the body that is not static.
use Rattle.std.specs.Prelude.{ℕ, ◌+◌, ◌-◌, ◌*◌, ◌==◌, if◌then◌else◌, List, sum_by, find, Option, Some, None}
use Rattle.ada_tree.specs.declared.naming.NameId.{NameId}
use Rattle.ada_tree.specs.declared.naming.Span.{Span}
use Rattle.ada_tree.specs.TypeTable.{TypeTable}
use Rattle.ada_tree.specs.PlainExpr.{PExpr}
use Rattle.ada_tree.specs.PlainStmt.{PCallee, PBody}
use Rattle.ada_tree.specs.PlainDecl.{DTaskBody, PDecls, no_decl, decl_then}
use Rattle.ada_static_rules.specs.StaticValue.{is_static}
use Rattle.syn_event.specs.NamedTasks.{NamedTasks, task_count}
use Rattle.syn_event.specs.Callees.{body_callees}

-- how many tasks a name stands for; none where it is that of no task
abbrev pub count_named : TypeTable → Option NamedTasks → ℕ
count_named types (Some x) = task_count types x
count_named types None = 0

-- how many tasks a name stands for, by the first declared name that is the same; 0 where it names no task
abbrev pub length_of_array : TypeTable → List NamedTasks → NameId → ℕ
length_of_array types parts id = count_named types (find (λ x. x.name.name.0 == id.0) parts)

-- a callee whose index is not static stands for a choice among all members
abbrev pub callee_share : TypeTable → List NamedTasks → PCallee → ℕ
callee_share types parts c = of_index c.index
  where
    of_index : Option PExpr → ℕ
    of_index (Some e) = if is_static types e then 0 else 100 * length_of_array types parts c.name.name
    of_index None = 0

-- what the callees of a body add to its measure: the sum of their shares (this project's measure)
abbrev pub callees_share : TypeTable → List NamedTasks → PBody → ℕ
callees_share types parts its = sum_by (callee_share types parts) (body_callees its)

-- the length of a part of the source
abbrev pub source_length : Span → ℕ
source_length s = s.end - s.start

-- what is copied for a task that runs the body of the unit of that name; nothing where it has none
abbrev pub body_share : TypeTable → List NamedTasks → PDecls → NameId → ℕ
body_share types parts no_decl id = 0
body_share types parts (decl_then (DTaskBody name objects its s) rest) id =
    if name.name.0 == id.0 then source_length s + callees_share types parts its else body_share types parts rest id
body_share types parts (decl_then _ rest) id = body_share types parts rest id

-- what is copied for all the tasks that a name stands for
abbrev pub part_share : TypeTable → List NamedTasks → PDecls → NamedTasks → ℕ
part_share types parts decls x = task_count types x * body_share types parts decls x.unit.name.name
