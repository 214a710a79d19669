-- The declarations of tasks and task types by their names, and under other names.
use Rattle.std.specs.Prelude.{ℕ, ◌==◌, if◌then◌else◌, List, [], ◌∷◌}
use Rattle.ada_tree.specs.declared.naming.NameId.{NameId}
use Rattle.ada_tree.specs.PlainDecl.{PDecl, DTask, plain_task}
use Rattle.normal_model.specs.NormalTree.{task_under}
use Rattle.normal_form.specs.declared.unit_declarations.tasks.TaskDecl.{TaskDecl}

-- a declaration, as it is kept
abbrev pub seen_task : TaskDecl → PDecl
seen_task x = DTask (plain_task x.unit.now) x.span

-- the declaration, if it is that of a task or task type of a name
abbrev pub task_called : ℕ → PDecl → List PDecl
task_called q (DTask t s) = if t.name.name.0 == q then DTask t s ∷ [] else []
task_called q _ = []

-- the declaration of a task or task type as that of a task of another name
abbrev pub called : NameId → PDecl → PDecl
called name (DTask t s) = DTask (task_under name t) s
called name d = d
