-- The tasks of a normal form, each as one that runs a body of its own.
use Rattle.std.specs.Prelude.{ℕ, List, map}
use Rattle.ada_tree.specs.PlainDecl.{PTask}
use Rattle.syn_event.specs.declared.numbering.TaskInfo.{TaskInfo}
use Rattle.syn_event.specs.AddedNames.{task_info}

abbrev pub infos_of : List (List ℕ) → List PTask → List TaskInfo
infos_of names tasks = map (λ task. task_info names task.name.name) tasks
