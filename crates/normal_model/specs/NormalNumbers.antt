-- The numbers of a normal form (this project's rule): those of the program from which it was made, in which each task has the name that it has here, runs a body of its own, and is the member of no array.
use Rattle.std.specs.Prelude.{◌∷◌, map}
use Rattle.ada_tree.specs.PlainProgram.{PProgram}
use Rattle.syn_event.specs.Numbering.{Numbering}
use Rattle.syn_event.specs.AddedNames.{task_info}
use Rattle.syn_event.specs.DeclaredTasks.{tasks_of}

-- The numbers of a normal form, by those of the program from which it was made.
abbrev pub normal_numbers : PProgram → Numbering → Numbering
normal_numbers q numbers = record {
  main = numbers.main;
  tasks = task_info q.names q.name.name ∷ map (λ task. task_info q.names task.name.name) (tasks_of q);
  entries = numbers.entries;
}
