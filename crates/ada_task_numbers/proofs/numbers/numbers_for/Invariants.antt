use Rattle.std.proofs.Common.{◌≡◌, ◌∷◌, map, take}
use Rattle.std.specs.Prelude.{flat_map}
use Rattle.syn_event.specs.AddedNames.{task_info}
use Rattle.syn_event.specs.NamedTasks.{tasks_of_name}
use Rattle.syn_event.specs.AllNumbers.{info_of_task, entries_of_tasks}
use Rattle.ada_task_numbers.specs.task_objects.PlainNames.{plain_named_tasks}
use Rattle.ada_task_numbers.proofs.numbers.numbers_for.Given as goal

-- main and the tasks of so many names are numbered, with their entries
abbrev pub invariant-loop-part : goal.invariant-loop-part
invariant-loop-part l = record {
  tasks : l.tasks.items ≡ task_info l.p.names l.p.name.name ∷ map (info_of_task l.p.names) (flat_map (tasks_of_name l.types) (map plain_named_tasks (take l.part-index l.part-items)));
  entries : l.entries.items ≡ entries_of_tasks l.p.names l.types 1 (flat_map (tasks_of_name l.types) (map plain_named_tasks (take l.part-index l.part-items)));
}
