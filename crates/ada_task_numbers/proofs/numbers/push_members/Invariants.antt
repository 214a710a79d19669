use Rattle.std.proofs.Common.{◌≡◌, ◌++◌, map, length}
use Rattle.syn_event.specs.AllNumbers.{info_of_task, entries_of_tasks}
use Rattle.ada_task_numbers.specs.task_objects.PlainNames.{plain_named_tasks}
use Rattle.ada_task_numbers.specs.inner.TasksWithin.{tasks_within}
use Rattle.ada_task_numbers.proofs.numbers.push_members.Given as goal

-- so many members, with their entries, stand behind what was there
abbrev pub invariant-loop-step : goal.invariant-loop-step
invariant-loop-step l = record {
  tasks : l.tasks.items ≡ l.initial.tasks.items ++ map (info_of_task l.names) (tasks_within (plain_named_tasks l.part) l.first l.step);
  entries : l.entries.items ≡ l.initial.entries.items ++ entries_of_tasks l.names l.types (length l.initial.tasks.items) (tasks_within (plain_named_tasks l.part) l.first l.step);
}
