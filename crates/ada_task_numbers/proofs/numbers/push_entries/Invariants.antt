use Rattle.std.proofs.Common.{◌≡◌, ◌++◌, map, take, None}
use Rattle.ada_tree.specs.PlainDecl.{plain_entry}
use Rattle.syn_event.specs.NamedTasks.{numbered_task}
use Rattle.syn_event.specs.AllNumbers.{entry_of_task}
use Rattle.ada_task_numbers.specs.task_objects.PlainNames.{plain_named_tasks}
use Rattle.ada_task_numbers.proofs.numbers.push_entries.Given as goal

-- so many entries stand behind what was there
abbrev pub invariant-loop-entry : goal.invariant-loop-entry
invariant-loop-entry l = l.entries.items ≡ l.initial.entries.items ++ map (entry_of_task l.names l.types l.owner (numbered_task (plain_named_tasks l.part) None)) (map plain_entry (take l.entry-index l.entry-items))
