use Rattle.std.proofs.Common.{◌≡◌, ◌++◌, map, take, option_map, Some}
use Rattle.std.specs.Borrow.{Bor}
use Rattle.ada_tree.specs.declared.declarations.Drange.{Drange}
use Rattle.ada_tree.specs.PlainExpr.{plain_drange}
use Rattle.ada_tree.specs.PlainDecl.{plain_task}
use Rattle.syn_event.specs.NamedTasks.{task_names_of_type}
use Rattle.ada_task_numbers.specs.task_objects.PlainNames.{plain_named_tasks}
use Rattle.ada_task_numbers.proofs.task_objects.task_names.push_objects.Given as goal

-- so many objects stand behind what was there
abbrev pub invariant-loop-name : goal.invariant-loop-name
invariant-loop-name l = map plain_named_tasks l.parts.items ≡ map plain_named_tasks l.initial.parts.items ++ task_names_of_type (Some (plain_task l.unit)) (take l.name-index l.names) (option_map (λ (r : Bor Drange). plain_drange r.now) l.index_range)
