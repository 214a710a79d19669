use Rattle.std.proofs.Common.{◌≡◌, map, drop}
use Rattle.syn_event.specs.CheckScope.{CheckScope}
use Rattle.syn_event.specs.CheckSites.{tasks_sites}
use Rattle.ada_check_rules.specs.rules.Sooner.{sooner}
use Rattle.ada_check_rules.specs.rules.RefusedFirst.{refused_first}
use Rattle.ada_task_numbers.specs.task_objects.PlainNames.{plain_named_tasks}
use Rattle.ada_task_numbers.proofs.task_counts.counts.refuse_tasks.Given as goal

-- what is refused so far, and of the names that are left
abbrev pub invariant-loop-part : goal.invariant-loop-part
invariant-loop-part l =
    (around : CheckScope) → around.types ≡ l.types → sooner l.counted.refusal (refused_first l.by (tasks_sites around l.counted.count (map plain_named_tasks (drop l.part-index l.parts)))) ≡ refused_first l.by (tasks_sites around 0 (map plain_named_tasks l.parts))
