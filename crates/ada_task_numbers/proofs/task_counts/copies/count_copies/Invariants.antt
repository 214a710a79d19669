use Rattle.std.proofs.Common.{◌≡◌, ◌*◌, map, drop}
use Rattle.syn_event.specs.CheckScope.{CheckScope}
use Rattle.syn_event.specs.NamedTasks.{NamedTasks, task_count}
use Rattle.syn_event.specs.CheckSites.{copies_sites}
use Rattle.ada_check_rules.specs.rules.Amounts.{capped}
use Rattle.ada_check_rules.specs.rules.Sooner.{sooner}
use Rattle.ada_check_rules.specs.rules.RefusedFirst.{refused_first}
use Rattle.ada_task_numbers.specs.task_objects.PlainNames.{plain_named_tasks}
use Rattle.ada_task_numbers.specs.task_counts.inner.Shares.{share_of}
use Rattle.ada_task_numbers.proofs.task_counts.copies.count_copies.Given as goal

-- what is refused so far, and of the names that are left
abbrev pub invariant-loop-part : goal.invariant-loop-part
invariant-loop-part l =
    (around : CheckScope) → sooner l.counted.refusal (refused_first l.by (copies_sites around (λ (x : NamedTasks). capped (capped (task_count l.types x) * share_of l.shares x.unit.name.name)) l.counted.count (map plain_named_tasks (drop l.part-index l.parts))))
    ≡ sooner l.initial.counted.refusal (refused_first l.by (copies_sites around (λ (x : NamedTasks). capped (capped (task_count l.types x) * share_of l.shares x.unit.name.name)) l.initial.counted.count (map plain_named_tasks l.parts)))
