use Rattle.std.proofs.Common.{◌≡◌, length, map, ◌*◌, arith}
use Rattle.std.proofs.lemmas.Grind.{common_steps}
use Rattle.ada_tree.specs.PlainDecl.{plain_entry}
use Rattle.syn_event.specs.NamedTasks.{task_count}
use Rattle.ada_check_rules.specs.rules.Amounts.{capped}
use Rattle.ada_task_numbers.specs.task_objects.PlainNames.{plain_named_tasks}
use Rattle.ada_task_numbers.proofs.task_counts.TaskCounting.{of_type}
use Rattle.ada_task_numbers.proofs.task_counts.counts.count_entries.Goals as goal

pub returns-then-part : goal.returns-then-part
returns-then-part c = λ around same.
    let here : c.product-here.result ≡ capped (capped (task_count c.args.types.now (plain_named_tasks c.args.part.now)) * length (map plain_entry c.args.part.now.unit.now.entries.items)) = grind (arith, common_steps) in
    of_type c.args.by.now around (plain_named_tasks c.args.part.now) c.args.so_far c.count_on.result c.product-here.result c.args.types.now same c.if-part.true here c.count_on.ensures.count (c.count_on.ensures.refusal around)
