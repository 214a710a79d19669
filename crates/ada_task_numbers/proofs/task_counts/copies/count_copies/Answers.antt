use Rattle.std.proofs.Common.{◌*◌, ap, ◌∙◌}
use Rattle.syn_event.specs.NamedTasks.{NamedTasks, task_count}
use Rattle.ada_check_rules.specs.rules.Amounts.{capped}
use Rattle.ada_task_numbers.specs.task_objects.PlainNames.{plain_named_tasks}
use Rattle.ada_task_numbers.specs.task_counts.inner.Shares.{share_of}
use Rattle.ada_check_rules.proofs.rules.Listing.{cut}
use Rattle.ada_task_numbers.proofs.task_counts.TaskCounting.{copies_turn, copies_end}
use Rattle.ada_task_numbers.proofs.task_counts.copies.count_copies.Goals as goal

pub loop-part-preserved : goal.loop-part-preserved
loop-part-preserved c = λ around.
    copies_turn c.args.by.now around (λ (x : NamedTasks). capped (capped (task_count c.args.types.now x) * share_of c.args.shares.now x.unit.name.name)) plain_named_tasks c.args.parts.now c.loop-part.part-index c.part-item.result _ _ _ _ _ _ (cut c.args.parts.now c.loop-part.part-index c.part-item.result c.loop-part-test.true c.part-item.is) (c.loop-part.invariant around) (c.product-here.ensures ∙ ap (λ n. capped (n * c.of.result)) c.task_count.ensures ∙ ap (λ n. capped (capped (task_count c.args.types.now (plain_named_tasks c.part-item.result)) * n)) c.of.ensures) c.count_on-counted.ensures.count (c.count_on-counted.ensures.refusal around)

pub returns : goal.returns
returns c = λ around. copies_end c.args.by.now around (λ (x : NamedTasks). capped (capped (task_count c.args.types.now x) * share_of c.args.shares.now x.unit.name.name)) plain_named_tasks c.args.parts.now c.loop-part.part-index _ _ _ c.loop-part-test.false (c.loop-part.invariant around)
