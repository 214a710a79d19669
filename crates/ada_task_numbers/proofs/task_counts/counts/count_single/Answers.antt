use Rattle.ada_check_rules.proofs.rules.Listing.{cut}
use Rattle.ada_check_rules.proofs.rules.Capping.{count_step, count_all}
use Rattle.ada_task_numbers.proofs.task_counts.TaskCounting.{entry_more, entry_end}
use Rattle.ada_task_numbers.proofs.task_counts.counts.count_single.Goals as goal

pub loop-entry-preserved : goal.loop-entry-preserved
loop-entry-preserved c = record {
  count = count_step _ _ _ _ 1 c.loop-entry.invariant.count c.count_on-counted.ensures.count;
  refusal = λ around. entry_more c.args.by.now around c.args.entries.now c.loop-entry.entry-index c.entry-item.result _ _ _ _ _ (cut c.args.entries.now c.loop-entry.entry-index c.entry-item.result c.loop-entry-test.true c.entry-item.is) (c.loop-entry.invariant.refusal around) c.count_on-counted.ensures.count (c.count_on-counted.ensures.refusal around);
}

pub returns : goal.returns
returns c = λ around. record {
  count_is = count_all _ _ _ _ c.loop-entry-test.false c.loop-entry.auto.entry-index-end c.loop-entry.invariant.count;
  refusal_is = entry_end c.args.by.now around c.args.entries.now c.loop-entry.entry-index _ _ _ c.loop-entry-test.false (c.loop-entry.invariant.refusal around);
}
