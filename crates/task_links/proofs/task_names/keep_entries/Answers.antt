use Rattle.task_links.proofs.KeepingLemmas.{entry_step}
use Rattle.task_links.proofs.task_names.keep_entries.Goals as goal

pub loop-place-preserved : goal.loop-place-preserved
loop-place-preserved c =
    entry_step c.args.map.now c.loop-place.map c.keep_entry.new.map c.args.entries.now c.loop-place.place c.in_ok-number_of.field-0 _
    c.loop-place-test.true c.in_ok-number_of.ensures c.loop-place.invariant c.in_ok-keep_entry.ensures
