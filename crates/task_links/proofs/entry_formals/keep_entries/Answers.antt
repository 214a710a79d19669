use Rattle.task_links.proofs.UnitsLemmas.{entry_more}
use Rattle.task_links.proofs.entry_formals.keep_entries.Goals as goal

pub loop-entry-preserved : goal.loop-entry-preserved
loop-entry-preserved c =
    entry_more c.args.names.now c.args.unit c.args.kept.now c.loop-entry.kept c.keep_formals.new.kept c.args.entries.now c.loop-entry.entry-index c.entry-item.result _
    c.loop-entry-test.true c.entry-item.is c.deref.ensures.value c.loop-entry.invariant c.in_ok-keep_formals.ensures
