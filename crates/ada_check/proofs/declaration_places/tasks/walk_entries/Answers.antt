use Rattle.ada_tree.specs.PlainDecl.{plain_entry}
use Rattle.syn_event.specs.CheckSites.{entry_sites}
use Rattle.ada_check_rules.proofs.rules.Listing.{list_more, list_end}
use Rattle.ada_check.proofs.declaration_places.tasks.walk_entries.Goals as goal

pub loop-entry-preserved : goal.loop-entry-preserved
loop-entry-preserved c =
    list_more c.args.by.now plain_entry (entry_sites c.args.around.now) c.args.entries.now c.loop-entry.entry-index c.entry-item.result _ _ _ _ c.loop-entry-test.true c.entry-item.is c.loop-entry.invariant c.in_ok-found.ensures c.first-refusal.ensures

pub returns : goal.returns
returns c = list_end c.args.by.now plain_entry (entry_sites c.args.around.now) c.args.entries.now c.loop-entry.entry-index _ _ c.loop-entry-test.false c.loop-entry.invariant
