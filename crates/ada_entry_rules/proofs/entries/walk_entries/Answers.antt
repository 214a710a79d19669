use Rattle.std.proofs.Common.{◌∙◌, sym, [], map}
use Rattle.ada_tree.specs.PlainDecl as decl
use Rattle.ada_entry_rules.specs.EntryDecls.{each_entry}
use Rattle.ada_static_rules.proofs.Listing.{list_more, list_end}
use Rattle.ada_entry_rules.proofs.EntryDecls.{entry_added, entries_all, entries_flat}
use Rattle.ada_entry_rules.proofs.entries.walk_entries.Goals as goal

pub loop-entry-preserved : goal.loop-entry-preserved
loop-entry-preserved c = record {
  parts = entry_added c.args.scope.now c.args.entries.now c.loop-entry.entry-index c.entry-item.result _ _ _ c.loop-entry-test.true c.entry-item.is c.loop-entry.invariant.parts c.in_ok-push.ensures.items c.in_ok-walked.ensures.part_is;
  told = list_more decl.plain_entry (each_entry c.args.scope.now) c.args.entries.now c.loop-entry.entry-index c.entry-item.result _ _ _ _ c.loop-entry-test.true c.entry-item.is c.loop-entry.invariant.told c.in_ok-walked.ensures.refusal_is c.first-refusal.ensures;
}

pub returns : goal.returns
returns c = record {
  parts_are = entries_all c.args.scope.now c.args.entries.now c.loop-entry.entry-index _ c.loop-entry-test.false c.loop-entry.invariant.parts;
  refusal_is =
      list_end decl.plain_entry (each_entry c.args.scope.now) c.args.entries.now c.loop-entry.entry-index c.loop-entry.refusal _ c.loop-entry-test.false c.loop-entry.invariant.told
      ∙ sym (entries_flat c.args.scope.now [] (map decl.plain_entry c.args.entries.now));
}
