use Rattle.std.proofs.Common.{arith, rules}
use Rattle.ada_tree.specs.PlainDecl.{plain_entry}
use Rattle.collect_model.specs.CollectTree.{entry_telling}
use Rattle.normal_parts.proofs.Turning.{mapped-turn, left-turn}
use Rattle.collect_xform.proofs.units.tasks.tell_entries.Goals as goal

pub loop-entry-preserved : goal.loop-entry-preserved
loop-entry-preserved c = record {
  done = mapped-turn plain_entry (entry_telling c.args.n.now) c.deref_mut-entry-items.result.now c.loop-entry.entry-items c.loop-entry.entry-index c.entry-item.result c.tell_entry.new.entry (search rules) c.loop-entry.invariant.left.size (c.loop-entry.invariant.left.same c.loop-entry.entry-index c.entry-item.result (omega arith)) c.loop-entry.invariant.done c.in_ok-tell_entry.ensures;
  left = left-turn c.deref_mut-entry-items.result.now c.loop-entry.entry-items c.loop-entry.entry-index c.tell_entry.new.entry c.loop-entry.invariant.left;
}
