use Rattle.std.proofs.Common.{map}
use Rattle.ada_tree.specs.PlainDecl.{plain_entry}
use Rattle.replay_asking.specs.Looked.{voice_of}
use Rattle.replay_declarations.specs.ids.Arranged.{double_entry}
use Rattle.replay_declarations.proofs.units.Sorted.{entries-turn}
use Rattle.replay_declarations.proofs.units.tasks.put_doubles.Goals as goal

pub loop-entry-preserved : goal.loop-entry-preserved
loop-entry-preserved c =
    entries-turn (double_entry (voice_of c.args.x.now)) (map plain_entry c.args.out.now.items) c.loop-entry.out.items c.push_entry.new.list.items c.args.entries.now c.loop-entry.entry-index c.entry-item.result c.double_entry.result c.loop-entry-test.true c.entry-item.is c.loop-entry.invariant c.in_ok-push_entry.ensures c.double_entry.ensures
