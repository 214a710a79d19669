use Rattle.std.proofs.Common.{◌≡◌, map, take}
use Rattle.ada_tree.specs.PlainDecl.{plain_entry}
use Rattle.collect_model.specs.CollectTree.{entry_telling}
use Rattle.normal_parts.proofs.Turning.{Left}
use Rattle.collect_xform.proofs.units.tasks.tell_entries.Given as goal

abbrev pub invariant-loop-entry : goal.invariant-loop-entry
invariant-loop-entry l = record {
  done : map plain_entry (take l.entry-index l.entry-items) ≡ map (entry_telling l.n) (map plain_entry (take l.entry-index l.initial.entry-items));
  left : Left l.entry-index l.entry-items l.initial.entry-items;
}
