use Rattle.std.proofs.Common.{◌≡◌, ◌++◌, map, take}
use Rattle.ada_tree.specs.PlainDecl.{plain_entry}
use Rattle.replay_asking.specs.Looked.{voice_of}
use Rattle.replay_declarations.specs.ids.Arranged.{double_entry}
use Rattle.replay_declarations.proofs.units.tasks.put_doubles.Given as goal

abbrev pub invariant-loop-entry : goal.invariant-loop-entry
invariant-loop-entry l = map plain_entry l.out.items ≡ map plain_entry l.initial.out.items ++ map (double_entry (voice_of l.x)) (map plain_entry (take l.entry-index l.entries))
