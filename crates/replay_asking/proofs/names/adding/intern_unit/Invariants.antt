use Rattle.std.proofs.Common.{◌≡◌, fold, map, take}
use Rattle.ada_tree.specs.NameList.{interned}
use Rattle.syn_event.specs.DeclaredTasks.{text_of}
use Rattle.replay_model.specs.Names.{double_text}
use Rattle.replay_asking.proofs.names.adding.intern_unit.Given as goal

abbrev pub invariant-loop-entry : goal.invariant-loop-entry
invariant-loop-entry l = l.names ≡ fold interned l.initial.names (map (λ e. double_text (text_of l.originals e.name.name)) (take l.entry-index l.entry-items))
