use Rattle.std.proofs.Common.{◌≡◌, fold, map, flat_map, take}
use Rattle.ada_tree.specs.NameList.{interned}
use Rattle.ada_tree.specs.PlainDecl.{plain_decl}
use Rattle.syn_event.specs.DeclaredTasks.{tasks_in}
use Rattle.replay_model.specs.Names.{double_texts}
use Rattle.replay_asking.proofs.names.adding.intern_doubles.Given as goal

abbrev pub invariant-loop-decl : goal.invariant-loop-decl
invariant-loop-decl l = l.names ≡ fold interned l.initial.names (flat_map (double_texts l.originals) (tasks_in (map plain_decl (take l.decl-index l.decls))))
