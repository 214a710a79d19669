use Rattle.std.proofs.Common.{◌≡◌, fold, map, take}
use Rattle.ada_tree.specs.NameList.{interned}
use Rattle.collect_xform.proofs.names.intern_all.Given as goal

abbrev pub invariant-loop-text : goal.invariant-loop-text
invariant-loop-text l = l.names ≡ fold interned l.initial.names (map (λ t. t.now) (take l.text-index l.texts))
