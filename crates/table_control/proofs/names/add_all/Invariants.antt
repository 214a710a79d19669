use Rattle.std.proofs.Common.{◌≡◌, fold, length, map, take}
use Rattle.ada_tree.specs.NameList.{interned}
use Rattle.normal_model.specs.Names.{id_of}
use Rattle.table_control.proofs.names.add_all.Given as goal

abbrev pub invariant-loop-k : goal.invariant-loop-k
invariant-loop-k l = record {
  ids : take l.k l.ids ≡ map (λ t. id_of l.names t.now) (take l.k l.texts);
  texts : l.names ≡ fold interned l.initial.names (map (λ t. t.now) (take l.k l.texts));
  slots : length l.ids ≡ 13;
  begins : take (length l.initial.names) l.names ≡ l.initial.names;
}
