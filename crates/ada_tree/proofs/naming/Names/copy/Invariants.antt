use Rattle.std.proofs.Common.{◌≡◌, map, fold, take, string_bytes, []}
use Rattle.ada_tree.specs.NameList.{interned}
use Rattle.ada_tree.proofs.naming.Names.copy.Given as goal

abbrev pub invariant-loop-text : goal.invariant-loop-text
invariant-loop-text l = map string_bytes l.texts.keys ≡ fold interned [] (map string_bytes (take l.text-index l.text-items))
