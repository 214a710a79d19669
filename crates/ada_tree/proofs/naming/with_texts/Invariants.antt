use Rattle.std.proofs.Common.{◌≡◌, map, fold, take, string_bytes, []}
use Rattle.ada_tree.specs.NameList.{interned}
use Rattle.ada_tree.proofs.naming.with_texts.Given as goal

abbrev pub invariant-loop-text : goal.invariant-loop-text
invariant-loop-text l = map string_bytes l.set.keys ≡ fold interned [] (map (λ t. t.now) (take l.text-index l.texts))
