use Rattle.std.proofs.Common.{◌≡◌, ◌+◌, ◌++◌, map, take}
use Rattle.ada_tree.specs.PlainStmt.{plain_alt, plain_arm}
use Rattle.normal_parts.proofs.Turning.{Left}
use Rattle.collect_abort.specs.Looked.{told_of}
use Rattle.collect_abort.specs.Waited.{alternative_list, branch_list, delay_behind}
use Rattle.collect_abort.proofs.waits.put_alternatives.Given as goal

abbrev pub invariant-loop-alt : goal.invariant-loop-alt
invariant-loop-alt l = record {
  told : map plain_alt l.told.items ≡ map plain_alt l.initial.told.items ++ alternative_list (told_of l.x) l.place (map plain_alt (take l.alt-index l.initial.alt-items)) 1 1;
  arms : map plain_arm l.arms.items ≡ map plain_arm l.initial.arms.items ++ branch_list (told_of l.x) l.place (map plain_alt (take l.alt-index l.initial.alt-items)) 1;
  part : l.part ≡ 1 + l.alt-index;
  number : l.k ≡ delay_behind (map plain_alt (take l.alt-index l.initial.alt-items)) 1;
  left : Left l.alt-index l.alt-items l.initial.alt-items;
}
