use Rattle.std.proofs.Common.{◌≡◌, ◌++◌, map, take}
use Rattle.ada_tree.specs.PlainStmt.{plain_alt}
use Rattle.collect_statements.specs.Looked.{teller_of}
use Rattle.collect_statements.specs.Waited.{alternative_list, number_behind}
use Rattle.collect_statements.proofs.Turning.{Left}
use Rattle.collect_statements.proofs.waiting.put_alternatives.Given as goal

abbrev pub invariant-loop-alt : goal.invariant-loop-alt
invariant-loop-alt l = record {
  told : map plain_alt l.out.items ≡ map plain_alt l.initial.out.items ++ alternative_list (teller_of l.x) (map plain_alt (take l.alt-index l.initial.alt-items)) 1;
  number : l.k ≡ number_behind (map plain_alt (take l.alt-index l.initial.alt-items)) 1;
  left : Left l.alt-index l.alt-items l.initial.alt-items;
}
