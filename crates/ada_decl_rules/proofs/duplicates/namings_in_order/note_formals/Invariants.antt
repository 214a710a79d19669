use Rattle.std.proofs.Common.{◌≡◌, ◌++◌, drop, map, [], false}
use Rattle.ada_tree.specs.PlainStmt.{plain_formal}
use Rattle.ada_static_rules.specs.Sites.{all_names}
use Rattle.scoped_names.specs.name_sets.Numbers.{numbers_in}
use Rattle.ada_decl_rules.specs.duplicates.NamingsInOrder.{declared}
use Rattle.ada_decl_rules.proofs.duplicates.namings_in_order.note_formals.Given as goal

-- what is noted so far, and what is still to come
abbrev pub invariant-loop-formal : goal.invariant-loop-formal
invariant-loop-formal l = l.namings.items ++ declared false (numbers_in l.here) (all_names (map plain_formal (drop l.formal-index l.formals))) ≡ l.fn.namings.items ++ declared false [] (all_names (map plain_formal l.formals))
