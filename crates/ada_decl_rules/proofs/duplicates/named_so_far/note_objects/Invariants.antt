use Rattle.std.proofs.Common.{◌≡◌, ◌++◌, [], false, map, flat_map, drop}
use Rattle.ada_tree.specs.PlainDecl.{plain_decl}
use Rattle.scoped_names.specs.name_sets.Numbers.{numbers_in}
use Rattle.ada_decl_rules.specs.duplicates.NamingsInOrder.{declared}
use Rattle.ada_decl_rules.specs.duplicates.NamedSoFar.{object_words}
use Rattle.ada_decl_rules.proofs.duplicates.named_so_far.note_objects.Given as goal

-- what is noted so far, and what is still to come
abbrev pub invariant-loop-decl : goal.invariant-loop-decl
invariant-loop-decl l = l.namings.items ++ declared false (numbers_in l.here) (flat_map object_words (map plain_decl (drop l.decl-index l.objects))) ≡ l.fn.namings.items ++ declared false [] (flat_map object_words (map plain_decl l.objects))
