use Rattle.std.proofs.Common.{List, [], map, drop}
use Rattle.ada_tree.specs.PlainDecl.{plain_entry}
use Rattle.ada_static_rules.specs.Sites.{entries_sites}
use Rattle.scoped_names.specs.name_sets.Numbers.{numbers_in}
use Rattle.ada_decl_rules.specs.duplicates.NamingsInOrder.{Named}
use Rattle.ada_decl_rules.specs.declared.duplicates.namings_in_order.Naming.{Naming}
use Rattle.ada_decl_rules.proofs.duplicates.named_so_far.note_entries.Given as goal

-- what is still to be noted makes what is noted so far the whole
abbrev pub invariant-loop-entry : goal.invariant-loop-entry
invariant-loop-entry l = (new : List Naming) → Named l.namings.items new (λ s. entries_sites s (numbers_in l.names) (map plain_entry (drop l.entry-index l.entries))) → Named l.fn.namings.items new (λ s. entries_sites s [] (map plain_entry l.entries))
