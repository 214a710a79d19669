use Rattle.std.proofs.Common.{◌≡◌, map, drop, take}
use Rattle.std.specs.Prelude.{flat_map}
use Rattle.ada_tree.specs.PlainDecl as decl
use Rattle.ada_static_rules.specs.Declaring.{entry_part}
use Rattle.ada_static_rules.specs.Sooner.{sooner}
use Rattle.ada_static_rules.specs.RefusedFirst.{refused_first}
use Rattle.ada_scopes.specs.Entries.{plain_entry}
use Rattle.ada_entry_rules.specs.EntryDecls.{each_entry}
use Rattle.ada_entry_rules.proofs.entries.walk_entries.Given as goal

-- so many entries are made, and what is refused so far and of those that are left is all
abbrev pub invariant-loop-entry : goal.invariant-loop-entry
invariant-loop-entry l = record {
  parts : map plain_entry l.parts.items ≡ map (entry_part l.scope) (map decl.plain_entry (take l.entry-index l.entries));
  told : sooner l.refusal (refused_first (flat_map (each_entry l.scope) (map decl.plain_entry (drop l.entry-index l.entries)))) ≡ refused_first (flat_map (each_entry l.scope) (map decl.plain_entry l.entries));
}
