-- What is told of the declarations of entries.
use Rattle.std.specs.Prelude.{◌≡◌, ℕ, List, [], map, Option}
use Rattle.ada_tree.specs.declared.naming.Word.{Word}
use Rattle.ada_tree.specs.PlainStmt.{PFormal}
use Rattle.ada_tree.specs.PlainDecl.{PEntry}
use Rattle.ada_static_rules.specs.Scope.{Scope, Family, FormalPart, EntryPart}
use Rattle.ada_static_rules.specs.Demand.{Site}
use Rattle.ada_static_rules.specs.Sites.{entry_sites}
use Rattle.ada_static_rules.specs.RefusedFirst.{refused_first}
use Rattle.ada_scopes.specs.Entries.{plain_family, plain_entry}
use Rattle.ada_entry_rules.specs.declared.entries.WalkedFamily.{WalkedFamily}
use Rattle.ada_entry_rules.specs.declared.entries.WalkedEntry.{WalkedEntry}
use Rattle.ada_entry_rules.specs.declared.entries.WalkedEntries.{WalkedEntries}

-- a formal of an entry, by the kind of its mark
abbrev pub part_of : PFormal → Option ℕ → Word → FormalPart
part_of f kind w = record { name = w.name; mode = f.mode; mark = f.mark.name; kind = kind }

-- the members of an entry, an entry and the entries of a task, with the first refusal at their places
pub record IsFamily (sites : List Site) (family : Family) (w : WalkedFamily) : Type 0 where
  pub family_is : plain_family w.family ≡ family
  pub refusal_is : w.refusal ≡ refused_first sites

pub record IsEntry (sites : List Site) (entry : EntryPart) (w : WalkedEntry) : Type 0 where
  pub part_is : plain_entry w.part ≡ entry
  pub refusal_is : w.refusal ≡ refused_first sites

pub record AreEntries (sites : List Site) (entries : List EntryPart) (w : WalkedEntries) : Type 0 where
  pub parts_are : map plain_entry w.parts.items ≡ entries
  pub refusal_is : w.refusal ≡ refused_first sites

-- the places of an entry, whatever entries stand before it
abbrev pub each_entry : Scope → PEntry → List Site
each_entry scope e = entry_sites scope [] e
