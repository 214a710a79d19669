-- What the names of a normal form leave to its collecting text (8.3; this project's rule).
use Rattle.std.specs.Prelude.{◌≡◌, ℕ, List, length, take}
use Rattle.std.specs.List.{AllByRecursion}
use Rattle.ada_tree.specs.NameList.{predefined}
use Rattle.ada_tree.specs.PlainProgram.{PProgram}
use Rattle.ada_static_rules.specs.Sites.{sites}
use Rattle.ada_decl_rules.specs.duplicates.NamingsInOrder.{namings_of}
use Rattle.ada_decl_rules.specs.declared.duplicates.namings_in_order.Naming.{Naming}
use Rattle.replay_structure.specs.declares_once.Names.{word_named}
use Rattle.collect_structure.specs.Names.{IsOwn}

-- The name is one of these texts, and one that no collecting text declares.
abbrev pub IsKept : List (List ℕ) → Naming → Type 0
IsKept names n = IsOwn names (word_named n).name.0

-- What is asked of the names of a normal form: the predefined ones stand first, and what is declared or named has a name that no collecting text declares.
pub record LeavesNames (q : PProgram) : Type 0 where
  pub begins : take (length predefined) q.names ≡ predefined
  pub kept : AllByRecursion (IsKept q.names) (namings_of (sites q))
