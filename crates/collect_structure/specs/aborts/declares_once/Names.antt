-- What the names of a normal form leave to its collecting text with abort statements (8.3; this project's rule).
use Rattle.std.specs.Prelude.{◌≡◌, ℕ, ◌<◌, ◌^◌, Bool, true, not, ◌||◌, nat_eq, List, IsSomeAnd, codes, length, slice_get, take}
use Rattle.std.specs.List.{AllByRecursion, starts_with}
use Rattle.ada_tree.specs.NameList.{predefined}
use Rattle.ada_tree.specs.PlainProgram.{PProgram}
use Rattle.ada_static_rules.specs.Sites.{sites}
use Rattle.ada_decl_rules.specs.duplicates.NamingsInOrder.{namings_of}
use Rattle.ada_decl_rules.specs.declared.duplicates.namings_in_order.Naming.{Naming}
use Rattle.replay_structure.specs.declares_once.Names.{word_named}
use Rattle.collect_model.specs.aborts.Places.{most_places}

-- The text does not begin with DED_, or it does as those of the variables of a normal form do: so no text with abort statements gives it a meaning.
abbrev pub is_left : List ℕ → Bool
is_left t = not (starts_with nat_eq t (codes "DED_")) || starts_with nat_eq t (codes "DED_V")

-- a text that these names have under the id, and that is left alone
abbrev pub IsOwn : List (List ℕ) → ℕ → Type 0
IsOwn names x = IsSomeAnd (slice_get names x) (λ t. is_left t ≡ true)

-- What is asked of the names of a normal form: the predefined ones stand first, what is declared or named has a name that is left alone, and the places
-- of its units can be counted, so that the variables of two places have two names.
pub record LeavesNames (q : PProgram) : Type 0 where
  pub begins : take (length predefined) q.names ≡ predefined
  pub kept : AllByRecursion (λ (n : Naming). IsOwn q.names (word_named n).name.0) (namings_of (sites q))
  pub few : most_places q < 2 ^ 64
