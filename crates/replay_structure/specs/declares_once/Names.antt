-- What the names of a normal form leave to its replay text (8.3; this project's rule).
use Rattle.std.specs.Prelude.{◌≡◌, ℕ, Bool, false, ◌||◌, nat_eq, List, [], ◌∷◌, Some, IsSomeAnd, codes, length, take, slice_get}
use Rattle.std.specs.List.{AllByRecursion, list_any, starts_with}
use Rattle.std.specs.Str.{bytes_eq}
use Rattle.ada_tree.specs.declared.naming.Word.{Word}
use Rattle.ada_tree.specs.NameList.{predefined}
use Rattle.ada_tree.specs.PlainProgram.{PProgram}
use Rattle.ada_static_rules.specs.Sites.{sites}
use Rattle.ada_decl_rules.specs.duplicates.NamingsInOrder.{namings_of}
use Rattle.ada_decl_rules.specs.declared.duplicates.namings_in_order.Naming.{Naming}
use Rattle.ada_decl_rules.specs.declared.duplicates.namings_in_order.Naming.TheVariants.{Declares, Labels, Once}
use Rattle.replay_model.specs.Names.{kind_text, argument_text, index_text, control_text, idle_text, never_text, join_text, operations_text, tasks_text, kinds_text, arguments_text, indices_text, counter_text}

-- what each replay text declares: the variables of a permit, the controller, the idle task, the two more entries of each task, and the tables and the
-- loop parameter of the controller; the entries of the controller and of the idle task stand apart
abbrev pub declared_texts : List (List ℕ)
declared_texts =
    kind_text ∷ argument_text ∷ index_text ∷ control_text ∷ idle_text ∷ never_text ∷ join_text
    ∷ operations_text ∷ tasks_text ∷ kinds_text ∷ arguments_text ∷ indices_text ∷ counter_text ∷ []

-- A replay text declares a name of this text: one of those, or the double of an entry.
abbrev pub is_added_text : List ℕ → Bool
is_added_text t = list_any (bytes_eq t) declared_texts || starts_with nat_eq t (codes "DED_S_")

-- the name that is declared, given to a loop, or named
abbrev pub word_named : Naming → Word
word_named (Declares for_all again w) = w
word_named (Labels w) = w
word_named (Once again w) = w

-- The name is one of these texts, and one that no replay text declares.
abbrev pub IsKept : List (List ℕ) → Naming → Type 0
IsKept names n = IsSomeAnd (slice_get names (word_named n).name.0) (λ t. is_added_text t ≡ false)

-- What is asked of the names of a normal form: the predefined ones stand first, no text has two ids, and what is declared or named has a name that no
-- replay text declares.
pub record LeavesNames (q : PProgram) : Type 0 where
  pub begins : take (length predefined) q.names ≡ predefined
  pub distinct : (t : List ℕ) (i j : ℕ) → slice_get q.names i ≡ Some t → slice_get q.names j ≡ Some t → i ≡ j
  pub kept : AllByRecursion (IsKept q.names) (namings_of (sites q))
