-- What is named before a place of main, and behind one more declaration.
use Rattle.std.specs.Prelude.{◌≡◌, ℕ, Bool, true, false, List, [], ◌++◌}
use Rattle.ada_tree.specs.declared.naming.Word.{Word}
use Rattle.ada_tree.specs.PlainDecl.{PDecl, DObject}
use Rattle.ada_static_rules.specs.Scope.{Scope}
use Rattle.ada_static_rules.specs.Demand.{Site}
use Rattle.ada_static_rules.specs.Declaring.{declared_object, after_decl}
use Rattle.ada_static_rules.specs.Sites.{is_task_object, with_words, decl_sites}
use Rattle.ada_decl_rules.specs.duplicates.NamingsInOrder.{namings_of, declared}
use Rattle.ada_decl_rules.specs.declared.duplicates.namings_in_order.Naming.{Naming}

pub record PlainNotes : Type 0 where
  -- what is named, in the order of the text
  pub namings : List Naming
  -- the names of main, the latest first
  pub here : List ℕ
  -- the tasks whose bodies stand before, and whether an instance of INTEGER_IO does
  pub bodies : List ℕ
  pub has_instance : Bool

abbrev pub no_notes : PlainNotes
no_notes = record { namings = []; here = []; bodies = []; has_instance = false }

-- notes and a scope of main stand at one place
pub record AreAt (scope : Scope) (notes : PlainNotes) : Type 0 where
  pub in_main : scope.in_main ≡ true
  pub here_is : notes.here ≡ scope.here
  pub bodies_are : notes.bodies ≡ scope.bodies
  pub instance_is : notes.has_instance ≡ scope.has_instance

-- notes with what is named at places, behind which that scope stands
abbrev pub behind : PlainNotes → List Site → Scope → PlainNotes
behind notes sites scope = record { namings = notes.namings ++ namings_of sites; here = scope.here; bodies = scope.bodies; has_instance = scope.has_instance }

-- notes with names more that are declared
abbrev pub with_declared : Bool → PlainNotes → List Word → PlainNotes
with_declared fixed notes ws = record notes { namings = notes.namings ++ declared fixed notes.here ws; here = with_words notes.here ws }

-- whether a declaration is one of objects that are tasks
abbrev pub is_of_tasks : Scope → PDecl → Bool
is_of_tasks scope (DObject names constant shape init s) = is_task_object (declared_object scope constant shape).thing
is_of_tasks scope _ = false

-- Notes stand behind a declaration of main, before which others stood.
unfoldable pub AreBehind : PlainNotes → PlainNotes → Bool → PDecl → Type 0
AreBehind old new of_tasks d = (scope : Scope) → AreAt scope old → is_of_tasks scope d ≡ of_tasks → new ≡ behind old (decl_sites scope d) (after_decl scope d)

-- ---- task bodies

-- the names of an object's declaration
abbrev pub object_words : PDecl → List Word
object_words (DObject names constant shape init s) = names
object_words _ = []

-- a scope in a task body, in which no name is declared yet
abbrev pub of_own : Scope → Scope
of_own scope = record scope { here = []; in_main = false }
