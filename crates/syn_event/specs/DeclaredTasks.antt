-- What a program declares, as lists: its declarations, and its tasks among them.
use Rattle.std.specs.Prelude.{ℕ, List, [], ◌∷◌, slice_get, unwrap_or}
use Rattle.ada_tree.specs.declared.naming.NameId.{NameId}
use Rattle.ada_tree.specs.PlainDecl.{PDecl, PDecls, no_decl, decl_then, DTask, PTask}
use Rattle.ada_tree.specs.PlainProgram.{PProgram}

-- the text of a name, in upper case
abbrev pub text_of : List (List ℕ) → NameId → List ℕ
text_of names id = unwrap_or (slice_get names id.0) []

-- the declarations of a row, in order
abbrev pub decl_list : PDecls → List PDecl
decl_list no_decl = []
decl_list (decl_then d rest) = d ∷ decl_list rest

-- the tasks that are declared, in order
abbrev pub tasks_in : List PDecl → List PTask
tasks_in [] = []
tasks_in (DTask task span ∷ rest) = task ∷ tasks_in rest
tasks_in (_ ∷ rest) = tasks_in rest

-- the tasks and task types that a program declares, in order (9.1)
abbrev pub tasks_of : PProgram → List PTask
tasks_of p = tasks_in (decl_list p.decls)
