-- What can be used in a collecting text is what can be used in the normal form, with more names, and with a formal more of each entry (this project's rule).
use Rattle.std.specs.Prelude.{◌≡◌, ℕ, Bool, true, List, Some, map}
use Rattle.ada_tree.specs.declared.naming.NameId.{NameId}
use Rattle.ada_tree.specs.PlainProgram.{PProgram}
use Rattle.ada_static_rules.specs.Scope.{Scope, EntryPart, SingleTask, meaning}
use Rattle.task_laws.specs.legal.alike_scopes.Alike.{SameNames}
use Rattle.collect_structure.specs.typed.Told.{told_entry}

-- Old names mean the same in the scope d of the text as in the scope c of the normal form, and tasks have the same entries with the formal of the caller.
pub record IsGrown (q : PProgram) (old : ℕ → Bool) (c d : Scope) : Type 0 where
  pub names : SameNames old c d
  pub main : c.in_main ≡ d.in_main
  pub tasks : (id : NameId) (entries : List EntryPart) → old id.0 ≡ true → meaning c id ≡ Some (SingleTask entries) → meaning d id ≡ Some (SingleTask (map (told_entry q) entries))
