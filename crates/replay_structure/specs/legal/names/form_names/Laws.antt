-- The law that the names and the declarations of the normal form of a legal program are as its replay text asks.
use Rattle.std.specs.Prelude.{◌≡◌, ℕ, Bool, true, false, [], ◌++◌}
use Rattle.std.specs.List.{AllByRecursion, filter}
use Rattle.ada_tree.specs.declared.naming.Word.{Word}
use Rattle.ada_tree.specs.PlainStmt.{PBody}
use Rattle.ada_tree.specs.PlainDecl.{PDecl, DTaskBody, PDecls}
use Rattle.ada_tree.specs.PlainProgram.{PProgram}
use Rattle.ada_tree.specs.Every.{EveryBody}
use Rattle.syn_event.specs.DeclaredTasks.{decl_list}
use Rattle.normal_model.specs.NormalTree.{first_decls, main_variables}
use Rattle.normal_laws.specs.structure.checked.Around.{own_rules}
use Rattle.normal_laws.specs.runs.forms.Normalisable.{setting_for, made_for}
use Rattle.normal_laws.specs.existence.Laws.{IsLegalOriginal}
use Rattle.replay_model.specs.ReplayTree.{is_added_object, is_task, is_body}
use Rattle.replay_structure.specs.typed.ScopeOf.{AreOuter}
use Rattle.replay_structure.specs.checkable.Prepared.{form_for}
use Rattle.replay_structure.specs.scopes.Names.{old_name}
use Rattle.replay_structure.specs.scopes.Form.{AreNamesApart, AreAddedNames, HasOldInit, IsOwnObject, IsVariableOf, IsTaskOf, IsEveryTask, plain_decls}

-- A body whose name, objects and statements have old names.
pub record IsBodyNamed (old : ℕ → Bool) (w : Word) (objects : PDecls) (its : PBody) : Type 0 where
  pub named : old w.name.0 ≡ true
  pub owns : AllByRecursion (IsOwnObject old) (decl_list objects)
  pub inits : AllByRecursion (HasOldInit old) (decl_list objects)
  pub every : EveryBody (own_rules old) 1 its

-- the declaration is such a body
abbrev pub IsNamedBody : (ℕ → Bool) → PDecl → Type 0
IsNamedBody old (DTaskBody w objects its s) = IsBodyNamed old w objects its
IsNamedBody old _ = ⊥

-- What a replay text asks of the names and of the declarations of the normal form of a program, but for what can be used where.
pub record HasFormNames (p : PProgram) : Type 0 where
  -- names: what is asked of those that accepts and loops declare is asked of a test of them
  pub apart : (inner : ℕ → Bool) → AreOuter (made_for p) inner → AreNamesApart (form_for p) (old_name (made_for p)) inner
  pub added : AreAddedNames (made_for p) (old_name (made_for p))
  -- the declarations that are neither tasks nor bodies
  pub plain : plain_decls (made_for p) ≡ decl_list (first_decls [] p.decls) ++ main_variables (setting_for p)
  pub front : AllByRecursion (λ x. is_added_object (made_for p).names x ≡ false) (decl_list (first_decls [] p.decls))
  pub variables : AllByRecursion (IsVariableOf (old_name (made_for p))) (main_variables (setting_for p))
  -- tasks and bodies
  pub tasks : AllByRecursion (IsTaskOf (made_for p) (old_name (made_for p))) (filter is_task (decl_list (made_for p).decls))
  pub every : AllByRecursion (IsEveryTask (old_name (made_for p))) (filter is_task (decl_list (made_for p).decls))
  pub bodies : AllByRecursion (IsNamedBody (old_name (made_for p))) (filter is_body (decl_list (made_for p).decls))
  -- the statements of main
  pub main : EveryBody (own_rules (old_name (made_for p))) 1 (made_for p).body

-- The normal form of each legal program is so (this project's rule).
abbrev pub LegalHasFormNames : Type 0
LegalHasFormNames = (p : PProgram) → IsLegalOriginal p → HasFormNames p
