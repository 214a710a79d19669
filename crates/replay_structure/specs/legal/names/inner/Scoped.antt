-- What is told of the scopes of a normal form, as its replay text asks: of main along its declarations, and of each body (this project's rule).
use Rattle.std.specs.Prelude.{◌≡◌, ℕ, Bool, false, List, [], ◌∷◌, Some}
use Rattle.std.specs.List.{AllByRecursion, filter}
use Rattle.ada_tree.specs.declared.naming.NameId.{NameId}
use Rattle.ada_tree.specs.declared.naming.Word.{Word}
use Rattle.ada_tree.specs.Attributes.{false_name}
use Rattle.ada_tree.specs.PlainDecl.{PDecl, DTaskBody, PDecls}
use Rattle.ada_tree.specs.PlainProgram.{PProgram}
use Rattle.ada_static_rules.specs.Scope.{Scope, truth_kind, EntryPart, SingleTask, Literal, AnException, meaning}
use Rattle.ada_static_rules.specs.Declaring.{first_scope, in_body, inner_scope, after_objects, after_decl}
use Rattle.ada_static_rules.specs.Sites.{own_sites}
use Rattle.syn_event.specs.DeclaredTasks.{decl_list}
use Rattle.task_laws.specs.legal.alike_scopes.Alike.{SameNames}
use Rattle.task_laws.specs.legal.alike_scopes.Laws.{IsMetBut}
use Rattle.replay_model.specs.ReplayTree.{is_task, is_body}
use Rattle.replay_structure.specs.typed.Controller.{IsInteger}
use Rattle.replay_structure.specs.scopes.More.{is_single}
use Rattle.replay_structure.specs.scopes.Form.{IsOwnObject, AllAlong, ReadyAlong, SelfAlong, MainAlong, first, varied, tasked, last}

-- each is a body whose objects have old names and old types
abbrev pub HasOwns : (ℕ → Bool) → PDecl → Type 0
HasOwns old (DTaskBody w objects its s) = AllByRecursion (IsOwnObject old) (decl_list objects)
HasOwns old _ = ⊥

-- Where a unit's statements stand old names mean what they themselves do, and FALSE is the literal.
pub record IsUnitScoped (old : ℕ → Bool) (c : Scope) : Type 0 where
  pub self : SameNames old c c
  pub falses : meaning c (record { 0 = false_name }) ≡ Some (Literal truth_kind)

-- A body at the scope c is that of a single task. In front of each of its objects and behind them the variables of a permit can be declared and old
-- names mean what they themselves do, and nothing is refused there.
pub record IsBodyScoped (q : PProgram) (old : ℕ → Bool) (c : Scope) (w : Word) (objects : PDecls) : Type 0 where
  pub entries : List EntryPart
  pub means : meaning c w.name ≡ Some (SingleTask entries)
  pub ready : ReadyAlong q old (in_body c w) (decl_list objects)
  pub selfs : SelfAlong old (in_body c w) (decl_list objects)
  pub sites : AllByRecursion IsMetBut (own_sites (in_body c w) objects)
  pub unit : IsUnitScoped old (inner_scope (after_objects (in_body c w) objects))

-- so it is with each of these bodies
abbrev pub BodiesScoped : PProgram → (ℕ → Bool) → Scope → List PDecl → Type 0
BodiesScoped q old c [] = Unit {0}
BodiesScoped q old c (DTaskBody w objects its s ∷ xs) = IsBodyScoped q old c w objects × BodiesScoped q old (after_decl c (DTaskBody w objects its s)) xs
BodiesScoped q old c (x ∷ xs) = ⊥

-- The scopes of a normal form, whose first declarations and variables these are: no single task is seen behind its first declarations, the variables
-- of a permit can be declared along its variables, INTEGER and TASKING_ERROR are what they are before all declarations, and nothing is refused at the
-- places of its declarations.
pub record AreScoped (q : PProgram) (old : ℕ → Bool) (before vars : List PDecl) : Type 0 where
  pub unseen : (id : NameId) → is_single (meaning (first q before vars) id) ≡ false
  pub firsts_met : AllAlong (first_scope q.name) before
  pub along : MainAlong q old (first q before vars) vars
  pub variables_met : AllAlong (first q before vars) vars
  pub tasks_met : AllAlong (varied q before vars) (filter is_task (decl_list q.decls))
  pub integer : IsInteger (tasked q before vars)
  pub bodies : BodiesScoped q old (tasked q before vars) (filter is_body (decl_list q.decls))
  pub integer_last : IsInteger (last q before vars)
  pub tasking : meaning (last q before vars) (record { 0 = 9 }) ≡ Some AnException
  pub unit : IsUnitScoped old (inner_scope (last q before vars))
