-- What is asked of a normal form, and of the operations of a controller, so that all places of the replay text meet the static rules 1 and 3 to 12
-- (this project's rule). Which names are old is a test on their ids, and so is which names accepts and loops declare.
use Rattle.std.specs.Prelude.{◌≡◌, ℕ, ◌≤◌, ◌==◌, Bool, true, false, not, ◌||◌, List, [], ◌∷◌, ◌++◌, length, drop, Some, None, IfSome, unwrap_or}
use Rattle.std.specs.List.{AllByRecursion, filter}
use Rattle.ada_tree.specs.declared.naming.NameId.{NameId}
use Rattle.ada_tree.specs.declared.naming.Word.{Word}
use Rattle.ada_tree.specs.Attributes.{false_name}
use Rattle.ada_tree.specs.PlainStmt.{PBody}
use Rattle.ada_tree.specs.PlainDecl.{OPlain, PInit, IOne, IList, IOthers, PEntry, PDecl, DObject, DTask, DTaskBody, PDecls, decls_of}
use Rattle.ada_tree.specs.PlainProgram.{PProgram}
use Rattle.ada_tree.specs.Every.{EveryTask}
use Rattle.ada_static_rules.specs.Scope.{Scope, truth_kind, EntryPart, SingleTask, Literal, AnException, meaning, entry_named}
use Rattle.ada_static_rules.specs.Declaring.{first_scope, in_body, inner_scope, after_own_object, after_objects, after_decl, after_decls}
use Rattle.ada_static_rules.specs.RuleArgCount.{called_entry}
use Rattle.ada_static_rules.specs.Sites.{own_sites, decl_sites}
use Rattle.syn_event.specs.declared.numbering.TaskInfo.{TaskInfo}
use Rattle.syn_event.specs.Numbering.{task_named}
use Rattle.syn_event.specs.DeclaredTasks.{decl_list}
use Rattle.task_model.specs.Setting.{Setting, entry_of}
use Rattle.control_script.specs.declared.Op.{Op}
use Rattle.normal_model.specs.Ranges.{kind_name}
use Rattle.normal_model.specs.RewrittenUnit.{RewrittenUnit}
use Rattle.normal_model.specs.NormalTree.{main_unit, unit_for}
use Rattle.task_laws.specs.legal.asked.Asked.{AskedBody}
use Rattle.normal_laws.specs.structure.checked.Around.{own_rules}
use Rattle.task_laws.specs.legal.alike_scopes.Alike.{SameNames}
use Rattle.task_laws.specs.legal.alike_scopes.Old.{IsOldExpr, IsOldSubind, IsOldDrange, IsOldShape, AreOldFormals}
use Rattle.task_laws.specs.legal.alike_scopes.Laws.{IsMetBut}
use Rattle.replay_model.specs.Names.{kind_text, argument_text, index_text, control_text, go_text, done_text, hold_text, idle_text, stop_text, rest_text, added_id}
use Rattle.replay_model.specs.ReplayTree.{is_added_object, is_task, is_body}
use Rattle.replay_structure.specs.placed.Placeable.{HasLiterals}
use Rattle.replay_structure.specs.typed.ScopeOf.{AreOuter, IsEntryOf, IsSingle, form_asks}
use Rattle.replay_structure.specs.typed.Controller.{IsInteger}
use Rattle.replay_structure.specs.scopes.More.{is_single, AreDoubled, AreEntriesNew, ArePermitsNew, AreTablesNew, IsReady}

-- ---- names

-- the variables of a permit are named otherwise
pub record IsOtherThanPermit (q : PProgram) (id : NameId) : Type 0 where
  pub kind : ((added_id q kind_text).0 == id.0) ≡ false
  pub argument : ((added_id q argument_text).0 == id.0) ≡ false
  pub index : ((added_id q index_text).0 == id.0) ≡ false

-- What is asked of the names: the names of types, INTEGER and FALSE are old, new ones are not and differ.
pub record AreNamesApart (g : Setting) (old inner : ℕ → Bool) : Type 0 where
  pub outer : AreOuter g.program inner
  pub entries : AreEntriesNew g.program old
  pub permits : ArePermitsNew g.program old
  pub tables : AreTablesNew g.program old
  pub zero : old 0 ≡ true
  pub falses : old false_name ≡ true
  pub kinds : (j : ℕ) → old (kind_name g.types j).0 ≡ true
  pub control : old (added_id g.program control_text).0 ≡ false
  pub idle : old (added_id g.program idle_text).0 ≡ false
  pub control_other : IsOtherThanPermit g.program (added_id g.program control_text)
  pub idle_other : IsOtherThanPermit g.program (added_id g.program idle_text)

-- the entries of the two tasks have different names
pub record AreEntriesApart (q : PProgram) : Type 0 where
  pub go_done : ((added_id q go_text).0 == (added_id q done_text).0) ≡ false
  pub go_hold : ((added_id q go_text).0 == (added_id q hold_text).0) ≡ false
  pub done_hold : ((added_id q done_text).0 == (added_id q hold_text).0) ≡ false
  pub stop_rest : ((added_id q stop_text).0 == (added_id q rest_text).0) ≡ false

-- of these names, of TASKING_ERROR, and of the two tasks
pub record AreAddedNames (q : PProgram) (old : ℕ → Bool) : Type 0 where
  pub entries : AreEntriesApart q
  pub tasking : old 9 ≡ true
  pub tasks : ((added_id q control_text).0 == (added_id q idle_text).0) ≡ false

-- ---- declarations

-- an entry of old names but for its own
pub record IsOldEntry (old : ℕ → Bool) (e : PEntry) : Type 0 where
  pub family : IfSome e.family (IsOldDrange old)
  pub formals : AreOldFormals old e.formals

-- an initial value of old names
abbrev pub IsOldInit : (ℕ → Bool) → PInit → Type 0
IsOldInit old (IOne e) = IsOldExpr old e
IsOldInit old (IList es s) = AllByRecursion (IsOldExpr old) es
IsOldInit old (IOthers e s) = IsOldExpr old e

-- the initial value of an object is of old names, where it has one
abbrev pub HasOldInit : (ℕ → Bool) → PDecl → Type 0
HasOldInit old (DObject ws constant shape init s) = IfSome init (IsOldInit old)
HasOldInit old _ = Prim.Unit {0}

-- an object of old names and an old type; nothing else stands in a body
abbrev pub IsOwnObject : (ℕ → Bool) → PDecl → Type 0
IsOwnObject old (DObject ws constant shape init s) = AllByRecursion (λ (w : Word). old w.name.0 ≡ true) ws × IsOldShape old shape
IsOwnObject old _ = ⊥

-- a variable of the normal form in main
abbrev pub IsVariableOf : (ℕ → Bool) → PDecl → Type 0
IsVariableOf old (DObject ws false (OPlain x) None s) = AllByRecursion (λ (w : Word). old w.name.0 ≡ true) ws × IsOldSubind old x
IsVariableOf old _ = ⊥

-- a single task of old names
abbrev pub IsTaskOf : PProgram → (ℕ → Bool) → PDecl → Type 0
IsTaskOf q old (DTask t s) = (t.of_kind ≡ false) × AllByRecursion (IsOldEntry old) t.entries × AreDoubled q old t.entries
IsTaskOf q old _ = ⊥

abbrev pub IsEveryTask : (ℕ → Bool) → PDecl → Type 0
IsEveryTask old (DTask t s) = EveryTask (own_rules old) t
IsEveryTask old _ = Prim.Unit {0}

-- nothing is refused at the places of each declaration, one behind the other
abbrev pub AllAlong : Scope → List PDecl → Type 0
AllAlong d [] = Prim.Unit {0}
AllAlong d (x ∷ xs) = AllByRecursion IsMetBut (decl_sites d x) × AllAlong (after_decl d x) xs

-- ---- bodies

-- the variables of a permit can be declared behind each of these objects
abbrev pub ReadyAlong : PProgram → (ℕ → Bool) → Scope → List PDecl → Type 0
ReadyAlong q old c [] = IsReady q old c
ReadyAlong q old c (x ∷ xs) = IsReady q old c × ReadyAlong q old (after_own_object c x) xs

-- old names mean what they themselves do in front of each of these objects
abbrev pub SelfAlong : (ℕ → Bool) → Scope → List PDecl → Type 0
SelfAlong old c [] = Prim.Unit {0}
SelfAlong old c (x ∷ xs) = SameNames old c c × SelfAlong old (after_own_object c x) xs

-- What is asked of the scope of a unit's statements: its old names mean what they themselves do, FALSE is the literal, and entries are those of their numbers.
pub record IsUnitForm (u : RewrittenUnit) (old inner : ℕ → Bool) (c : Scope) : Type 0 where
  pub self : SameNames old c c
  pub falses : meaning c (record { 0 = false_name }) ≡ Some (Literal truth_kind)
  pub called : (id name : NameId) (part : EntryPart) → called_entry (meaning c id) name ≡ Some part → IsEntryOf u.setting inner c (entry_of u.setting.numbers (unwrap_or (task_named u.setting.numbers id) 0) name) part.family
  pub accepted : (name : NameId) (part : EntryPart) → entry_named c.own name ≡ Some part → IsEntryOf u.setting inner c (entry_of u.setting.numbers u.task name) part.family

-- What is asked of a body at the scope c: it is that of a single task, its objects and statements are as asked, and nothing is refused there.
pub record IsBodyForm (g : Setting) (old inner : ℕ → Bool) (c : Scope) (w : Word) (objects : PDecls) (its : PBody) : Type 0 where
  pub entries : List EntryPart
  pub means : meaning c w.name ≡ Some (SingleTask entries)
  pub named : old w.name.0 ≡ true
  pub ready : ReadyAlong g.program old (in_body c w) (decl_list objects)
  pub owns : AllByRecursion (IsOwnObject old) (decl_list objects)
  pub inits : AllByRecursion (HasOldInit old) (decl_list objects)
  pub selfs : SelfAlong old (in_body c w) (decl_list objects)
  pub sites : AllByRecursion IsMetBut (own_sites (in_body c w) objects)
  pub form : IsUnitForm (unit_for g w.name) old inner (inner_scope (after_objects (in_body c w) objects))
  pub asked : AskedBody (form_asks old inner) (tt, inner_scope (after_objects (in_body c w) objects)) 1 its

-- each is a body that is as asked
abbrev pub BodyForms : Setting → (ℕ → Bool) → (ℕ → Bool) → Scope → List PDecl → Type 0
BodyForms g old inner c [] = Prim.Unit {0}
BodyForms g old inner c (DTaskBody w objects its s ∷ xs) = IsBodyForm g old inner c w objects its × BodyForms g old inner (after_decl c (DTaskBody w objects its s)) xs
BodyForms g old inner c (x ∷ xs) = ⊥

-- ---- main

-- old names mean what they themselves do, and the permit's variables can be declared, behind each of these
abbrev pub MainAlong : PProgram → (ℕ → Bool) → Scope → List PDecl → Type 0
MainAlong q old c [] = SameNames old c c × IsReady q old c
MainAlong q old c (x ∷ xs) = SameNames old c c × IsReady q old c × MainAlong q old (after_decl c x) xs

-- The name of the task is old and means a single task.
abbrev pub IsSingleTask : (ℕ → Bool) → Scope → TaskInfo → Type 0
IsSingleTask old c info = (old info.name.0 ≡ true) × IsSingle (meaning c info.name)

-- declarations of main beside tasks and bodies
abbrev pub plain_decls : PProgram → List PDecl
plain_decls q = filter (λ x. not (is_task x || is_body x)) (decl_list q.decls)

module _ (q : PProgram) (before vars : List PDecl) where
  -- the scopes behind the first declarations, behind the variables, behind the tasks and behind all
  abbrev pub first : Scope
  first = after_decls (first_scope q.name) (decls_of before)

  abbrev pub varied : Scope
  varied = after_decls first (decls_of vars)

  abbrev pub tasked : Scope
  tasked = after_decls varied (decls_of (filter is_task (decl_list q.decls)))

  abbrev pub last : Scope
  last = after_decls tasked (decls_of (filter is_body (decl_list q.decls)))

-- What is asked of a normal form, whose first declarations and variables these are, and of the operations of a controller: its declarations, bodies
-- and names are as asked, and nothing is refused at its places.
pub record IsForm (g : Setting) (old inner : ℕ → Bool) (ops : List Op) (before vars : List PDecl) : Type 0 where
  -- no variable of the normal form is among the first declarations, and no task is seen behind them
  pub plain : plain_decls g.program ≡ before ++ vars
  pub front : AllByRecursion (λ x. is_added_object g.program.names x ≡ false) before
  pub unseen : (id : NameId) → old id.0 ≡ true → is_single (meaning (first g.program before vars) id) ≡ false
  pub firsts_met : AllAlong (first_scope g.program.name) before
  -- the variables
  pub variables : AllByRecursion (IsVariableOf old) vars
  pub along : MainAlong g.program old (first g.program before vars) vars
  pub variables_met : AllAlong (first g.program before vars) vars
  -- the tasks
  pub tasks : AllByRecursion (IsTaskOf g.program old) (filter is_task (decl_list g.program.decls))
  pub every : AllByRecursion (IsEveryTask old) (filter is_task (decl_list g.program.decls))
  pub tasks_met : AllAlong (varied g.program before vars) (filter is_task (decl_list g.program.decls))
  pub integer : IsInteger (tasked g.program before vars)
  -- the bodies
  pub bodies : BodyForms g old inner (tasked g.program before vars) (filter is_body (decl_list g.program.decls))
  -- main
  pub integer_last : IsInteger (last g.program before vars)
  pub tasking : meaning (last g.program before vars) (record { 0 = 9 }) ≡ Some AnException
  pub form : IsUnitForm (main_unit g) old inner (inner_scope (last g.program before vars))
  pub asked : AskedBody (form_asks old inner) (tt, inner_scope (last g.program before vars)) 1 g.program.body
  -- the controller: the tables have literals, and tasks beside main can be waited for
  pub ops_form : AllByRecursion HasLiterals ops
  pub few_tasks : length g.numbers.tasks ≤ 2147483647
  pub single : AllByRecursion (IsSingleTask old (last g.program before vars)) (drop 1 g.numbers.tasks)
