-- What is asked of a normal form with its numbers, so that its collecting text meets the rules 1 and 3 to 12 at all places but those of what main
-- declares more and of the recorder (this project's rule). Which names are old is a test on their ids, and so is which names accepts and loops declare.
use Rattle.std.specs.Prelude.{◌≡◌, ℕ, ◌<◌, Bool, true, false, List, [], ◌∷◌, ◌++◌, Option, Some, None}
use Rattle.std.specs.List.{AllByRecursion, filter, list_any}
use Rattle.std.specs.Str.{bytes_eq}
use Rattle.ada_tree.specs.declared.naming.NameId.{NameId}
use Rattle.ada_tree.specs.declared.naming.Word.{Word}
use Rattle.ada_tree.specs.PlainStmt.{PBody}
use Rattle.ada_tree.specs.PlainDecl.{PDecl, DTask, DTaskBody, PDecls}
use Rattle.ada_tree.specs.Every.{EveryTask}
use Rattle.ada_static_rules.specs.Scope.{Scope, EntryPart, Thing, TaskType, SingleTask, meaning}
use Rattle.ada_static_rules.specs.StaticValue.{value_named}
use Rattle.ada_static_rules.specs.Declaring.{first_scope, in_body, inner_scope, after_objects, after_decl}
use Rattle.ada_static_rules.specs.RuleDuplicate.{is_predefined}
use Rattle.ada_static_rules.specs.Sites.{own_sites}
use Rattle.syn_event.specs.DeclaredTasks.{decl_list}
use Rattle.task_model.specs.Setting.{Setting}
use Rattle.normal_model.specs.Ranges.{kind_name}
use Rattle.normal_model.specs.NormalTree.{main_unit}
use Rattle.normal_laws.specs.structure.checked.Around.{own_rules}
use Rattle.task_laws.specs.legal.rewritten_types.Rewriting.{names_declared}
use Rattle.task_laws.specs.legal.asked.Asked.{AskedBody}
use Rattle.task_laws.specs.legal.alike_scopes.Alike.{SameNames}
use Rattle.task_laws.specs.legal.alike_scopes.Laws.{IsMetBut}
use Rattle.replay_model.specs.ReplayTree.{is_added_object, is_task, is_body}
use Rattle.replay_structure.specs.scopes.More.{is_single}
use Rattle.replay_structure.specs.scopes.Form.{IsOldEntry, HasOldInit, IsOwnObject, IsVariableOf, AllAlong, plain_decls, first, varied, tasked, last}
use Rattle.replay_structure.specs.legal.names.inner.Units.{HasItsEntries}
use Rattle.collect_model.specs.Names.{answer_text, part_text, added_texts}
use Rattle.collect_model.specs.Teller.{task_of}
use Rattle.collect_structure.specs.Names.{new_texts, added_id}
use Rattle.collect_structure.specs.typed.Told.{AreOuter, told_asks}
use Rattle.collect_structure.specs.scopes.Language.{KnowsLanguage}

-- ---- names

-- no name to which the text gives a meaning is old, but those of the language are, and those of types
pub record AreNamesNew (g : Setting) (old : ℕ → Bool) : Type 0 where
  pub added : (t : List ℕ) → list_any (bytes_eq t) added_texts ≡ true → list_any (bytes_eq t) new_texts ≡ true → old (added_id g.program t).0 ≡ false
  pub language : (k : ℕ) → k < 18 → old k ≡ true
  pub kinds : (j : ℕ) → old (kind_name g.types j).0 ≡ true

-- the name is no predefined one
abbrev pub IsNewName : Word → Type 0
IsNewName w = is_predefined w.name.0 ≡ false

-- so it is with each name that is declared
abbrev pub DeclaresNew : PDecl → Type 0
DeclaresNew x = AllByRecursion IsNewName (names_declared x)

-- ---- declarations

-- it is a task type
abbrev pub is_task_type : Option Thing → Bool
is_task_type (Some (TaskType entries)) = true
is_task_type _ = false

-- no name means a task type
abbrev pub SeesNoType : Scope → Type 0
SeesNoType c = (id : NameId) → is_task_type (meaning c id) ≡ false

-- a variable of the normal form in main
pub record IsVariableTold (old : ℕ → Bool) (names : List (List ℕ)) (x : PDecl) : Type 0 where
  pub variable : IsVariableOf old x
  pub new : DeclaresNew x
  pub added : is_added_object names x ≡ true

-- a single task of old names
abbrev pub IsTaskTold : (ℕ → Bool) → PDecl → Type 0
IsTaskTold old (DTask t s) = (t.of_kind ≡ false) × AllByRecursion (IsOldEntry old) t.entries × EveryTask (own_rules old) t × IsNewName t.name
IsTaskTold old _ = ⊥

-- What is asked of a body at the scope c: it is that of a single task, its objects have old names and are met, and its statements are as asked.
pub record IsBodyTold (g : Setting) (old inner : ℕ → Bool) (c : Scope) (w : Word) (objects : PDecls) (its : PBody) : Type 0 where
  pub entries : List EntryPart
  pub means : meaning c w.name ≡ Some (SingleTask entries)
  pub named : old w.name.0 ≡ true
  pub owns : AllByRecursion (IsOwnObject old) (decl_list objects)
  pub inits : AllByRecursion (HasOldInit old) (decl_list objects)
  pub new : AllByRecursion DeclaresNew (decl_list objects)
  pub sites : AllByRecursion IsMetBut (own_sites (in_body c w) objects)
  pub has : HasItsEntries (record { setting = g; task = task_of g.numbers w.name }) inner (inner_scope (after_objects (in_body c w) objects))
  pub asked : AskedBody (told_asks old inner) (tt, inner_scope (after_objects (in_body c w) objects)) 1 its

-- each is such a body
abbrev pub BodiesTold : Setting → (ℕ → Bool) → (ℕ → Bool) → Scope → List PDecl → Type 0
BodiesTold g old inner c [] = Prim.Unit {0}
BodiesTold g old inner c (DTaskBody w objects its s ∷ xs) = IsBodyTold g old inner c w objects its × BodiesTold g old inner (after_decl c (DTaskBody w objects its s)) xs
BodiesTold g old inner c (x ∷ xs) = ⊥

-- ---- all

-- What is asked of a normal form, whose first declarations and variables these are.
pub record IsTellable (g : Setting) (old inner : ℕ → Bool) (before vars : List PDecl) : Type 0 where
  -- names
  pub names : AreNamesNew g old
  pub outer : AreOuter g.program inner
  -- behind the first declarations the language is known, old names mean what they themselves do, DED_G and DED_W have no value, and no task and no task
  -- type is seen
  pub plain : plain_decls g.program ≡ before ++ vars
  pub front : AllByRecursion (λ x. is_added_object g.program.names x ≡ false) before
  pub language : KnowsLanguage (first g.program before vars)
  pub self : SameNames old (first g.program before vars) (first g.program before vars)
  pub answer : value_named (first g.program before vars).types (added_id g.program answer_text) ≡ None
  pub part : value_named (first g.program before vars).types (added_id g.program part_text) ≡ None
  pub unseen : (id : NameId) → is_single (meaning (first g.program before vars) id) ≡ false
  pub no_types : SeesNoType (first g.program before vars)
  pub firsts_met : AllAlong (first_scope g.program.name) before
  -- the variables, the tasks and the bodies
  pub variables : AllByRecursion (IsVariableTold old g.program.names) vars
  pub variables_met : AllAlong (first g.program before vars) vars
  pub tasks : AllByRecursion (IsTaskTold old) (filter is_task (decl_list g.program.decls))
  pub tasks_met : AllAlong (varied g.program before vars) (filter is_task (decl_list g.program.decls))
  pub bodies : BodiesTold g old inner (tasked g.program before vars) (filter is_body (decl_list g.program.decls))
  -- main
  pub has : HasItsEntries (main_unit g) inner (inner_scope (last g.program before vars))
  pub asked : AskedBody (told_asks old inner) (tt, inner_scope (last g.program before vars)) 1 g.program.body
