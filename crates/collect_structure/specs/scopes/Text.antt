-- The scopes along the declarations of a collecting text, and its places but for those of what main declares more, the recorder's declaration and the
-- recorder's body (this project's rule).
use Rattle.std.specs.Prelude.{ℕ, List, ◌++◌, map}
use Rattle.std.specs.List.{AllByRecursion, filter, list_any}
use Rattle.ada_tree.specs.declared.naming.Span.{Span}
use Rattle.ada_tree.specs.PlainDecl.{PDecl, decls_of}
use Rattle.ada_tree.specs.PlainProgram.{PProgram}
use Rattle.ada_static_rules.specs.Scope.{Scope}
use Rattle.ada_static_rules.specs.Declaring.{first_scope, inner_scope, after_decl, after_decls}
use Rattle.ada_static_rules.specs.Sites.{own_object_sites, body_sites}
use Rattle.syn_event.specs.DeclaredTasks.{decl_list}
use Rattle.task_model.specs.Setting.{Setting}
use Rattle.normal_model.specs.NormalTree.{main_unit}
use Rattle.task_laws.specs.legal.alike_scopes.Laws.{IsMetBut}
use Rattle.replay_model.specs.ReplayTree.{is_task, is_body, last_task}
use Rattle.replay_structure.specs.scopes.Form.{AllAlong, first}
use Rattle.collect_model.specs.declared.AddedNames.{AddedNames}
use Rattle.collect_model.specs.Teller.{Teller, teller_in}
use Rattle.collect_model.specs.CollectStmts.{main_body}
use Rattle.collect_model.specs.CollectTree.{answer_declared, part_declared, main_declared, is_int_io, collect_decl, recorder_told, recorder_body_told}
use Rattle.collect_structure.specs.scopes.Language.{KnowsLanguage, SeesFlags, SeesAdded}

-- Nothing is refused at the places of DED_G and DED_W, wherever a unit declares them.
abbrev pub UnitIsMet : AddedNames → Type 0
UnitIsMet n = (d : Scope) (s : Span) → KnowsLanguage d → AllByRecursion IsMetBut (own_object_sites d (answer_declared n s)) × AllByRecursion IsMetBut (own_object_sites d (part_declared n s))

-- A normal form with its numbers, whose first declarations and variables these are.
module _ (g : Setting) (before vars : List PDecl) where
  abbrev pub q : PProgram
  q = g.program

  abbrev pub told : Teller
  told = teller_in (main_unit g)

  abbrev pub last_number : ℕ
  last_number = last_task g.numbers

  -- what main declares more, and its tasks and bodies
  abbrev pub more : List PDecl
  more = main_declared told.added q.name.span (list_any is_int_io (before ++ vars)) last_number

  abbrev pub told_tasks : List PDecl
  told_tasks = map (collect_decl told q.names) (filter is_task (decl_list q.decls))

  abbrev pub told_bodies : List PDecl
  told_bodies = map (collect_decl told q.names) (filter is_body (decl_list q.decls))

  -- The scopes behind the first declarations, behind what main declares more, behind the variables, behind the tasks, behind the recorder's declaration,
  -- behind the bodies, and behind the recorder's body.
  abbrev pub at_first : Scope
  at_first = first q before vars

  abbrev pub at_more : Scope
  at_more = after_decls at_first (decls_of more)

  abbrev pub at_vars : Scope
  at_vars = after_decls at_more (decls_of vars)

  abbrev pub at_tasks : Scope
  at_tasks = after_decls at_vars (decls_of told_tasks)

  abbrev pub at_recorder : Scope
  at_recorder = after_decl at_tasks (recorder_told told q)

  abbrev pub at_bodies : Scope
  at_bodies = after_decls at_recorder (decls_of told_bodies)

  abbrev pub at_last : Scope
  at_last = after_decl at_bodies (recorder_body_told told q)

  -- What is known of the scopes in which main declares something more, and that nothing is refused at the places of all else.
  pub record HasToldScopes : Type 0 where
    pub in_first : KnowsLanguage at_first
    pub in_tasks : KnowsLanguage at_tasks
    pub in_bodies : SeesFlags q last_number at_more → SeesAdded q last_number at_bodies
    pub firsts_met : AllAlong (first_scope q.name) before
    pub vars_met : AllAlong at_more vars
    pub tasks_met : AllAlong at_vars told_tasks
    pub bodies_met : UnitIsMet told.added → AllAlong at_recorder told_bodies
    pub main_met : AllByRecursion IsMetBut (body_sites (inner_scope at_last) (main_body told q.body))
