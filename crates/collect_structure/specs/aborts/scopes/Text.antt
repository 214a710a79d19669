-- The scopes along the declarations of a collecting text of a program with abort statements, and its places but for those of what main declares more, the recorder's declaration and the recorder's body (this project's rule).
use Rattle.std.specs.Prelude.{ℕ, List, ◌++◌, drop, map}
use Rattle.std.specs.List.{AllByRecursion, filter, list_any}
use Rattle.ada_tree.specs.PlainDecl.{PDecl, decls_of}
use Rattle.ada_tree.specs.PlainProgram.{PProgram}
use Rattle.ada_static_rules.specs.Scope.{Scope, meaning}
use Rattle.ada_static_rules.specs.Declaring.{first_scope, inner_scope, after_decl, after_decls}
use Rattle.ada_static_rules.specs.Sites.{body_sites}
use Rattle.syn_event.specs.declared.numbering.TaskInfo.{TaskInfo}
use Rattle.syn_event.specs.DeclaredTasks.{decl_list}
use Rattle.task_model.specs.Setting.{Setting}
use Rattle.normal_model.specs.NormalTree.{main_unit}
use Rattle.task_laws.specs.legal.alike_scopes.Laws.{IsMetBut}
use Rattle.replay_model.specs.ReplayTree.{is_task, is_body, last_task}
use Rattle.replay_structure.specs.typed.ScopeOf.{IsSingle}
use Rattle.replay_structure.specs.scopes.Form.{AllAlong, first}
use Rattle.collect_model.specs.Teller.{teller_in}
use Rattle.collect_model.specs.CollectTree.{main_declared, is_int_io, recorder_told}
use Rattle.collect_structure.specs.scopes.Language.{KnowsLanguage, SeesFlags, SeesAdded}
use Rattle.collect_model.specs.aborts.AbortTeller.{AbortTeller, told_in}
use Rattle.collect_model.specs.aborts.AbortStmts.{main_body}
use Rattle.collect_model.specs.aborts.AbortTree.{places_declared, abort_decl, recorder_body_told}
use Rattle.collect_model.specs.aborts.Places.{places_in, most_places}
use Rattle.collect_structure.specs.aborts.typed.Told.{AreNewPlaces}

-- What main is told: what it is told in a text without aborts, and the further names.
abbrev pub main_told : Setting → AbortTeller
main_told g = with_names (told_in (main_unit g))
  where
    with_names : AbortTeller → AbortTeller
    with_names y = record { teller = teller_in (main_unit g); acceptors = y.acceptors; each = y.each; taken = y.taken; refused = y.refused }

-- A normal form with its numbers, whose first declarations and variables these are.
module _ (g : Setting) (before vars : List PDecl) where
  abbrev pub q : PProgram
  q = g.program

  abbrev pub last_number : ℕ
  last_number = last_task g.numbers

  -- what main declares more, with the variables of its places; and its tasks and bodies
  abbrev pub added : List PDecl
  added = main_declared (main_told g).teller.added q.name.span (list_any is_int_io (before ++ vars)) last_number

  abbrev pub more : List PDecl
  more = added ++ places_declared (main_told g) q.name.span (places_in q.body)

  abbrev pub told_tasks : List PDecl
  told_tasks = map (abort_decl (main_told g) q.names) (filter is_task (decl_list q.decls))

  abbrev pub told_bodies : List PDecl
  told_bodies = map (abort_decl (main_told g) q.names) (filter is_body (decl_list q.decls))

  -- The scopes behind the first declarations, behind what main declares more, behind the variables, behind the tasks, behind the recorder's declaration,
  -- behind the bodies, and behind the recorder's body.
  abbrev pub at_first : Scope
  at_first = first q before vars

  abbrev pub at_added : Scope
  at_added = after_decls at_first (decls_of added)

  abbrev pub at_more : Scope
  at_more = after_decls at_first (decls_of more)

  abbrev pub at_vars : Scope
  at_vars = after_decls at_more (decls_of vars)

  abbrev pub at_tasks : Scope
  at_tasks = after_decls at_vars (decls_of told_tasks)

  abbrev pub at_recorder : Scope
  at_recorder = after_decl at_tasks (recorder_told (main_told g).teller q)

  abbrev pub at_bodies : Scope
  at_bodies = after_decls at_recorder (decls_of told_bodies)

  abbrev pub at_last : Scope
  at_last = after_decl at_bodies (recorder_body_told (main_told g) q)

  -- What is known of the scopes in which main declares something more, and that nothing is refused at the places of all else.
  pub record HasToldScopes : Type 0 where
    pub in_first : KnowsLanguage at_first
    pub in_added : AreNewPlaces (main_told g) (most_places q) at_added.types
    pub in_tasks : KnowsLanguage at_tasks
    pub in_bodies : SeesFlags q last_number at_added → SeesAdded q last_number at_bodies
    pub tasks_seen : AllByRecursion (λ (info : TaskInfo). IsSingle (meaning at_bodies info.name)) (drop 1 g.numbers.tasks)
    pub firsts_met : AllAlong (first_scope q.name) before
    pub vars_met : AllAlong at_more vars
    pub tasks_met : AllAlong at_vars told_tasks
    pub bodies_met : AllAlong at_recorder told_bodies
    pub main_met : AllByRecursion IsMetBut (body_sites (inner_scope at_last) (main_body (main_told g) q.body))
