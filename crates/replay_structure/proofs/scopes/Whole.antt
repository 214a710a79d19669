-- All places of a replay text meet the static rules 1 and 3 to 12.
use Rattle.std.proofs.Common.{◌≡◌, ℕ, ◌==◌, Bool, true, false, List, [], ◌∷◌, ◌++◌, map, drop, Some, refl, sym, ap, subst, ◌∙◌, arith}
use Rattle.std.specs.List.{AllByRecursion, filter}
use Rattle.common_lemmas.proofs.Lists.{all_joined, all_weaker}
use Rattle.common_lemmas.proofs.Numbers.{unequal_turned}
use Rattle.ada_tree.specs.declared.naming.NameId.{NameId}
use Rattle.ada_tree.specs.declared.naming.Span.{Span}
use Rattle.ada_tree.specs.PlainDecl.{PDecl, DTask, DTaskBody, decls_of}
use Rattle.ada_tree.specs.PlainProgram.{PProgram}
use Rattle.ada_static_rules.specs.Scope.{Scope, AnException, meaning, entry_named}
use Rattle.ada_static_rules.specs.Declaring.{before_all, first_scope, inner_scope, in_body, after_decl, after_decls}
use Rattle.ada_static_rules.specs.Sites.{names_sites, decls_sites, body_sites, sites}
use Rattle.syn_event.specs.DeclaredTasks.{decl_list}
use Rattle.task_model.specs.Setting.{Setting}
use Rattle.control_script.specs.declared.Op.{Op}
use Rattle.normal_model.specs.NormalTree.{main_unit}
use Rattle.task_laws.specs.legal.alike_scopes.Alike.{Alike}
use Rattle.task_laws.specs.legal.alike_scopes.Laws.{IsMetBut}
use Rattle.task_laws.specs.legal.rewritten_types.Rewriting.{IsNew}
use Rattle.task_laws.specs.legal.rewritten_types.Agreement.{Keeps}
use Rattle.task_laws.proofs.legal.rewritten_types.Keeping.{keeps-self}
use Rattle.task_laws.proofs.legal.rewritten_types.Adding.{keeps-objects}
use Rattle.task_laws.proofs.legal.alike_scopes.Mains.{body-right}
use Rattle.normal_laws.proofs.structure.numbers.Listed.{IsOneBody}
use Rattle.normal_laws.proofs.structure.typed.Variables.{AllMetBut, words-met}
use Rattle.replay_model.specs.Names.{kind_text, argument_text, index_text, control_text, idle_text, added_id, added_word}
use Rattle.replay_model.specs.tables.Tables.{control_objects}
use Rattle.replay_model.specs.ReplayTree.{permit_declared, behind_own, is_task, is_body, last_task, replay_decl, replay_decls, replay_of}
use Rattle.replay_model.specs.ReplayStmts.{replay_body}
use Rattle.replay_model.specs.Controlling.{control_ids, control_declared, idle_declared, control_body, idle_body}
use Rattle.replay_structure.specs.typed.ScopeOf.{IsNumber, IsScopeOf}
use Rattle.replay_structure.specs.typed.Controller.{IsController, IsAwaited, IsIdler}
use Rattle.replay_structure.proofs.typed.Declared.{control-declared, idle-declared}
use Rattle.replay_structure.proofs.typed.Control.{idle-met}
use Rattle.replay_structure.proofs.typed.Turning.{control-met}
use Rattle.replay_structure.proofs.typed.Typed.{body-met}
use Rattle.replay_structure.specs.scopes.More.{IsGrown, stays, doubled, IsMore, HasPermit}
use Rattle.replay_structure.specs.scopes.Form.{AreNamesApart, AreAddedNames, AllAlong, IsSingleTask, first, varied, tasked, last, IsForm}
use Rattle.replay_structure.proofs.scopes.More.{more-self, inside-more}
use Rattle.replay_structure.proofs.scopes.Permit.{integer-there, only, IsApart, number-step, number-decls, decls-means}
use Rattle.replay_structure.proofs.scopes.Units.{IsUnit, task-added, tasks-both, bodies-both}
use Rattle.replay_structure.proofs.scopes.Scopes.{scope-of, no-own}
use Rattle.replay_structure.proofs.scopes.Bodies.{control-moved, idle-moved}
use Rattle.replay_structure.proofs.scopes.Added.{IsControlling, controlling-moved, idler-moved, control-seen, idle-seen}
use Rattle.replay_structure.proofs.scopes.Moved.{scope-moved}
use Rattle.replay_structure.proofs.scopes.Main as main
use Rattle.replay_structure.proofs.texts.Listed.{behind-front}
use Rattle.ada_static_rules.proofs.found_twice.Declared.{decls_joined}

-- a task that is added behind the variables, with a new name
abbrev IsMoreTask : (ℕ → Bool) → PDecl → Type 0
IsMoreTask old (DTask t s) = IsNew old t.name
IsMoreTask old _ = ⊥

task-more : (q : PProgram) (old : ℕ → Bool) (x : PDecl) (c d : Scope) → IsMoreTask old x → IsMore q old c d → IsMore q old c (after_decl d x)
task-more q old (DTask t s) c d n m = task-added q old t s c d n m
task-more q old x c d n m = absurd n

-- a body leaves scopes alike
alike-behind : (old : ℕ → Bool) (x : PDecl) → IsOneBody x → (c d : Scope) → Alike old c d → Alike old c (after_decl d x)
alike-behind old (DTaskBody w objects its s) h c d a = body-right old w objects its s c d a
alike-behind old x h c d a = absurd h

module _ (g : Setting) (old inner : ℕ → Bool) (names : AreNamesApart g old inner) (added : AreAddedNames g.program old) (ops : List Op) (before vars : List PDecl) (h : IsForm g old inner ops before vars) where
  abbrev q : PProgram
  q = g.program

  abbrev s : Span
  s = g.program.name.span

  abbrev n : ℕ
  n = last_task g.numbers

  abbrev tasks : List PDecl
  tasks = filter is_task (decl_list q.decls)

  abbrev bodies : List PDecl
  bodies = filter is_body (decl_list q.decls)

  -- ---- the scopes of the normal form and of the replay text

  abbrev c1 : Scope
  c1 = first q before vars

  abbrev c2 : Scope
  c2 = varied q before vars

  abbrev c3 : Scope
  c3 = tasked q before vars

  abbrev c4 : Scope
  c4 = last q before vars

  abbrev more_vars : List PDecl
  more_vars = behind_own q.names (permit_declared q s) vars

  abbrev d2 : Scope
  d2 = after_decls c1 (decls_of more_vars)

  abbrev d3 : Scope
  d3 = after_decls d2 (decls_of (map (replay_decl g) tasks))

  abbrev dc : Scope
  dc = after_decl d3 (control_declared q s n)

  abbrev di : Scope
  di = after_decl dc (idle_declared q s)

  abbrev d4 : Scope
  d4 = after_decls di (decls_of (map (replay_decl g) bodies))

  abbrev dx : Scope
  dx = after_decl d4 (control_body g s ops)

  abbrev dy : Scope
  dy = after_decl dx (idle_body q s)

  first-more : IsMore q old c1 c1
  first-more = more-self q old c1 h.unseen

  unit2 : IsUnit q old c2 d2
  unit2 = main.main-unit g old inner names s vars c1 c1 h.variables h.along first-more

  more3 : IsMore q old c3 d3
  more3 = tasks-both g old names.entries names.permits names.zero tasks c2 d2 h.tasks unit2.more

  morec : IsMore q old c3 dc
  morec = task-more q old (control_declared q s n) c3 d3 names.control more3

  morei : IsMore q old c3 di
  morei = task-more q old (idle_declared q s) c3 dc names.idle morec

  more4 : IsMore q old c4 d4
  more4 = bodies-both g old names.entries names.permits names.zero bodies c3 di (main.bodies-ready g old inner names bodies c3 h.bodies) morei

  -- ---- the controller and the idle task

  controlling : IsControlling q dc
  controlling = control-seen q added.entries d3 (integer-there q old c3 d3 more3 names.zero h.integer).its s n

  controlling-i : IsControlling q di
  controlling-i = controlling-moved q dc di (decls-means (added_id q control_text) (idle_declared q s ∷ []) dc (unequal_turned (added_id q control_text).0 (added_id q idle_text).0 added.tasks, tt)) controlling

  idler-i : IsIdler q di
  idler-i = idle-seen q added.entries dc (integer-there q old c3 dc morec names.zero h.integer).its s

  bodies-apart : (id : NameId) → AllByRecursion (IsApart id) (map (replay_decl g) bodies)
  bodies-apart id = main.bodies-apart g old inner names id bodies c3 h.bodies

  controlling4 : IsControlling q d4
  controlling4 = controlling-moved q di d4 (decls-means (added_id q control_text) (map (replay_decl g) bodies) di (bodies-apart (added_id q control_text))) controlling-i

  idler4 : IsIdler q d4
  idler4 = idler-moved q di d4 (decls-means (added_id q idle_text) (map (replay_decl g) bodies) di (bodies-apart (added_id q idle_text))) idler-i

  tasking-there : meaning d4 (record { 0 = 9 }) ≡ Some AnException
  tasking-there = by_grown (more4.things record { 0 = 9 } added.tasking)
    where
      by_grown : IsGrown q old (meaning c4 record { 0 = 9 }) (meaning d4 record { 0 = 9 }) → meaning d4 record { 0 = 9 } ≡ Some AnException
      by_grown (stays e k) = e ∙ h.tasking
      by_grown (doubled es e t) = let f = h.tasking in cc

  controller : IsController q d4
  controller = record {
    integer = integer-there q old c4 d4 more4 names.zero h.integer_last;
    integer_outside = main.outside-old g old inner names (record { 0 = 0 }) names.zero;
    seen = controlling4.seen;
    hold = controlling4.hold;
    tasking = tasking-there;
    tasking_outside = main.outside-old g old inner names (record { 0 = 9 }) added.tasking;
  }

  -- ---- the variables of main's permit

  number-last : (id : NameId) → old id.0 ≡ false → (id.0 == (added_id q control_text).0) ≡ false → (id.0 == (added_id q idle_text).0) ≡ false → IsNumber d2 id → IsNumber (inner_scope d4) id
  number-last id e control idle v =
      let in3 : IsNumber d3 id = number-decls id (map (replay_decl g) tasks) d2 (main.tasks-apart g old inner names id e tasks h.tasks h.every) v in
      let ini : IsNumber di id =
      number-decls id (control_declared q s n ∷ idle_declared q s ∷ []) d3 (unequal_turned id.0 (added_id q control_text).0 control, (unequal_turned id.0 (added_id q idle_text).0 idle, tt)) in3 in
      let in4 : IsNumber d4 id = number-decls id (map (replay_decl g) bodies) di (bodies-apart id) ini in
      number-step d4 (inner_scope d4) id refl (keeps-self d4.types) in4

  permit-last : HasPermit q (inner_scope d4)
  permit-last = record {
    kind = number-last (added_id q kind_text) names.permits.kind names.control_other.kind names.idle_other.kind unit2.permit.kind;
    argument = number-last (added_id q argument_text) names.permits.argument names.control_other.argument names.idle_other.argument unit2.permit.argument;
    index = number-last (added_id q index_text) names.permits.index names.control_other.index names.idle_other.index unit2.permit.index;
  }

  -- ---- main

  last-own : c4.own ≡ []
  last-own = main.decls-own bodies c3 ∙ main.decls-own tasks c2 ∙ main.decls-own vars c1 ∙ main.decls-own before (first_scope q.name)

  text-own : d4.own ≡ []
  text-own =
      main.decls-own (map (replay_decl g) bodies) di ∙ main.decls-own (map (replay_decl g) tasks) d2 ∙ main.decls-own more_vars c1 ∙ main.decls-own before (first_scope q.name)

  -- behind the bodies of the normal form
  scope-four : IsScopeOf (main_unit g) old inner (inner_scope c4) (inner_scope d4)
  scope-four =
      scope-of (main_unit g) old inner names.kinds names.falses (inner_scope c4) (inner_scope d4) (inside-more q old c4 d4 more4) h.form permit-last (no-own q old (inner_scope c4) (inner_scope d4) last-own text-own)
      (control-moved q d4 (inner_scope d4) refl controlling4.seen) (idle-moved q d4 (inner_scope d4) refl idler4.seen)

  -- the controller's body leaves the kinds and the marks of its tables
  tables-kept : (id : NameId) → Keeps (only id) d4.types dy.types
  tables-kept id = keeps-objects (decls_of (control_objects (control_ids q) s ops)) (in_body d4 (added_word q s control_text)) refl

  scope-last : IsScopeOf (main_unit g) old inner (inner_scope c4) (inner_scope dy)
  scope-last =
      scope-moved (main_unit g) old inner (inner_scope c4) (inner_scope d4) (inner_scope dy) (λ id. refl) refl tables-kept
      (alike-behind old (idle_body q s) tt (inner_scope c4) (inner_scope dx) (alike-behind old (control_body g s ops) tt (inner_scope c4) (inner_scope d4) scope-four.alike)) scope-four

  main-met : AllMetBut (body_sites (inner_scope dy) (replay_body (main_unit g) s q.body))
  main-met = body-met (main_unit g) old inner names.outer (tt, inner_scope c4) (inner_scope dy) 1 s q.body scope-last (omega arith) h.asked

  -- ---- all declarations

  abbrev tasks_more : List PDecl
  tasks_more = map (replay_decl g) tasks

  abbrev bodies_more : List PDecl
  bodies_more = map (replay_decl g) bodies

  abbrev two_tasks : List PDecl
  two_tasks = control_declared q s n ∷ idle_declared q s ∷ []

  abbrev two_bodies : List PDecl
  two_bodies = control_body g s ops ∷ idle_body q s ∷ []

  own2 : main.IsSameOwn g old inner names c2 d2
  own2 id o = ap (λ l. entry_named l id) (main.decls-own vars c1) ∙ sym (ap (λ l. entry_named l id) (main.decls-own more_vars c1))

  variables-met : AllAlong c1 more_vars
  variables-met = main.main-sites g old inner names s vars c1 c1 h.variables h.along (λ id o. refl) first-more h.variables_met

  tasks-met : AllAlong d2 tasks_more
  tasks-met = main.tasks-sites g old inner names tasks c2 d2 h.tasks h.every (main.self-behind g old inner names vars c1 h.along) own2 unit2.more h.tasks_met

  two-tasks-met : AllAlong d3 two_tasks
  two-tasks-met = (
    control-declared q d3 (integer-there q old c3 d3 more3 names.zero h.integer).its s n,
    (idle-declared q dc (integer-there q old c3 dc morec names.zero h.integer).its s, tt),
  )

  bodies-met : AllAlong di bodies_more
  bodies-met = main.bodies-sites g old inner names bodies c3 di h.bodies morei controlling-i.seen idler-i.seen

  two-bodies-met : AllAlong d4 two_bodies
  two-bodies-met = (
    control-met g d4 controller s h.few_tasks (all_weaker (IsSingleTask old c4) (IsAwaited q d4) (drop 1 g.numbers.tasks) (main.awaited g old inner names c4 d4 more4) h.single) ops h.ops_form,
    (idle-met q dx (idler-moved q d4 dx refl idler4) s, tt),
  )

  -- ---- one behind the other

  abbrev c0 : Scope
  c0 = first_scope q.name

  abbrev x1 : List PDecl
  x1 = before ++ more_vars

  abbrev x2 : List PDecl
  x2 = x1 ++ tasks_more

  abbrev x3 : List PDecl
  x3 = x2 ++ two_tasks

  abbrev x4 : List PDecl
  x4 = x3 ++ bodies_more

  abbrev x5 : List PDecl
  x5 = x4 ++ two_bodies

  after1 : after_decls c0 (decls_of x1) ≡ d2
  after1 = decls_joined before more_vars c0

  after2 : after_decls c0 (decls_of x2) ≡ d3
  after2 = decls_joined x1 tasks_more c0 ∙ ap (λ x. after_decls x (decls_of tasks_more)) after1

  after3 : after_decls c0 (decls_of x3) ≡ di
  after3 = decls_joined x2 two_tasks c0 ∙ ap (λ x. after_decls x (decls_of two_tasks)) after2

  after4 : after_decls c0 (decls_of x4) ≡ d4
  after4 = decls_joined x3 bodies_more c0 ∙ ap (λ x. after_decls x (decls_of bodies_more)) after3

  after5 : after_decls c0 (decls_of x5) ≡ dy
  after5 = decls_joined x4 two_bodies c0 ∙ ap (λ x. after_decls x (decls_of two_bodies)) after4

  all1 : AllAlong c0 x1
  all1 = main.along-join before more_vars c0 h.firsts_met variables-met

  all2 : AllAlong c0 x2
  all2 = main.along-join x1 tasks_more c0 all1 (subst (λ x. AllAlong x tasks_more) (sym after1) tasks-met)

  all3 : AllAlong c0 x3
  all3 = main.along-join x2 two_tasks c0 all2 (subst (λ x. AllAlong x two_tasks) (sym after2) two-tasks-met)

  all4 : AllAlong c0 x4
  all4 = main.along-join x3 bodies_more c0 all3 (subst (λ x. AllAlong x bodies_more) (sym after3) bodies-met)

  all5 : AllAlong c0 x5
  all5 = main.along-join x4 two_bodies c0 all4 (subst (λ x. AllAlong x two_bodies) (sym after4) two-bodies-met)

  list-is : replay_decls g s ops ≡ x5
  list-is =
      ap (λ l. l ++ tasks_more ++ two_tasks ++ bodies_more ++ two_bodies)
      (ap (behind_own q.names (permit_declared q s)) h.plain ∙ behind-front q.names (permit_declared q s) before vars h.front)

  -- Nothing is refused at the places of the replay text by the rules 1 and 3 to 12.
  pub text-met : AllMetBut (sites (replay_of g ops))
  text-met =
      all_joined IsMetBut (names_sites true before_all (q.name ∷ []) ++ decls_sites c0 (decls_of (replay_decls g s ops))) (body_sites (inner_scope (after_decls c0 (decls_of (replay_decls g s ops)))) (replay_body (main_unit g) s q.body))
      (all_joined IsMetBut (names_sites true before_all (q.name ∷ [])) (decls_sites c0 (decls_of (replay_decls g s ops))) (words-met true (q.name ∷ []) before_all)
      (subst (λ l. AllMetBut (decls_sites c0 (decls_of l))) (sym list-is) (main.along-of x5 c0 all5)))
      (subst (λ x. AllMetBut (body_sites (inner_scope x) (replay_body (main_unit g) s q.body))) (sym (ap (λ l. after_decls c0 (decls_of l)) list-is ∙ after5)) main-met)
