-- How the tasks of a replay text start, by its own types and numbers.
use Rattle.std.proofs.Common.{◌≡◌, ℕ, suc, ◌==◌, Bool, true, false, if◌then◌else◌, List, [], ◌∷◌, ◌++◌, flat_map, map, unwrap_or, drop, Some, None, refl, sym, ap, ap₂, ◌∙◌, subst, inl, inr}
use Rattle.std.specs.List.{AllByRecursion, filter}
use Rattle.event_machine.specs.declared.Event.{Event}
use Rattle.ada_tree.specs.declared.naming.NameId.{NameId}
use Rattle.ada_tree.specs.declared.naming.Span.{Span}
use Rattle.ada_tree.specs.TypeTable.{TypeTable}
use Rattle.ada_tree.specs.PlainDecl.{PDecl, DNumber, DObject, DEnumeration, DArray, DSubtype, DException, DIntIo, DPragma, DTask, DTaskBody, PDecls, no_decl, decl_then, decls_of}
use Rattle.ada_tree.specs.PlainProgram.{PProgram}
use Rattle.ada_tree.specs.Every.{EveryDecl, EveryDecls}
use Rattle.ada_static_rules.specs.Refusals.{types_in}
use Rattle.syn_event.specs.declared.numbering.TaskInfo.{TaskInfo}
use Rattle.syn_event.specs.Numbering.{Numbering, task_at}
use Rattle.syn_event.specs.AllNumbers.{all_numbers}
use Rattle.syn_event.specs.DeclaredTasks.{decl_list}
use Rattle.syn_event.proofs.DeclLists.{listed_back, list_again, every_listed}
use Rattle.control_script.specs.declared.Op.{Op}
use Rattle.ada_value.specs.Variables.{Variables}
use Rattle.task_model.specs.Setting.{Setting}
use Rattle.task_model.specs.Starting.{Unit, after_declaration, objects_of, unit_among, unit_of}
use Rattle.normal_model.specs.NormalStmts.{unit_variables}
use Rattle.normal_model.specs.NormalTree.{decls_front, first_decls, running, unit_for, bodies_of, main_variables}
use Rattle.replay_model.specs.ReplayTree.{behind_own, permit_declared, is_added_object, is_task, is_body, replay_decl, last_task, script_of}
use Rattle.replay_model.specs.Controlling.{control_declared, idle_declared, control_body, idle_body}
use Rattle.task_laws.specs.legal.rewritten_types.Agreement.{Agrees}
use Rattle.task_laws.specs.legal.rewritten_types.Laws.{behind}
use Rattle.task_laws.proofs.legal.rewritten_types.Rooting.{rooted_agrees}
use Rattle.task_laws.specs.legal.rewritten_values.Values.{old_names}
use Rattle.normal_laws.specs.structure.types.Own.{own_name}
use Rattle.normal_laws.specs.structure.types.Laws.{IsOrdered, setting_of, AreOwn}
use Rattle.normal_laws.proofs.structure.types.Normal.{normal_is_rooted, first-every}
use Rattle.normal_laws.proofs.structure.types.Variables.{IsTaskOrBody, all-mapped}
use Rattle.normal_laws.proofs.structure.units.Tasks.{list-front}
use Rattle.normal_laws.specs.structure.numbers.Laws.{NoneIsDed}
use Rattle.normal_laws.proofs.structure.numbers.Listed.{IsPlain, IsOneTask, first-plain, firsts, vars, tasks, bodies, vars-plain, tasks-all, normal-list}
use Rattle.replay_structure.proofs.texts.Listed.{normal-plain}
use Rattle.replay_structure.proofs.texts.Rooted.{replay_is_rooted}
use Rattle.replay_structure.specs.bodies.Laws.{HasBodies, RunsUnits}
use Rattle.replay_structure.proofs.bodies.Bodies.{unit-at}
use Rattle.replay_structure.proofs.bodies.Programs.{programs_run}
use Rattle.replay_runs.specs.starts.Laws.{HavePermit, permit_objects, own_part, added_part, objects_in, plain_part, HasOwnMark, HasOwnVariables, AddsOwnMarks, form_in, text_in, start_before, start_after, TextsStart}
use Rattle.replay_runs.proofs.starts.Objects.{units_start}
use Rattle.replay_runs.proofs.starts.Tables.{integer_is_there, IsOldDecl, objects-alike}
use Rattle.common_lemmas.proofs.Lists.{all_joined, all_weaker}

-- ---- parts of a unit's declarations

module _ (P : PDecl → Type 0) (names : List (List ℕ)) where
  all-own : (ds : List PDecl) → AllByRecursion P ds → AllByRecursion P (own_part names ds)
  all-own [] h = tt
  all-own (d ∷ ds) h = by_test (is_added_object names d) (all-own ds h.1)
    where
      by_test : (b : Bool) → AllByRecursion P (own_part names ds) → AllByRecursion P (if b then [] else d ∷ own_part names ds)
      by_test true k = tt
      by_test false k = (h.0, k)

  pub all-added : (ds : List PDecl) → AllByRecursion P ds → AllByRecursion P (added_part names ds)
  all-added [] h = tt
  all-added (d ∷ ds) h = by_test (is_added_object names d) (all-added ds h.1)
    where
      by_test : (b : Bool) → AllByRecursion P (added_part names ds) → AllByRecursion P (if b then d ∷ ds else added_part names ds)
      by_test true k = h
      by_test false k = k

-- ---- what is no object

module _ (T : TypeTable) (in_main : Bool) where
  -- tasks and bodies add no object
  passed-over : (ds : List PDecl) (V : Variables) → objects_of T in_main (decls_of ds) V ≡ objects_of T in_main (decls_of (plain_part ds)) V
  passed-over [] V = refl
  passed-over (DTask t s ∷ ds) V = passed-over ds V
  passed-over (DTaskBody w objects its s ∷ ds) V = passed-over ds V
  passed-over (DObject ws c x i s ∷ ds) V = passed-over ds (after_declaration T in_main (DObject ws c x i s) V)
  passed-over (DNumber w e s ∷ ds) V = passed-over ds V
  passed-over (DEnumeration w ws s ∷ ds) V = passed-over ds V
  passed-over (DArray w r x s ∷ ds) V = passed-over ds V
  passed-over (DSubtype w x s ∷ ds) V = passed-over ds V
  passed-over (DException ws s ∷ ds) V = passed-over ds V
  passed-over (DIntIo w s ∷ ds) V = passed-over ds V
  passed-over (DPragma e s ∷ ds) V = passed-over ds V

  none-behind : (xs ys : List PDecl) (V : Variables) → AllByRecursion IsTaskOrBody ys → objects_of T in_main (decls_of (xs ++ ys)) V ≡ objects_of T in_main (decls_of xs) V
  none-behind (x ∷ xs) ys V h = none-behind xs ys (after_declaration T in_main x V) h
  none-behind [] ys V h = none ys V h
    where
      none : (ys : List PDecl) (V : Variables) → AllByRecursion IsTaskOrBody ys → objects_of T in_main (decls_of ys) V ≡ V
      none [] V h = refl
      none (DTask t s ∷ ys) V h = none ys V h.1
      none (DTaskBody w objects its s ∷ ys) V h = none ys V h.1
      none (DNumber w e s ∷ ys) V h = absurd h.0
      none (DObject ws c x i s ∷ ys) V h = absurd h.0
      none (DEnumeration w ws s ∷ ys) V h = absurd h.0
      none (DArray w r x s ∷ ys) V h = absurd h.0
      none (DSubtype w x s ∷ ys) V h = absurd h.0
      none (DException ws s ∷ ys) V h = absurd h.0
      none (DIntIo w s ∷ ys) V h = absurd h.0
      none (DPragma e s ∷ ys) V h = absurd h.0

-- the tasks and the bodies of a replay text are such
tasks-such : (g : Setting) (ds : List PDecl) → AllByRecursion IsTaskOrBody (map (replay_decl g) (filter is_task ds))
tasks-such g [] = tt
tasks-such g (DTask t sp ∷ ds) = (tt, tasks-such g ds)
tasks-such g (DTaskBody w objects its sp ∷ ds) = tasks-such g ds
tasks-such g (DNumber w e sp ∷ ds) = tasks-such g ds
tasks-such g (DObject ws c x i sp ∷ ds) = tasks-such g ds
tasks-such g (DEnumeration w ws sp ∷ ds) = tasks-such g ds
tasks-such g (DArray w r x sp ∷ ds) = tasks-such g ds
tasks-such g (DSubtype w x sp ∷ ds) = tasks-such g ds
tasks-such g (DException ws sp ∷ ds) = tasks-such g ds
tasks-such g (DIntIo w sp ∷ ds) = tasks-such g ds
tasks-such g (DPragma e sp ∷ ds) = tasks-such g ds

bodies-such : (g : Setting) (ds : List PDecl) → AllByRecursion IsTaskOrBody (map (replay_decl g) (filter is_body ds))
bodies-such g [] = tt
bodies-such g (DTaskBody w objects its sp ∷ ds) = (tt, bodies-such g ds)
bodies-such g (DTask t sp ∷ ds) = bodies-such g ds
bodies-such g (DNumber w e sp ∷ ds) = bodies-such g ds
bodies-such g (DObject ws c x i sp ∷ ds) = bodies-such g ds
bodies-such g (DEnumeration w ws sp ∷ ds) = bodies-such g ds
bodies-such g (DArray w r x sp ∷ ds) = bodies-such g ds
bodies-such g (DSubtype w x sp ∷ ds) = bodies-such g ds
bodies-such g (DException ws sp ∷ ds) = bodies-such g ds
bodies-such g (DIntIo w sp ∷ ds) = bodies-such g ds
bodies-such g (DPragma e sp ∷ ds) = bodies-such g ds

-- ---- the unit of a task

-- the unit of a body is never main's
pub beside-main : (ds : PDecls) (name : NameId) → (unit_among ds name).in_main ≡ false
beside-main no_decl name = refl
beside-main (decl_then (DTaskBody w objects its sp) ds) name = by_test (w.name.0 == name.0) (beside-main ds name)
  where
    by_test : (b : Bool) → (unit_among ds name).in_main ≡ false → (unwrap_or (if b then Some record { in_main = false; decls = objects; body = its } else None) (unit_among ds name)).in_main ≡ false
    by_test true e = refl
    by_test false e = e
beside-main (decl_then (DTask t sp) ds) name = beside-main ds name
beside-main (decl_then (DNumber w e sp) ds) name = beside-main ds name
beside-main (decl_then (DObject ws c x i sp) ds) name = beside-main ds name
beside-main (decl_then (DEnumeration w ws sp) ds) name = beside-main ds name
beside-main (decl_then (DArray w r x sp) ds) name = beside-main ds name
beside-main (decl_then (DSubtype w x sp) ds) name = beside-main ds name
beside-main (decl_then (DException ws sp) ds) name = beside-main ds name
beside-main (decl_then (DIntIo w sp) ds) name = beside-main ds name
beside-main (decl_then (DPragma e sp) ds) name = beside-main ds name

module _ (P : PDecl → Type 0) where
  -- what holds of each declaration in bodies
  abbrev pub InBody : PDecl → Type 0
  InBody (DTaskBody w objects its s) = AllByRecursion P (decl_list objects)
  InBody _ = Prim.Unit {0}

  -- holds of those of the unit that is found
  pub in-unit : (ds : PDecls) (name : NameId) → AllByRecursion InBody (decl_list ds) → AllByRecursion P (decl_list (unit_among ds name).decls)
  in-unit no_decl name h = tt
  in-unit (decl_then (DTaskBody w objects its sp) ds) name h = by_test (w.name.0 == name.0) (in-unit ds name h.1)
    where
      by_test : (b : Bool) → AllByRecursion P (decl_list (unit_among ds name).decls) →
          AllByRecursion P (decl_list (unwrap_or (if b then Some record { in_main = false; decls = objects; body = its } else None) (unit_among ds name)).decls)
      by_test true k = h.0
      by_test false k = k
  in-unit (decl_then (DTask t sp) ds) name h = in-unit ds name h.1
  in-unit (decl_then (DNumber w e sp) ds) name h = in-unit ds name h.1
  in-unit (decl_then (DObject ws c x i sp) ds) name h = in-unit ds name h.1
  in-unit (decl_then (DEnumeration w ws sp) ds) name h = in-unit ds name h.1
  in-unit (decl_then (DArray w r x sp) ds) name h = in-unit ds name h.1
  in-unit (decl_then (DSubtype w x sp) ds) name h = in-unit ds name h.1
  in-unit (decl_then (DException ws sp) ds) name h = in-unit ds name h.1
  in-unit (decl_then (DIntIo w sp) ds) name h = in-unit ds name h.1
  in-unit (decl_then (DPragma e sp) ds) name h = in-unit ds name h.1

  plain-body : (d : PDecl) → IsPlain d → InBody d
  plain-body (DTask t s) h = tt
  plain-body (DTaskBody w objects its s) h = absurd h
  plain-body (DNumber w e s) h = tt
  plain-body (DObject ws c x i s) h = tt
  plain-body (DEnumeration w ws s) h = tt
  plain-body (DArray w r x s) h = tt
  plain-body (DSubtype w x s) h = tt
  plain-body (DException ws s) h = tt
  plain-body (DIntIo w s) h = tt
  plain-body (DPragma e s) h = tt

  task-body : (d : PDecl) → IsOneTask d → InBody d
  task-body (DTask t s) h = tt
  task-body (DTaskBody w objects its s) h = absurd h
  task-body (DNumber w e s) h = tt
  task-body (DObject ws c x i s) h = tt
  task-body (DEnumeration w ws s) h = tt
  task-body (DArray w r x s) h = tt
  task-body (DSubtype w x s) h = tt
  task-body (DException ws s) h = tt
  task-body (DIntIo w s) h = tt
  task-body (DPragma e s) h = tt

-- ---- all declarations of a normal form

module _ (p : PProgram) (P : PDecl → Type 0) where
  abbrev made : Setting
  made = setting_of p (types_in p) (all_numbers (types_in p) p)

  -- main has the first declarations of the program and the variables that are added
  pub of-main : AllByRecursion P (decl_list (first_decls [] p.decls)) → AllByRecursion P (main_variables made) → AllByRecursion P (plain_part (decl_list (form_in p).program.decls))
  of-main h k = subst (AllByRecursion P) (sym (normal-plain p (types_in p) made.numbers)) (all_joined P (firsts p (types_in p) made.numbers) (vars p (types_in p) made.numbers) h k)

  -- what holds in the copies of the program's bodies holds in all bodies
  pub of-bodies : AllByRecursion (InBody P) (flat_map (bodies_of made) (decl_list p.decls)) → AllByRecursion (InBody P) (decl_list (form_in p).program.decls)
  of-bodies h =
      let types = types_in p in
      let numbers = made.numbers in
      subst (AllByRecursion (InBody P)) (sym (normal-list p types numbers))
      (all_joined (InBody P) (firsts p types numbers) _ (all_weaker IsPlain _ _ (plain-body P) (first-plain p.decls []))
      (all_joined (InBody P) (vars p types numbers ++ tasks p types numbers) (bodies p types numbers)
      (all_joined (InBody P) (vars p types numbers) (tasks p types numbers) (all_weaker IsPlain _ _ (plain-body P) (vars-plain p types numbers)) (all_weaker IsOneTask _ _ (task-body P) (tasks-all made)))
      h))

-- ---- a program

module _ (p : PProgram) (events : List Event) (ordered : IsOrdered p) (own : AreOwn p p.decls) where
  -- the tables of the normal form and of the text agree on own names
  pub agrees : Agrees (own_name p) (types_in (form_in p).program) (types_in (text_in p events))
  agrees =
      let old = own_name p in
      let before = normal_is_rooted p (types_in p) (all_numbers (types_in p) p) ordered in
      let after = replay_is_rooted p (types_in p) (all_numbers (types_in p) p) events ordered own in
      rooted_agrees old (behind p.name (first_decls [] p.decls)).types _ _ record { sound = before.sound; whole = before.whole; left = before.right; right = after.right }

module _ (p : PProgram) (events : List Event) (ordered : IsOrdered p) (own : AreOwn p p.decls) (adds : AddsOwnMarks (setting_of p (types_in p) (all_numbers (types_in p) p))) where
  abbrev old : ℕ → Bool
  old = own_name p

  abbrev numbers : Numbering
  numbers = all_numbers (types_in p) p

  abbrev g : Setting
  g = form_in p

  abbrev normal : PProgram
  normal = g.program

  abbrev text : PProgram
  text = text_in p events

  abbrev ops : List Op
  ops = script_of numbers events

  abbrev T : TypeTable
  T = types_in normal

  abbrev U : TypeTable
  U = types_in text

  abbrev Old : PDecl → Type 0
  Old = IsOldDecl old T U (agrees p events ordered own)

  own-old : (d : PDecl) → EveryDecl (old_names old) d → Old d
  own-old d h = inl h

  mark-old : (d : PDecl) → HasOwnMark p d → Old d
  mark-old (DObject ws c x None s) h = inr h
  mark-old (DObject ws c x (Some i) s) h = absurd h
  mark-old (DNumber w e s) h = absurd h
  mark-old (DEnumeration w ws s) h = absurd h
  mark-old (DArray w r x s) h = absurd h
  mark-old (DSubtype w x s) h = absurd h
  mark-old (DException ws s) h = absurd h
  mark-old (DIntIo w s) h = absurd h
  mark-old (DPragma e s) h = absurd h
  mark-old (DTask t s) h = absurd h
  mark-old (DTaskBody w ds b s) h = absurd h

  -- the same objects by both tables
  alike : (in_main : Bool) (ds : List PDecl) → AllByRecursion Old ds → objects_in U in_main ds ≡ objects_in T in_main ds
  alike in_main ds h = sym (objects-alike old T U (agrees p events ordered own) in_main ds h [])

  -- a unit of which all declarations are such
  starts : (in_main : Bool) (s : Span) (ds : List PDecl) (before after : Variables) → AllByRecursion Old ds → before ≡ objects_in T in_main ds → after ≡ objects_in U in_main (behind_own normal.names (permit_declared normal s) ds) → HavePermit normal T in_main ds before after
  starts in_main s ds before after h b a = record {
    before = b ∙ (units_start normal T (integer_is_there normal) in_main s ds).before;
    after =
        a
        ∙ (units_start normal U (integer_is_there text) in_main s ds).after
        ∙ ap₂ (λ (x y : Variables). x ++ permit_objects normal ++ y) (alike in_main (added_part normal.names ds) (all-added Old normal.names ds h)) (alike in_main (own_part normal.names ds) (all-own Old normal.names ds h));
  }

  -- ---- main

  plain-old : AllByRecursion Old (plain_part (decl_list normal.decls))
  plain-old =
      of-main p Old (all_weaker _ Old _ own-old (every_listed (old_names old) (first_decls [] p.decls) (first-every (old_names old) p.decls [] own)))
      (all_weaker _ Old _ mark-old adds.main)

  main-starts : HavePermit normal T true (plain_part (decl_list normal.decls)) (start_before p 0) (start_after p events 0)
  main-starts =
      let s = normal.name.span in
      let ds = decl_list normal.decls in
      let put = behind_own normal.names (permit_declared normal s) (plain_part ds) in
      let first = map (replay_decl g) (filter is_task ds) in
      let control = control_declared normal s (last_task g.numbers) ∷ idle_declared normal s ∷ [] in
      let second = map (replay_decl g) (filter is_body ds) in
      let last = control_body g s ops ∷ idle_body normal s ∷ [] in
      starts true s (plain_part ds) _ _ plain-old
      (ap (λ x. objects_of T true x []) (sym (list_again normal.decls)) ∙ passed-over T true ds [])
      (none-behind U true (put ++ first ++ control ++ second) last [] (tt, (tt, tt))
      ∙ none-behind U true (put ++ first ++ control) second [] (bodies-such g ds)
      ∙ none-behind U true (put ++ first) control [] (tt, (tt, tt))
      ∙ none-behind U true put first [] (tasks-such g ds))

  -- ---- the other tasks

  -- the declarations of a copy of a body
  copy-old : (objects : PDecls) (xs : List PDecl) → EveryDecls (old_names old) objects → AllByRecursion (HasOwnMark p) xs → AllByRecursion Old (decl_list (decls_front objects (decls_of xs)))
  copy-old objects xs h k =
      subst (AllByRecursion Old) (sym (list-front objects (decls_of xs) ∙ ap (λ l. decl_list objects ++ l) (listed_back xs)))
      (all_joined Old (decl_list objects) xs (all_weaker _ Old _ own-old (every_listed (old_names old) objects h)) (all_weaker _ Old _ mark-old k))

  abbrev its : Setting
  its = setting_of p (types_in p) numbers

  bodies-old : (ds : PDecls) → EveryDecls (old_names old) ds → AllByRecursion (HasOwnVariables its) (decl_list ds) → AllByRecursion (InBody Old) (flat_map (bodies_of its) (decl_list ds))
  bodies-old no_decl h k = tt
  bodies-old (decl_then (DTaskBody w objects b s) ds) h k =
      all_joined (InBody Old) (bodies_of its (DTaskBody w objects b s)) (flat_map (bodies_of its) (decl_list ds))
      (all-mapped (InBody Old) _ (λ (info : TaskInfo). copy-old objects (unit_variables (unit_for its w.name) b) h.0.3 k.0) (running its w.name)) (bodies-old ds h.1 k.1)
  bodies-old (decl_then (DTask t s) ds) h k = bodies-old ds h.1 k.1
  bodies-old (decl_then (DNumber w e s) ds) h k = bodies-old ds h.1 k.1
  bodies-old (decl_then (DObject ws c x i s) ds) h k = bodies-old ds h.1 k.1
  bodies-old (decl_then (DEnumeration w ws s) ds) h k = bodies-old ds h.1 k.1
  bodies-old (decl_then (DArray w r x s) ds) h k = bodies-old ds h.1 k.1
  bodies-old (decl_then (DSubtype w x s) ds) h k = bodies-old ds h.1 k.1
  bodies-old (decl_then (DException ws s) ds) h k = bodies-old ds h.1 k.1
  bodies-old (decl_then (DIntIo w s) ds) h k = bodies-old ds h.1 k.1
  bodies-old (decl_then (DPragma e s) ds) h k = bodies-old ds h.1 k.1

  all-old : AllByRecursion (InBody Old) (decl_list normal.decls)
  all-old = of-bodies p Old (bodies-old p.decls own adds.bodies)

  module _ (ded : NoneIsDed p) (has : HasBodies p (drop 1 numbers.tasks)) where
    runs : RunsUnits p ops
    runs = programs_run p ops ordered own ded has

    task-starts : (t : ℕ) (info : TaskInfo) → task_at g.numbers (suc t) ≡ Some info →
        HavePermit normal T false (decl_list (unit_of normal g.numbers (suc t)).decls) (start_before p (suc t)) (start_after p events (suc t))
    task-starts t info at =
        let u = unit_of normal g.numbers (suc t) in
        let at_name = unit-at normal g.numbers t info at in
        let run = runs.own t info at in
        starts false run.0 (decl_list u.decls) _ _
        (subst (λ (x : Unit). AllByRecursion Old (decl_list x.decls)) (sym at_name) (in-unit Old normal.decls info.unit all-old))
        (ap₂ (λ (b : Bool) x. objects_of T b x []) (ap (λ (x : Unit). x.in_main) at_name ∙ beside-main normal.decls info.unit) (sym (list_again u.decls)))
        (ap (λ (x : Unit). objects_of U x.in_main x.decls []) run.1)

    idle-starts : start_after p events (suc (suc (last_task g.numbers))) ≡ []
    idle-starts = ap (λ (x : Unit). objects_of U x.in_main x.decls []) runs.added.idle

pub texts_start : TextsStart
texts_start p events ordered own ded has adds = record {
  main = main-starts p events ordered own adds;
  tasks = task-starts p events ordered own adds ded has;
  idle = idle-starts p events ordered own adds ded has;
}
