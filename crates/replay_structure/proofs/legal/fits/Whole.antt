-- The normal form of an original is as `replay_structure: placed` asks: its bodies, declarations, names and numbers.
use Rattle.std.proofs.Common.{ℕ, ◌+◌, ◌<◌, ◌==◌, Bool, true, false, if◌then◌else◌, List, [], ◌∷◌, ◌++◌, map, flat_map, Option, Some, None, is_some, IfSome, sym, subst}
use Rattle.std.specs.List.{AllByRecursion}
use Rattle.ada_tree.specs.declared.naming.NameId.{NameId}
use Rattle.ada_tree.specs.declared.static_types.Mark.{Mark}
use Rattle.ada_tree.specs.PlainStmt.{PBody}
use Rattle.ada_tree.specs.PlainDecl.{PTask, PDecl, DNumber, DObject, DEnumeration, DArray, DSubtype, DException, DIntIo, DPragma, DTask, DTaskBody, PDecls, no_decl, decl_then, decls_of}
use Rattle.ada_tree.specs.PlainProgram.{PProgram}
use Rattle.ada_tree.specs.Every.{Rules, EveryDecl, EveryDecls, EveryBody}
use Rattle.ada_tree.specs.WellPlaced.{well_placed, IsWellPlaced}
use Rattle.syn_event.specs.declared.numbering.Mode.TheVariants.{Original}
use Rattle.syn_event.specs.declared.numbering.TaskInfo.{TaskInfo}
use Rattle.syn_event.specs.CheckScope.{CheckScope, CheckSite}
use Rattle.syn_event.specs.CheckSites as check
use Rattle.syn_event.specs.NamedTasks.{type_named, with_type}
use Rattle.syn_event.specs.AddedNames.{task_info}
use Rattle.syn_event.specs.DeclaredTasks.{decl_list, tasks_in}
use Rattle.task_laws.specs.legal.sites.Met.{IsCheckMet}
use Rattle.task_laws.proofs.legal.sites.Meeting.{all_check_met}
use Rattle.common_lemmas.proofs.Lists.{all_back, all_front, all_joined, all_through}
use Rattle.task_model.specs.Setting.{Setting}
use Rattle.normal_model.specs.Names.{task_name}
use Rattle.normal_model.specs.RewrittenUnit.{RewrittenUnit}
use Rattle.normal_model.specs.NormalStmts.{normal_body, unit_variables}
use Rattle.normal_model.specs.NormalTree.{decls_front, mark_of, unless_left, first_decls, tasks_beside, task_under, declared_under, task_declared, unit_for, running, body_copy, bodies_of, main_variables, variables_needed}
use Rattle.normal_model.proofs.VariablesLemmas.{begins-refl}
use Rattle.normal_laws.proofs.structure.types.Names.{names-begin}
use Rattle.task_laws.specs.legal.asked.Asked.{AskedBody}
use Rattle.task_laws.specs.legal.asked.Kinds.{place_asks, check_asks, both}
use Rattle.task_laws.proofs.legal.asked.Placed.{placed_asked}
use Rattle.task_laws.proofs.legal.asked.Checked.{checked_asked}
use Rattle.task_laws.proofs.legal.asked.Together.{both_asked}
use Rattle.normal_laws.specs.structure.asked.Pieces.{IsAmong, first_among, later_among}
use Rattle.normal_laws.proofs.structure.asked.Walk.{body-keeps}
use Rattle.normal_laws.specs.structure.placed.Placeable.{IsName, MarksHaveNames, IsPlaceable}
use Rattle.normal_laws.proofs.structure.placed.Names.{first-named, old-named}
use Rattle.normal_laws.proofs.structure.placed.Originals.{all_normal_placed}
use Rattle.normal_laws.proofs.structure.placed.Added.{AreSubtypes, AreVariablesFrom, unit-from}
use Rattle.replay_structure.specs.placed.Fitting.{fit_asks}
use Rattle.replay_structure.specs.placed.Placeable.{FitsDecl, IsReplayPlaceable}
use Rattle.replay_structure.specs.legal.fits.Ready.{normal_of, ready_asks, ReadyBody, IsReady}
use Rattle.replay_structure.proofs.legal.fits.Fitted.{pieces}
use Rattle.replay_structure.proofs.legal.fits.Doubles.{HasDoubles, decls-doubled}
use Rattle.syn_event.proofs.DeclLists.{every_listed}

-- ---- lists

-- what holds of the declarations of two lists holds of the one in front of the other
front-all : (P : PDecl → Type 0) (xs ys : PDecls) → AllByRecursion P (decl_list xs) → AllByRecursion P (decl_list ys) → AllByRecursion P (decl_list (decls_front xs ys))
front-all P no_decl ys h i = i
front-all P (decl_then d xs) ys h i = (h.0, front-all P xs ys h.1 i)

list-all : (P : PDecl → Type 0) (ds : List PDecl) → AllByRecursion P ds → AllByRecursion P (decl_list (decls_of ds))
list-all P [] h = tt
list-all P (d ∷ ds) h = (h.0, list-all P ds h.1)

-- nothing is asked
none-asked : {A : Type 0} (xs : List A) → AllByRecursion (λ (x : A). Prim.Unit {0}) xs
none-asked [] = tt
none-asked (x ∷ xs) = (tt, none-asked xs)

tasks-named : (names : List (List ℕ)) (ds : List PDecl) → AllByRecursion (EveryDecl (well_placed names)) ds → AllByRecursion (λ t. IsName names t.name.name) (tasks_in ds)
tasks-named names [] h = tt
tasks-named names (DTask t s ∷ ds) h = (h.0.1.0, tasks-named names ds h.1)
tasks-named names (DTaskBody w objects its s ∷ ds) h = tasks-named names ds h.1
tasks-named names (DNumber w e s ∷ ds) h = tasks-named names ds h.1
tasks-named names (DObject ws o x q s ∷ ds) h = tasks-named names ds h.1
tasks-named names (DEnumeration w ws s ∷ ds) h = tasks-named names ds h.1
tasks-named names (DArray w q x s ∷ ds) h = tasks-named names ds h.1
tasks-named names (DSubtype w x s ∷ ds) h = tasks-named names ds h.1
tasks-named names (DException ws s ∷ ds) h = tasks-named names ds h.1
tasks-named names (DIntIo w s ∷ ds) h = tasks-named names ds h.1
tasks-named names (DPragma e s ∷ ds) h = tasks-named names ds h.1

module _ (g : Setting) (h : IsPlaceable g) (q : IsReady g) where
  abbrev p : PProgram
  p = g.program

  abbrev n : Setting
  n = normal_of g

  abbrev r : Rules
  r = well_placed p.names

  abbrev M : CheckSite → Type 0
  M = IsCheckMet Original p.names

  -- ---- names

  first : (k : ℕ) → k < 25 → IsName n.program.names (record { 0 = k })
  first k l = old-named g (record { 0 = k }) (first-named p.names h.names k l)

  marks : MarksHaveNames n.program.names g.types
  marks = go g.types.marks h.marks
    where
      name : (o : Option NameId) → IfSome o (IsName p.names) → IfSome o (IsName n.program.names)
      name None i = tt
      name (Some id) i = old-named g id i

      go : (ms : List Mark) → AllByRecursion (λ m. IfSome m.name (IsName p.names)) ms → AllByRecursion (λ m. IfSome m.name (IsName n.program.names)) ms
      go [] i = tt
      go (m ∷ ms) i = (name m.name i.0, go ms i.1)

  -- ---- bodies

  -- a body of the program, by the number of the task by which it is rewritten, and by that of the unit of the normal form
  body-fits : (t t' : ℕ) (x : PBody) (c : CheckScope) → EveryBody r 1 x → AllByRecursion M (check.body_sites c 1 x) → AskedBody (ready_asks (record { setting = n; task = t' })) tt 1 x →
      AskedBody (fit_asks (record { setting = n; task = t' })) tt 1 (normal_body (record { setting = g; task = t }) x)
  body-fits t t' x c i m ready =
      let u : RewrittenUnit = record { setting = g; task = t } in
      let v : RewrittenUnit = record { setting = n; task = t' } in
      let vars : List PDecl = unit_variables u x in
      let checked : AskedBody (both (check_asks M) (ready_asks v)) (c, tt) 1 x = both_asked (check_asks M) (ready_asks v) c tt 1 x (checked_asked M c 1 x m) ready in
      let all : AskedBody (both (place_asks r) (both (check_asks M) (ready_asks v))) (tt, (c, tt)) 1 x = both_asked (place_asks r) (both (check_asks M) (ready_asks v)) tt (c, tt) 1 x (placed_asked r 1 x i) checked in
      body-keeps u vars (both (place_asks r) (both (check_asks M) (ready_asks v))) (fit_asks v) (λ y z. Prim.Unit {0}) (pieces g t t' vars) (tt, (c, tt)) tt 1 x tt all (begins-refl vars)

  copies-fit : (d : PDecl) (c : CheckScope) → EveryDecl r d → ReadyBody g d → AllByRecursion M (check.decl_sites c (check.body_names p.decls) d) → AllByRecursion (FitsDecl n) (bodies_of g d)
  copies-fit (DTaskBody w objects its s) c i ready m = copies (running g w.name) (λ info k. k)
    where
      sites : AllByRecursion M (check.body_sites (check.after_own (check.in_body c w) objects) 1 its)
      sites = all_back M (check.own_sites (check.in_body c w) objects) (check.body_sites (check.after_own (check.in_body c w) objects) 1 its) m

      copies : (infos : List TaskInfo) → ((info : TaskInfo) → IsAmong info infos → IsAmong info (running g w.name)) →
          AllByRecursion (FitsDecl n) (map (body_copy g w objects (unit_variables (unit_for g w.name) its) (normal_body (unit_for g w.name) its) (λ ds b name. DTaskBody name ds b s)) infos)
      copies [] all = tt
      copies (info ∷ infos) all =
          (body-fits (unit_for g w.name).task (unit_for n (task_name g info)).task its (check.after_own (check.in_body c w) objects) i.4 sites (ready info (all info (first_among infos))), copies infos (λ y k. all y (later_among info infos k)))
  copies-fit (DTask t s) c i ready m = tt
  copies-fit (DNumber w e s) c i ready m = tt
  copies-fit (DObject ws o x y s) c i ready m = tt
  copies-fit (DEnumeration w ws s) c i ready m = tt
  copies-fit (DArray w y x s) c i ready m = tt
  copies-fit (DSubtype w x s) c i ready m = tt
  copies-fit (DException ws s) c i ready m = tt
  copies-fit (DIntIo w s) c i ready m = tt
  copies-fit (DPragma e s) c i ready m = tt

  bodies-fit : (ds : PDecls) (c : CheckScope) → EveryDecls r ds → AllByRecursion (ReadyBody g) (decl_list ds) → AllByRecursion M (check.decls_sites c (check.body_names p.decls) ds) → AllByRecursion (FitsDecl n) (flat_map (bodies_of g) (decl_list ds))
  bodies-fit no_decl c i ready m = tt
  bodies-fit (decl_then d rest) c i ready m =
      let here : List CheckSite = check.decl_sites c (check.body_names p.decls) d in
      let more : List CheckSite = check.decls_sites (check.after_decl c d) (check.body_names p.decls) rest in
      all_joined (FitsDecl n) (bodies_of g d) (flat_map (bodies_of g) (decl_list rest)) (copies-fit d c i.0 ready.0 (all_front M here more m)) (bodies-fit rest (check.after_decl c d) i.1 ready.1 (all_back M here more m))

  -- ---- other declarations

  left-fits : (b : Bool) (d : PDecl) (rest : PDecls) → FitsDecl n d → AllByRecursion (FitsDecl n) (decl_list rest) → AllByRecursion (FitsDecl n) (decl_list (unless_left b d rest))
  left-fits true d rest i j = j
  left-fits false d rest i j = (i, j)

  first-fits : (kinds : List PTask) (ds : PDecls) → AllByRecursion (FitsDecl n) (decl_list (first_decls kinds ds))
  first-fits kinds no_decl = tt
  first-fits kinds (decl_then (DTask t s) rest) = first-fits (with_type kinds t.of_kind t) rest
  first-fits kinds (decl_then (DTaskBody w objects its s) rest) = first-fits kinds rest
  first-fits kinds (decl_then (DObject ws c x i s) rest) = left-fits (is_some (type_named kinds (mark_of x))) (DObject ws c x i s) (first_decls kinds rest) tt (first-fits kinds rest)
  first-fits kinds (decl_then (DNumber w e s) rest) = (tt, first-fits kinds rest)
  first-fits kinds (decl_then (DEnumeration w ws s) rest) = (tt, first-fits kinds rest)
  first-fits kinds (decl_then (DArray w y x s) rest) = (tt, first-fits kinds rest)
  first-fits kinds (decl_then (DSubtype w x s) rest) = (tt, first-fits kinds rest)
  first-fits kinds (decl_then (DException ws s) rest) = (tt, first-fits kinds rest)
  first-fits kinds (decl_then (DIntIo w s) rest) = (tt, first-fits kinds rest)
  first-fits kinds (decl_then (DPragma e s) rest) = (tt, first-fits kinds rest)

  -- of the subtypes of added variables nothing is asked
  any-subtypes : AreSubtypes g (λ x. Prim.Unit {0})
  any-subtypes = record { integers = λ s. tt; truths = λ s. tt; arrays = λ s id. tt; families = λ s e. tt; formals = λ e. none-asked _ }

  variables-fit : (k : ℕ) (ds : List PDecl) → AreVariablesFrom g (λ x. Prim.Unit {0}) k ds → AllByRecursion (FitsDecl n) ds
  variables-fit k [] i = tt
  variables-fit k (d ∷ ds) i = (subst (FitsDecl n) (sym i.0.is) tt, variables-fit (k + 1) ds i.1)

  under-fits : (unit name : NameId) (d : PDecl) → HasDoubles n.program.names d → AllByRecursion (FitsDecl n) (declared_under unit name d)
  under-fits unit name (DTask t s) i = by_test (t.name.name.0 == unit.0)
    where
      by_test : (b : Bool) → AllByRecursion (FitsDecl n) (if b then DTask (task_under name t) s ∷ [] else [])
      by_test true = (i, tt)
      by_test false = tt
  under-fits unit name (DTaskBody w objects its s) i = tt
  under-fits unit name (DNumber w e s) i = tt
  under-fits unit name (DObject ws c x o s) i = tt
  under-fits unit name (DEnumeration w ws s) i = tt
  under-fits unit name (DArray w y x s) i = tt
  under-fits unit name (DSubtype w x s) i = tt
  under-fits unit name (DException ws s) i = tt
  under-fits unit name (DIntIo w s) i = tt
  under-fits unit name (DPragma e s) i = tt

  tasks-fit : AllByRecursion (HasDoubles n.program.names) (decl_list p.decls) → AllByRecursion (FitsDecl n) (flat_map (task_declared g) (tasks_beside g))
  tasks-fit i =
      all_through (λ (info : TaskInfo). Prim.Unit {0}) (FitsDecl n) (task_declared g)
      (λ info j. all_through (HasDoubles n.program.names) (FitsDecl n) (declared_under info.unit (task_name g info)) (λ d k. under-fits info.unit (task_name g info) d k) (decl_list p.decls) i)
      (tasks_beside g) (none-asked (tasks_beside g))

  -- ---- the whole

  sites-met : AllByRecursion M (check.check_sites p)
  sites-met = all_check_met p Original h.checks

  abbrev around : CheckScope
  around = check.around_program p

  abbrev main : List CheckSite
  main = check.decls_sites around (check.body_names p.decls) p.decls

  abbrev its : List CheckSite
  its = check.body_sites (check.after_decls around p.decls) 1 p.body

  two-met : AllByRecursion M (main ++ its)
  two-met = all_front M (main ++ its) (check.counted_sites around p) sites-met.1

  decls-fit : AllByRecursion (FitsDecl n) (decl_list n.program.decls)
  decls-fit =
      let met : AllByRecursion M main = all_front M main its two-met in
      let tasks : List PDecl = flat_map (task_declared g) (tasks_beside g) in
      let bodies : List PDecl = flat_map (bodies_of g) (decl_list p.decls) in
      front-all (FitsDecl n) (first_decls [] p.decls) (decls_of (main_variables g ++ tasks ++ bodies)) (first-fits [] p.decls)
      (list-all (FitsDecl n) (main_variables g ++ tasks ++ bodies)
      (all_joined (FitsDecl n) (main_variables g ++ tasks) bodies
      (all_joined (FitsDecl n) (main_variables g) tasks (variables-fit 0 (main_variables g) (unit-from g (λ x. Prim.Unit {0}) any-subtypes 0 p.body))
      (tasks-fit (decls-doubled p.names n.program.names (names-begin g (variables_needed g)) p.decls around (check.body_names p.decls) h.placed.2 met)))
      (bodies-fit p.decls around h.placed.2 q.bodies met)))

  normal-placed : IsWellPlaced n.program
  normal-placed = all_normal_placed g h

  infos-named : (ts : List PTask) → AllByRecursion (λ t. IsName n.program.names t.name.name) ts → AllByRecursion (λ info. IsName n.program.names info.name) (map (λ t. task_info n.program.names t.name.name) ts)
  infos-named [] i = tt
  infos-named (t ∷ ts) i = (i.0, infos-named ts i.1)

  -- The normal form is as asked.
  pub normal_fits : IsReplayPlaceable n
  normal_fits = record {
    placed = normal-placed;
    first = first;
    main = body-fits 0 0 p.body (check.after_decls around p.decls) h.placed.3 (all_back M main its two-met) q.main;
    decls = decls-fit;
    marks = marks;
    tasks = (normal-placed.0, infos-named _ (tasks-named n.program.names (decl_list n.program.decls) (every_listed (well_placed n.program.names) n.program.decls normal-placed.2)));
    few_tasks = q.few_tasks;
    few_entries = q.few_entries;
  }
