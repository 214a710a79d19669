-- The declarations of a collecting text are well placed.
use Rattle.std.proofs.Common.{Bool, ℕ, ◌==◌, ◌≤◌, ◌||◌, not, List, [], ◌∷◌, ◌++◌, drop, length, map, refl, sym, subst, arith, append_assoc}
use Rattle.std.proofs.lemmas.List.{length-map}
use Rattle.std.specs.List.{AllByRecursion, filter, list_any}
use Rattle.std.proofs.lemmas.List.Elements.{All-from_recursion, All-cons, recursion_from_All}
use Rattle.std.proofs.lemmas.List.Sums.{count_by-le-length}
use Rattle.ada_tree.specs.declared.naming.NameId.{NameId}
use Rattle.ada_tree.specs.declared.naming.Span.{Span}
use Rattle.ada_tree.specs.PlainStmt.{PBody}
use Rattle.ada_tree.specs.PlainDecl.{PEntry, PTask, PDecl, DNumber, DObject, DEnumeration, DArray, DSubtype, DException, DIntIo, DPragma, DTask, DTaskBody, PDecls, no_decl, decl_then, decls_of}
use Rattle.ada_tree.specs.Every.{Rules, EveryFormal, EveryEntry, EveryTask, EveryDecl, EveryDecls, EveryBody, EveryProgram}
use Rattle.ada_tree.specs.Lexical.{IsInteger, IsStringContent}
use Rattle.ada_tree.specs.WellPlaced.{AreObjects, AreLater, BodiesLast, well_placed, IsWellPlaced}
use Rattle.syn_event.specs.Numbering.{is_original_task, is_original_entry, original_tasks, original_entries}
use Rattle.syn_event.specs.DeclaredTasks.{decl_list}
use Rattle.common_lemmas.proofs.Lists.{all_joined, all_kept}
use Rattle.task_model.specs.Setting.{Setting}
use Rattle.normal_model.specs.NormalTree.{main_unit, unit_for}
use Rattle.normal_model.specs.RewrittenUnit.{RewrittenUnit}
use Rattle.task_laws.specs.legal.asked.Asked.{AskedBody}
use Rattle.task_laws.specs.legal.asked.Kinds.{place_asks, both}
use Rattle.task_laws.proofs.legal.asked.Placed.{placed_asked, asked_placed}
use Rattle.task_laws.proofs.legal.asked.Together.{both_asked}
use Rattle.normal_laws.proofs.structure.placed.Whole.{placed-with}
use Rattle.replay_model.specs.ReplayTree.{is_task, is_body, last_task}
use Rattle.replay_structure.specs.placed.Fitting.{IsShallow, fit_asks}
use Rattle.replay_structure.specs.placed.Placeable.{FitsDecl}
use Rattle.replay_structure.proofs.placed.Made.{number-few}
use Rattle.collect_model.specs.declared.AddedNames.{AddedNames}
use Rattle.collect_model.specs.Names.{added_in}
use Rattle.collect_model.specs.Teller.{Teller, task_of, teller_at, teller_in}
use Rattle.collect_model.specs.Lines.{header_text}
use Rattle.collect_model.specs.CollectStmts.{main_body, task_body}
use Rattle.collect_model.specs.CollectTree.{is_int_io, unit_declared, main_declared, behind_own, entry_telling, task_telling, collect_decl, objects_told, recorder_told, recorder_body_told, collect_decls, collect_of}
use Rattle.collect_structure.proofs.asked.Walk.{main-keeps, task-keeps}
use Rattle.collect_structure.specs.placed.Placeable.{tell_asks, TellsDecl, IsCollectPlaceable}
use Rattle.collect_structure.proofs.placed.Named.{AreAdded, names', old, are-added}
use Rattle.collect_structure.proofs.placed.Made.{formal-placed, pieces}
use Rattle.collect_structure.proofs.placed.Header.{name-content, header-content}
use Rattle.collect_structure.proofs.placed.Recorded.{recorder-declared, unit-placed, main-placed, recorder-placed}
use Rattle.collect_structure.proofs.texts.Listed.{all-behind, all-main}
use Rattle.normal_laws.proofs.structure.numbers.Listed.{IsOneBody}
use Rattle.collect_structure.proofs.texts.Telling.{IsTelling, told_with, told-bodies}
use Rattle.collect_structure.proofs.texts.Rooted.{collect-tells}
use Rattle.collect_model.specs.Recording.{recorder_declared}
use Rattle.ada_tree.specs.PlainProgram.{PProgram}
use Rattle.replay_structure.proofs.placed.Declared.{pred-less, IsNoBody, IsObject, bodies-front, filtered-bodies, list-objects, objects-list}
use Rattle.replay_structure.proofs.checked.Whole.{one-bodies}

-- ---- lists of declarations

module _ (r : Rules) where
  pub list-placed : (ds : List PDecl) → AllByRecursion (EveryDecl r) ds → EveryDecls r (decls_of ds)
  list-placed [] h = tt
  list-placed (d ∷ ds) h = (h.0, list-placed ds h.1)

  pub placed-list : (ds : PDecls) → EveryDecls r ds → AllByRecursion (EveryDecl r) (decl_list ds)
  placed-list no_decl h = tt
  placed-list (decl_then d ds) h = (h.0, placed-list ds h.1)

-- ---- the order of declarations

pub later : (ds : List PDecl) → AllByRecursion IsOneBody ds → AreLater (decls_of ds)
later [] h = tt
later (DTaskBody w objects its s ∷ ds) h = (tt, later ds h.1)
later (DTask t s ∷ ds) h = absurd h.0
later (DNumber w e s ∷ ds) h = absurd h.0
later (DObject ws c x i s ∷ ds) h = absurd h.0
later (DEnumeration w ws s ∷ ds) h = absurd h.0
later (DArray w q x s ∷ ds) h = absurd h.0
later (DSubtype w x s ∷ ds) h = absurd h.0
later (DException ws s ∷ ds) h = absurd h.0
later (DIntIo w s ∷ ds) h = absurd h.0
later (DPragma e s ∷ ds) h = absurd h.0

pub bodies-last : (ds : List PDecl) → AllByRecursion IsOneBody ds → BodiesLast (decls_of ds)
bodies-last [] h = tt
bodies-last (DTaskBody w objects its s ∷ ds) h = later ds h.1
bodies-last (DTask t s ∷ ds) h = absurd h.0
bodies-last (DNumber w e s ∷ ds) h = absurd h.0
bodies-last (DObject ws c x i s ∷ ds) h = absurd h.0
bodies-last (DEnumeration w ws s ∷ ds) h = absurd h.0
bodies-last (DArray w q x s ∷ ds) h = absurd h.0
bodies-last (DSubtype w x s ∷ ds) h = absurd h.0
bodies-last (DException ws s ∷ ds) h = absurd h.0
bodies-last (DIntIo w s ∷ ds) h = absurd h.0
bodies-last (DPragma e s ∷ ds) h = absurd h.0

-- ---- the first declarations

pub main-no-bodies : (n : AddedNames) (s : Span) (instance : Bool) (last : ℕ) → AllByRecursion IsNoBody (main_declared n s instance last)
main-no-bodies n s instance last = all-main IsNoBody n s instance last (refl, (refl, (refl, (refl, tt))))

-- what stands for tasks is no body
tasks-no-bodies : (n : AddedNames) (f : PDecl → PDecl) → IsTelling n f → (ds : List PDecl) → AllByRecursion IsNoBody (map f (filter is_task ds))
tasks-no-bodies n f tells [] = tt
tasks-no-bodies n f tells (DTask t s ∷ ds) = (subst IsNoBody (sym (tells.task t s)) refl, tasks-no-bodies n f tells ds)
tasks-no-bodies n f tells (d ∷ ds) = tasks-no-bodies n f tells ds

-- bodies stand last in a text that is told
pub told-order : (n : AddedNames) (f : PDecl → PDecl) → IsTelling n f → (q : PProgram) (more : List PDecl) (last : PDecl) → AllByRecursion IsNoBody more → IsOneBody last →
    BodiesLast (decls_of (told_with q.names more f (recorder_declared n q.name.span) last (filter (λ d. not (is_task d || is_body d)) (decl_list q.decls))
    (filter is_task (decl_list q.decls)) (filter is_body (decl_list q.decls))))
told-order n f tells q more last none one =
    let ds : List PDecl = decl_list q.decls in
    let objects : List PDecl = filter (λ d. not (is_task d || is_body d)) ds in
    let first : List PDecl = behind_own q.names more objects in
    let tasks : List PDecl = map f (filter is_task ds) in
    let added : List PDecl = recorder_declared n q.name.span ∷ [] in
    let bodies : List PDecl = map f (filter is_body ds) in
    let front : AllByRecursion IsNoBody (first ++ tasks ++ added) =
    all_joined IsNoBody (first ++ tasks) added
    (all_joined IsNoBody first tasks (all-behind IsNoBody q.names more objects none (filtered-bodies ds)) (tasks-no-bodies n f tells ds)) (refl, tt) in
    subst (λ ys. BodiesLast (decls_of ys)) (sym (append_assoc (first ++ tasks ++ added) bodies (last ∷ [])))
    (bodies-front (first ++ tasks ++ added) (bodies ++ last ∷ []) front
    (bodies-last (bodies ++ last ∷ []) (all_joined IsOneBody bodies (last ∷ []) (told-bodies n f tells (filter is_body ds) (one-bodies ds)) (one, tt))))

-- ---- each declaration

module _ (g : Setting) (h : IsCollectPlaceable g) where
  abbrev r : Rules
  r = well_placed g.program.names

  abbrev r' : Rules
  r' = well_placed (names' g h.ready)

  abbrev n : AddedNames
  n = added_in (names' g h.ready)

  abbrev known : AreAdded g (names' g h.ready) n
  known = are-added g h.ready

  abbrev x : Teller
  x = teller_in (main_unit g)

  -- the normal form is well placed with the names of the collecting text
  pub whole : EveryProgram r' g.program
  whole = placed-with g.program.names (names' g h.ready) (old g h.ready) g.program h.ready.placed

  -- ---- tasks

  entries-placed : (es : List PEntry) → AllByRecursion (EveryEntry r') es → AllByRecursion (EveryEntry r') (map (entry_telling n) es)
  entries-placed [] i = tt
  entries-placed (e ∷ es) i =
      ((i.0.0, i.0.1, i.0.2, All-cons (EveryFormal r') _ e.formals (formal-placed (main_unit g) 0 g.program.names (names' g h.ready) n (old g h.ready) known h.ready.few_entries (omega arith) h.owners e.name.span) i.0.3), entries-placed es i.1)

  task-placed : (t : PTask) → EveryTask r' t → EveryTask r' (task_telling n t)
  task-placed t i =
      (i.0, All-from_recursion (EveryEntry r') (map (entry_telling n) t.entries) (entries-placed t.entries (recursion_from_All (EveryEntry r') t.entries i.1)), i.2, rw (length-map t.entries (entry_telling n)) i.3)

  tasks-placed : (ds : List PDecl) → AllByRecursion (EveryDecl r') ds → AllByRecursion (EveryDecl r') (map (collect_decl x g.program.names) (filter is_task ds))
  tasks-placed [] i = tt
  tasks-placed (DTask t s ∷ ds) i = ((i.0.0, task-placed t i.0.1), tasks-placed ds i.1)
  tasks-placed (DTaskBody w objects its s ∷ ds) i = tasks-placed ds i.1
  tasks-placed (DNumber w e s ∷ ds) i = tasks-placed ds i.1
  tasks-placed (DObject ws c y o s ∷ ds) i = tasks-placed ds i.1
  tasks-placed (DEnumeration w ws s ∷ ds) i = tasks-placed ds i.1
  tasks-placed (DArray w q y s ∷ ds) i = tasks-placed ds i.1
  tasks-placed (DSubtype w y s ∷ ds) i = tasks-placed ds i.1
  tasks-placed (DException ws s ∷ ds) i = tasks-placed ds i.1
  tasks-placed (DIntIo w s ∷ ds) i = tasks-placed ds i.1
  tasks-placed (DPragma e s ∷ ds) i = tasks-placed ds i.1

  -- ---- bodies

  -- what is asked of the statements of a unit
  asked : (u : RewrittenUnit) (its : PBody) → EveryBody r 1 its → AskedBody (fit_asks u) tt 1 its → AskedBody (tell_asks u) tt 1 its → AskedBody (both (both (place_asks r) (fit_asks u)) (tell_asks u)) ((tt, tt), tt) 1 its
  asked u its i j k = both_asked (both (place_asks r) (fit_asks u)) (tell_asks u) (tt, tt) tt 1 its (both_asked (place_asks r) (fit_asks u) tt tt 1 its (placed_asked r 1 its i) j) k

  -- the body of a task of that number
  body-placed : (name : NameId) (task : ℕ) (s : Span) (its : PBody) → IsInteger task → EveryBody r 1 its → AskedBody (fit_asks (unit_for g name)) tt 1 its → AskedBody (tell_asks (unit_for g name)) tt 1 its → EveryBody r' 1 (task_body (teller_at x task) s its)
  body-placed name task s its few i j k =
      let u : RewrittenUnit = unit_for g name in
      asked_placed r' 1 (task_body (teller_at x task) s its)
      (task-keeps (teller_at x task) IsShallow (both (both (place_asks r) (fit_asks u)) (tell_asks u)) (place_asks r') (λ c d. Prim.Unit {0}) (pieces u task g.program.names (names' g h.ready) n (old g h.ready) known h.ready.few_entries few h.owners) ((tt, tt), tt) tt 1 s its tt (omega arith) (omega arith)
      (asked u its i j k))

  main-body-placed : EveryBody r' 1 (main_body x g.program.body)
  main-body-placed =
      let u : RewrittenUnit = main_unit g in
      asked_placed r' 1 (main_body x g.program.body)
      (main-keeps x IsShallow (both (both (place_asks r) (fit_asks u)) (tell_asks u)) (place_asks r') (λ c d. Prim.Unit {0}) (pieces u 0 g.program.names (names' g h.ready) n (old g h.ready) known h.ready.few_entries (omega arith) h.owners) ((tt, tt), tt) tt 1 g.program.body tt (omega arith)
      (asked u g.program.body h.ready.placed.3 h.ready.main h.main))

  task-few : (name : NameId) → IsInteger (task_of g.numbers name)
  task-few name = omega (arith, number-few (λ info. info.name.0 == name.0) g.numbers.tasks, h.ready.few_tasks)

  -- the objects of a body, with those that it gets
  objects-placed : (s : Span) (objects : PDecls) → EveryDecls r' objects → EveryDecls r' (decls_of (behind_own g.program.names (unit_declared n s) (decl_list objects)))
  objects-placed s objects i =
      list-placed r' (behind_own g.program.names (unit_declared n s) (decl_list objects))
      (all-behind (EveryDecl r') g.program.names (unit_declared n s) (decl_list objects) (unit-placed g (names' g h.ready) n known s) (placed-list r' objects i))

  objects-kept : (s : Span) (objects : PDecls) → AreObjects objects → AreObjects (decls_of (behind_own g.program.names (unit_declared n s) (decl_list objects)))
  objects-kept s objects i =
      list-objects (behind_own g.program.names (unit_declared n s) (decl_list objects))
      (all-behind IsObject g.program.names (unit_declared n s) (decl_list objects) (tt, (tt, tt)) (objects-list objects i))

  bodies-placed : (ds : List PDecl) → AllByRecursion (EveryDecl r) ds → AllByRecursion (EveryDecl r') ds → AllByRecursion (FitsDecl g) ds → AllByRecursion (TellsDecl g) ds → AllByRecursion (EveryDecl r') (map (collect_decl x g.program.names) (filter is_body ds))
  bodies-placed [] i j f k = tt
  bodies-placed (DTaskBody w objects its s ∷ ds) i j f k = (
    (j.0.0, j.0.1, objects-kept w.span objects j.0.2, objects-placed w.span objects j.0.3, body-placed w.name (task_of g.numbers w.name) w.span its (task-few w.name) i.0.4 f.0 k.0),
    bodies-placed ds i.1 j.1 f.1 k.1,
  )
  bodies-placed (DTask t s ∷ ds) i j f k = bodies-placed ds i.1 j.1 f.1 k.1
  bodies-placed (DNumber w e s ∷ ds) i j f k = bodies-placed ds i.1 j.1 f.1 k.1
  bodies-placed (DObject ws c y o s ∷ ds) i j f k = bodies-placed ds i.1 j.1 f.1 k.1
  bodies-placed (DEnumeration w ws s ∷ ds) i j f k = bodies-placed ds i.1 j.1 f.1 k.1
  bodies-placed (DArray w q y s ∷ ds) i j f k = bodies-placed ds i.1 j.1 f.1 k.1
  bodies-placed (DSubtype w y s ∷ ds) i j f k = bodies-placed ds i.1 j.1 f.1 k.1
  bodies-placed (DException ws s ∷ ds) i j f k = bodies-placed ds i.1 j.1 f.1 k.1
  bodies-placed (DIntIo w s ∷ ds) i j f k = bodies-placed ds i.1 j.1 f.1 k.1
  bodies-placed (DPragma e s ∷ ds) i j f k = bodies-placed ds i.1 j.1 f.1 k.1

  -- ---- the whole

  header : IsStringContent (header_text g.program.names g.numbers)
  header =
      let name = name-content g.program.names g.numbers.main h.named in
      header-content _ (original_tasks g.numbers) (original_entries g.numbers) name.0 name.1
      (omega (arith, count_by-le-length is_original_task (drop 1 g.numbers.tasks), fewer g.numbers.tasks, h.ready.few_tasks)) (omega (arith, count_by-le-length is_original_entry g.numbers.entries, h.ready.few_entries))
    where
      fewer : {A : Type 0} (xs : List A) → length (drop 1 xs) ≤ length xs
      fewer [] = omega arith
      fewer (y ∷ ys) = omega arith

  decls-placed : EveryDecls r' (decls_of (collect_decls x g.program (decl_list g.program.decls)))
  decls-placed =
      let ds : List PDecl = decl_list g.program.decls in
      let s : Span = g.program.name.span in
      let objects : List PDecl = filter (λ d. not (is_task d || is_body d)) ds in
      let first : List PDecl = objects_told x g.program objects in
      let tasks : List PDecl = map (collect_decl x g.program.names) (filter is_task ds) in
      let added : List PDecl = recorder_told x g.program ∷ [] in
      let bodies : List PDecl = map (collect_decl x g.program.names) (filter is_body ds) in
      let last : List PDecl = recorder_body_told x g.program ∷ [] in
      let plain : AllByRecursion (EveryDecl r) ds = placed-list r g.program.decls h.ready.placed.2 in
      let all : AllByRecursion (EveryDecl r') ds = placed-list r' g.program.decls whole.2 in
      let few : IsInteger (last_task g.numbers) = omega (arith, pred-less (length g.numbers.tasks), h.ready.few_tasks) in
      let P : PDecl → Type 0 = EveryDecl r' in
      list-placed r' (collect_decls x g.program ds)
      (all_joined P (first ++ tasks ++ added ++ bodies) last
      (all_joined P (first ++ tasks ++ added) bodies
      (all_joined P (first ++ tasks) added
      (all_joined P first tasks
      (all-behind P g.program.names _ objects (main-placed g (names' g h.ready) n known s (list_any is_int_io objects) (last_task g.numbers) few) (all_kept P (λ d. not (is_task d || is_body d)) ds all))
      (tasks-placed ds all))
      (recorder-declared g (names' g h.ready) n known s, tt))
      (bodies-placed ds plain all h.ready.decls h.decls))
      (recorder-placed g (names' g h.ready) n known s (header_text g.program.names g.numbers) header, tt))

  its-order : BodiesLast (decls_of (collect_decls x g.program (decl_list g.program.decls)))
  its-order =
      told-order x.added (collect_decl x g.program.names) (collect-tells x g.program.names) g.program _ (recorder_body_told x g.program)
      (main-no-bodies x.added g.program.name.span _ (last_task x.numbers)) tt

  -- The collecting text is well placed.
  pub collect_is_placed : IsWellPlaced (collect_of x g.program)
  collect_is_placed = (whole.0, its-order, decls-placed, main-body-placed)
