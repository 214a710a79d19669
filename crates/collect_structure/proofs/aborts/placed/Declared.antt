-- The declarations of a collecting text of a program with abort statements are well placed.
use Rattle.std.proofs.Common.{ℕ, ◌==◌, ◌≤◌, ◌||◌, not, List, [], ◌∷◌, ◌++◌, drop, length, map, refl, arith}
use Rattle.std.proofs.lemmas.List.{length-map}
use Rattle.std.specs.List.{AllByRecursion, filter, list_any}
use Rattle.std.proofs.lemmas.List.Elements.{All-from_recursion, All-cons, recursion_from_All}
use Rattle.std.proofs.lemmas.List.Sums.{count_by-le-length}
use Rattle.ada_tree.specs.declared.naming.NameId.{NameId}
use Rattle.ada_tree.specs.declared.naming.Span.{Span}
use Rattle.ada_tree.specs.PlainStmt.{PBody}
use Rattle.ada_tree.specs.PlainDecl.{PEntry, PTask, PDecl, DNumber, DObject, DEnumeration, DArray, DSubtype, DException, DIntIo, DPragma, DTask, DTaskBody, PDecls, decls_of}
use Rattle.ada_tree.specs.Every.{Rules, EveryFormal, EveryEntry, EveryTask, EveryDecl, EveryDecls, EveryBody, EveryProgram}
use Rattle.ada_tree.specs.Lexical.{IsInteger, IsStringContent}
use Rattle.ada_tree.specs.WellPlaced.{AreObjects, BodiesLast, well_placed, IsWellPlaced}
use Rattle.syn_event.specs.Numbering.{is_original_task, is_original_entry, original_tasks, original_entries}
use Rattle.syn_event.specs.DeclaredTasks.{decl_list}
use Rattle.common_lemmas.proofs.Lists.{all_joined, all_kept, all_weaker}
use Rattle.task_model.specs.Setting.{Setting}
use Rattle.normal_model.specs.NormalTree.{main_unit, unit_for}
use Rattle.normal_model.specs.RewrittenUnit.{RewrittenUnit}
use Rattle.task_laws.specs.legal.asked.Asked.{AskedBody}
use Rattle.task_laws.specs.legal.asked.Kinds.{place_asks, both}
use Rattle.task_laws.proofs.legal.asked.Placed.{placed_asked, asked_placed}
use Rattle.task_laws.proofs.legal.asked.Together.{both_asked}
use Rattle.normal_laws.proofs.structure.placed.Whole.{placed-with}
use Rattle.replay_model.specs.ReplayTree.{is_task, is_body, last_task}
use Rattle.replay_structure.specs.placed.Fitting.{IsShallow, fit_asks}
use Rattle.replay_structure.specs.placed.Placeable.{FitsDecl}
use Rattle.replay_structure.proofs.placed.Made.{number-few}
use Rattle.collect_model.specs.declared.AddedNames.{AddedNames}
use Rattle.collect_model.specs.Names.{added_in}
use Rattle.collect_model.specs.Teller.{task_of}
use Rattle.collect_model.specs.Lines.{header_text}
use Rattle.collect_model.specs.CollectTree.{is_int_io, unit_declared, main_declared, behind_own, entry_telling, task_telling, recorder_told}
use Rattle.syn_event.specs.declared.numbering.TaskInfo.{TaskInfo}
use Rattle.normal_laws.specs.structure.placed.Placeable.{IsName}
use Rattle.collect_model.specs.aborts.Places.{places_in}
use Rattle.collect_model.specs.aborts.AbortTeller.{AbortTeller, told_at, told_in}
use Rattle.collect_model.specs.aborts.AbortStmts.{main_body, task_body}
use Rattle.collect_model.specs.aborts.AbortTree.{places_declared, abort_decl, objects_told, recorder_body_told, abort_decls, abort_of}
use Rattle.collect_structure.specs.aborts.placed.Placeable.{branch_asks, BranchesDecl, IsAbortPlaceable}
use Rattle.collect_structure.proofs.aborts.asked.Walk.{main-keeps, task-keeps}
use Rattle.collect_structure.proofs.aborts.texts.Listed.{all-places, abort-tells}
use Rattle.collect_structure.proofs.aborts.placed.Named.{ArePlaces, names', old, are-added, are-places}
use Rattle.collect_structure.proofs.aborts.placed.Made.{pieces}
use Rattle.collect_structure.proofs.aborts.placed.Recorded.{taken-declared, refused-declared, recorder-placed}
use Rattle.collect_structure.specs.placed.Placeable.{tell_asks, TellsDecl, IsCollectPlaceable}
use Rattle.collect_structure.proofs.placed.Named.{AreAdded}
use Rattle.collect_structure.proofs.placed.Made.{formal-placed}
use Rattle.collect_structure.proofs.placed.Header.{name-content, header-content}
use Rattle.collect_structure.proofs.placed.Recorded.{recorder-declared, unit-placed, main-placed}
use Rattle.collect_structure.proofs.texts.Listed.{all-behind}
use Rattle.collect_structure.proofs.placed.Declared.{list-placed, placed-list, main-no-bodies, told-order}
use Rattle.replay_structure.proofs.placed.Declared.{pred-less, IsNoBody, IsObject, list-objects, objects-list}

-- ---- each declaration

module _ (g : Setting) (w : IsAbortPlaceable g) where
  abbrev h : IsCollectPlaceable g
  h = w.told

  abbrev r : Rules
  r = well_placed g.program.names

  abbrev r' : Rules
  r' = well_placed (names' g h.ready)

  abbrev n : AddedNames
  n = added_in (names' g h.ready)

  abbrev known : AreAdded g (names' g h.ready) n
  known = are-added g h.ready

  abbrev x : AbortTeller
  x = told_in (main_unit g)

  abbrev places : ArePlaces (names' g h.ready) x
  places = are-places g h.ready

  -- the normal form is well placed with the names of the text
  pub whole : EveryProgram r' g.program
  whole = placed-with g.program.names (names' g h.ready) (old g h.ready) g.program h.ready.placed

  -- ---- tasks

  entries-placed : (es : List PEntry) → AllByRecursion (EveryEntry r') es → AllByRecursion (EveryEntry r') (map (entry_telling n) es)
  entries-placed [] i = tt
  entries-placed (e ∷ es) i = (
    (
      i.0.0,
      i.0.1,
      i.0.2,
      All-cons (EveryFormal r') _ e.formals
          (formal-placed (main_unit g) 0 g.program.names (names' g h.ready) n (old g h.ready) known h.ready.few_entries (omega arith) h.owners e.name.span) i.0.3,
    ),
    entries-placed es i.1,
  )

  task-placed : (t : PTask) → EveryTask r' t → EveryTask r' (task_telling n t)
  task-placed t i = (
    i.0,
    All-from_recursion (EveryEntry r') (map (entry_telling n) t.entries) (entries-placed t.entries (recursion_from_All (EveryEntry r') t.entries i.1)),
    i.2,
    rw
        (length-map t.entries (entry_telling n)) i.3,
  )

  tasks-placed : (ds : List PDecl) → AllByRecursion (EveryDecl r') ds → AllByRecursion (EveryDecl r') (map (abort_decl x g.program.names) (filter is_task ds))
  tasks-placed [] i = tt
  tasks-placed (DTask t s ∷ ds) i = ((i.0.0, task-placed t i.0.1), tasks-placed ds i.1)
  tasks-placed (DTaskBody w objects its s ∷ ds) i = tasks-placed ds i.1
  tasks-placed (DNumber w e s ∷ ds) i = tasks-placed ds i.1
  tasks-placed (DObject ws c y o s ∷ ds) i = tasks-placed ds i.1
  tasks-placed (DEnumeration w ws s ∷ ds) i = tasks-placed ds i.1
  tasks-placed (DArray w q y s ∷ ds) i = tasks-placed ds i.1
  tasks-placed (DSubtype w y s ∷ ds) i = tasks-placed ds i.1
  tasks-placed (DException ws s ∷ ds) i = tasks-placed ds i.1
  tasks-placed (DIntIo w s ∷ ds) i = tasks-placed ds i.1
  tasks-placed (DPragma e s ∷ ds) i = tasks-placed ds i.1

  -- ---- bodies

  -- what is asked of the statements of a unit
  asked : (u : RewrittenUnit) (its : PBody) → EveryBody r 1 its → AskedBody (fit_asks u) tt 1 its → AskedBody (tell_asks u) tt 1 its → AskedBody branch_asks tt 1 its →
      AskedBody (both (both (both (place_asks r) (fit_asks u)) (tell_asks u)) branch_asks) (((tt, tt), tt), tt) 1 its
  asked u its i j k l =
      both_asked (both (both (place_asks r) (fit_asks u)) (tell_asks u)) branch_asks ((tt, tt), tt) tt 1 its
      (both_asked (both (place_asks r) (fit_asks u)) (tell_asks u) (tt, tt) tt 1 its (both_asked (place_asks r) (fit_asks u) tt tt 1 its (placed_asked r 1 its i) j) k) l

  -- the body of a task of that number
  body-placed : (name : NameId) (task : ℕ) (s : Span) (its : PBody) → IsInteger task → EveryBody r 1 its → AskedBody (fit_asks (unit_for g name)) tt 1 its →
      AskedBody (tell_asks (unit_for g name)) tt 1 its → AskedBody branch_asks tt 1 its →
      EveryBody r' 1 (task_body (told_at x task) s its)
  body-placed name task s its few i j k l =
      let u : RewrittenUnit = unit_for g name in
      asked_placed r' 1 (task_body (told_at x task) s its)
      (task-keeps (told_at x task) (places_in its) IsShallow (both (both (both (place_asks r) (fit_asks u)) (tell_asks u)) branch_asks) (place_asks r') (λ c d. Prim.Unit {0}) (λ c d. Prim.Unit {0})
      (pieces u task g.program.names (names' g h.ready) n (old g h.ready) known h.ready.few_entries h.ready.few_tasks few h.owners x.acceptors x.each x.taken x.refused
      (record { acceptors = places.acceptors; each = places.each; taken = places.taken; refused = places.refused }) (places_in its)) (((tt, tt), tt), tt) tt 1 s its tt
      (omega arith) (omega arith) (omega arith)
      (asked u its i j k l))

  main-body-placed : EveryBody r' 1 (main_body x g.program.body)
  main-body-placed =
      let u : RewrittenUnit = main_unit g in
      asked_placed r' 1 (main_body x g.program.body)
      (main-keeps x (places_in g.program.body) IsShallow (both (both (both (place_asks r) (fit_asks u)) (tell_asks u)) branch_asks) (place_asks r') (λ c d. Prim.Unit {0}) (λ c d. Prim.Unit {0})
      (pieces u 0 g.program.names (names' g h.ready) n (old g h.ready) known h.ready.few_entries h.ready.few_tasks (omega arith) h.owners x.acceptors x.each x.taken x.refused
      (record { acceptors = places.acceptors; each = places.each; taken = places.taken; refused = places.refused }) (places_in g.program.body))
      (((tt, tt), tt), tt) tt 1 g.program.body tt (omega arith) (omega arith)
      (asked u g.program.body h.ready.placed.3 h.ready.main h.main w.main))

  task-few : (name : NameId) → IsInteger (task_of g.numbers name)
  task-few name = omega (arith, number-few (λ info. info.name.0 == name.0) g.numbers.tasks, h.ready.few_tasks)

  last-few : IsInteger (last_task g.numbers)
  last-few = omega (arith, pred-less (length g.numbers.tasks), h.ready.few_tasks)

  -- what a unit with so many places declares for them
  places-placed : (s : Span) (k : ℕ) → AllByRecursion (EveryDecl r') (places_declared x s k)
  places-placed s k =
      all-places (EveryDecl r') x s k k (omega arith)
      (λ p low high. (taken-declared g (names' g h.ready) x known places last-few s p, refused-declared g (names' g h.ready) x known places last-few s p))

  -- the objects of a body, with those that it gets
  abbrev own : Span → ℕ → List PDecl
  own s k = unit_declared n s ++ places_declared x s k

  objects-placed : (s : Span) (k : ℕ) (objects : PDecls) → EveryDecls r' objects → EveryDecls r' (decls_of (behind_own g.program.names (own s k) (decl_list objects)))
  objects-placed s k objects i =
      list-placed r' (behind_own g.program.names (own s k) (decl_list objects))
      (all-behind (EveryDecl r') g.program.names (own s k) (decl_list objects)
      (all_joined (EveryDecl r') (unit_declared n s) (places_declared x s k) (unit-placed g (names' g h.ready) n known s) (places-placed s k)) (placed-list r' objects i))

  objects-kept : (s : Span) (k : ℕ) (objects : PDecls) → AreObjects objects → AreObjects (decls_of (behind_own g.program.names (own s k) (decl_list objects)))
  objects-kept s k objects i =
      list-objects (behind_own g.program.names (own s k) (decl_list objects))
      (all-behind IsObject g.program.names (own s k) (decl_list objects)
      (all_joined IsObject (unit_declared n s) (places_declared x s k) (tt, (tt, tt)) (all-places IsObject x s k k (omega arith) (λ p low high. (tt, tt)))) (objects-list objects i))

  bodies-placed : (ds : List PDecl) → AllByRecursion (EveryDecl r) ds → AllByRecursion (EveryDecl r') ds → AllByRecursion (FitsDecl g) ds →
      AllByRecursion (TellsDecl g) ds → AllByRecursion BranchesDecl ds → AllByRecursion (EveryDecl r') (map (abort_decl x g.program.names) (filter is_body ds))
  bodies-placed [] i j f k l = tt
  bodies-placed (DTaskBody w objects its s ∷ ds) i j f k l = (
    (
      j.0.0,
      j.0.1,
      objects-kept w.span (places_in its) objects j.0.2,
      objects-placed w.span (places_in its) objects j.0.3,
      body-placed w.name
          (task_of g.numbers w.name) w.span its (task-few w.name) i.0.4 f.0 k.0 l.0,
    ),
    bodies-placed ds i.1 j.1 f.1 k.1 l.1,
  )
  bodies-placed (DTask t s ∷ ds) i j f k l = bodies-placed ds i.1 j.1 f.1 k.1 l.1
  bodies-placed (DNumber w e s ∷ ds) i j f k l = bodies-placed ds i.1 j.1 f.1 k.1 l.1
  bodies-placed (DObject ws c y o s ∷ ds) i j f k l = bodies-placed ds i.1 j.1 f.1 k.1 l.1
  bodies-placed (DEnumeration w ws s ∷ ds) i j f k l = bodies-placed ds i.1 j.1 f.1 k.1 l.1
  bodies-placed (DArray w q y s ∷ ds) i j f k l = bodies-placed ds i.1 j.1 f.1 k.1 l.1
  bodies-placed (DSubtype w y s ∷ ds) i j f k l = bodies-placed ds i.1 j.1 f.1 k.1 l.1
  bodies-placed (DException ws s ∷ ds) i j f k l = bodies-placed ds i.1 j.1 f.1 k.1 l.1
  bodies-placed (DIntIo w s ∷ ds) i j f k l = bodies-placed ds i.1 j.1 f.1 k.1 l.1
  bodies-placed (DPragma e s ∷ ds) i j f k l = bodies-placed ds i.1 j.1 f.1 k.1 l.1

  -- ---- the whole

  header : IsStringContent (header_text g.program.names g.numbers)
  header =
      let name = name-content g.program.names g.numbers.main h.named in
      header-content _ (original_tasks g.numbers) (original_entries g.numbers) name.0 name.1
      (omega (arith, count_by-le-length is_original_task (drop 1 g.numbers.tasks), fewer g.numbers.tasks, h.ready.few_tasks))
      (omega (arith, count_by-le-length is_original_entry g.numbers.entries, h.ready.few_entries))
    where
      fewer : {A : Type 0} (xs : List A) → length (drop 1 xs) ≤ length xs
      fewer [] = omega arith
      fewer (y ∷ ys) = omega arith

  short : length (drop 1 g.numbers.tasks) ≤ 2147483647
  short = omega (arith, fewer g.numbers.tasks, h.ready.few_tasks)
    where
      fewer : {A : Type 0} (xs : List A) → length (drop 1 xs) ≤ length xs
      fewer [] = omega arith
      fewer (y ∷ ys) = omega arith

  -- all tasks have names in the text
  named : AllByRecursion (λ (info : TaskInfo). IsName (names' g h.ready) info.name) (drop 1 g.numbers.tasks)
  named = behind g.numbers.tasks (all_weaker (λ (info : TaskInfo). IsName g.program.names info.name) _ g.numbers.tasks (λ info i. old g h.ready info.name i) h.ready.tasks)
    where
      behind : (xs : List TaskInfo) → AllByRecursion (λ (info : TaskInfo). IsName (names' g h.ready) info.name) xs →
          AllByRecursion (λ (info : TaskInfo). IsName (names' g h.ready) info.name) (drop 1 xs)
      behind [] i = tt
      behind (y ∷ ys) i = i.1

  decls-placed : EveryDecls r' (decls_of (abort_decls x g.program (decl_list g.program.decls)))
  decls-placed =
      let ds : List PDecl = decl_list g.program.decls in
      let s : Span = g.program.name.span in
      let objects : List PDecl = filter (λ d. not (is_task d || is_body d)) ds in
      let first : List PDecl = objects_told x g.program objects in
      let tasks : List PDecl = map (abort_decl x g.program.names) (filter is_task ds) in
      let added : List PDecl = recorder_told x.teller g.program ∷ [] in
      let bodies : List PDecl = map (abort_decl x g.program.names) (filter is_body ds) in
      let last : List PDecl = recorder_body_told x g.program ∷ [] in
      let plain : AllByRecursion (EveryDecl r) ds = placed-list r g.program.decls h.ready.placed.2 in
      let all : AllByRecursion (EveryDecl r') ds = placed-list r' g.program.decls whole.2 in
      let P : PDecl → Type 0 = EveryDecl r' in
      list-placed r' (abort_decls x g.program ds)
      (all_joined P (first ++ tasks ++ added ++ bodies) last
      (all_joined P (first ++ tasks ++ added) bodies
      (all_joined P (first ++ tasks) added
      (all_joined P first tasks
      (all-behind P g.program.names _ objects
      (all_joined P (main_declared n s (list_any is_int_io objects) (last_task g.numbers)) (places_declared x s (places_in g.program.body))
      (main-placed g (names' g h.ready) n known s (list_any is_int_io objects) (last_task g.numbers) last-few) (places-placed s (places_in g.program.body)))
      (all_kept P (λ d. not (is_task d || is_body d)) ds all))
      (tasks-placed ds all))
      (recorder-declared g (names' g h.ready) n known s, tt))
      (bodies-placed ds plain all h.ready.decls h.decls w.decls))
      (recorder-placed g (names' g h.ready) x known places last-few s (header_text g.program.names g.numbers) header short named, tt))

  its-order : BodiesLast (decls_of (abort_decls x g.program (decl_list g.program.decls)))
  its-order =
      told-order x.teller.added (abort_decl x g.program.names) (abort-tells x g.program.names) g.program _ (recorder_body_told x g.program)
      (all_joined IsNoBody (main_declared x.teller.added g.program.name.span _ (last_task x.teller.numbers)) (places_declared x g.program.name.span (places_in g.program.body))
      (main-no-bodies x.teller.added g.program.name.span _ (last_task x.teller.numbers))
      (all-places IsNoBody x g.program.name.span (places_in g.program.body) (places_in g.program.body) (omega arith) (λ p low high. (refl, refl)))) tt

  -- The text is well placed.
  pub abort_is_placed : IsWellPlaced (abort_of x g.program)
  abort_is_placed = (whole.0, its-order, decls-placed, main-body-placed)
