-- The declarations of a replay text are well placed.
use Rattle.std.proofs.Common.{◌≡◌, ℕ, zero, suc, pred, ◌==◌, ◌≤◌, ◌||◌, false, not, List, [], ◌∷◌, ◌++◌, length, map, None, All, refl, sym, subst, arith, append_assoc, length-append}
use Rattle.std.specs.List.{AllByRecursion, filter}
use Rattle.std.proofs.lemmas.List.Elements.{All-from_recursion, recursion_from_All}
use Rattle.ada_tree.specs.declared.naming.NameId.{NameId}
use Rattle.ada_tree.specs.declared.naming.Span.{Span}
use Rattle.ada_tree.specs.declared.naming.Word.{Word}
use Rattle.ada_tree.specs.PlainStmt.{PBody}
use Rattle.ada_tree.specs.PlainDecl.{PEntry, PTask, PDecl, DNumber, DObject, DEnumeration, DArray, DSubtype, DException, DIntIo, DPragma, DTask, DTaskBody, PDecls, no_decl, decl_then, decls_of}
use Rattle.ada_tree.specs.Every.{Rules, EveryWord, EveryEntry, EveryTask, EveryDecl, EveryDecls, EveryBody, EveryProgram}
use Rattle.ada_tree.specs.Lexical.{IsInteger}
use Rattle.ada_tree.specs.WellPlaced.{GoUp, AreObjects, AreLater, BodiesLast, well_placed, IsWellPlaced}
use Rattle.syn_event.specs.DeclaredTasks.{decl_list}
use Rattle.common_lemmas.proofs.Lists.{all_joined, all_weaker, all_kept}
use Rattle.control_script.specs.declared.Op.{Op}
use Rattle.task_model.specs.Setting.{Setting}
use Rattle.normal_model.specs.NormalTree.{unit_for}
use Rattle.normal_model.specs.RewrittenUnit.{RewrittenUnit}
use Rattle.task_laws.specs.legal.asked.Asked.{AskedBody}
use Rattle.task_laws.specs.legal.asked.Kinds.{place_asks, both}
use Rattle.task_laws.proofs.legal.asked.Placed.{placed_asked, asked_placed}
use Rattle.task_laws.proofs.legal.asked.Together.{both_asked}
use Rattle.normal_laws.specs.structure.placed.Placeable.{IsName}
use Rattle.normal_laws.proofs.structure.placed.Whole.{placed-with}
use Rattle.replay_model.specs.Names.{kind_text, argument_text, index_text, never_text, join_text, added_word}
use Rattle.replay_model.specs.ReplayStmts.{replay_body}
use Rattle.replay_model.specs.Controlling.{added_entry, control_declared, idle_declared, control_body, idle_body}
use Rattle.replay_model.specs.ReplayTree.{permit_declared, behind_own, double_entry, more_entries, replay_decl, is_task, is_body, last_task, replay_decls, replay_of}
use Rattle.replay_structure.proofs.asked.Walk.{replay-keeps}
use Rattle.replay_structure.specs.placed.Fitting.{IsShallow, fit_asks}
use Rattle.replay_structure.specs.placed.Placeable.{HasLiterals, HasDouble, FitsDecl, IsReplayPlaceable}
use Rattle.replay_structure.proofs.placed.Tests.{AreAdded}
use Rattle.replay_structure.proofs.placed.Made.{number-few, pieces}
use Rattle.replay_structure.proofs.placed.Named.{names', old, are-added}
use Rattle.replay_structure.proofs.placed.Controlled.{plain-entry, control-declared, idle-declared, control-placed, idle-placed}
use Rattle.replay_structure.proofs.texts.Listed.{all-behind}

-- ---- lists of declarations

module _ (r : Rules) where
  list-placed : (ds : List PDecl) → AllByRecursion (EveryDecl r) ds → EveryDecls r (decls_of ds)
  list-placed [] h = tt
  list-placed (d ∷ ds) h = (h.0, list-placed ds h.1)

  placed-list : (ds : PDecls) → EveryDecls r ds → AllByRecursion (EveryDecl r) (decl_list ds)
  placed-list no_decl h = tt
  placed-list (decl_then d ds) h = (h.0, placed-list ds h.1)

-- ---- the order of declarations

-- it is no body
abbrev pub IsNoBody : PDecl → Type 0
IsNoBody d = is_body d ≡ false

pub bodies-front : (xs ys : List PDecl) → AllByRecursion IsNoBody xs → BodiesLast (decls_of ys) → BodiesLast (decls_of (xs ++ ys))
bodies-front [] ys h i = i
bodies-front (DTaskBody w objects its s ∷ xs) ys h i = cc
bodies-front (DTask t s ∷ xs) ys h i = bodies-front xs ys h.1 i
bodies-front (DNumber w e s ∷ xs) ys h i = bodies-front xs ys h.1 i
bodies-front (DObject ws c x o s ∷ xs) ys h i = bodies-front xs ys h.1 i
bodies-front (DEnumeration w ws s ∷ xs) ys h i = bodies-front xs ys h.1 i
bodies-front (DArray w q x s ∷ xs) ys h i = bodies-front xs ys h.1 i
bodies-front (DSubtype w x s ∷ xs) ys h i = bodies-front xs ys h.1 i
bodies-front (DException ws s ∷ xs) ys h i = bodies-front xs ys h.1 i
bodies-front (DIntIo w s ∷ xs) ys h i = bodies-front xs ys h.1 i
bodies-front (DPragma e s ∷ xs) ys h i = bodies-front xs ys h.1 i

-- it is a body
abbrev IsBody : PDecl → Type 0
IsBody (DTaskBody w objects its s) = Prim.Unit {0}
IsBody _ = ⊥

later : (ds : List PDecl) → AllByRecursion IsBody ds → AreLater (decls_of ds)
later [] h = tt
later (DTaskBody w objects its s ∷ ds) h = (tt, later ds h.1)
later (DTask t s ∷ ds) h = absurd h.0
later (DNumber w e s ∷ ds) h = absurd h.0
later (DObject ws c x i s ∷ ds) h = absurd h.0
later (DEnumeration w ws s ∷ ds) h = absurd h.0
later (DArray w q x s ∷ ds) h = absurd h.0
later (DSubtype w x s ∷ ds) h = absurd h.0
later (DException ws s ∷ ds) h = absurd h.0
later (DIntIo w s ∷ ds) h = absurd h.0
later (DPragma e s ∷ ds) h = absurd h.0

bodies-last : (ds : List PDecl) → AllByRecursion IsBody ds → BodiesLast (decls_of ds)
bodies-last [] h = tt
bodies-last (DTaskBody w objects its s ∷ ds) h = later ds h.1
bodies-last (DTask t s ∷ ds) h = absurd h.0
bodies-last (DNumber w e s ∷ ds) h = absurd h.0
bodies-last (DObject ws c x i s ∷ ds) h = absurd h.0
bodies-last (DEnumeration w ws s ∷ ds) h = absurd h.0
bodies-last (DArray w q x s ∷ ds) h = absurd h.0
bodies-last (DSubtype w x s ∷ ds) h = absurd h.0
bodies-last (DException ws s ∷ ds) h = absurd h.0
bodies-last (DIntIo w s ∷ ds) h = absurd h.0
bodies-last (DPragma e s ∷ ds) h = absurd h.0

-- objects, in a list
abbrev pub IsObject : PDecl → Type 0
IsObject (DObject ws c x i s) = Prim.Unit {0}
IsObject _ = ⊥

pub objects-list : (ds : PDecls) → AreObjects ds → AllByRecursion IsObject (decl_list ds)
objects-list no_decl h = tt
objects-list (decl_then (DObject ws c x i s) l) h = (tt, objects-list l h)
objects-list (decl_then (DNumber w e s) l) h = absurd h
objects-list (decl_then (DEnumeration w ws s) l) h = absurd h
objects-list (decl_then (DArray w q x s) l) h = absurd h
objects-list (decl_then (DSubtype w x s) l) h = absurd h
objects-list (decl_then (DException ws s) l) h = absurd h
objects-list (decl_then (DIntIo w s) l) h = absurd h
objects-list (decl_then (DPragma e s) l) h = absurd h
objects-list (decl_then (DTask t s) l) h = absurd h
objects-list (decl_then (DTaskBody w objects its s) l) h = absurd h

pub list-objects : (ds : List PDecl) → AllByRecursion IsObject ds → AreObjects (decls_of ds)
list-objects [] h = tt
list-objects (DObject ws c x i s ∷ l) h = list-objects l h.1
list-objects (DNumber w e s ∷ l) h = absurd h.0
list-objects (DEnumeration w ws s ∷ l) h = absurd h.0
list-objects (DArray w q x s ∷ l) h = absurd h.0
list-objects (DSubtype w x s ∷ l) h = absurd h.0
list-objects (DException ws s ∷ l) h = absurd h.0
list-objects (DIntIo w s ∷ l) h = absurd h.0
list-objects (DPragma e s ∷ l) h = absurd h.0
list-objects (DTask t s ∷ l) h = absurd h.0
list-objects (DTaskBody w objects its s ∷ l) h = absurd h.0

-- the places of pragmas go up also among more entries
go-up : (first n m : ℕ) (places : List ℕ) → n ≤ m → GoUp first n places → GoUp first m places
go-up first n m [] le h = tt
go-up first n m (p ∷ ps) le h = (h.0, omega (arith, le, h.1), go-up p n m ps le h.2)

-- ---- the first declarations

pub filtered-bodies : (ds : List PDecl) → AllByRecursion IsNoBody (filter (λ d. not (is_task d || is_body d)) ds)
filtered-bodies [] = tt
filtered-bodies (DTaskBody w objects its s ∷ ds) = filtered-bodies ds
filtered-bodies (DTask t s ∷ ds) = filtered-bodies ds
filtered-bodies (DNumber w e s ∷ ds) = (refl, filtered-bodies ds)
filtered-bodies (DObject ws c x o s ∷ ds) = (refl, filtered-bodies ds)
filtered-bodies (DEnumeration w ws s ∷ ds) = (refl, filtered-bodies ds)
filtered-bodies (DArray w q x s ∷ ds) = (refl, filtered-bodies ds)
filtered-bodies (DSubtype w x s ∷ ds) = (refl, filtered-bodies ds)
filtered-bodies (DException ws s ∷ ds) = (refl, filtered-bodies ds)
filtered-bodies (DIntIo w s ∷ ds) = (refl, filtered-bodies ds)
filtered-bodies (DPragma e s ∷ ds) = (refl, filtered-bodies ds)

module _ (g : Setting) where
  tasks-no-bodies : (ds : List PDecl) → AllByRecursion IsNoBody (map (replay_decl g) (filter is_task ds))
  tasks-no-bodies [] = tt
  tasks-no-bodies (DTask t s ∷ ds) = (refl, tasks-no-bodies ds)
  tasks-no-bodies (DTaskBody w objects its s ∷ ds) = tasks-no-bodies ds
  tasks-no-bodies (DNumber w e s ∷ ds) = tasks-no-bodies ds
  tasks-no-bodies (DObject ws c x o s ∷ ds) = tasks-no-bodies ds
  tasks-no-bodies (DEnumeration w ws s ∷ ds) = tasks-no-bodies ds
  tasks-no-bodies (DArray w q x s ∷ ds) = tasks-no-bodies ds
  tasks-no-bodies (DSubtype w x s ∷ ds) = tasks-no-bodies ds
  tasks-no-bodies (DException ws s ∷ ds) = tasks-no-bodies ds
  tasks-no-bodies (DIntIo w s ∷ ds) = tasks-no-bodies ds
  tasks-no-bodies (DPragma e s ∷ ds) = tasks-no-bodies ds

  only-bodies : (ds : List PDecl) → AllByRecursion IsBody (map (replay_decl g) (filter is_body ds))
  only-bodies [] = tt
  only-bodies (DTaskBody w objects its s ∷ ds) = (tt, only-bodies ds)
  only-bodies (DTask t s ∷ ds) = only-bodies ds
  only-bodies (DNumber w e s ∷ ds) = only-bodies ds
  only-bodies (DObject ws c x o s ∷ ds) = only-bodies ds
  only-bodies (DEnumeration w ws s ∷ ds) = only-bodies ds
  only-bodies (DArray w q x s ∷ ds) = only-bodies ds
  only-bodies (DSubtype w x s ∷ ds) = only-bodies ds
  only-bodies (DException ws s ∷ ds) = only-bodies ds
  only-bodies (DIntIo w s ∷ ds) = only-bodies ds
  only-bodies (DPragma e s ∷ ds) = only-bodies ds

  -- bodies stand last
  pub order-kept : (s : Span) (ops : List Op) → BodiesLast (decls_of (replay_decls g s ops))
  order-kept s ops =
      let ds : List PDecl = decl_list g.program.decls in
      let first : List PDecl = behind_own g.program.names (permit_declared g.program s) (filter (λ d. not (is_task d || is_body d)) ds) in
      let tasks : List PDecl = map (replay_decl g) (filter is_task ds) in
      let added : List PDecl = control_declared g.program s (last_task g.numbers) ∷ idle_declared g.program s ∷ [] in
      let bodies : List PDecl = map (replay_decl g) (filter is_body ds) in
      let last : List PDecl = control_body g s ops ∷ idle_body g.program s ∷ [] in
      let front : AllByRecursion IsNoBody (first ++ tasks ++ added) =
      all_joined IsNoBody (first ++ tasks) added (all_joined IsNoBody first tasks (all-behind IsNoBody g.program.names (permit_declared g.program s) _ refl (filtered-bodies ds)) (tasks-no-bodies ds)) (refl, (refl, tt)) in
      subst (λ ys. BodiesLast (decls_of ys)) (sym (append_assoc (first ++ tasks ++ added) bodies last))
      (bodies-front (first ++ tasks ++ added) (bodies ++ last) front (bodies-last (bodies ++ last) (all_joined IsBody bodies last (only-bodies ds) (tt, (tt, tt)))))

pub pred-less : (n : ℕ) → pred n ≤ n
pred-less zero = omega arith
pred-less (suc n) = omega arith

-- ---- each declaration

module _ (g : Setting) (h : IsReplayPlaceable g) where
  abbrev r : Rules
  r = well_placed g.program.names

  abbrev r' : Rules
  r' = well_placed (names' g h)

  abbrev known : AreAdded g (names' g h)
  known = are-added g h

  -- the normal form is well placed with the names of the replay text
  pub whole : EveryProgram r' g.program
  whole = placed-with g.program.names (names' g h) (old g h) g.program h.placed

  permit-declared : (s : Span) → EveryDecl r' (permit_declared g.program s)
  permit-declared s =
      let ws : List Word = added_word g.program s kind_text ∷ added_word g.program s argument_text ∷ added_word g.program s index_text ∷ [] in
      (omega arith, (omega arith, All-from_recursion (EveryWord r') ws (known.kind_part, (known.argument_part, (known.index_part, tt)))), (known.first 0 (omega arith), tt), tt, (omega arith, omega arith))

  -- the names of tasks
  named : AllByRecursion (λ info. IsName (names' g h) info.name) g.numbers.tasks
  named = all_weaker (λ info. IsName g.program.names info.name) (λ info. IsName (names' g h) info.name) g.numbers.tasks (λ info i. old g h info.name i) h.tasks

  -- ---- tasks

  doubles-placed : (es : List PEntry) → AllByRecursion (EveryEntry r') es → AllByRecursion (HasDouble g.program.names) es → AllByRecursion (EveryEntry r') (map (double_entry g.program) es)
  doubles-placed [] i j = tt
  doubles-placed (e ∷ es) i j = ((i.0.0, known.double _ j.0, i.0.2, i.0.3), doubles-placed es i.1 j.1)

  entries-placed : (t : PTask) → All (EveryEntry r') t.entries → AllByRecursion (HasDouble g.program.names) t.entries → All (EveryEntry r') (more_entries g.program t)
  entries-placed t i j =
      let own : AllByRecursion (EveryEntry r') t.entries = recursion_from_All (EveryEntry r') t.entries i in
      let last : List PEntry = added_entry g.program t.name.span never_text None [] ∷ added_entry g.program t.name.span join_text None [] ∷ [] in
      let two : AllByRecursion (EveryEntry r') last = (plain-entry g (names' g h) known named t.name.span never_text known.never, (plain-entry g (names' g h) known named t.name.span join_text known.join, tt)) in
      All-from_recursion (EveryEntry r') (more_entries g.program t)
      (all_joined (EveryEntry r') (t.entries ++ map (double_entry g.program) t.entries) last
      (all_joined (EveryEntry r') t.entries (map (double_entry g.program) t.entries) own (doubles-placed t.entries own j)) two)

  task-placed : (t : PTask) → EveryTask r' t → AllByRecursion (HasDouble g.program.names) t.entries → EveryTask r' (record { name = t.name; of_kind = t.of_kind; entries = more_entries g.program t; priorities = t.priorities })
  task-placed t i j =
      let more : length t.entries ≤ length (more_entries g.program t) = rw (length-append, length-append) (omega arith) in
      (i.0, entries-placed t i.1 j, i.2, go-up 0 (length t.entries) (length (more_entries g.program t)) _ more i.3)

  tasks-placed : (ds : List PDecl) → AllByRecursion (EveryDecl r') ds → AllByRecursion (FitsDecl g) ds → AllByRecursion (EveryDecl r') (map (replay_decl g) (filter is_task ds))
  tasks-placed [] i j = tt
  tasks-placed (DTask t s ∷ ds) i j = ((i.0.0, task-placed t i.0.1 j.0), tasks-placed ds i.1 j.1)
  tasks-placed (DTaskBody w objects its s ∷ ds) i j = tasks-placed ds i.1 j.1
  tasks-placed (DNumber w e s ∷ ds) i j = tasks-placed ds i.1 j.1
  tasks-placed (DObject ws c x o s ∷ ds) i j = tasks-placed ds i.1 j.1
  tasks-placed (DEnumeration w ws s ∷ ds) i j = tasks-placed ds i.1 j.1
  tasks-placed (DArray w q x s ∷ ds) i j = tasks-placed ds i.1 j.1
  tasks-placed (DSubtype w x s ∷ ds) i j = tasks-placed ds i.1 j.1
  tasks-placed (DException ws s ∷ ds) i j = tasks-placed ds i.1 j.1
  tasks-placed (DIntIo w s ∷ ds) i j = tasks-placed ds i.1 j.1
  tasks-placed (DPragma e s ∷ ds) i j = tasks-placed ds i.1 j.1

  -- ---- bodies

  -- the body of a task of that number
  pub body-placed : (task : ℕ) (s : Span) (its : PBody) → IsInteger task → EveryBody r 1 its → AskedBody (fit_asks (record { setting = g; task = task })) tt 1 its → EveryBody r' 1 (replay_body (record { setting = g; task = task }) s its)
  body-placed task s its few i j =
      let u : RewrittenUnit = record { setting = g; task = task } in
      asked_placed r' 1 (replay_body u s its)
      (replay-keeps u IsShallow (both (place_asks r) (fit_asks u)) (place_asks r') (λ c d. Prim.Unit {0}) (pieces u g.program.names (names' g h) (old g h) known h.few_tasks h.few_entries few) (tt, tt) tt 1 s its tt (omega arith) (omega arith)
      (both_asked (place_asks r) (fit_asks u) tt tt 1 its (placed_asked r 1 its i) j))

  unit-few : (name : NameId) → IsInteger (unit_for g name).task
  unit-few name = omega (arith, number-few (λ info. info.unit.0 == name.0) g.numbers.tasks, h.few_tasks)

  -- the objects of a body, with those of the permit
  objects-placed : (s : Span) (objects : PDecls) → EveryDecls r' objects → EveryDecls r' (decls_of (behind_own g.program.names (permit_declared g.program s) (decl_list objects)))
  objects-placed s objects i =
      list-placed r' (behind_own g.program.names (permit_declared g.program s) (decl_list objects))
      (all-behind (EveryDecl r') g.program.names (permit_declared g.program s) (decl_list objects) (permit-declared s) (placed-list r' objects i))

  objects-kept : (s : Span) (objects : PDecls) → AreObjects objects → AreObjects (decls_of (behind_own g.program.names (permit_declared g.program s) (decl_list objects)))
  objects-kept s objects i =
      list-objects (behind_own g.program.names (permit_declared g.program s) (decl_list objects))
      (all-behind IsObject g.program.names (permit_declared g.program s) (decl_list objects) tt (objects-list objects i))

  bodies-placed : (ds : List PDecl) → AllByRecursion (EveryDecl r) ds → AllByRecursion (EveryDecl r') ds → AllByRecursion (FitsDecl g) ds → AllByRecursion (EveryDecl r') (map (replay_decl g) (filter is_body ds))
  bodies-placed [] i j f = tt
  bodies-placed (DTaskBody w objects its s ∷ ds) i j f = (
    (j.0.0, j.0.1, objects-kept w.span objects j.0.2, objects-placed w.span objects j.0.3, body-placed (unit_for g w.name).task w.span its (unit-few w.name) i.0.4 f.0),
    bodies-placed ds i.1 j.1 f.1,
  )
  bodies-placed (DTask t s ∷ ds) i j f = bodies-placed ds i.1 j.1 f.1
  bodies-placed (DNumber w e s ∷ ds) i j f = bodies-placed ds i.1 j.1 f.1
  bodies-placed (DObject ws c x o s ∷ ds) i j f = bodies-placed ds i.1 j.1 f.1
  bodies-placed (DEnumeration w ws s ∷ ds) i j f = bodies-placed ds i.1 j.1 f.1
  bodies-placed (DArray w q x s ∷ ds) i j f = bodies-placed ds i.1 j.1 f.1
  bodies-placed (DSubtype w x s ∷ ds) i j f = bodies-placed ds i.1 j.1 f.1
  bodies-placed (DException ws s ∷ ds) i j f = bodies-placed ds i.1 j.1 f.1
  bodies-placed (DIntIo w s ∷ ds) i j f = bodies-placed ds i.1 j.1 f.1
  bodies-placed (DPragma e s ∷ ds) i j f = bodies-placed ds i.1 j.1 f.1

  -- ---- the whole

  pub decls-placed : (s : Span) (ops : List Op) → 1 ≤ length ops → IsInteger (length ops) → AllByRecursion HasLiterals ops → EveryDecls r' (decls_of (replay_decls g s ops))
  decls-placed s ops some short i =
      let ds : List PDecl = decl_list g.program.decls in
      let first : List PDecl = behind_own g.program.names (permit_declared g.program s) (filter (λ d. not (is_task d || is_body d)) ds) in
      let tasks : List PDecl = map (replay_decl g) (filter is_task ds) in
      let added : List PDecl = control_declared g.program s (last_task g.numbers) ∷ idle_declared g.program s ∷ [] in
      let bodies : List PDecl = map (replay_decl g) (filter is_body ds) in
      let last : List PDecl = control_body g s ops ∷ idle_body g.program s ∷ [] in
      let plain : AllByRecursion (EveryDecl r) ds = placed-list r g.program.decls h.placed.2 in
      let all : AllByRecursion (EveryDecl r') ds = placed-list r' g.program.decls whole.2 in
      let few : IsInteger (last_task g.numbers) = omega (arith, pred-less (length g.numbers.tasks), h.few_tasks) in
      let P : PDecl → Type 0 = EveryDecl r' in
      list-placed r' (replay_decls g s ops)
      (all_joined P (first ++ tasks ++ added ++ bodies) last
      (all_joined P (first ++ tasks ++ added) bodies
      (all_joined P (first ++ tasks) added
      (all_joined P first tasks
      (all-behind P g.program.names (permit_declared g.program s) (filter (λ d. not (is_task d || is_body d)) ds) (permit-declared s) (all_kept P (λ d. not (is_task d || is_body d)) ds all))
      (tasks-placed ds all h.decls))
      (control-declared g (names' g h) known named s (last_task g.numbers) few, (idle-declared g (names' g h) known named s, tt)))
      (bodies-placed ds plain all h.decls))
      (control-placed g (names' g h) known named s h.few_tasks ops some short i, (idle-placed g (names' g h) known named s, tt)))

  -- The replay text is well placed.
  pub replay_is_placed : (ops : List Op) → 1 ≤ length ops → IsInteger (length ops) → AllByRecursion HasLiterals ops → IsWellPlaced (replay_of g ops)
  replay_is_placed ops some short i =
      (whole.0, order-kept g g.program.name.span ops, decls-placed g.program.name.span ops some short i, body-placed 0 g.program.name.span g.program.body (omega arith) h.placed.3 h.main)
