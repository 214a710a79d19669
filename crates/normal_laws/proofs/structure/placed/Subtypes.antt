-- The subtypes of the variables that the normal form adds are well placed.
use Rattle.std.proofs.Common.{ℕ, ◌<◌, Bool, true, false, cond, ◌==◌, List, [], ◌∷◌, map, find, Option, Some, None, IfSome, unwrap_or, arith}
use Rattle.std.specs.List.{AllByRecursion}
use Rattle.std.proofs.lemmas.List.Elements.{recursion_from_All}
use Rattle.ada_tree.specs.declared.naming.NameId.{NameId}
use Rattle.ada_tree.specs.declared.naming.Span.{Span}
use Rattle.ada_tree.specs.declared.naming.Word.{Word}
use Rattle.ada_tree.specs.declared.static_types.Mark.{Mark}
use Rattle.ada_static_rules.specs.Scope.{and_then}
use Rattle.ada_tree.specs.PlainExpr.{PDrange, RGiven, RMarked}
use Rattle.ada_tree.specs.PlainStmt.{PFormal}
use Rattle.ada_tree.specs.PlainDecl.{OPlain, OArray, PEntry, PTask, DNumber, DObject, DEnumeration, DArray, DSubtype, DException, DIntIo, DPragma, DTask, DTaskBody, PDecls, no_decl, decl_then}
use Rattle.ada_tree.specs.Every.{Rules, EveryDrange, EverySubind, EveryFormal, EveryEntry, EveryTask, EveryDecls}
use Rattle.ada_tree.specs.WellPlaced.{well_placed}
use Rattle.syn_event.specs.declared.numbering.TaskInfo.{TaskInfo}
use Rattle.syn_event.specs.declared.numbering.EntryInfo.{EntryInfo}
use Rattle.syn_event.specs.Numbering.{task_at, entry_at}
use Rattle.syn_event.specs.NamedTasks.{NamedTasks, type_named, task_names_of_type, object_task_names, with_type, single_task_name, task_names_in, task_names_of}
use Rattle.syn_event.specs.DeclaredTasks.{decl_list, tasks_in}
use Rattle.task_model.specs.Setting.{Setting, unit_named, formals_of_entry, formals_in, formals_of_unit, formals_of_info}
use Rattle.normal_model.specs.Ranges.{marked, kind_of_range, kind_name, subtype_of_range, array_range, range_of_entry, range_in, range_of_unit, range_of_info, family_range}
use Rattle.normal_model.specs.Calls.{Slot, slots_of}
use Rattle.normal_laws.specs.structure.placed.Placeable.{IsName, MarksHaveNames}
use Rattle.normal_laws.proofs.structure.placed.Added.{AreSubtypes}
use Rattle.common_lemmas.proofs.Lists.{all_joined}

-- ---- lists

found : {A : Type 0} (P : A → Type 0) (p : A → Bool) (xs : List A) → AllByRecursion P xs → IfSome (find p xs) P
found P p [] h = tt
found P p (x ∷ xs) h = by_test (p x) (found P p xs h.1)
  where
    by_test : (b : Bool) → IfSome (find p xs) P → IfSome (cond b (Some x) (find p xs)) P
    by_test true rest = h.0
    by_test false rest = rest

mapped : {A B : Type 0} (P : A → Type 0) (Q : B → Type 0) (f : A → B) → ((x : A) → P x → Q (f x)) → (xs : List A) → AllByRecursion P xs → AllByRecursion Q (map f xs)
mapped P Q f each [] h = tt
mapped P Q f each (x ∷ xs) h = (each x h.0, mapped P Q f each xs h.1)

module _ (g : Setting) (names : List (List ℕ)) (marks : MarksHaveNames names g.types) (first : (k : ℕ) → k < 25 → IsName names (record { 0 = k })) (whole : EveryDecls (well_placed names) g.program.decls) where
  abbrev r : Rules
  r = well_placed names

  -- ---- ranges

  kind-named : (k : ℕ) → IsName names (kind_name g.types k)
  kind-named k = go (find (λ m. m.kind == k) g.types.marks) (found (λ m. IfSome m.name (IsName names)) (λ m. m.kind == k) g.types.marks marks)
    where
      named : (o : Option NameId) → IfSome o (IsName names) → IsName names (unwrap_or o (record { 0 = 0 }))
      named None h = first 0 (omega arith)
      named (Some id) h = h

      go : (o : Option Mark) → IfSome o (λ m. IfSome m.name (IsName names)) → IsName names (unwrap_or (and_then (λ m. m.name) o) (record { 0 = 0 }))
      go None h = first 0 (omega arith)
      go (Some m) h = named m.name h

  range-placed : (s : Span) (o : Option PDrange) → IfSome o (EveryDrange r 2) → EverySubind r 2 (subtype_of_range g.types s o)
  range-placed s None h = (first 0 (omega arith), tt)
  range-placed s (Some (RMarked x)) h = h
  range-placed s (Some (RGiven b)) h = (kind-named (kind_of_range g.types (RGiven b)), h)

  -- ---- arrays of tasks

  abbrev RangePlaced : NamedTasks → Type 0
  RangePlaced x = IfSome x.index_range (EveryDrange r 2)

  types-placed : (o : Option PTask) (ws : List Word) (row : Option PDrange) → IfSome row (EveryDrange r 2) → AllByRecursion RangePlaced (task_names_of_type o ws row)
  types-placed None ws row h = tt
  types-placed (Some t) ws row h = mapped (λ (w : Word). Prim.Unit {0}) RangePlaced _ (λ w i. h) ws (all-tt ws)
    where
      all-tt : (xs : List Word) → AllByRecursion (λ (w : Word). Prim.Unit {0}) xs
      all-tt [] = tt
      all-tt (x ∷ xs) = (tt, all-tt xs)

  single-placed : (b : Bool) (t : PTask) (s : Span) → AllByRecursion RangePlaced (single_task_name b t s)
  single-placed true t s = tt
  single-placed false t s = (tt, tt)

  ranges-placed : (kinds : List PTask) (ds : PDecls) → EveryDecls r ds → AllByRecursion RangePlaced (task_names_in kinds ds)
  ranges-placed kinds no_decl h = tt
  ranges-placed kinds (decl_then (DTask t s) rest) h = all_joined RangePlaced (single_task_name t.of_kind t s) _ (single-placed t.of_kind t s) (ranges-placed (with_type kinds t.of_kind t) rest h.1)
  ranges-placed kinds (decl_then (DObject ws c (OPlain x) i s) rest) h =
      all_joined RangePlaced (object_task_names kinds ws (OPlain x)) (task_names_in kinds rest) (types-placed (type_named kinds x.mark.name) ws None tt) (ranges-placed kinds rest h.1)
  ranges-placed kinds (decl_then (DObject ws c (OArray index x) i s) rest) h =
      all_joined RangePlaced (object_task_names kinds ws (OArray index x)) (task_names_in kinds rest) (types-placed (type_named kinds x.mark.name) ws (Some index) h.0.2.0) (ranges-placed kinds rest h.1)
  ranges-placed kinds (decl_then (DNumber w e s) rest) h = ranges-placed kinds rest h.1
  ranges-placed kinds (decl_then (DEnumeration w ws s) rest) h = ranges-placed kinds rest h.1
  ranges-placed kinds (decl_then (DArray w q x s) rest) h = ranges-placed kinds rest h.1
  ranges-placed kinds (decl_then (DSubtype w x s) rest) h = ranges-placed kinds rest h.1
  ranges-placed kinds (decl_then (DException ws s) rest) h = ranges-placed kinds rest h.1
  ranges-placed kinds (decl_then (DIntIo w s) rest) h = ranges-placed kinds rest h.1
  ranges-placed kinds (decl_then (DPragma e s) rest) h = ranges-placed kinds rest h.1
  ranges-placed kinds (decl_then (DTaskBody w objects its s) rest) h = ranges-placed kinds rest h.1

  array-placed : (name : NameId) → IfSome (array_range g.program name) (EveryDrange r 2)
  array-placed name = go (find (λ x. x.name.name.0 == name.0) (task_names_of g.program)) (found RangePlaced (λ x. x.name.name.0 == name.0) (task_names_of g.program) (ranges-placed [] g.program.decls whole))
    where
      go : (o : Option NamedTasks) → IfSome o RangePlaced → IfSome (and_then (λ x. x.index_range) o) (EveryDrange r 2)
      go None h = tt
      go (Some x) h = h

  -- ---- families and formals

  pub tasks-placed : (ds : PDecls) → EveryDecls r ds → AllByRecursion (EveryTask r) (tasks_in (decl_list ds))
  tasks-placed no_decl h = tt
  tasks-placed (decl_then (DTask t s) rest) h = (h.0.1, tasks-placed rest h.1)
  tasks-placed (decl_then (DObject ws c x i s) rest) h = tasks-placed rest h.1
  tasks-placed (decl_then (DNumber w e s) rest) h = tasks-placed rest h.1
  tasks-placed (decl_then (DEnumeration w ws s) rest) h = tasks-placed rest h.1
  tasks-placed (decl_then (DArray w q x s) rest) h = tasks-placed rest h.1
  tasks-placed (decl_then (DSubtype w x s) rest) h = tasks-placed rest h.1
  tasks-placed (decl_then (DException ws s) rest) h = tasks-placed rest h.1
  tasks-placed (decl_then (DIntIo w s) rest) h = tasks-placed rest h.1
  tasks-placed (decl_then (DPragma e s) rest) h = tasks-placed rest h.1
  tasks-placed (decl_then (DTaskBody w objects its s) rest) h = tasks-placed rest h.1

  unit-placed : (name : NameId) → IfSome (unit_named g.program name) (EveryTask r)
  unit-placed name = found (EveryTask r) (λ t. t.name.name.0 == name.0) (tasks_in (decl_list g.program.decls)) (tasks-placed g.program.decls whole)

  entry-found : (t : PTask) (name : NameId) → EveryTask r t → IfSome (find (λ e. e.name.name.0 == name.0) t.entries) (EveryEntry r)
  entry-found t name h = found (EveryEntry r) (λ e. e.name.name.0 == name.0) t.entries (recursion_from_All (EveryEntry r) t.entries h.1)

  family-in : (o : Option PTask) (name : NameId) → IfSome o (EveryTask r) → IfSome (range_in o name) (EveryDrange r 2)
  family-in None name h = tt
  family-in (Some t) name h = go (find (λ e. e.name.name.0 == name.0) t.entries) (entry-found t name h)
    where
      go : (o : Option PEntry) → IfSome o (EveryEntry r) → IfSome (range_of_entry o) (EveryDrange r 2)
      go None i = tt
      go (Some e) i = i.2

  family-placed : (e : ℕ) → IfSome (family_range g e) (EveryDrange r 2)
  family-placed e = go (entry_at g.numbers e)
    where
      owner : (o : Option TaskInfo) (name : NameId) → IfSome (range_of_unit g.program o name) (EveryDrange r 2)
      owner None name = tt
      owner (Some info) name = family-in (unit_named g.program info.unit) name (unit-placed info.unit)

      go : (o : Option EntryInfo) → IfSome (range_of_info g o) (EveryDrange r 2)
      go None = tt
      go (Some info) = owner (task_at g.numbers info.owner) info.name

  formals-in : (o : Option PTask) (name : NameId) → IfSome o (EveryTask r) → AllByRecursion (EveryFormal r) (formals_in o name)
  formals-in None name h = tt
  formals-in (Some t) name h = go (find (λ e. e.name.name.0 == name.0) t.entries) (entry-found t name h)
    where
      go : (o : Option PEntry) → IfSome o (EveryEntry r) → AllByRecursion (EveryFormal r) (formals_of_entry o)
      go None i = tt
      go (Some e) i = recursion_from_All (EveryFormal r) e.formals i.3

  formals-placed : (o : Option EntryInfo) → AllByRecursion (EveryFormal r) (formals_of_info g o)
  formals-placed None = tt
  formals-placed (Some info) = go (task_at g.numbers info.owner)
    where
      go : (o : Option TaskInfo) → AllByRecursion (EveryFormal r) (formals_of_unit g.program o info.name)
      go None = tt
      go (Some owner) = formals-in (unit_named g.program owner.unit) info.name (unit-placed owner.unit)

  abbrev SlotPlaced : Slot → Type 0
  SlotPlaced x = EverySubind r 2 (marked x.mark)

  slots-placed : (fs : List PFormal) → AllByRecursion (EveryFormal r) fs → AllByRecursion SlotPlaced (slots_of fs)
  slots-placed [] h = tt
  slots-placed (f ∷ fs) h = all_joined SlotPlaced (map (λ w. record { mode = f.mode; mark = f.mark }) f.names) (slots_of fs) (each f.names) (slots-placed fs h.1)
    where
      each : (ws : List Word) → AllByRecursion SlotPlaced (map (λ w. record { mode = f.mode; mark = f.mark }) ws)
      each [] = tt
      each (w ∷ ws) = ((h.0.1, tt), each ws)

  -- the subtypes of all variables that the normal form adds
  pub subtypes-placed : AreSubtypes g (EverySubind r 2)
  subtypes-placed = record {
    integers = λ s. (first 0 (omega arith), tt);
    truths = λ s. (first 3 (omega arith), tt);
    arrays = λ s id. range-placed s (array_range g.program id) (array-placed id);
    families = λ s e. range-placed s (family_range g e) (family-placed e);
    formals = λ e. slots-placed (formals_of_info g (entry_at g.numbers e)) (formals-placed (entry_at g.numbers e));
  }
