-- At each body of a legal program, and behind all declarations, each task and task type is seen with its entries, or is not declared before.
use Rattle.std.proofs.Common.{◌≡◌, List, [], ◌∷◌, ◌++◌, Some, None, ◌⊎◌, inl, inr, sym, ap, ◌∙◌, subst, append_assoc}
use Rattle.std.specs.List.{AllByRecursion}
use Rattle.common_lemmas.proofs.Lists.{all_weaker, all_joined}
use Rattle.ada_tree.specs.PlainDecl.{PTask, PDecl, DNumber, DObject, DEnumeration, DArray, DSubtype, DException, DIntIo, DPragma, DTask, DTaskBody, PDecls, no_decl, decl_then}
use Rattle.ada_static_rules.specs.Scope.{Scope, EntryPart, meaning}
use Rattle.ada_static_rules.specs.Declaring.{task_thing, after_decl}
use Rattle.syn_event.specs.DeclaredTasks.{decl_list, tasks_in}
use Rattle.task_laws.specs.legal.rewritten_types.Rewriting.{IsUnused, names_declared, DeclareOnce}
use Rattle.task_laws.proofs.legal.rewritten_types.Fresh.{InHere, here-decl}
use Rattle.task_laws.proofs.legal.types.GoodScopes.{names-new}
use Rattle.normal_laws.proofs.legality.scopes.Later.{decl-kept, AllEntries}
use Rattle.normal_laws.proofs.legality.scopes.Seeing.{entries_in, in-first, none-before}
use Rattle.normal_laws.proofs.legality.scopes.Places.{AtBodies}

module _ (S : Scope) where
  -- the task or task type is seen with its entries
  abbrev pub IsUnitThere : Scope → PTask → Type 0
  IsUnitThere s t = meaning s t.name.name ≡ Some (task_thing t.of_kind (entries_in S t))

  abbrev pub IsUnitOrNot : Scope → PTask → Type 0
  IsUnitOrNot s t = IsUnitThere s t ⊎ (meaning s t.name.name ≡ None)

  there-kept : (d : PDecl) (done : List PTask) (s : Scope) → InHere s → AllByRecursion (IsUnused s) (names_declared d) → AllByRecursion (IsUnitThere s) done → AllByRecursion (IsUnitThere (after_decl s d)) done
  there-kept d done s here u h = all_weaker (IsUnitThere s) (IsUnitThere (after_decl s d)) done (λ t e. decl-kept d s here u t.name.name (task_thing t.of_kind (entries_in S t)) e) h

  hidden-before : (d : PDecl) (s : Scope) → InHere s → AllByRecursion (IsUnused s) (names_declared d) → (xs : List PTask) → AllByRecursion (λ (t : PTask). meaning (after_decl s d) t.name.name ≡ None) xs → AllByRecursion (λ (t : PTask). meaning s t.name.name ≡ None) xs
  hidden-before d s here u xs h = all_weaker (λ (t : PTask). meaning (after_decl s d) t.name.name ≡ None) (λ (t : PTask). meaning s t.name.name ≡ None) xs (λ t e. none-before S d s here u t.name.name e) h

  -- tasks that are declared later are not seen
  units-hidden : (ds : PDecls) (s : Scope) → InHere s → DeclareOnce s ds → AllByRecursion (λ (t : PTask). meaning s t.name.name ≡ None) (tasks_in (decl_list ds))
  units-hidden no_decl s here once = tt
  units-hidden (decl_then (DTask t sp) rest) s here once =
      (here.nothing t.name.name once.0.0.0 once.0.0.1, hidden-before (DTask t sp) s here once.0 (tasks_in (decl_list rest)) (units-hidden rest (after_decl s (DTask t sp)) (here-decl (DTask t sp) s here) once.1))
  units-hidden (decl_then (DNumber w e sp) rest) s here once = hidden-before (DNumber w e sp) s here once.0 _ (units-hidden rest _ (here-decl (DNumber w e sp) s here) once.1)
  units-hidden (decl_then (DObject ws c x i sp) rest) s here once = hidden-before (DObject ws c x i sp) s here once.0 _ (units-hidden rest _ (here-decl (DObject ws c x i sp) s here) once.1)
  units-hidden (decl_then (DEnumeration w ws sp) rest) s here once = hidden-before (DEnumeration w ws sp) s here once.0 _ (units-hidden rest _ (here-decl (DEnumeration w ws sp) s here) once.1)
  units-hidden (decl_then (DArray w q x sp) rest) s here once = hidden-before (DArray w q x sp) s here once.0 _ (units-hidden rest _ (here-decl (DArray w q x sp) s here) once.1)
  units-hidden (decl_then (DSubtype w x sp) rest) s here once = hidden-before (DSubtype w x sp) s here once.0 _ (units-hidden rest _ (here-decl (DSubtype w x sp) s here) once.1)
  units-hidden (decl_then (DException ws sp) rest) s here once = hidden-before (DException ws sp) s here once.0 _ (units-hidden rest _ (here-decl (DException ws sp) s here) once.1)
  units-hidden (decl_then (DIntIo w sp) rest) s here once = hidden-before (DIntIo w sp) s here once.0 _ (units-hidden rest _ (here-decl (DIntIo w sp) s here) once.1)
  units-hidden (decl_then (DPragma e sp) rest) s here once = hidden-before (DPragma e sp) s here once.0 _ (units-hidden rest _ (here-decl (DPragma e sp) s here) once.1)
  units-hidden (decl_then (DTaskBody w objects its sp) rest) s here once = hidden-before (DTaskBody w objects its sp) s here once.0 _ (units-hidden rest _ (here-decl (DTaskBody w objects its sp) s here) once.1)

  module _ (all : List PTask) where
    units-now : (ds : PDecls) (done : List PTask) (s : Scope) → all ≡ done ++ tasks_in (decl_list ds) → InHere s → DeclareOnce s ds → AllByRecursion (IsUnitThere s) done → AllByRecursion (IsUnitOrNot s) all
    units-now ds done s e here once h =
        subst (AllByRecursion (IsUnitOrNot s)) (sym e)
        (all_joined (IsUnitOrNot s) done (tasks_in (decl_list ds)) (all_weaker (IsUnitThere s) (IsUnitOrNot s) done (λ t k. inl k) h)
        (all_weaker (λ (t : PTask). meaning s t.name.name ≡ None) (IsUnitOrNot s) (tasks_in (decl_list ds)) (λ t k. inr k) (units-hidden ds s here once)))

    pub units-at : (ds : PDecls) (done : List PTask) (s : Scope) → all ≡ done ++ tasks_in (decl_list ds) → InHere s → DeclareOnce s ds → AllEntries S s ds → AllByRecursion (IsUnitThere s) done → AtBodies (λ q. AllByRecursion (IsUnitOrNot q) all) s ds
    units-at no_decl done s e here once es h = units-now no_decl done s e here once h
    units-at (decl_then (DTaskBody w objects its sp) rest) done s e here once es h =
        let d : PDecl = DTaskBody w objects its sp in
        (units-now (decl_then d rest) done s e here once h, units-at rest done (after_decl s d) e (here-decl d s here) once.1 es.1 (there-kept d done s here once.0 h))
    units-at (decl_then (DTask t sp) rest) done s e here once es h =
        let d : PDecl = DTask t sp in
        let new : IsUnitThere (after_decl s d) t = names-new _ (t.name ∷ []) s t.name.name (in-first S t.name []) ∙ ap (λ (l : List EntryPart). Some (task_thing t.of_kind l)) es.0 in
        units-at rest (done ++ t ∷ []) (after_decl s d) (e ∙ sym (append_assoc done (t ∷ []) (tasks_in (decl_list rest)))) (here-decl d s here) once.1 es.1
        (all_joined (IsUnitThere (after_decl s d)) done (t ∷ []) (there-kept d done s here once.0 h) (new, tt))
    units-at (decl_then (DNumber w x sp) rest) done s e here once es h = units-at rest done _ e (here-decl (DNumber w x sp) s here) once.1 es.1 (there-kept (DNumber w x sp) done s here once.0 h)
    units-at (decl_then (DObject ws c x i sp) rest) done s e here once es h = units-at rest done _ e (here-decl (DObject ws c x i sp) s here) once.1 es.1 (there-kept (DObject ws c x i sp) done s here once.0 h)
    units-at (decl_then (DEnumeration w ws sp) rest) done s e here once es h = units-at rest done _ e (here-decl (DEnumeration w ws sp) s here) once.1 es.1 (there-kept (DEnumeration w ws sp) done s here once.0 h)
    units-at (decl_then (DArray w q x sp) rest) done s e here once es h = units-at rest done _ e (here-decl (DArray w q x sp) s here) once.1 es.1 (there-kept (DArray w q x sp) done s here once.0 h)
    units-at (decl_then (DSubtype w x sp) rest) done s e here once es h = units-at rest done _ e (here-decl (DSubtype w x sp) s here) once.1 es.1 (there-kept (DSubtype w x sp) done s here once.0 h)
    units-at (decl_then (DException ws sp) rest) done s e here once es h = units-at rest done _ e (here-decl (DException ws sp) s here) once.1 es.1 (there-kept (DException ws sp) done s here once.0 h)
    units-at (decl_then (DIntIo w sp) rest) done s e here once es h = units-at rest done _ e (here-decl (DIntIo w sp) s here) once.1 es.1 (there-kept (DIntIo w sp) done s here once.0 h)
    units-at (decl_then (DPragma x sp) rest) done s e here once es h = units-at rest done _ e (here-decl (DPragma x sp) s here) once.1 es.1 (there-kept (DPragma x sp) done s here once.0 h)
