-- Along the declarations of main each name that stands for tasks means a task, an object of a task type or an array of tasks, with the entries of its
-- unit as they are seen from behind all declarations.
use Rattle.std.proofs.Common.{◌≡◌, Bool, true, false, ◌==◌, List, [], ◌∷◌, ◌++◌, map, Option, Some, None, refl, sym, ap, ◌∙◌, subst, append-nil}
use Rattle.std.specs.List.{AllByRecursion, list_any}
use Rattle.std.proofs.lemmas.Bool.{or_left as or_front, or_right as or_behind}
use Rattle.common_lemmas.proofs.Numbers.{equal_self, equal_is}
use Rattle.common_lemmas.proofs.Lists.{all_weaker, all_joined, found_passes}
use Rattle.common_lemmas.proofs.Options.{not_missing}
use Rattle.ada_tree.specs.declared.naming.NameId.{NameId}
use Rattle.ada_tree.specs.declared.naming.Span.{Span}
use Rattle.ada_tree.specs.declared.naming.Word.{Word}
use Rattle.ada_tree.specs.TypeTable.{TypeTable}
use Rattle.ada_tree.specs.PlainExpr.{PDrange}
use Rattle.ada_tree.specs.PlainDecl.{PShape, OPlain, OArray, PInit, PTask, PDecl, DNumber, DObject, DEnumeration, DArray, DSubtype, DException, DIntIo, DPragma, DTask, DTaskBody, PDecls, no_decl, decl_then}
use Rattle.ada_static_rules.specs.Scope.{Scope, Thing, TaskType, SingleTask, TaskObject, TaskArray, EntryPart, marking_of, meaning}
use Rattle.ada_static_rules.specs.Declaring.{entry_part, task_thing, task_object, task_array, drange_range, plain_object, array_object, declared_object, with_constants, with_types, with_name, with_names, after_decl}
use Rattle.syn_event.specs.NamedTasks.{NamedTasks, type_named, with_type, task_names_of_type, object_task_names, single_task_name, task_names_in}
use Rattle.normal_model.specs.NormalTree.{mark_of}
use Rattle.task_laws.specs.legal.rewritten_types.Rewriting.{IsUnused, names_declared, DeclareOnce}
use Rattle.task_laws.proofs.legal.rewritten_types.Lookups.{find-all}
use Rattle.task_laws.proofs.legal.rewritten_types.Fresh.{InHere, here-decl}
use Rattle.task_laws.proofs.legal.types.GoodScopes.{IsIn, names-new}
use Rattle.task_laws.proofs.legal.types.TaskTypes.{DeclRanges}
use Rattle.normal_laws.proofs.legality.scopes.Later.{decl-kept, DeclEntries}

-- ---- entries

-- the thing is a task, an object of a task type or an array of tasks, with these entries
abbrev pub HasEntries : List EntryPart → Thing → Type 0
HasEntries es (SingleTask xs) = xs ≡ es
HasEntries es (TaskObject xs) = xs ≡ es
HasEntries es (TaskArray range xs) = xs ≡ es
HasEntries es _ = ⊥

-- the task types behind a declaration, and the names that it declares for tasks
abbrev pub kinds_behind : List PTask → PDecl → List PTask
kinds_behind kinds (DTask t s) = with_type kinds t.of_kind t
kinds_behind kinds _ = kinds

abbrev pub parts_of : List PTask → PDecl → List NamedTasks
parts_of kinds (DTask t s) = single_task_name t.of_kind t s
parts_of kinds (DObject names constant x init s) = object_task_names kinds names x
parts_of kinds _ = []

module _ (S : Scope) where
  -- the entries of a task, as they are seen from there
  abbrev pub entries_in : PTask → List EntryPart
  entries_in t = map (entry_part S) t.entries

  -- a task type is seen with its entries
  abbrev pub IsTypeSeen : Scope → PTask → Type 0
  IsTypeSeen s t = meaning s t.name.name ≡ Some (TaskType (entries_in t))

  -- a name that stands for tasks is seen with the entries of their unit
  abbrev pub IsPartSeen : Scope → NamedTasks → Type 0
  IsPartSeen s x = (th : Thing) × (meaning s x.name.name ≡ Some th) × HasEntries (entries_in x.unit) th

  -- What is seen behind some declarations of main: the task types and the names for tasks that they declare.
  pub record Sees (kinds : List PTask) (done : List NamedTasks) (s : Scope) : Type 0 where
    pub main : s.in_main ≡ true
    pub here : InHere s
    pub types : AllByRecursion (IsTypeSeen s) kinds
    pub parts : AllByRecursion (IsPartSeen s) done

  -- ---- one declaration

  -- a name of those that are declared
  pub in-first : (w : Word) (ws : List Word) → IsIn (w ∷ ws) w.name
  in-first w ws = or_front (w.name.0 == w.name.0) (list_any (λ (x : Word). x.name.0 == w.name.0) ws) (equal_self w.name.0)

  in-later : (w v : Word) (ws : List Word) → IsIn ws v.name → IsIn (w ∷ ws) v.name
  in-later w v ws h = or_behind (w.name.0 == v.name.0) (list_any (λ (x : Word). x.name.0 == v.name.0) ws) h

  all-in : (ws : List Word) → AllByRecursion (λ (w : Word). IsIn ws w.name) ws
  all-in [] = tt
  all-in (w ∷ ws) = (in-first w ws, all_weaker _ _ ws (λ v h. in-later w v ws h) (all-in ws))

  -- a name of a task type is seen as a mark of it
  pub type-mark : (kinds : List PTask) (s : Scope) (id : NameId) (t : PTask) → AllByRecursion (IsTypeSeen s) kinds → type_named kinds id ≡ Some t → meaning s id ≡ Some (TaskType (entries_in t))
  type-mark kinds s id t h e =
      let same : t.name.name.0 ≡ id.0 = equal_is t.name.name.0 id.0 (found_passes (λ (u : PTask). u.name.name.0 == id.0) kinds t e) in
      subst (λ n. meaning s (record { 0 = n }) ≡ Some (TaskType (entries_in t))) same (find-all (IsTypeSeen s) (λ (u : PTask). u.name.name.0 == id.0) kinds t h e)

  -- names of an object whose mark is a task type
  objects-seen : (s' : Scope) (t : PTask) (ws : List Word) (row : Option PDrange) (th : Thing) → HasEntries (entries_in t) th → AllByRecursion (λ (w : Word). meaning s' w.name ≡ Some th) ws →
      AllByRecursion (IsPartSeen s') (task_names_of_type (Some t) ws row)
  objects-seen s' t [] row th h k = tt
  objects-seen s' t (w ∷ ws) row th h k = ((th, k.0, h), objects-seen s' t ws row th h k.1)

  -- all names mean the same
  pub all-mean : (th : Thing) (ws : List Word) (s : Scope) → AllByRecursion (λ (w : Word). meaning (with_names th s ws) w.name ≡ Some th) ws
  all-mean th ws s = all_weaker (λ (w : Word). IsIn ws w.name) _ ws (λ w h. names-new th ws s w.name h) (all-in ws)

  -- an object of a task type is a task, or an array of tasks
  pub object-thing : (T : TypeTable) (s : Scope) (ws : List Word) (constant : Bool) (x : PShape) (init : Option PInit) (sp : Span) (t : PTask) → s.in_main ≡ true → DeclRanges T s (DObject ws constant x init sp) →
      meaning s (mark_of x) ≡ Some (TaskType (entries_in t)) → HasEntries (entries_in t) (declared_object s constant x).thing
  object-thing T s ws constant (OPlain x) init sp t main ranges means =
      subst (λ m. HasEntries (entries_in t) (plain_object s constant m x).thing) (sym (ap (marking_of s.types) means))
      (subst (λ b. HasEntries (entries_in t) (task_object b (entries_in t))) (sym main) refl)
  object-thing T s ws constant (OArray r x) init sp t main ranges means =
      subst (λ m. HasEntries (entries_in t) (array_object s constant m r x).thing) (sym (ap (marking_of s.types) means))
      (subst (λ b. HasEntries (entries_in t) (task_array b (drange_range s r) (entries_in t))) (sym main)
      (subst (λ o. HasEntries (entries_in t) (task_array true o (entries_in t))) (sym ranges.known) refl))

  -- where there is a task type of the mark
  pub object-typed : (T : TypeTable) (kinds : List PTask) (s : Scope) (ws : List Word) (constant : Bool) (x : PShape) (init : Option PInit) (sp : Span) (t : PTask) → s.in_main ≡ true → AllByRecursion (IsTypeSeen s) kinds →
      DeclRanges T s (DObject ws constant x init sp) → type_named kinds (mark_of x) ≡ Some t → HasEntries (entries_in t) (declared_object s constant x).thing
  object-typed T kinds s ws constant x init sp t main types ranges e = object-thing T s ws constant x init sp t main ranges (type-mark kinds s (mark_of x) t types e)

  object-seen : (T : TypeTable) (kinds : List PTask) (s : Scope) (ws : List Word) (constant : Bool) (x : PShape) (init : Option PInit) (sp : Span) → s.in_main ≡ true → AllByRecursion (IsTypeSeen s) kinds →
      DeclRanges T s (DObject ws constant x init sp) → AllByRecursion (IsPartSeen (after_decl s (DObject ws constant x init sp))) (object_task_names kinds ws x)
  object-seen T kinds s ws constant x init sp main types ranges = by_shape x refl
    where
      d : Thing
      d = (declared_object s constant x).thing

      s' : Scope
      s' = after_decl s (DObject ws constant x init sp)

      by_type : (id : NameId) → id ≡ mark_of x → (row : Option PDrange) (o : Option PTask) → type_named kinds id ≡ o → AllByRecursion (IsPartSeen s') (task_names_of_type o ws row)
      by_type id q row None e = tt
      by_type id q row (Some t) e =
          objects-seen s' t ws row d (object-typed T kinds s ws constant x init sp t main types ranges (ap (type_named kinds) (sym q) ∙ e)) (all-mean d ws (with_types (with_constants s ws init (declared_object s constant x)) s))

      by_shape : (y : PShape) → y ≡ x → AllByRecursion (IsPartSeen s') (object_task_names kinds ws y)
      by_shape (OPlain y) q = by_type y.mark.name (ap mark_of q) None (type_named kinds y.mark.name) refl
      by_shape (OArray r y) q = by_type y.mark.name (ap mark_of q) (Some r) (type_named kinds y.mark.name) refl

  -- a task type or a single task
  task-types : (b : Bool) (kinds : List PTask) (t : PTask) (s' : Scope) → meaning s' t.name.name ≡ Some (task_thing b (entries_in t)) → AllByRecursion (IsTypeSeen s') kinds → AllByRecursion (IsTypeSeen s') (with_type kinds b t)
  task-types true kinds t s' e h = (e, h)
  task-types false kinds t s' e h = h

  task-parts : (b : Bool) (t : PTask) (sp : Span) (s' : Scope) → meaning s' t.name.name ≡ Some (task_thing b (entries_in t)) → AllByRecursion (IsPartSeen s') (single_task_name b t sp)
  task-parts true t sp s' e = tt
  task-parts false t sp s' e = ((SingleTask (entries_in t), e, refl), tt)

  -- what is seen stays seen
  types-kept : (d : PDecl) (kinds : List PTask) (s : Scope) → InHere s → AllByRecursion (IsUnused s) (names_declared d) → AllByRecursion (IsTypeSeen s) kinds → AllByRecursion (IsTypeSeen (after_decl s d)) kinds
  types-kept d kinds s here u h = all_weaker (IsTypeSeen s) (IsTypeSeen (after_decl s d)) kinds (λ t e. decl-kept d s here u t.name.name (TaskType (entries_in t)) e) h

  parts-kept : (d : PDecl) (done : List NamedTasks) (s : Scope) → InHere s → AllByRecursion (IsUnused s) (names_declared d) → AllByRecursion (IsPartSeen s) done → AllByRecursion (IsPartSeen (after_decl s d)) done
  parts-kept d done s here u h = all_weaker (IsPartSeen s) (IsPartSeen (after_decl s d)) done (λ x k. (k.0, decl-kept d s here u x.name.name k.0 k.1, k.2)) h

  names-main : (thing : Thing) (ws : List Word) (s : Scope) → (with_names thing s ws).in_main ≡ s.in_main
  names-main thing [] s = refl
  names-main thing (w ∷ ws) s = names-main thing ws (with_name thing s w)

  main-kept : (d : PDecl) (s : Scope) → (after_decl s d).in_main ≡ s.in_main
  main-kept (DNumber w e sp) s = refl
  main-kept (DObject ws c x i sp) s = names-main _ ws (with_types _ s)
  main-kept (DEnumeration w ws sp) s = names-main _ ws _
  main-kept (DArray w r x sp) s = refl
  main-kept (DSubtype w x sp) s = refl
  main-kept (DException ws sp) s = names-main _ ws s
  main-kept (DIntIo w sp) s = refl
  main-kept (DPragma e sp) s = refl
  main-kept (DTask t sp) s = refl
  main-kept (DTaskBody w objects its sp) s = refl

  -- no task is declared, and no object of a task type
  plain-step : (d : PDecl) (kinds : List PTask) (done : List NamedTasks) (s : Scope) → AllByRecursion (IsUnused s) (names_declared d) → Sees kinds done s → Sees kinds (done ++ []) (after_decl s d)
  plain-step d kinds done s u h = subst (λ l. Sees kinds l (after_decl s d)) (sym (append-nil done)) record {
    main = main-kept d s ∙ h.main;
    here = here-decl d s h.here;
    types = types-kept d kinds s h.here u h.types;
    parts = parts-kept d done s h.here u h.parts;
  }

  pub sees-step : (T : TypeTable) (d : PDecl) (kinds : List PTask) (done : List NamedTasks) (s : Scope) → AllByRecursion (IsUnused s) (names_declared d) → DeclEntries S s d → DeclRanges T s d → Sees kinds done s →
      Sees (kinds_behind kinds d) (done ++ parts_of kinds d) (after_decl s d)
  sees-step T (DTask t sp) kinds done s u es ranges h =
      let s' : Scope = after_decl s (DTask t sp) in
      let e : meaning s' t.name.name ≡ Some (task_thing t.of_kind (entries_in t)) = names-new _ (t.name ∷ []) s t.name.name (in-first t.name []) ∙ ap (λ (l : List EntryPart). Some (task_thing t.of_kind l)) es in
      record {
        main = h.main;
        here = here-decl (DTask t sp) s h.here;
        types = task-types t.of_kind kinds t s' e (types-kept (DTask t sp) kinds s h.here u h.types);
        parts = all_joined (IsPartSeen s') done _ (parts-kept (DTask t sp) done s h.here u h.parts) (task-parts t.of_kind t sp s' e);
      }
  sees-step T (DObject ws c x i sp) kinds done s u es ranges h =
      let d : PDecl = DObject ws c x i sp in
      record {
        main = main-kept d s ∙ h.main;
        here = here-decl d s h.here;
        types = types-kept d kinds s h.here u h.types;
        parts = all_joined (IsPartSeen (after_decl s d)) done _ (parts-kept d done s h.here u h.parts) (object-seen T kinds s ws c x i sp h.main h.types ranges);
      }
  sees-step T (DNumber w e sp) kinds done s u es ranges h = plain-step (DNumber w e sp) kinds done s u h
  sees-step T (DEnumeration w ws sp) kinds done s u es ranges h = plain-step (DEnumeration w ws sp) kinds done s u h
  sees-step T (DArray w r x sp) kinds done s u es ranges h = plain-step (DArray w r x sp) kinds done s u h
  sees-step T (DSubtype w x sp) kinds done s u es ranges h = plain-step (DSubtype w x sp) kinds done s u h
  sees-step T (DException ws sp) kinds done s u es ranges h = plain-step (DException ws sp) kinds done s u h
  sees-step T (DIntIo w sp) kinds done s u es ranges h = plain-step (DIntIo w sp) kinds done s u h
  sees-step T (DPragma e sp) kinds done s u es ranges h = plain-step (DPragma e sp) kinds done s tt h
  sees-step T (DTaskBody w objects its sp) kinds done s u es ranges h = plain-step (DTaskBody w objects its sp) kinds done s tt h

  -- ---- names that are declared later

  -- a name for tasks is not declared before
  abbrev pub IsPartHidden : Scope → NamedTasks → Type 0
  IsPartHidden s x = meaning s x.name.name ≡ None

  typed-hidden : (s : Scope) (o : Option PTask) (ws : List Word) (row : Option PDrange) → AllByRecursion (λ (w : Word). meaning s w.name ≡ None) ws → AllByRecursion (IsPartHidden s) (task_names_of_type o ws row)
  typed-hidden s None ws row h = tt
  typed-hidden s (Some t) [] row h = tt
  typed-hidden s (Some t) (w ∷ ws) row h = (h.0, typed-hidden s (Some t) ws row h.1)

  object-hidden : (s : Scope) (kinds : List PTask) (ws : List Word) (x : PShape) → AllByRecursion (λ (w : Word). meaning s w.name ≡ None) ws → AllByRecursion (IsPartHidden s) (object_task_names kinds ws x)
  object-hidden s kinds ws (OPlain x) h = typed-hidden s (type_named kinds x.mark.name) ws None h
  object-hidden s kinds ws (OArray r x) h = typed-hidden s (type_named kinds x.mark.name) ws (Some r) h

  single-hidden : (s : Scope) (b : Bool) (t : PTask) (sp : Span) → meaning s t.name.name ≡ None → AllByRecursion (IsPartHidden s) (single_task_name b t sp)
  single-hidden s true t sp h = tt
  single-hidden s false t sp h = (h, tt)

  -- a name that means nothing behind a declaration meant nothing before it
  pub none-before : (d : PDecl) (s : Scope) → InHere s → AllByRecursion (IsUnused s) (names_declared d) → (id : NameId) → meaning (after_decl s d) id ≡ None → meaning s id ≡ None
  none-before d s here u id e = by_meaning (meaning s id) refl
    where
      by_meaning : (o : Option Thing) → meaning s id ≡ o → o ≡ None
      by_meaning None q = refl
      by_meaning (Some x) q = absurd (not_missing x (sym e ∙ decl-kept d s here u id x q))

  hidden-before : (d : PDecl) (s : Scope) → InHere s → AllByRecursion (IsUnused s) (names_declared d) → (xs : List NamedTasks) → AllByRecursion (IsPartHidden (after_decl s d)) xs → AllByRecursion (IsPartHidden s) xs
  hidden-before d s here u xs h = all_weaker (IsPartHidden (after_decl s d)) (IsPartHidden s) xs (λ x k. none-before d s here u x.name.name k) h

  unused-none : (s : Scope) → InHere s → (ws : List Word) → AllByRecursion (IsUnused s) ws → AllByRecursion (λ (w : Word). meaning s w.name ≡ None) ws
  unused-none s here ws u = all_weaker _ _ ws (λ w h. here.nothing w.name h.0 h.1) u

  pub parts-hidden : (ds : PDecls) (kinds : List PTask) (s : Scope) → InHere s → DeclareOnce s ds → AllByRecursion (IsPartHidden s) (task_names_in kinds ds)
  parts-hidden no_decl kinds s here once = tt
  parts-hidden (decl_then (DTask t sp) rest) kinds s here once =
      all_joined (IsPartHidden s) (single_task_name t.of_kind t sp) _ (single-hidden s t.of_kind t sp (unused-none s here (t.name ∷ []) once.0).0)
      (hidden-before (DTask t sp) s here once.0 _ (parts-hidden rest (with_type kinds t.of_kind t) (after_decl s (DTask t sp)) (here-decl (DTask t sp) s here) once.1))
  parts-hidden (decl_then (DObject ws c x i sp) rest) kinds s here once =
      all_joined (IsPartHidden s) (object_task_names kinds ws x) _ (object-hidden s kinds ws x (unused-none s here ws once.0))
      (hidden-before (DObject ws c x i sp) s here once.0 _ (parts-hidden rest kinds (after_decl s (DObject ws c x i sp)) (here-decl (DObject ws c x i sp) s here) once.1))
  parts-hidden (decl_then (DNumber w e sp) rest) kinds s here once = hidden-before (DNumber w e sp) s here once.0 _ (parts-hidden rest kinds _ (here-decl (DNumber w e sp) s here) once.1)
  parts-hidden (decl_then (DEnumeration w ws sp) rest) kinds s here once = hidden-before (DEnumeration w ws sp) s here once.0 _ (parts-hidden rest kinds _ (here-decl (DEnumeration w ws sp) s here) once.1)
  parts-hidden (decl_then (DArray w r x sp) rest) kinds s here once = hidden-before (DArray w r x sp) s here once.0 _ (parts-hidden rest kinds _ (here-decl (DArray w r x sp) s here) once.1)
  parts-hidden (decl_then (DSubtype w x sp) rest) kinds s here once = hidden-before (DSubtype w x sp) s here once.0 _ (parts-hidden rest kinds _ (here-decl (DSubtype w x sp) s here) once.1)
  parts-hidden (decl_then (DException ws sp) rest) kinds s here once = hidden-before (DException ws sp) s here once.0 _ (parts-hidden rest kinds _ (here-decl (DException ws sp) s here) once.1)
  parts-hidden (decl_then (DIntIo w sp) rest) kinds s here once = hidden-before (DIntIo w sp) s here once.0 _ (parts-hidden rest kinds _ (here-decl (DIntIo w sp) s here) once.1)
  parts-hidden (decl_then (DPragma e sp) rest) kinds s here once = hidden-before (DPragma e sp) s here once.0 _ (parts-hidden rest kinds _ (here-decl (DPragma e sp) s here) once.1)
  parts-hidden (decl_then (DTaskBody w objects its sp) rest) kinds s here once = hidden-before (DTaskBody w objects its sp) s here once.0 _ (parts-hidden rest kinds _ (here-decl (DTaskBody w objects its sp) s here) once.1)
