-- The names in declarations and in a whole program: what holds of the predefined names, and of each name that is not reserved, holds of them.
use Rattle.std.proofs.Common.{◌≡◌, ℕ, ◌<◌, Bool, true, false, ◌||◌, ◌&&◌, ◌==◌, if◌then◌else◌, List, [], ◌∷◌, ◌++◌, map, flat_map, find, Option, Some, None, option_map, IfSome, All, refl, sym, subst, arith}
use Rattle.std.specs.List.{AllByRecursion}
use Rattle.std.proofs.lemmas.List.Elements.{All-from_recursion}
use Rattle.std.proofs.lemmas.Option.{none-some}
use Rattle.ada_tree.specs.declared.naming.NameId.{NameId}
use Rattle.ada_tree.specs.declared.naming.Span.{Span}
use Rattle.ada_tree.specs.declared.naming.Word.{Word}
use Rattle.ada_tree.specs.declared.static_types.Kind.{Kind}
use Rattle.ada_tree.specs.declared.static_types.Kind.TheVariants.{Integer, Truth, Enumeration, Array}
use Rattle.ada_tree.specs.declared.static_types.Mark.{Mark}
use Rattle.ada_tree.specs.TypeTable.{TypeTable}
use Rattle.ada_tree.specs.PlainExpr.{PExpr, PDrange, PSubind}
use Rattle.ada_tree.specs.PlainDecl.{PShape, OPlain, OArray, PInit, IOne, IList, IOthers, PPriority, PEntry, PTask, PDecl, DNumber, DObject, DEnumeration, DArray, DSubtype, DException, DIntIo, DPragma, DTask, DTaskBody, PDecls, no_decl, decl_then}
use Rattle.ada_tree.specs.PlainProgram.{PProgram}
use Rattle.ada_tree.specs.Every.{Rules, EveryWord, EveryExpr, EveryDrange, EveryShape, EveryInit, EveryEntry, EveryPriority, EveryTask, EveryDecl, EveryDecls, EveryProgram}
use Rattle.ada_tree.specs.WellPlaced.{well_placed, AreObjects, IsWellPlaced}
use Rattle.ada_static_rules.specs.Scope.{Scope, Range, integer_kind, NameMeaning, Thing, TypeMark, TaskType, SingleTask, TaskObject, TaskArray, Variable, ConstantObject, Parameter, LoopParameter, Literal, AnException, MainProcedure, AnotherUnit, Unclear, EntryPart, Marking, ScalarMark, ArrayMark, TaskMark, NoMark, UnknownMark, UnclearMark, marking_of_kind, marking_of_mark, marking_of, marking, mark_at, kind_at, range_of_mark, meaning}
use Rattle.ada_static_rules.specs.Demand.{scalar_only, declares_entry, initializes, must_lie_in, for_scalar, for_array, Site}
use Rattle.ada_static_rules.specs.Declaring.{seen_as, predefined_names, first_scope, with_types, with_name, with_names, inner_scope, declared_object, plain_object, array_object, object_meaning, task_object, task_array, type_of_mark, task_thing, entry_part, own_entries, in_body, after_decl, after_own_object, after_objects, after_decls, with_constants}
use Rattle.ada_static_rules.specs.Sites.{site, if_there, names_sites, static_of, shape_sites, component_marks, may_be_task, subind_sites, drange_sites, value_sites, free_value_sites, all_init_sites, array_init_sites, scalar_init_sites, init_sites, object_marking, is_task_object, object_sites, formals_sites, all_names, formal_mark_sites, entry_sites, entries_sites, task_sites, body_sites, own_object_sites, own_sites, decl_sites, decls_sites, sites}
use Rattle.ada_static_rules.specs.RuleUnknown.{no_body_of}
use Rattle.ada_static_rules.specs.Refusals.{MeetsTypeRules, types_in}
use Rattle.syn_event.specs.declared.numbering.Mode.TheVariants.{Original}
use Rattle.syn_event.specs.declared.limits.What.TheVariants.{Formals}
use Rattle.syn_event.specs.declared.meanings.Meant.{Meant}
use Rattle.syn_event.specs.declared.meanings.Meant.TheVariants as meant
use Rattle.syn_event.specs.DeclaredTasks.{text_of}
use Rattle.syn_event.specs.CheckRefusals.{MeetsCheckRules}
use Rattle.syn_event.specs.CheckScope.{CheckScope, CheckSite, declares, needs_body}
use Rattle.syn_event.specs.CheckSites.{with_object, formal_names, site as check_site, if_there as check_if_there, numbered, names_sites as check_names_sites, shape_sites as check_shape_sites, init_sites as check_init_sites, object_sites as check_object_sites, entry_sites as check_entry_sites, family_sites, task_sites as check_task_sites, expr_sites as check_expr_sites, own_sites as check_own_sites, body_sites as check_body_sites, decl_sites as check_decl_sites, decls_sites as check_decls_sites, after_object as check_after_object, after_decl as check_after_decl, after_decls as check_after_decls, after_own_object as check_after_own_object, after_own as check_after_own, in_body as check_in_body, enclosing_unit, first_around, around_program, body_names, counted_sites, check_sites}
use Rattle.syn_event.specs.RuleReservedName.{is_reserved}
use Rattle.task_laws.specs.legal.sites.Met.{IsMet, IsCheckMet, IsAddressed}
use Rattle.task_laws.specs.legal.sites.Laws.{NamesAreDeclared}
use Rattle.task_laws.proofs.legal.sites.Meeting.{all_met, all_check_met}
use Rattle.task_laws.proofs.legal.sites.Around.{IsOther, OwnPart, OwnThing, OwnSeen, OwnWord, Around, means, name-both, names-both, name-one, names-one}
use Rattle.task_laws.proofs.legal.sites.NamedParts.{IsFit, Q, static-of-own, free-value-own, subind-own, drange-own, formals-own}
use Rattle.task_laws.proofs.legal.sites.NamedStmts.{declared-own, words-own, body-own}
use Rattle.common_lemmas.proofs.Lists.{all_back, all_front, not_empty}
use Rattle.common_lemmas.proofs.Options.{some_same}

module _ (Own : ℕ → Type 0) (first : (k : ℕ) → k < 25 → Own k) (texts : List (List ℕ)) (declared : (id : NameId) → is_reserved (text_of texts id) ≡ false → Own id.0) where
  abbrev R : Rules
  R = Q Own first

  abbrev M : CheckSite → Type 0
  M x = IsCheckMet Original texts x

  if-met : {A : Type 0} (f : A → List Site) (o : Option A) (P : A → Type 0) → ((x : A) → AllByRecursion IsFit (f x) → P x) → AllByRecursion IsFit (if_there f o) → IfSome o P
  if-met f (Some x) P g h = g x h
  if-met f None P g h = tt

  -- ---- marks

  abbrev OwnMarking : Marking → Type 0
  OwnMarking (TaskMark es) = AllByRecursion (OwnPart Own) es
  OwnMarking _ = Unit {0}

  kind-marking : (m k : ℕ) (o : Option Kind) → OwnMarking (marking_of_kind m k o)
  kind-marking m k (Some Integer) = tt
  kind-marking m k (Some Truth) = tt
  kind-marking m k (Some (Enumeration ids)) = tt
  kind-marking m k (Some (Array index f l part)) = tt
  kind-marking m k None = tt

  mark-marking : (T : TypeTable) (m : ℕ) (o : Option Mark) → OwnMarking (marking_of_mark T m o)
  mark-marking T m (Some x) = kind-marking m x.kind (kind_at T x.kind)
  mark-marking T m None = tt

  thing-marking : (T : TypeTable) (o : Option Thing) → ((thing : Thing) → o ≡ Some thing → OwnThing Own thing) → OwnMarking (marking_of T o)
  thing-marking T (Some (TypeMark m)) h = mark-marking T m (mark_at T m)
  thing-marking T (Some (TaskType es)) h = h (TaskType es) refl
  thing-marking T (Some (SingleTask es)) h = tt
  thing-marking T (Some (TaskObject es)) h = tt
  thing-marking T (Some (TaskArray r es)) h = tt
  thing-marking T (Some (Variable m)) h = tt
  thing-marking T (Some (ConstantObject m)) h = tt
  thing-marking T (Some (Parameter mode m)) h = tt
  thing-marking T (Some (LoopParameter m)) h = tt
  thing-marking T (Some (Literal k)) h = tt
  thing-marking T (Some AnException) h = tt
  thing-marking T (Some MainProcedure) h = tt
  thing-marking T (Some AnotherUnit) h = tt
  thing-marking T (Some Unclear) h = tt
  thing-marking T None h = tt

  own-marking : (s : Scope) (id : NameId) → AllByRecursion (OwnSeen Own) s.names → OwnMarking (marking s id)
  own-marking s id names = thing-marking s.types (meaning s id) (λ thing e. (means Own s id thing names e).1)

  -- ---- what is declared

  abbrev OwnOther : Thing → Type 0
  OwnOther thing = OwnThing Own thing × IsOther thing

  object-of : (constant : Bool) (o : Option ℕ) → OwnOther (object_meaning constant o)
  object-of true (Some m) = (tt, tt)
  object-of false (Some m) = (tt, tt)
  object-of true None = (tt, tt)
  object-of false None = (tt, tt)

  task-object : (in_main : Bool) (es : List EntryPart) → AllByRecursion (OwnPart Own) es → OwnOther (task_object in_main es)
  task-object true es h = (h, tt)
  task-object false es h = (tt, tt)

  task-row : (in_main : Bool) (o : Option Range) (es : List EntryPart) → AllByRecursion (OwnPart Own) es → OwnOther (task_array in_main o es)
  task-row true (Some r) es h = (h, tt)
  task-row true None es h = (tt, tt)
  task-row false (Some r) es h = (tt, tt)
  task-row false None es h = (tt, tt)

  plain-thing : (s : Scope) (constant : Bool) (m : Marking) (x : PSubind) → OwnMarking m → OwnOther (plain_object s constant m x).thing
  plain-thing s constant (TaskMark es) x h = task-object s.in_main es h
  plain-thing s constant (ArrayMark m r p) x h = object-of constant (Some m)
  plain-thing s constant (ScalarMark m k) x h = object-of constant _
  plain-thing s constant NoMark x h = object-of constant _
  plain-thing s constant UnknownMark x h = object-of constant _
  plain-thing s constant UnclearMark x h = object-of constant _

  row-thing : (s : Scope) (constant : Bool) (m : Marking) (index : PDrange) (x : PSubind) → OwnMarking m → OwnOther (array_object s constant m index x).thing
  row-thing s constant (TaskMark es) index x h = task-row s.in_main _ es h
  row-thing s constant (ArrayMark m r p) index x h = object-of constant _
  row-thing s constant (ScalarMark m k) index x h = object-of constant _
  row-thing s constant NoMark index x h = object-of constant _
  row-thing s constant UnknownMark index x h = object-of constant _
  row-thing s constant UnclearMark index x h = object-of constant _

  declared-thing : (s : Scope) (constant : Bool) (x : PShape) → AllByRecursion (OwnSeen Own) s.names → OwnOther (declared_object s constant x).thing
  declared-thing s constant (OPlain x) names = plain-thing s constant (marking s x.mark.name) x (own-marking s x.mark.name names)
  declared-thing s constant (OArray index x) names = row-thing s constant (marking s x.mark.name) index x (own-marking s x.mark.name names)

  typed : (T : TypeTable) (s : Scope) (a : CheckScope) → Around Own s a → Around Own (with_types T s) a
  typed T s a h = record { names = h.names; own = h.own; loops = h.loops; types = h.types; main = h.main }

  objects-around : (thing : Thing) (o : Option Meant) (mark : Word) (shared : Bool) (ws : List Word) (s : Scope) (a : CheckScope) → AllByRecursion (OwnWord Own) ws → OwnOther thing → Around Own s a → Around Own (with_names thing s ws) (with_object a o mark shared ws)
  objects-around thing (Some meant.TaskType) mark shared ws s a o t h = names-both Own thing _ ws s a o t.0 t.1 h
  objects-around thing (Some meant.MainProcedure) mark true ws s a o t h = names-both Own thing _ ws s a o t.0 t.1 h
  objects-around thing (Some (meant.TaskOf u)) mark true ws s a o t h = names-both Own thing _ ws s a o t.0 t.1 h
  objects-around thing (Some meant.Shared) mark true ws s a o t h = names-both Own thing _ ws s a o t.0 t.1 h
  objects-around thing (Some meant.Inner) mark true ws s a o t h = names-both Own thing _ ws s a o t.0 t.1 h
  objects-around thing None mark true ws s a o t h = names-both Own thing _ ws s a o t.0 t.1 h
  objects-around thing (Some meant.MainProcedure) mark false ws s a o t h = names-one Own thing ws s a o t.0 t.1 h
  objects-around thing (Some (meant.TaskOf u)) mark false ws s a o t h = names-one Own thing ws s a o t.0 t.1 h
  objects-around thing (Some meant.Shared) mark false ws s a o t h = names-one Own thing ws s a o t.0 t.1 h
  objects-around thing (Some meant.Inner) mark false ws s a o t h = names-one Own thing ws s a o t.0 t.1 h
  objects-around thing None mark false ws s a o t h = names-one Own thing ws s a o t.0 t.1 h

  -- ---- objects

  module _ (s : Scope) (names : AllByRecursion (OwnSeen Own) s.names) where
    value-own : (range : Option Range) (e : PExpr) → AllByRecursion IsFit (value_sites s range e) → EveryExpr R 2 e
    value-own range e h = static-of-own Own first s names 2 (option_map (λ r. r.kind) range) e (all_front IsFit (static_of s (option_map (λ r. r.kind) range) e) (site s (must_lie_in e range) ∷ []) h)

    values-list : (range : Option Range) (es : List PExpr) → AllByRecursion IsFit (flat_map (value_sites s range) es) → AllByRecursion (EveryExpr R 2) es
    values-list range [] h = tt
    values-list range (e ∷ es) h = (value-own range e (all_front IsFit (value_sites s range e) _ h), values-list range es (all_back IsFit (value_sites s range e) _ h))

    frees-list : (es : List PExpr) → AllByRecursion IsFit (flat_map (free_value_sites s) es) → AllByRecursion (EveryExpr R 2) es
    frees-list [] h = tt
    frees-list (e ∷ es) h = (free-value-own Own first s names 2 e (all_front IsFit (free_value_sites s e) _ h), frees-list es (all_back IsFit (free_value_sites s e) _ h))

    listed : (es : List PExpr) → AllByRecursion (EveryExpr R 2) es → All (EveryExpr R 2) es
    listed es h = All-from_recursion (EveryExpr R 2) es h

    any-init : (x : PInit) → AllByRecursion IsFit (all_init_sites s x) → EveryInit R x
    any-init (IOne e) h = free-value-own Own first s names 2 e h
    any-init (IList es sp) h = (tt, listed es (frees-list es h))
    any-init (IOthers e sp) h = free-value-own Own first s names 2 e h

    array-init : (part : Option Range) (x : PInit) → AllByRecursion IsFit (array_init_sites s part x) → EveryInit R x
    array-init part (IOne e) h = free-value-own Own first s names 2 e h
    array-init part (IList es sp) h = (tt, listed es (values-list part es h))
    array-init part (IOthers e sp) h = value-own part e h

    scalar-init : (range : Option Range) (x : PInit) → AllByRecursion IsFit (scalar_init_sites s range x) → EveryInit R x
    scalar-init range (IOne e) h = value-own range e h
    scalar-init range (IList es sp) h = (tt, listed es (frees-list es h))
    scalar-init range (IOthers e sp) h = free-value-own Own first s names 2 e h

    init-own : (T : TypeTable) (m : Marking) (x : PInit) → AllByRecursion IsFit (init_sites s T m x) → EveryInit R x
    init-own T (ScalarMark m k) x h = scalar-init (range_of_mark T m) x (all_front IsFit (scalar_init_sites s (range_of_mark T m) x) (site s (initializes for_scalar x) ∷ []) h)
    init-own T (ArrayMark m r p) x h = array-init (range_of_mark T p) x (all_front IsFit (array_init_sites s (range_of_mark T p) x) (site s (initializes (for_array r) x) ∷ []) h)
    init-own T (TaskMark es) x h = any-init x h
    init-own T NoMark x h = any-init x h
    init-own T UnknownMark x h = any-init x h
    init-own T UnclearMark x h = any-init x h

    shape-own : (constant : Bool) (x : PShape) (init : Option PInit) → AllByRecursion IsFit (shape_sites s constant x init) → EveryShape R x
    shape-own constant (OPlain x) init h = subind-own Own first s names true _ 2 x h
    shape-own constant (OArray index x) init h =
        let marks = subind_sites true (component_marks (may_be_task s constant x.bounds init)) s x in
        (drange-own Own first s names true 2 index (all_front IsFit (drange_sites true s index) marks h), subind-own Own first s names true _ 2 x (all_back IsFit (drange_sites true s index) marks h))

  object-words : (ws : List Word) (x : PShape) (init : Option PInit) (a : CheckScope) → AllByRecursion M (check_object_sites a ws x init) → AllByRecursion (OwnWord Own) ws
  object-words ws x init a m =
      words-own Own first texts declared a ws
      (all_front M (check_names_sites a ws) (check_shape_sites a x)
      (all_front M (check_names_sites a ws ++ check_shape_sites a x) (check_if_there (check_init_sites a) init) m))

  object-own : (ws : List Word) (constant : Bool) (x : PShape) (init : Option PInit) (sp : Span) (s : Scope) (a : CheckScope) → Around Own s a →
      AllByRecursion IsFit (object_sites s ws constant x init (declared_object s constant x)) → AllByRecursion (OwnWord Own) ws → EveryDecl R (DObject ws constant x init sp)
  object-own ws constant x init sp s a r h o =
      let d = declared_object s constant x in
      let named = names_sites (s.in_main && (constant || is_task_object d.thing)) s ws in
      let value = if_there (init_sites s d.types (object_marking d)) init in (
        tt,
        (tt, All-from_recursion (EveryWord R) ws o),
        shape-own s r.names constant x init (all_back IsFit named (shape_sites s constant x init) (all_front IsFit (named ++ shape_sites s constant x init) value h)),
        tt,
        if-met (init_sites s d.types (object_marking d)) init (EveryInit R) (init-own s r.names d.types (object_marking d)) (all_back IsFit (named ++ shape_sites s constant x init) value h),
      )

  -- ---- the objects of a body

  own-objects : (ds : PDecls) (s : Scope) (a : CheckScope) → AreObjects ds → Around Own s a → AllByRecursion IsFit (own_sites s ds) → AllByRecursion M (check_own_sites a ds) →
      EveryDecls R ds × Around Own (after_objects s ds) (check_after_own a ds)
  own-objects no_decl s a o r h m = (tt, r)
  own-objects (decl_then (DObject ws c x i sp) rest) s a o r h m =
      let d = DObject ws c x i sp in
      let words = object-words ws x i a (all_front M (check_object_sites a ws x i) (check_own_sites (check_after_own_object a d) rest) m) in
      let t = declared-thing s c x r.names in
      let more = own-objects rest (after_own_object s d) (check_after_own_object a d) o (names-both Own _ meant.Inner ws _ a words t.0 t.1 (typed _ s a r))
      (all_back IsFit (own_object_sites s d) (own_sites (after_own_object s d) rest) h) (all_back M (check_object_sites a ws x i) (check_own_sites (check_after_own_object a d) rest) m) in
      ((object-own ws c x i sp s a r (all_front IsFit (own_object_sites s d) (own_sites (after_own_object s d) rest) h) words, more.0), more.1)
  own-objects (decl_then (DNumber w e sp) rest) s a o r h m = absurd o
  own-objects (decl_then (DEnumeration w ws sp) rest) s a o r h m = absurd o
  own-objects (decl_then (DArray w i x sp) rest) s a o r h m = absurd o
  own-objects (decl_then (DSubtype w x sp) rest) s a o r h m = absurd o
  own-objects (decl_then (DException ws sp) rest) s a o r h m = absurd o
  own-objects (decl_then (DIntIo w sp) rest) s a o r h m = absurd o
  own-objects (decl_then (DPragma e sp) rest) s a o r h m = absurd o
  own-objects (decl_then (DTask t sp) rest) s a o r h m = absurd o
  own-objects (decl_then (DTaskBody w ds b sp) rest) s a o r h m = absurd o

  -- ---- tasks

  entries-named : (a : CheckScope) (es : List PEntry) → AllByRecursion M (flat_map (check_entry_sites a) es) → AllByRecursion (λ (e : PEntry). Own e.name.name.0) es
  entries-named a [] m = tt
  entries-named a (e ∷ es) m = (declared-own Own first texts declared a e.name (all_front M (check_entry_sites a e) _ m).0, entries-named a es (all_back M (check_entry_sites a e) _ m))

  parts-named : (s : Scope) (es : List PEntry) → AllByRecursion (λ (e : PEntry). Own e.name.name.0) es → AllByRecursion (OwnPart Own) (map (entry_part s) es)
  parts-named s [] h = tt
  parts-named s (e ∷ es) h = (h.0, parts-named s es h.1)

  entry-own : (e : PEntry) (before : List ℕ) (s : Scope) (a : CheckScope) → Around Own s a → AllByRecursion IsFit (entry_sites s before e) → AllByRecursion M (check_entry_sites a e) → EveryEntry R e
  entry-own e before s a r h m =
      let front = site s (declares_entry before e.name) ∷ if_there (drange_sites true s) e.family in
      let one = check_site a (declares e.name) ∷ check_if_there (family_sites a) e.family in
      let two = check_names_sites a (formal_names e.formals) in
      let three = numbered a Formals 0 (map (λ w. w.span) (formal_names e.formals)) in (
        tt,
        declared-own Own first texts declared a e.name m.0,
        if-met (drange_sites true s) e.family (EveryDrange R 2) (drange-own Own first s r.names true 2) (all_front IsFit front (formals_sites s e.formals) h).1,
        formals-own Own first s r.names e.formals (words-own Own first texts declared a (formal_names e.formals) (all_back M one two (all_front M (one ++ two) three m)))
            (all_back IsFit (names_sites false (inner_scope s) (all_names e.formals)) (formal_mark_sites s e.formals) (all_back IsFit front (formals_sites s e.formals) h)),
      )

  entries-list : (es : List PEntry) (before : List ℕ) (s : Scope) (a : CheckScope) → Around Own s a → AllByRecursion IsFit (entries_sites s before es) → AllByRecursion M (flat_map (check_entry_sites a) es) → AllByRecursion (EveryEntry R) es
  entries-list [] before s a r h m = tt
  entries-list (e ∷ es) before s a r h m = (
    entry-own e before s a r (all_front IsFit (entry_sites s before e) _ h) (all_front M (check_entry_sites a e) _ m),
    entries-list es (e.name.name.0 ∷ before) s a r (all_back IsFit (entry_sites s before e) _ h) (all_back M (check_entry_sites a e) _ m),
  )

  priorities-list : (ps : List PPriority) (s : Scope) → AllByRecursion (OwnSeen Own) s.names → AllByRecursion IsFit (flat_map (λ p. static_of s (Some integer_kind) p.value) ps) → AllByRecursion (EveryPriority R) ps
  priorities-list [] s names h = tt
  priorities-list (p ∷ ps) s names h = (
    (tt, static-of-own Own first s names 2 (Some integer_kind) p.value (all_front IsFit (static_of s (Some integer_kind) p.value) _ h)),
    priorities-list ps s names (all_back IsFit (static_of s (Some integer_kind) p.value) _ h),
  )

  task-own : (t : PTask) (bodies : List ℕ) (sp : Span) (s : Scope) (a : CheckScope) → Around Own s a → AllByRecursion IsFit (task_sites s t) → AllByRecursion M (check_task_sites a bodies t sp) →
      EveryTask R t × (Own t.name.name.0 × AllByRecursion (λ (e : PEntry). Own e.name.name.0) t.entries)
  task-own t bodies sp s a r h m =
      let one = names_sites true s (t.name ∷ []) in
      let two = entries_sites s [] t.entries in
      let three = flat_map (λ (p : PPriority). static_of s (Some integer_kind) p.value) t.priorities in
      let lower = all_front IsFit (one ++ two) three h in
      let front = check_site a (needs_body bodies t.name sp) ∷ check_site a (declares t.name) ∷ [] in
      let entries = flat_map (check_entry_sites a) t.entries in
      let checked = (all_front M (front ++ entries) (flat_map (λ (p : PPriority). check_expr_sites a 2 p.value) t.priorities) m).1.1 in
      let name = declared-own Own first texts declared a t.name m.1.0 in (
        (
          name,
          All-from_recursion (EveryEntry R) t.entries (entries-list t.entries [] s a r (all_back IsFit one two lower) checked),
          All-from_recursion (EveryPriority R) t.priorities (priorities-list t.priorities s r.names (all_back IsFit (one ++ two) three h)),
          tt,
        ),
        (name, entries-named a t.entries checked),
      )

  abbrev NotMain : Thing → Type 0
  NotMain MainProcedure = ⊥
  NotMain _ = Unit {0}

  task-around : (b : Bool) (es : List EntryPart) (w : Word) (n : NameId) (s : Scope) (a : CheckScope) → Own w.name.0 → AllByRecursion (OwnPart Own) es → Around Own s a →
      Around Own (with_name (task_thing b es) s w) (record a { names = (w.name.0, if b then meant.TaskType else meant.TaskOf n) ∷ a.names })
  task-around true es w n s a o p h = record { names = ((o, p), h.names); own = h.own; loops = h.loops; types = λ id fs e. types id fs (w.name.0 == id.0) e; main = λ id e. main id (w.name.0 == id.0) e }
    where
      types : (id : NameId) (fs : List EntryPart) (b : Bool) → option_map (λ (x : NameMeaning). x.thing) (if b then Some (seen_as (TaskType es) w.name.0) else find (λ x. x.name == id.0) s.names) ≡ Some (TaskType fs) →
          option_map (λ (y : ℕ × Meant). y.1) (if b then Some (w.name.0, meant.TaskType) else find (λ y. y.0 == id.0) a.names) ≡ Some meant.TaskType
      types id fs true e = refl
      types id fs false e = h.types id fs e

      main : (id : NameId) (b : Bool) → option_map (λ (x : NameMeaning). x.thing) (if b then Some (seen_as (TaskType es) w.name.0) else find (λ x. x.name == id.0) s.names) ≡ Some MainProcedure →
          option_map (λ (y : ℕ × Meant). y.1) (if b then Some (w.name.0, meant.TaskType) else find (λ y. y.0 == id.0) a.names) ≡ Some meant.MainProcedure
      main id true e = absurd (subst NotMain (some_same e) tt)
      main id false e = h.main id e
  task-around false es w n s a o p h = name-both Own (SingleTask es) (meant.TaskOf n) w s a o p tt h

  -- ---- declarations

  type-mark : (o : Option ℕ) → OwnOther (type_of_mark o)
  type-mark (Some m) = (tt, tt)
  type-mark None = (tt, tt)

  -- the entries of a task whose body it is
  body-entries : (s : Scope) (id : NameId) (o : Option Thing) → AllByRecursion (OwnSeen Own) s.names → meaning s id ≡ o → AllByRecursion (OwnPart Own) (own_entries o)
  body-entries s id None names e = tt
  body-entries s id (Some thing) names e = (means Own s id thing names e).1

  body-name : (s : Scope) (w : Word) (o : Option Thing) → AllByRecursion (OwnSeen Own) s.names → meaning s w.name ≡ o → no_body_of o w ≡ [] → Own w.name.0
  body-name s w None names e n = absurd (not_empty _ _ n)
  body-name s w (Some thing) names e n = (means Own s w.name thing names e).0

  decl-own : (d : PDecl) (bodies : List ℕ) (s : Scope) (a : CheckScope) → EveryDecl (well_placed texts) d → Around Own s a → AllByRecursion IsFit (decl_sites s d) → AllByRecursion M (check_decl_sites a bodies d) →
      EveryDecl R d × Around Own (after_decl s d) (check_after_decl a d)
  decl-own (DNumber w e sp) bodies s a p r h m =
      let o = declared-own Own first texts declared a w m.0 in
      ((tt, o, static-of-own Own first s r.names 2 (Some integer_kind) e h.1), name-one Own (ConstantObject 0) w _ a o tt tt (typed _ s a r))
  decl-own (DObject ws c x i sp) bodies s a p r h m =
      let o = object-words ws x i a m in
      (object-own ws c x i sp s a r h o, object-after x)
    where
      object-after : (y : PShape) → Around Own (with_names (declared_object s c y).thing (with_types (with_constants s ws i (declared_object s c y)) s) ws) (check_after_object a ws c y)
      object-after (OPlain y) = objects-around _ _ y.mark _ ws _ a (object-words ws x i a m) (declared-thing s c (OPlain y) r.names) (typed _ s a r)
      object-after (OArray q y) = objects-around _ _ y.mark _ ws _ a (object-words ws x i a m) (declared-thing s c (OArray q y) r.names) (typed _ s a r)
  decl-own (DEnumeration w ws sp) bodies s a p r h m =
      let o = words-own Own first texts declared a (w ∷ ws) m in
      ((tt, o.0, (tt, All-from_recursion (EveryWord R) ws o.1)), names-one Own _ ws _ a o.1 tt tt (name-one Own _ w _ a o.0 tt tt (typed _ s a r)))
  decl-own (DArray w i x sp) bodies s a p r h m =
      let o = declared-own Own first texts declared a w m.0 in
      let t = type-mark _ in (
        (
          tt,
          o,
          drange-own Own first s r.names true 2 i (all_front IsFit (drange_sites true s i) (subind_sites true scalar_only s x) h.1),
          subind-own Own first s r.names true scalar_only 2 x (all_back IsFit (drange_sites true s i) (subind_sites true scalar_only s x) h.1),
        ),
        name-one Own _ w _ a o t.0 t.1 (typed _ s a r),
      )
  decl-own (DSubtype w x sp) bodies s a p r h m =
      let o = declared-own Own first texts declared a w m.0 in
      let t = type-mark _ in
      ((tt, o, subind-own Own first s r.names true scalar_only 2 x h.1), name-one Own _ w _ a o t.0 t.1 (typed _ s a r))
  decl-own (DException ws sp) bodies s a p r h m =
      let o = words-own Own first texts declared a ws m in
      ((tt, (tt, All-from_recursion (EveryWord R) ws o)), names-one Own AnException ws s a o tt tt r)
  decl-own (DIntIo w sp) bodies s a p r h m =
      let o = declared-own Own first texts declared a w m.0 in
      let n = name-one Own AnotherUnit w s a o tt tt r in
      ((tt, o), record { names = n.names; own = n.own; loops = n.loops; types = n.types; main = n.main })
  decl-own (DPragma e sp) bodies s a p r h m = ((tt, static-of-own Own first s r.names 2 (Some integer_kind) e h), r)
  decl-own (DTask t sp) bodies s a p r h m =
      let k = task-own t bodies sp s a r h m in (
        (tt, k.0),
        task-around t.of_kind _ t.name t.name.name s (record a { units = enclosing_unit t ∷ a.units }) k.1.0 (parts-named s t.entries k.1.1)
            record { names = r.names; own = r.own; loops = r.loops; types = r.types; main = r.main },
      )
  decl-own (DTaskBody w ds b sp) bodies s a p r h m =
      let inner = in_body s w in
      let check = check_in_body a w in
      let around : Around Own inner check = record { names = r.names; own = body-entries s w.name (meaning s w.name) r.names refl; loops = r.loops; types = r.types; main = r.main } in
      let objects = own-objects ds inner check p.2 around (all_front IsFit (own_sites inner ds) (body_sites (inner_scope (after_objects inner ds)) b) h.1)
      (all_front M (check_own_sites check ds) (check_body_sites (check_after_own check ds) 1 b) m) in (
        (
          tt,
          body-name s w (meaning s w.name) r.names refl h.0.met.known,
          tt,
          objects.0,
          body-own Own first texts declared b (inner_scope (after_objects inner ds)) (check_after_own check ds) 1 1
              record { names = objects.1.names; own = objects.1.own; loops = objects.1.loops; types = objects.1.types; main = objects.1.main }
              (all_back IsFit (own_sites inner ds) (body_sites (inner_scope (after_objects inner ds)) b) h.1)
              (all_back M (check_own_sites check ds) (check_body_sites (check_after_own check ds) 1 b) m),
        ),
        record { names = r.names; own = r.own; loops = r.loops; types = r.types; main = r.main },
      )

  decls-own : (ds : PDecls) (bodies : List ℕ) (s : Scope) (a : CheckScope) → EveryDecls (well_placed texts) ds → Around Own s a → AllByRecursion IsFit (decls_sites s ds) → AllByRecursion M (check_decls_sites a bodies ds) →
      EveryDecls R ds × Around Own (after_decls s ds) (check_after_decls a ds)
  decls-own no_decl bodies s a p r h m = (tt, r)
  decls-own (decl_then d rest) bodies s a p r h m =
      let one = decl-own d bodies s a p.0 r (all_front IsFit (decl_sites s d) (decls_sites (after_decl s d) rest) h) (all_front M (check_decl_sites a bodies d) (check_decls_sites (check_after_decl a d) bodies rest) m) in
      let more = decls-own rest bodies (after_decl s d) (check_after_decl a d) p.1 one.1 (all_back IsFit (decl_sites s d) (decls_sites (after_decl s d) rest) h)
      (all_back M (check_decl_sites a bodies d) (check_decls_sites (check_after_decl a d) bodies rest) m) in
      ((one.0, more.0), more.1)

  -- ---- the whole

  predefined-own : AllByRecursion (OwnSeen Own) predefined_names
  predefined-own = (
    (first 0 (omega arith), tt),
    (
      (first 1 (omega arith), tt),
      (
        (first 2 (omega arith), tt),
        (
          (first 3 (omega arith), tt),
          (
            (first 4 (omega arith), tt),
            (
              (first 5 (omega arith), tt),
              (
                (first 6 (omega arith), tt),
                (
                  (first 7 (omega arith), tt),
                  (
                    (first 8 (omega arith), tt),
                    (
                      (first 9 (omega arith), tt),
                      (
                        (first 10 (omega arith), tt),
                        (
                          (first 11 (omega arith), tt),
                          (
                            (first 12 (omega arith), tt),
                            (
                              (first 13 (omega arith), tt),
                              (
                                (first 14 (omega arith), tt),
                                ((first 15 (omega arith), tt), ((first 16 (omega arith), tt), ((first 17 (omega arith), tt), tt))),
                              ),
                            ),
                          ),
                        ),
                      ),
                    ),
                  ),
                ),
              ),
            ),
          ),
        ),
      ),
    ),
  )

  others : (xs : List NameMeaning) (id : NameId) (thing : Thing) → AllByRecursion (λ (x : NameMeaning). IsOther x.thing) xs → option_map (λ (x : NameMeaning). x.thing) (find (λ x. x.name == id.0) xs) ≡ Some thing → IsOther thing
  others [] id thing h e = absurd (none-some thing e)
  others (x ∷ xs) id thing h e = by_test (x.name == id.0) e (others xs id thing h.1)
    where
      by_test : (b : Bool) → option_map (λ (y : NameMeaning). y.thing) (if b then Some x else find (λ y. y.name == id.0) xs) ≡ Some thing → (option_map (λ (y : NameMeaning). y.thing) (find (λ y. y.name == id.0) xs) ≡ Some thing → IsOther thing) → IsOther thing
      by_test true f rest = subst IsOther (some_same f) h.0
      by_test false f rest = rest f

  predefined-others : AllByRecursion (λ (x : NameMeaning). IsOther x.thing) predefined_names
  predefined-others = (tt, (tt, (tt, (tt, (tt, (tt, (tt, (tt, (tt, (tt, (tt, (tt, (tt, (tt, (tt, (tt, (tt, (tt, tt))))))))))))))))))

  first-around : (T : TypeTable) (w : Word) → Own w.name.0 → Around Own (first_scope w) (first_around T w)
  first-around T w o = record {
    names = ((o, tt), predefined-own);
    own = tt;
    loops = tt;
    types = λ id es e. types id es (w.name.0 == id.0) e;
    main = λ id e. main id (w.name.0 == id.0) e;
  }
    where
      types : (id : NameId) (es : List EntryPart) (b : Bool) → option_map (λ (x : NameMeaning). x.thing) (if b then Some (seen_as MainProcedure w.name.0) else find (λ x. x.name == id.0) predefined_names) ≡ Some (TaskType es) →
          option_map (λ (y : ℕ × Meant). y.1) (if b then Some (w.name.0, meant.MainProcedure) else None) ≡ Some meant.TaskType
      types id es true e = absurd (subst NotMain (sym (some_same e)) tt)
      types id es false e = absurd (others predefined_names id (TaskType es) predefined-others e)

      main : (id : NameId) (b : Bool) → option_map (λ (x : NameMeaning). x.thing) (if b then Some (seen_as MainProcedure w.name.0) else find (λ x. x.name == id.0) predefined_names) ≡ Some MainProcedure →
          option_map (λ (y : ℕ × Meant). y.1) (if b then Some (w.name.0, meant.MainProcedure) else None) ≡ Some meant.MainProcedure
      main id true e = refl
      main id false e = absurd (others predefined_names id MainProcedure predefined-others e)

  both : (xs : List Site) → AllByRecursion IsMet xs → AllByRecursion (λ x. IsAddressed x.scope x.demand) xs → AllByRecursion IsFit xs
  both [] h k = tt
  both (x ∷ xs) h k = (record { met = h.0; clear = k.0 }, both xs h.1 k.1)

  whole : (p : PProgram) → p.names ≡ texts → MeetsTypeRules p → MeetsCheckRules p Original → IsWellPlaced p → AllByRecursion (λ x. IsAddressed x.scope x.demand) (sites p) → EveryProgram R p
  whole p same types checks placed clear =
      let a = around_program p in
      let s = first_scope p.name in
      let one = decls_sites s p.decls in
      let two = body_sites (inner_scope (after_decls s p.decls)) p.body in
      let fit = both (sites p) (all_met p types) clear in
      let front = check_site a (declares p.name) ∷ check_decls_sites a (body_names p.decls) p.decls in
      let main = check_body_sites (check_after_decls a p.decls) 1 p.body in
      let checked : AllByRecursion M (check_sites p) = subst (λ ts. AllByRecursion (IsCheckMet Original ts) (check_sites p)) same (all_check_met p Original checks) in
      let lower = all_front M (front ++ main) (counted_sites a p) checked in
      let name = declared-own Own first texts declared a p.name lower.0 in
      let ds = decls-own p.decls (body_names p.decls) s a (subst (λ ts. EveryDecls (well_placed ts) p.decls) same placed.2) (first-around (types_in p) p.name name)
      (all_front IsFit one two fit.1) (all_front M front main lower).1 in (
        name,
        tt,
        ds.0,
        body-own Own first texts declared p.body (inner_scope (after_decls s p.decls)) (check_after_decls a p.decls) 1 1
            record { names = ds.1.names; own = ds.1.own; loops = ds.1.loops; types = ds.1.types; main = ds.1.main }
            (all_back IsFit one two fit.1) (all_back M front main lower),
      )

-- What holds of the predefined names and of each name that is not reserved holds of each name in a legal program.
pub all_are_named : NamesAreDeclared
all_are_named p types checks placed clear own first declared = whole (λ n. own n ≡ true) first p.names declared p refl types checks placed clear
