-- The tasks that a place of main can see are those of the numbers: each name that means a task stands for one part of the program, with the entries
-- that its task or task type declares.
use Rattle.std.proofs.Common.{◌≡◌, ℕ, Bool, true, false, ◌==◌, ◌||◌, if◌then◌else◌, List, [], ◌∷◌, ◌++◌, length, map, option_map, find, Option, Some, None, refl, sym, ap, ◌∙◌, subst, true≢false, ◌⊎◌, inl, inr, ⊎_elim}
use Rattle.std.specs.Prelude.{int_le}
use Rattle.std.specs.List.{AllByRecursion}
use Rattle.std.proofs.lemmas.Option.{none-some}
use Rattle.std.proofs.lemmas.Bool.{or_left, or_right, or_parts, or_cases, eq-eqb, eqb-true, eqb-false, ne_eqb}
use Rattle.std.proofs.lemmas.List.{append_assoc}
use Rattle.ada_tree.specs.declared.naming.NameId.{NameId}
use Rattle.ada_tree.specs.declared.naming.Span.{Span}
use Rattle.ada_tree.specs.declared.naming.Word.{Word}
use Rattle.ada_tree.specs.TypeTable.{TypeTable}
use Rattle.ada_tree.specs.PlainExpr.{PDrange}
use Rattle.ada_tree.specs.PlainDecl.{PShape, OPlain, OArray, PInit, PEntry, PTask, PDecl, DNumber, DObject, DEnumeration, DArray, DSubtype, DException, DIntIo, DPragma, DTask, DTaskBody, PDecls, no_decl, decl_then}
use Rattle.ada_tree.specs.PlainProgram.{PProgram}
use Rattle.ada_static_rules.specs.Scope.{Scope, Thing, TypeMark, TaskType, SingleTask, TaskObject, TaskArray, Variable, ConstantObject, Parameter, LoopParameter, Literal, AnException, MainProcedure, AnotherUnit, Unclear, EntryPart, Range, meaning}
use Rattle.ada_static_rules.specs.RuleDuplicate.{is_predefined, is_among}
use Rattle.ada_static_rules.specs.Declaring.{with_name, with_names, with_types, entry_part, task_thing, drange_range, declared_object, with_constants, after_decl, type_of_mark}
use Rattle.syn_event.specs.declared.meanings.Meant.{Meant}
use Rattle.syn_event.specs.declared.meanings.Meant.TheVariants as meant
use Rattle.syn_event.specs.CheckScope.{CheckScope}
use Rattle.syn_event.specs.CheckScope as check
use Rattle.syn_event.specs.CheckSites as sites
use Rattle.syn_event.specs.Extents.{extent}
use Rattle.syn_event.specs.DeclaredTasks.{tasks_of, tasks_in, decl_list}
use Rattle.syn_event.specs.NamedTasks.{NamedTasks, named_tasks, type_named, task_names_of_type, object_task_names, with_type, single_task_name, task_names_in, task_names_of}
use Rattle.task_model.specs.Setting.{unit_named}
use Rattle.task_laws.specs.legal.rewritten_types.Rewriting.{names_declared, IsUsed, IsUnused}
use Rattle.task_laws.proofs.legal.rewritten_types.Lookups.{find-all}
use Rattle.task_laws.proofs.legal.rewritten_types.Fresh.{InHere, here-decl, other, used-more}
use Rattle.normal_laws.proofs.structure.entries.Lists.{find-behind, find-mapped}
use Rattle.normal_laws.proofs.existence.seen_tasks.Scopes.{has_id, is_one_of, names-all, meant-out, meant-in, meant-own, IsNoTask, ObjectThing, no_task_object, one_object, array_of_objects, object-thing, task-type-seen}
use Rattle.common_lemmas.proofs.Lists.{all_joined, all_weaker, find_front, found_none}
use Rattle.common_lemmas.proofs.Options.{some_same}
use Rattle.syn_event.proofs.CheckScopes.{meant_units}

-- ---- ranges

-- A range that a declaration has: what the declaration's scope says of it is its extent in the types of the whole program, and it is not empty.
pub record IsExtent (T : TypeTable) (r : PDrange) (range : Range) : Type 0 where
  pub extent : extent T r ≡ Some record { first = range.first; last = range.last }
  pub nonempty : int_le range.first range.last ≡ true

-- the range is known at the declaration
pub record IsRanged (T : TypeTable) (s : Scope) (r : PDrange) : Type 0 where
  pub range : Range
  pub known : drange_range s r ≡ Some range
  pub is : IsExtent T r range

abbrev pub FamilyRanged : TypeTable → Scope → Option PDrange → Type 0
FamilyRanged T s (Some r) = IsRanged T s r
FamilyRanged T s None = Unit {0}

abbrev pub EntryRanged : TypeTable → Scope → PEntry → Type 0
EntryRanged T s e = FamilyRanged T s e.family

abbrev pub DeclRanged : TypeTable → Scope → PDecl → Type 0
DeclRanged T s (DTask t sp) = AllByRecursion (EntryRanged T s) t.entries
DeclRanged T s (DObject names constant (OArray r x) init sp) = IsRanged T s r
DeclRanged T s _ = Unit {0}

-- so it is with the ranges of all families and of all arrays of tasks
abbrev pub AreRanged : TypeTable → Scope → PDecls → Type 0
AreRanged T s no_decl = Unit {0}
AreRanged T s (decl_then d rest) = DeclRanged T s d × AreRanged T (after_decl s d) rest

-- ---- what is known of a name

abbrev pub is_called : NameId → NamedTasks → Bool
is_called id x = x.name.name.0 == id.0

abbrev pub unit_is : NameId → check.EnclosingUnit → Bool
unit_is id u = u.name.0 == id.0

-- at most one passes
abbrev pub AtMostOnce : {A : Type 0} → (A → Bool) → List A → Type 0
AtMostOnce q [] = Unit {0}
AtMostOnce q (x ∷ xs) = (q x ≡ true → find q xs ≡ None) × AtMostOnce q xs

-- the names of one declaration differ
abbrev pub AllApart : List Word → Type 0
AllApart [] = Unit {0}
AllApart (w ∷ ws) = (is_one_of ws w.name ≡ false) × AllApart ws

abbrev pub NamesApart : PDecl → Type 0
NamesApart (DObject names constant shape init sp) = AllApart names
NamesApart _ = Unit {0}

-- so it is with all objects of main
abbrev pub ObjectsApart : PDecls → Type 0
ObjectsApart no_decl = Unit {0}
ObjectsApart (decl_then d rest) = NamesApart d × ObjectsApart rest

pub once-joined : {A : Type 0} (q : A → Bool) (xs ys : List A) → AtMostOnce q xs → AtMostOnce q ys → (find q xs ≡ None) ⊎ (find q ys ≡ None) → AtMostOnce q (xs ++ ys)
once-joined q [] ys h k apart = k
once-joined q (x ∷ xs) ys h k apart = (
  λ e. find-behind q xs ys (h.0 e) ∙ ⊎_elim (λ n. absurd (here-none q x xs e n)) (λ n. n) apart,
  once-joined q xs ys h.1 k (⊎_elim (λ n. inl (there-none q x xs n)) (λ n. inr n) apart),
)
  where
    here-none : {A : Type 0} (q : A → Bool) (x : A) (xs : List A) → q x ≡ true → find q (x ∷ xs) ≡ None → ⊥
    here-none q x xs e n = none-some x (sym n ∙ ap (λ b. if b then Some x else find q xs) e)

    there-none : {A : Type 0} (q : A → Bool) (x : A) (xs : List A) → find q (x ∷ xs) ≡ None → find q xs ≡ None
    there-none q x xs n = by_test (q x) n
      where
        by_test : (b : Bool) → (if b then Some x else find q xs) ≡ None → find q xs ≡ None
        by_test true f = absurd (none-some x (sym f))
        by_test false f = f

module _ (p : PProgram) (T : TypeTable) where
  -- a task or task type that is found by its name
  abbrev pub IsUnit : PTask → Type 0
  IsUnit t = unit_named p t.name.name ≡ Some t

  -- the entries of a task or task type, as its declaration's scope says them
  pub record IsUnitOf (t : PTask) (es : List EntryPart) : Type 0 where
    pub around : Scope
    pub entries : es ≡ map (entry_part around) t.entries
    pub ranged : AllByRecursion (EntryRanged T around) t.entries
    pub unit : IsUnit t

  -- a name stands for a part of the program
  pub record Stands (done : List NamedTasks) (id : NameId) (its : Option PDrange) (es : List EntryPart) : Type 0 where
    pub part : NamedTasks
    pub found : find (is_called id) done ≡ Some part
    pub index_range : part.index_range ≡ its
    pub own : IsUnitOf part.unit es

  -- a name is that of a task or task type, which the other rules know too
  pub record IsDeclared (units : List check.EnclosingUnit) (id : NameId) (es : List EntryPart) : Type 0 where
    pub task : PTask
    pub named : task.name.name.0 ≡ id.0
    pub own : IsUnitOf task es
    pub unit : find (unit_is id) units ≡ Some (sites.enclosing_unit task)

  pub record IsTaskArray (done : List NamedTasks) (id : NameId) (known : Range) (es : List EntryPart) : Type 0 where
    pub range : PDrange
    pub stands : Stands done id (Some range) es
    pub extent : IsExtent T range known

  abbrev pub Means : List NamedTasks → List PTask → List check.EnclosingUnit → NameId → Thing → Type 0
  Means done kinds units id (SingleTask es) = Stands done id None es × IsDeclared units id es
  Means done kinds units id (TaskObject es) = Stands done id None es
  Means done kinds units id (TaskArray range es) = IsTaskArray done id range es
  Means done kinds units id (TaskType es) = (d : IsDeclared units id es) × (type_named kinds id ≡ Some d.task)
  Means done kinds units id _ = Unit {0}

  -- what the other rules say that a name means
  abbrev pub IsPair : Option Meant → Thing → Type 0
  IsPair o MainProcedure = o ≡ Some meant.MainProcedure
  IsPair o (TaskType es) = o ≡ Some meant.TaskType
  IsPair o _ = Unit {0}

  pub no-task-means : (done : List NamedTasks) (kinds : List PTask) (units : List check.EnclosingUnit) (id : NameId) (th : Thing) → IsNoTask th → Means done kinds units id th
  no-task-means done kinds units id (TypeMark m) h = tt
  no-task-means done kinds units id (Variable m) h = tt
  no-task-means done kinds units id (ConstantObject m) h = tt
  no-task-means done kinds units id (Parameter mode m) h = tt
  no-task-means done kinds units id (LoopParameter m) h = tt
  no-task-means done kinds units id (Literal k) h = tt
  no-task-means done kinds units id AnException h = tt
  no-task-means done kinds units id AnotherUnit h = tt
  no-task-means done kinds units id Unclear h = tt
  no-task-means done kinds units id (TaskType es) h = absurd h
  no-task-means done kinds units id (SingleTask es) h = absurd h
  no-task-means done kinds units id (TaskObject es) h = absurd h
  no-task-means done kinds units id (TaskArray range es) h = absurd h
  no-task-means done kinds units id MainProcedure h = absurd h

  pub no-task-pair : (o : Option Meant) (th : Thing) → IsNoTask th → IsPair o th
  no-task-pair o (TypeMark m) h = tt
  no-task-pair o (Variable m) h = tt
  no-task-pair o (ConstantObject m) h = tt
  no-task-pair o (Parameter mode m) h = tt
  no-task-pair o (LoopParameter m) h = tt
  no-task-pair o (Literal k) h = tt
  no-task-pair o AnException h = tt
  no-task-pair o AnotherUnit h = tt
  no-task-pair o Unclear h = tt
  no-task-pair o (TaskType es) h = absurd h
  no-task-pair o (SingleTask es) h = absurd h
  no-task-pair o (TaskObject es) h = absurd h
  no-task-pair o (TaskArray range es) h = absurd h
  no-task-pair o MainProcedure h = absurd h

  -- ---- what is known of a place of main, before some declarations

  pub record MainSeen (kinds : List PTask) (ds : PDecls) (s : Scope) (c : CheckScope) : Type 0 where
    -- the parts so far, and the tasks
    pub done : List NamedTasks
    pub parts : task_names_of p ≡ done ++ task_names_in kinds ds
    pub parts_used : AllByRecursion (λ (x : NamedTasks). IsUsed s x.name.name) done
    pub parts_units : AllByRecursion (λ (x : NamedTasks). IsUnit x.unit) done
    pub types_units : AllByRecursion IsUnit kinds
    pub before : List PTask
    pub tasks : tasks_of p ≡ before ++ tasks_in (decl_list ds)
    pub tasks_used : AllByRecursion (λ (t : PTask). IsUsed s t.name.name) before
    pub here : InHere s
    pub main : s.in_main ≡ true
    pub means : (id : NameId) (th : Thing) → meaning s id ≡ Some th → Means done kinds c.units id th
    pub pairs : (id : NameId) (th : Thing) → meaning s id ≡ Some th → IsPair (check.meaning c id) th
    pub own : c.own ≡ None
    -- main's own name is none of theirs
    pub main_used : IsUsed s p.name.name
    pub apart : AllByRecursion (λ (x : NamedTasks). (p.name.name.0 == x.name.name.0) ≡ false) done
    pub tasks_apart : AllByRecursion (λ (t : PTask). (p.name.name.0 == t.name.name.0) ≡ false) before
    -- of each name there is at most one
    pub once : (id : NameId) → AtMostOnce (is_called id) done

  -- ---- one name more, and several

  pub extended : (done more : List NamedTasks) (kinds kinds' : List PTask) (units units' : List check.EnclosingUnit) (id : NameId) →
      ((x : NamedTasks) → find (is_called id) done ≡ Some x → find (is_called id) more ≡ Some x) → ((t : PTask) → type_named kinds id ≡ Some t → type_named kinds' id ≡ Some t) →
      ((u : check.EnclosingUnit) → find (unit_is id) units ≡ Some u → find (unit_is id) units' ≡ Some u) → (th : Thing) → Means done kinds units id th → Means more kinds' units' id th
  extended done more kinds kinds' units units' id f g h (SingleTask es) m = (
    record { part = m.0.part; found = f m.0.part m.0.found; index_range = m.0.index_range; own = m.0.own },
    record { task = m.1.task; named = m.1.named; own = m.1.own; unit = h (sites.enclosing_unit m.1.task) m.1.unit },
  )
  extended done more kinds kinds' units units' id f g h (TaskObject es) m = record { part = m.part; found = f m.part m.found; index_range = m.index_range; own = m.own }
  extended done more kinds kinds' units units' id f g h (TaskArray range es) m =
      record { range = m.range; stands = record { part = m.stands.part; found = f m.stands.part m.stands.found; index_range = m.stands.index_range; own = m.stands.own }; extent = m.extent }
  extended done more kinds kinds' units units' id f g h (TaskType es) m =
      (record { task = m.0.task; named = m.0.named; own = m.0.own; unit = h (sites.enclosing_unit m.0.task) m.0.unit }, g m.0.task m.1)
  extended done more kinds kinds' units units' id f g h (TypeMark m) x = tt
  extended done more kinds kinds' units units' id f g h (Variable m) x = tt
  extended done more kinds kinds' units units' id f g h (ConstantObject m) x = tt
  extended done more kinds kinds' units units' id f g h (Parameter mode m) x = tt
  extended done more kinds kinds' units units' id f g h (LoopParameter m) x = tt
  extended done more kinds kinds' units units' id f g h (Literal k) x = tt
  extended done more kinds kinds' units units' id f g h AnException x = tt
  extended done more kinds kinds' units units' id f g h MainProcedure x = tt
  extended done more kinds kinds' units units' id f g h AnotherUnit x = tt
  extended done more kinds kinds' units units' id f g h Unclear x = tt

  used-names : (thing : Thing) (ws : List Word) (s : Scope) (id : NameId) → IsUsed s id → IsUsed (with_names thing s ws) id
  used-names thing [] s id h = h
  used-names thing (w ∷ ws) s id h = used-names thing ws (with_name thing s w) id (used-more s w.name.0 id h)

  main-names : (thing : Thing) (ws : List Word) (s : Scope) → (with_names thing s ws).in_main ≡ s.in_main
  main-names thing [] s = refl
  main-names thing (w ∷ ws) s = main-names thing ws (with_name thing s w)

  -- a name that is declared is used behind it
  pub name-used : (thing : Thing) (w : Word) (s : Scope) → IsUsed (with_name thing s w) w.name
  name-used thing w s = or_right (is_predefined w.name.0) _ (or_left (w.name.0 == w.name.0) (is_among s.here w.name.0) (eq-eqb w.name.0 w.name.0 refl))

  names-used : (thing : Thing) (ws : List Word) (s : Scope) → AllByRecursion (λ (w : Word). IsUsed (with_names thing s ws) w.name) ws
  names-used thing [] s = tt
  names-used thing (w ∷ ws) s = (used-names thing ws (with_name thing s w) w.name (name-used thing w s), names-used thing ws (with_name thing s w))

  -- each of the declared names was not used before
  one-unused : (s : Scope) (ws : List Word) (id : NameId) → AllByRecursion (IsUnused s) ws → is_one_of ws id ≡ true → (is_predefined id.0 ≡ false) × (is_among s.here id.0 ≡ false)
  one-unused s [] id u e = absurd (true≢false (sym e))
  one-unused s (w ∷ ws) id u e = by_test (w.name.0 == id.0) refl e (one-unused s ws id u.1)
    where
      by_test : (b : Bool) → (w.name.0 == id.0) ≡ b → (b || is_one_of ws id) ≡ true → (is_one_of ws id ≡ true → (is_predefined id.0 ≡ false) × (is_among s.here id.0 ≡ false)) →
          (is_predefined id.0 ≡ false) × (is_among s.here id.0 ≡ false)
      by_test true f g rest = subst (λ n. (is_predefined n ≡ false) × (is_among s.here n ≡ false)) (eqb-true w.name.0 id.0 f) u.0
      by_test false f g rest = rest g

  turned : (a b : ℕ) → (a == b) ≡ false → (b == a) ≡ false
  turned a b e = ne_eqb b a (λ q. eqb-false a b e (sym q))

  -- what is used before is no name that was not used
  none-done : (s : Scope) (done : List NamedTasks) (id : NameId) → AllByRecursion (λ (x : NamedTasks). IsUsed s x.name.name) done → is_predefined id.0 ≡ false → is_among s.here id.0 ≡ false →
      find (is_called id) done ≡ None
  none-done s done id u e f = found_none (is_called id) done (all_weaker _ _ done (λ x h. turned id.0 x.name.name.0 (other s.here id.0 x.name.name.0 e f h)) u)

  none-before : (s : Scope) (ts : List PTask) (id : NameId) → AllByRecursion (λ (t : PTask). IsUsed s t.name.name) ts → is_predefined id.0 ≡ false → is_among s.here id.0 ≡ false →
      find (λ (t : PTask). t.name.name.0 == id.0) ts ≡ None
  none-before s ts id u e f = found_none _ ts (all_weaker _ _ ts (λ t h. turned id.0 t.name.name.0 (other s.here id.0 t.name.name.0 e f h)) u)

  -- ---- declarations that are no tasks and no objects

  -- a thing is no task, or what the name meant before
  abbrev Kept : Scope → CheckScope → CheckScope → NameId → Thing → Type 0
  Kept s c c' id th = IsNoTask th ⊎ ((meaning s id ≡ Some th) × (check.meaning c' id ≡ check.meaning c id))

  plain-step : (kinds : List PTask) (ds rest : PDecls) (s s' : Scope) (c : CheckScope) → MainSeen kinds ds s c →
      task_names_in kinds ds ≡ task_names_in kinds rest → tasks_in (decl_list ds) ≡ tasks_in (decl_list rest) → ((id : NameId) → IsUsed s id → IsUsed s' id) → InHere s' → s'.in_main ≡ true →
      ((id : NameId) (th : Thing) → meaning s' id ≡ Some th → Kept s c c id th) → MainSeen kinds rest s' c
  plain-step kinds ds rest s s' c m e f used here main kept = record {
    done = m.done;
    parts = m.parts ∙ ap (λ l. m.done ++ l) e;
    parts_used = all_weaker _ _ m.done (λ x h. used x.name.name h) m.parts_used;
    parts_units = m.parts_units;
    types_units = m.types_units;
    before = m.before;
    tasks = m.tasks ∙ ap (λ l. m.before ++ l) f;
    tasks_used = all_weaker _ _ m.before (λ t h. used t.name.name h) m.tasks_used;
    here = here;
    main = main;
    means = λ id th q. ⊎_elim (λ h. no-task-means m.done kinds c.units id th h) (λ h. m.means id th h.0) (kept id th q);
    pairs = λ id th q. ⊎_elim (λ h. no-task-pair (check.meaning c id) th h) (λ h. m.pairs id th h.0) (kept id th q);
    own = m.own;
    main_used = used p.name.name m.main_used;
    apart = m.apart;
    tasks_apart = m.tasks_apart;
    once = m.once;
  }

  -- behind names of one thing that is no task
  names-kept : (thing : Thing) (ws : List Word) (s t : Scope) (c : CheckScope) → IsNoTask thing → ((id : NameId) → meaning t id ≡ meaning s id) →
      (id : NameId) (th : Thing) → meaning (with_names thing t ws) id ≡ Some th → Kept s c c id th
  names-kept thing ws s t c h same = names-all (Kept s c c) thing ws t (λ id th out e. inr (sym (same id) ∙ e, refl)) (λ id one. inl h)

  type-no-task : (o : Option ℕ) → IsNoTask (type_of_mark o)
  type-no-task (Some m) = tt
  type-no-task None = tt

  -- ---- objects

  -- the other scope behind a declaration of some names
  record Grown (c c' : CheckScope) (names : List Word) : Type 0 where
    out : (id : NameId) → is_one_of names id ≡ false → check.meaning c' id ≡ check.meaning c id
    units : c'.units ≡ c.units
    own : c'.own ≡ c.own

  meant-grown : (c : CheckScope) (m : Meant) (names : List Word) → Grown c (sites.with_meant m c names) names
  meant-grown c m names = record { out = λ id e. meant-out m names c id e; units = meant_units m names c; own = meant-own m names c }

  value-grown : (c : CheckScope) (b : Bool) (names : List Word) → Grown c (sites.with_declared_object b c names) names
  value-grown c true names = meant-grown c meant.Shared names
  value-grown c false names = record { out = λ id e. refl; units = refl; own = refl }

  object-grown : (c : CheckScope) (o : Option Meant) (mark : Word) (b : Bool) (names : List Word) → Grown c (sites.with_object c o mark b names) names
  object-grown c (Some meant.TaskType) mark b names = meant-grown c (meant.TaskOf mark.name) names
  object-grown c (Some meant.MainProcedure) mark b names = value-grown c b names
  object-grown c (Some (meant.TaskOf u)) mark b names = value-grown c b names
  object-grown c (Some meant.Shared) mark b names = value-grown c b names
  object-grown c (Some meant.Inner) mark b names = value-grown c b names
  object-grown c None mark b names = value-grown c b names

  shape-grown : (c : CheckScope) (names : List Word) (constant : Bool) (shape : PShape) → Grown c (sites.after_object c names constant shape) names
  shape-grown c names constant (OPlain x) = object-grown c (check.meaning c x.mark.name) x.mark _ names
  shape-grown c names constant (OArray r x) = object-grown c (check.meaning c x.mark.name) x.mark true names

  -- the parts of an object's names
  typed-units : (o : Option PTask) (names : List Word) (its : Option PDrange) → ((t : PTask) → o ≡ Some t → IsUnit t) → AllByRecursion (λ (x : NamedTasks). IsUnit x.unit) (task_names_of_type o names its)
  typed-units (Some t) [] its h = tt
  typed-units (Some t) (w ∷ ws) its h = (h t refl, typed-units (Some t) ws its h)
  typed-units None names its h = tt

  object-units : (kinds : List PTask) (names : List Word) (shape : PShape) → AllByRecursion IsUnit kinds → AllByRecursion (λ (x : NamedTasks). IsUnit x.unit) (object_task_names kinds names shape)
  object-units kinds names (OPlain x) h = typed-units _ names None (λ t e. find-all IsUnit _ kinds t h e)
  object-units kinds names (OArray r x) h = typed-units _ names (Some r) (λ t e. find-all IsUnit _ kinds t h e)

  typed-used : (s : Scope) (o : Option PTask) (names : List Word) (its : Option PDrange) → AllByRecursion (λ (w : Word). IsUsed s w.name) names → AllByRecursion (λ (x : NamedTasks). IsUsed s x.name.name) (task_names_of_type o names its)
  typed-used s (Some t) [] its h = tt
  typed-used s (Some t) (w ∷ ws) its h = (h.0, typed-used s (Some t) ws its h.1)
  typed-used s None names its h = tt

  object-used : (s : Scope) (kinds : List PTask) (names : List Word) (shape : PShape) → AllByRecursion (λ (w : Word). IsUsed s w.name) names → AllByRecursion (λ (x : NamedTasks). IsUsed s x.name.name) (object_task_names kinds names shape)
  object-used s kinds names (OPlain x) h = typed-used s _ names None h
  object-used s kinds names (OArray r x) h = typed-used s _ names (Some r) h

  found-word : (id : NameId) (ws : List Word) → is_one_of ws id ≡ true → (w : Word) × (find (has_id id) ws ≡ Some w)
  found-word id [] e = absurd (true≢false (sym e))
  found-word id (w ∷ ws) e = by_test (w.name.0 == id.0) refl e (found-word id ws)
    where
      by_test : (b : Bool) → (w.name.0 == id.0) ≡ b → (b || is_one_of ws id) ≡ true → (is_one_of ws id ≡ true → (v : Word) × (find (has_id id) ws ≡ Some v)) → (v : Word) × ((if b then Some w else find (has_id id) ws) ≡ Some v)
      by_test true f g rest = (w, refl)
      by_test false f g rest = rest g

  -- a declared name stands for the part of its object
  stands-new : (done : List NamedTasks) (kinds : List PTask) (names : List Word) (id : NameId) (t : PTask) (o : Option PTask) (its : Option PDrange) (es : List EntryPart) →
      find (is_called id) done ≡ None → is_one_of names id ≡ true → o ≡ Some t → IsUnitOf t es → Stands (done ++ task_names_of_type o names its) id its es
  stands-new done kinds names id t o its es none one e own =
      let w = found-word id names one in
      let image : NamedTasks = named_tasks w.0 w.0.span t its in
      record {
        part = image;
        found = find-behind (is_called id) done (task_names_of_type o names its) none
            ∙ ap (λ q. find (is_called id) (task_names_of_type q names its)) e
            ∙ find-mapped (is_called id) (has_id id) (λ v. named_tasks v v.span t its) (λ v. refl) names
            ∙ ap (option_map (λ v. named_tasks v v.span t its)) w.1;
        index_range = refl;
        own = own;
      }

  object-means : (kinds : List PTask) (ds : PDecls) (s : Scope) (c c' : CheckScope) (m : MainSeen kinds ds s c) (names : List Word) (shape : PShape) → DeclRanged T s (DObject names false shape None (record { start = 0; end = 0 })) →
      AllByRecursion (IsUnused s) names → (th : Thing) → ObjectThing s shape th → (id : NameId) → is_one_of names id ≡ true → Means (m.done ++ object_task_names kinds names shape) kinds c'.units id th
  object-means kinds ds s c c' m names shape ranged u th (no_task_object _ h) id one = no-task-means _ kinds c'.units id th h
  object-means kinds ds s c c' m names shape ranged u th (one_object x es in_main q mark) id one =
      let d = m.means x.mark.name (TaskType es) (task-type-seen s x.mark.name es mark) in
      let free = one-unused s names id u one in
      subst (λ y. Stands (m.done ++ object_task_names kinds names y) id None es) (sym q)
      (stands-new m.done kinds names id d.0.task (type_named kinds x.mark.name) None es (none-done s m.done id m.parts_used free.0 free.1) one d.1 d.0.own)
  object-means kinds ds s c c' m names shape ranged u th (array_of_objects r x range es in_main q mark known) id one =
      let d = m.means x.mark.name (TaskType es) (task-type-seen s x.mark.name es mark) in
      let free = one-unused s names id u one in
      record {
        range = r;
        stands = subst (λ y. Stands (m.done ++ object_task_names kinds names y) id (Some r) es) (sym q)
            (stands-new m.done kinds names id d.0.task (type_named kinds x.mark.name) (Some r) es (none-done s m.done id m.parts_used free.0 free.1) one d.1 d.0.own);
        extent = (let h : IsRanged T s r = subst (λ y. DeclRanged T s (DObject names false y None (record { start = 0; end = 0 }))) q ranged in subst (IsExtent T r) (some_same (sym h.known ∙ known)) h.is);
      }

  object-pair : (o : Option Meant) (s : Scope) (shape : PShape) (th : Thing) → ObjectThing s shape th → IsPair o th
  object-pair o s shape th (no_task_object _ h) = no-task-pair o th h
  object-pair o s shape th (one_object x es in_main q mark) = tt
  object-pair o s shape th (array_of_objects r x range es in_main q mark known) = tt

  object-ranged : (s : Scope) (names : List Word) (constant : Bool) (shape : PShape) (init : Option PInit) (sp : Span) → DeclRanged T s (DObject names constant shape init sp) →
      DeclRanged T s (DObject names false shape None (record { start = 0; end = 0 }))
  object-ranged s names constant (OPlain x) init sp h = tt
  object-ranged s names constant (OArray r x) init sp h = h

  typed-apart : (s : Scope) (o : Option PTask) (names : List Word) (its : Option PDrange) → IsUsed s p.name.name → AllByRecursion (IsUnused s) names →
      AllByRecursion (λ (x : NamedTasks). (p.name.name.0 == x.name.name.0) ≡ false) (task_names_of_type o names its)
  typed-apart s (Some t) [] its h u = tt
  typed-apart s (Some t) (w ∷ ws) its h u = (turned w.name.0 p.name.name.0 (other s.here w.name.0 p.name.name.0 u.0.0 u.0.1 h), typed-apart s (Some t) ws its h u.1)
  typed-apart s None names its h u = tt

  object-apart : (s : Scope) (kinds : List PTask) (names : List Word) (shape : PShape) → IsUsed s p.name.name → AllByRecursion (IsUnused s) names →
      AllByRecursion (λ (x : NamedTasks). (p.name.name.0 == x.name.name.0) ≡ false) (object_task_names kinds names shape)
  object-apart s kinds names (OPlain x) h u = typed-apart s _ names None h u
  object-apart s kinds names (OArray r x) h u = typed-apart s _ names (Some r) h u

  -- the parts of a declaration's names
  typed-none : (o : Option PTask) (names : List Word) (its : Option PDrange) (id : NameId) → is_one_of names id ≡ false → find (is_called id) (task_names_of_type o names its) ≡ None
  typed-none (Some t) [] its id e = refl
  typed-none (Some t) (w ∷ ws) its id e =
      let h = or_parts (w.name.0 == id.0) (is_one_of ws id) e in
      ap (λ b. if b then Some (named_tasks w w.span t its) else find (is_called id) (task_names_of_type (Some t) ws its)) h.0 ∙ typed-none (Some t) ws its id h.1
  typed-none None names its id e = refl

  typed-once : (o : Option PTask) (names : List Word) (its : Option PDrange) (id : NameId) → AllApart names → AtMostOnce (is_called id) (task_names_of_type o names its)
  typed-once (Some t) [] its id h = tt
  typed-once (Some t) (w ∷ ws) its id h =
      (λ e. subst (λ n. find (λ (x : NamedTasks). x.name.name.0 == n) (task_names_of_type (Some t) ws its) ≡ None) (eqb-true w.name.0 id.0 e) (typed-none (Some t) ws its w.name h.0), typed-once (Some t) ws its id h.1)
  typed-once None names its id h = tt

  object-none : (kinds : List PTask) (names : List Word) (shape : PShape) (id : NameId) → is_one_of names id ≡ false → find (is_called id) (object_task_names kinds names shape) ≡ None
  object-none kinds names (OPlain x) id e = typed-none _ names None id e
  object-none kinds names (OArray r x) id e = typed-none _ names (Some r) id e

  object-once : (kinds : List PTask) (names : List Word) (shape : PShape) (id : NameId) → AllApart names → AtMostOnce (is_called id) (object_task_names kinds names shape)
  object-once kinds names (OPlain x) id h = typed-once _ names None id h
  object-once kinds names (OArray r x) id h = typed-once _ names (Some r) id h

  object-step : (kinds : List PTask) (names : List Word) (constant : Bool) (shape : PShape) (init : Option PInit) (sp : Span) (rest : PDecls) (s : Scope) (c : CheckScope) → AllApart names →
      DeclRanged T s (DObject names constant shape init sp) → AllByRecursion (IsUnused s) names → MainSeen kinds (decl_then (DObject names constant shape init sp) rest) s c →
      MainSeen kinds rest (after_decl s (DObject names constant shape init sp)) (sites.after_object c names constant shape)
  object-step kinds names constant shape init sp rest s c apart ranged u m =
      let thing : Thing = (declared_object s constant shape).thing in
      let t : Scope = with_types (with_constants s names init (declared_object s constant shape)) s in
      let more : List NamedTasks = object_task_names kinds names shape in
      let c' : CheckScope = sites.after_object c names constant shape in
      let grown = shape-grown c names constant shape in
      record {
        done = m.done ++ more;
        parts = m.parts ∙ sym (append_assoc m.done more (task_names_in kinds rest));
        parts_used = all_joined _ m.done more (all_weaker _ _ m.done (λ x h. used-names thing names t x.name.name h) m.parts_used) (object-used (with_names thing t names) kinds names shape (names-used thing names t));
        parts_units = all_joined _ m.done more m.parts_units (object-units kinds names shape m.types_units);
        types_units = m.types_units;
        before = m.before;
        tasks = m.tasks;
        tasks_used = all_weaker _ _ m.before (λ x h. used-names thing names t x.name.name h) m.tasks_used;
        here = here-decl (DObject names constant shape init sp) s m.here;
        main = main-names thing names t ∙ m.main;
        means = names-all (Means (m.done ++ more) kinds c'.units) thing names t
            (λ id th out e. extended m.done (m.done ++ more) kinds kinds c.units c'.units id (λ x f. find_front (is_called id) m.done more x f) (λ y f. f) (λ y f. ap (find (unit_is id)) grown.units ∙ f) th (m.means id th e))
            (λ id one. object-means kinds _ s c c' m names shape (object-ranged s names constant shape init sp ranged) u thing (object-thing s constant shape) id one);
        pairs = names-all (λ id th. IsPair (check.meaning c' id) th) thing names t (λ id th out e. subst (λ o. IsPair o th) (sym (grown.out id out)) (m.pairs id th e))
            (λ id one. object-pair (check.meaning c' id) s shape thing (object-thing s constant shape));
        own = grown.own ∙ m.own;
        main_used = used-names thing names t p.name.name m.main_used;
        apart = all_joined _ m.done more m.apart (object-apart s kinds names shape m.main_used u);
        tasks_apart = m.tasks_apart;
        once = λ id. once-joined (is_called id) m.done more (m.once id) (object-once kinds names shape id apart) (by_name id);
      }
    where
      by_name : (id : NameId) → (find (is_called id) m.done ≡ None) ⊎ (find (is_called id) (object_task_names kinds names shape) ≡ None)
      by_name id = by_test (is_one_of names id) refl
        where
          by_test : (b : Bool) → is_one_of names id ≡ b → (find (is_called id) m.done ≡ None) ⊎ (find (is_called id) (object_task_names kinds names shape) ≡ None)
          by_test true e = let free = one-unused s names id u e in inl (none-done s m.done id m.parts_used free.0 free.1)
          by_test false e = inr (object-none kinds names shape id e)

  -- ---- tasks

  head-found : (id : NameId) (t : PTask) (ts : List PTask) → (t.name.name.0 == id.0) ≡ true → find (λ (x : PTask). x.name.name.0 == id.0) (t ∷ ts) ≡ Some t
  head-found id t ts e = ap (λ b. if b then Some t else find (λ (x : PTask). x.name.name.0 == id.0) ts) e

  task-is-unit : (kinds : List PTask) (t : PTask) (sp : Span) (rest : PDecls) (s : Scope) (c : CheckScope) → MainSeen kinds (decl_then (DTask t sp) rest) s c → IsUnused s t.name → IsUnit t
  task-is-unit kinds t sp rest s c m u =
      ap (find (λ (x : PTask). x.name.name.0 == t.name.name.0)) m.tasks
      ∙ find-behind _ m.before (t ∷ tasks_in (decl_list rest)) (none-before s m.before t.name.name m.tasks_used u.0 u.1)
      ∙ head-found t.name.name t (tasks_in (decl_list rest)) (eq-eqb t.name.name.0 t.name.name.0 refl)

  -- the task or type that is declared
  declared-new : (t : PTask) (s : Scope) (c : CheckScope) (id : NameId) → (t.name.name.0 == id.0) ≡ true → AllByRecursion (EntryRanged T s) t.entries → IsUnit t →
      IsDeclared (sites.enclosing_unit t ∷ c.units) id (map (entry_part s) t.entries)
  declared-new t s c id e ranged unit = record {
    task = t;
    named = eqb-true t.name.name.0 id.0 e;
    own = record { around = s; entries = refl; ranged = ranged; unit = unit };
    unit = ap (λ b. if b then Some (sites.enclosing_unit t) else find (unit_is id) c.units) e;
  }

  task-means : (b : Bool) (done : List NamedTasks) (kinds : List PTask) (t : PTask) (sp : Span) (s : Scope) (c : CheckScope) (id : NameId) → (t.name.name.0 == id.0) ≡ true → find (is_called id) done ≡ None →
      AllByRecursion (EntryRanged T s) t.entries → IsUnit t → Means (done ++ single_task_name b t sp) (with_type kinds b t) (sites.enclosing_unit t ∷ c.units) id (task_thing b (map (entry_part s) t.entries))
  unfolding declared-new
  task-means true done kinds t sp s c id e none ranged unit = (declared-new t s c id e ranged unit, head-found id t kinds e)
  task-means false done kinds t sp s c id e none ranged unit = (
    record {
      part = named_tasks t.name sp t None;
      found = find-behind (is_called id) done (named_tasks t.name sp t None ∷ []) none ∙ ap (λ b. if b then Some (named_tasks t.name sp t None) else None) e;
      index_range = refl;
      own = record { around = s; entries = refl; ranged = ranged; unit = unit };
    },
    declared-new t s c id e ranged unit,
  )

  task-pair : (b : Bool) (o : Option Meant) (u : NameId) (es : List EntryPart) → o ≡ Some (if b then meant.TaskType else meant.TaskOf u) → IsPair o (task_thing b es)
  task-pair true o u es e = e
  task-pair false o u es e = tt

  single-used : (b : Bool) (t : PTask) (sp : Span) (s : Scope) → IsUsed s t.name.name → AllByRecursion (λ (x : NamedTasks). IsUsed s x.name.name) (single_task_name b t sp)
  single-used true t sp s h = tt
  single-used false t sp s h = (h, tt)

  single-units : (b : Bool) (t : PTask) (sp : Span) → IsUnit t → AllByRecursion (λ (x : NamedTasks). IsUnit x.unit) (single_task_name b t sp)
  single-units true t sp h = tt
  single-units false t sp h = (h, tt)

  single-none : (b : Bool) (t : PTask) (sp : Span) (id : NameId) → (t.name.name.0 == id.0) ≡ false → find (is_called id) (single_task_name b t sp) ≡ None
  single-none true t sp id e = refl
  single-none false t sp id e = ap (λ b. if b then Some (named_tasks t.name sp t None) else None) e

  single-once : (b : Bool) (t : PTask) (sp : Span) (id : NameId) → AtMostOnce (is_called id) (single_task_name b t sp)
  single-once true t sp id = tt
  single-once false t sp id = (λ e. refl, tt)

  single-apart : (b : Bool) (t : PTask) (sp : Span) → (p.name.name.0 == t.name.name.0) ≡ false → AllByRecursion (λ (x : NamedTasks). (p.name.name.0 == x.name.name.0) ≡ false) (single_task_name b t sp)
  single-apart true t sp h = tt
  single-apart false t sp h = (h, tt)

  type-units : (b : Bool) (t : PTask) (kinds : List PTask) → IsUnit t → AllByRecursion IsUnit kinds → AllByRecursion IsUnit (with_type kinds b t)
  type-units true t kinds h k = (h, k)
  type-units false t kinds h k = k

  type-kept : (b : Bool) (kinds : List PTask) (t x : PTask) (id : NameId) → (t.name.name.0 == id.0) ≡ false → type_named kinds id ≡ Some x → type_named (with_type kinds b t) id ≡ Some x
  type-kept true kinds t x id e f = ap (λ b. if b then Some t else type_named kinds id) e ∙ f
  type-kept false kinds t x id e f = f

  task-step : (kinds : List PTask) (t : PTask) (sp : Span) (rest : PDecls) (s : Scope) (c : CheckScope) → AllByRecursion (EntryRanged T s) t.entries → IsUnused s t.name →
      MainSeen kinds (decl_then (DTask t sp) rest) s c → MainSeen (with_type kinds t.of_kind t) rest (after_decl s (DTask t sp)) (sites.after_task c t)
  task-step kinds t sp rest s c ranged u m =
      let thing : Thing = task_thing t.of_kind (map (entry_part s) t.entries) in
      let more : List NamedTasks = single_task_name t.of_kind t sp in
      let kinds' : List PTask = with_type kinds t.of_kind t in
      let c0 : CheckScope = record c { units = sites.enclosing_unit t ∷ c.units } in
      let unit : IsUnit t = task-is-unit kinds t sp rest s c m u in
      let only : (id : NameId) → is_one_of (t.name ∷ []) id ≡ true → (t.name.name.0 == id.0) ≡ true = λ id one. ⊎_elim (λ h. h) (λ h. absurd (true≢false (sym h))) (or_cases (t.name.name.0 == id.0) false one) in
      let no : (id : NameId) → is_one_of (t.name ∷ []) id ≡ false → (t.name.name.0 == id.0) ≡ false = λ id out. (or_parts (t.name.name.0 == id.0) false out).0 in
      record {
        done = m.done ++ more;
        parts = m.parts ∙ sym (append_assoc m.done more (task_names_in kinds' rest));
        parts_used = all_joined _ m.done more (all_weaker _ _ m.done (λ x h. used-more s t.name.name.0 x.name.name h) m.parts_used) (single-used t.of_kind t sp (with_name thing s t.name) (name-used thing t.name s));
        parts_units = all_joined _ m.done more m.parts_units (single-units t.of_kind t sp unit);
        types_units = type-units t.of_kind t kinds unit m.types_units;
        before = m.before ++ t ∷ [];
        tasks = m.tasks ∙ sym (append_assoc m.before (t ∷ []) (tasks_in (decl_list rest)));
        tasks_used = all_joined _ m.before (t ∷ []) (all_weaker _ _ m.before (λ x h. used-more s t.name.name.0 x.name.name h) m.tasks_used) (name-used thing t.name s, tt);
        here = here-decl (DTask t sp) s m.here;
        main = m.main;
        means = names-all (Means (m.done ++ more) kinds' (sites.enclosing_unit t ∷ c.units)) thing (t.name ∷ []) s
            (λ id th out e. extended m.done (m.done ++ more) kinds kinds' c.units (sites.enclosing_unit t ∷ c.units) id (λ x f. find_front (is_called id) m.done more x f) (λ y f. type-kept t.of_kind kinds t y id (no id out) f)
            (λ y f. ap (λ b. if b then Some (sites.enclosing_unit t) else find (unit_is id) c.units) (no id out) ∙ f) th (m.means id th e))
            (λ id one. task-means t.of_kind m.done kinds t sp s c id (only id one)
            (subst (λ n. find (is_called record { 0 = n }) m.done ≡ None) (eqb-true t.name.name.0 id.0 (only id one)) (none-done s m.done t.name.name m.parts_used u.0 u.1)) ranged unit);
        pairs = names-all (λ id th. IsPair (check.meaning (sites.after_task c t) id) th) thing (t.name ∷ []) s
            (λ id th out e. subst (λ o. IsPair o th) (sym (meant-out (sites.meant_by_task t) (t.name ∷ []) c0 id out)) (m.pairs id th e))
            (λ id one. task-pair t.of_kind _ t.name.name _ (meant-in (sites.meant_by_task t) (t.name ∷ []) c0 id one));
        own = m.own;
        main_used = used-more s t.name.name.0 p.name.name m.main_used;
        apart = all_joined _ m.done more m.apart (single-apart t.of_kind t sp (turned t.name.name.0 p.name.name.0 (other s.here t.name.name.0 p.name.name.0 u.0 u.1 m.main_used)));
        tasks_apart = all_joined _ m.before (t ∷ []) m.tasks_apart (turned t.name.name.0 p.name.name.0 (other s.here t.name.name.0 p.name.name.0 u.0 u.1 m.main_used), tt);
        once = λ id. once-joined (is_called id) m.done more (m.once id) (single-once t.of_kind t sp id) (by_name id);
      }
    where
      by_name : (id : NameId) → (find (is_called id) m.done ≡ None) ⊎ (find (is_called id) (single_task_name t.of_kind t sp) ≡ None)
      by_name id = by_test (t.name.name.0 == id.0) refl
        where
          by_test : (b : Bool) → (t.name.name.0 == id.0) ≡ b → (find (is_called id) m.done ≡ None) ⊎ (find (is_called id) (single_task_name t.of_kind t sp) ≡ None)
          by_test true e = inl (subst (λ n. find (λ (x : NamedTasks). x.name.name.0 == n) m.done ≡ None) (eqb-true t.name.name.0 id.0 e) (none-done s m.done t.name.name m.parts_used u.0 u.1))
          by_test false e = inr (single-none t.of_kind t sp id e)

  -- ---- one declaration

  abbrev pub types_after : List PTask → PDecl → List PTask
  types_after kinds (DTask t sp) = with_type kinds t.of_kind t
  types_after kinds _ = kinds

  pub decl-step : (d : PDecl) (kinds : List PTask) (rest : PDecls) (s : Scope) (c : CheckScope) → NamesApart d → DeclRanged T s d → AllByRecursion (IsUnused s) (names_declared d) →
      MainSeen kinds (decl_then d rest) s c → MainSeen (types_after kinds d) rest (after_decl s d) (sites.after_decl c d)
  decl-step (DTask t sp) kinds rest s c apart ranged u m = task-step kinds t sp rest s c ranged u.0 m
  decl-step (DObject names constant shape init sp) kinds rest s c apart ranged u m = object-step kinds names constant shape init sp rest s c apart ranged u m
  decl-step (DNumber w e sp) kinds rest s c apart ranged u m =
      plain-step kinds _ rest s _ c m refl refl (λ id h. used-more s w.name.0 id h) (here-decl (DNumber w e sp) s m.here) m.main (names-kept _ (w ∷ []) s s c tt (λ id. refl))
  decl-step (DEnumeration w ws sp) kinds rest s c apart ranged u m =
      plain-step kinds _ rest s _ c m refl refl (λ id h. used-names _ ws _ id (used-more s w.name.0 id h)) (here-decl (DEnumeration w ws sp) s m.here) (main-names _ ws _ ∙ m.main)
      (names-all (Kept s c c) _ ws (with_name _ (with_types _ s) w) (λ id th out e. names-kept (TypeMark (length s.types.marks)) (w ∷ []) s s c tt (λ x. refl) id th e) (λ id one. inl tt))
  decl-step (DArray w r x sp) kinds rest s c apart ranged u m =
      plain-step kinds _ rest s _ c m refl refl (λ id h. used-more s w.name.0 id h) (here-decl (DArray w r x sp) s m.here) m.main (names-kept _ (w ∷ []) s s c (type-no-task _) (λ id. refl))
  decl-step (DSubtype w x sp) kinds rest s c apart ranged u m =
      plain-step kinds _ rest s _ c m refl refl (λ id h. used-more s w.name.0 id h) (here-decl (DSubtype w x sp) s m.here) m.main (names-kept _ (w ∷ []) s s c (type-no-task _) (λ id. refl))
  decl-step (DException ws sp) kinds rest s c apart ranged u m =
      plain-step kinds _ rest s _ c m refl refl (λ id h. used-names AnException ws s id h) (here-decl (DException ws sp) s m.here) (main-names AnException ws s ∙ m.main) (names-kept AnException ws s s c tt (λ id. refl))
  decl-step (DIntIo w sp) kinds rest s c apart ranged u m =
      plain-step kinds _ rest s _ c m refl refl (λ id h. used-more s w.name.0 id h) (here-decl (DIntIo w sp) s m.here) m.main (names-kept AnotherUnit (w ∷ []) s s c tt (λ id. refl))
  decl-step (DPragma e sp) kinds rest s c apart ranged u m = plain-step kinds _ rest s s c m refl refl (λ id h. h) m.here m.main (λ id th e. inr (e, refl))
  decl-step (DTaskBody w objects its sp) kinds rest s c apart ranged u m =
      plain-step kinds _ rest s _ c m refl refl (λ id h. h) (here-decl (DTaskBody w objects its sp) s m.here) m.main (λ id th e. inr (e, refl))
