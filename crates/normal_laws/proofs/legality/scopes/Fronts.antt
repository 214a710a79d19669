-- The scopes of a program at each body and behind all its declarations, beside the one behind the first declarations of its normal form.
use Rattle.std.proofs.Common.{◌≡◌, Bool, true, false, ◌==◌, List, [], ◌∷◌, ◌++◌, is_some, Option, Some, None, ◌⊎◌, inl, inr, ⊎_elim, refl, sym, ap, ◌∙◌, subst, append_assoc}
use Rattle.std.specs.List.{AllByRecursion}
use Rattle.common_lemmas.proofs.Lists.{all_weaker, all_joined}
use Rattle.common_lemmas.proofs.Options.{some_same, not_missing}
use Rattle.ada_tree.specs.declared.naming.NameId.{NameId}
use Rattle.ada_tree.specs.declared.naming.Span.{Span}
use Rattle.ada_tree.specs.declared.naming.Word.{Word}
use Rattle.ada_tree.specs.TypeTable.{TypeTable}
use Rattle.ada_tree.specs.PlainDecl.{PShape, OPlain, OArray, PInit, PTask, PDecl, DNumber, DObject, DEnumeration, DArray, DSubtype, DException, DIntIo, DPragma, DTask, DTaskBody, PDecls, no_decl, decl_then}
use Rattle.ada_tree.specs.WellPlaced.{AreLater, BodiesLast}
use Rattle.ada_static_rules.specs.Scope.{Scope, Thing, TypeMark, TaskType, SingleTask, TaskObject, TaskArray, Variable, ConstantObject, Parameter, LoopParameter, Literal, AnException, MainProcedure, AnotherUnit, Unclear, EntryPart, meaning}
use Rattle.ada_tree.specs.PlainProgram.{PProgram}
use Rattle.ada_static_rules.specs.Refusals.{types_in}
use Rattle.ada_static_rules.specs.Declaring.{first_scope, declared_object, with_constants, with_types, with_name, in_body, after_decl, after_decls}
use Rattle.syn_event.specs.NamedTasks.{NamedTasks, type_named, with_type, single_task_name, object_task_names, task_names_in, task_names_of}
use Rattle.task_laws.specs.legal.rewritten_types.Agreement.{Keeps}
use Rattle.task_laws.specs.legal.rewritten_types.Rewriting.{valued, IsFree, IsUsed, IsUnused, DeclareOnce, NamesOnce, IsFirst, names_declared}
use Rattle.task_laws.specs.legal.rewritten_types.Rewriting as rewriting
use Rattle.task_laws.specs.legal.rewritten_types.Laws.{behind}
use Rattle.task_laws.proofs.legal.rewritten_types.Keeping.{keeps-self, keeps-on}
use Rattle.task_laws.proofs.legal.rewritten_types.Adding.{keeps-objects}
use Rattle.task_laws.proofs.legal.rewritten_types.Fresh.{InHere, first-here, unused-free, unused-all, meaning-used, used-more, other}
use Rattle.task_laws.proofs.legal.rewritten_types.Closing.{Close, close-self}
use Rattle.task_laws.proofs.legal.rewritten_types.Moving.{close-decl, hide-task, hide-object}
use Rattle.task_laws.proofs.legal.types.ExprKinds.{IsClearThing}
use Rattle.task_laws.proofs.legal.types.TypedValues.{anybody}
use Rattle.task_laws.proofs.legal.types.GoodScopes.{names-kept}
use Rattle.task_laws.proofs.legal.types.MainScopes.{Stands, AllStand}
use Rattle.task_laws.proofs.legal.types.TaskTypes.{DeclRanges, AllRanges}
use Rattle.normal_model.specs.NormalTree.{mark_of, unless_left, first_decls}
use Rattle.normal_laws.proofs.structure.once.TaskTypes.{HasTypes, first-types, kinds_after, types-after, no-task}
use Rattle.task_laws.specs.legal.alike_scopes.Alike.{IsNoValue, no_thing, a_task_type, a_task, a_task_object, a_task_array, the_procedure, a_unit}
use Rattle.normal_laws.proofs.legality.scopes.Later.{AllEntries}
use Rattle.normal_laws.proofs.legality.scopes.Places.{AtBodies, IsSeenOrHidden, IsPlaced, IsClearly}
use Rattle.normal_laws.proofs.legality.scopes.Kept.{IsKept, is_same, is_none, AreKept, none-kept, kept-name, kept-hidden, kept-all-hidden, kept-decl, IsBoth}
use Rattle.normal_laws.proofs.legality.scopes.Seeing.{HasEntries, kinds_behind, parts_of, entries_in, type-mark, object-typed, Sees, sees-step, parts-hidden}
use Rattle.task_laws.proofs.legal.alike_scopes.Mains.{task-none}
use Rattle.ada_static_rules.proofs.found_twice.Declared.{name_means}

-- ---- behind the first body

-- instances add no types
later-types : (ds : PDecls) (kinds : List PTask) (r : Scope) → AreLater ds → (after_decls r (first_decls kinds ds)).types ≡ r.types
later-types no_decl kinds r later = refl
later-types (decl_then (DTask t sp) rest) kinds r later = later-types rest (with_type kinds t.of_kind t) r later.1
later-types (decl_then (DTaskBody w objects its sp) rest) kinds r later = later-types rest kinds r later.1
later-types (decl_then (DIntIo w sp) rest) kinds r later = later-types rest kinds (after_decl r (DIntIo w sp)) later.1
later-types (decl_then (DNumber w e sp) rest) kinds r later = absurd later.0
later-types (decl_then (DObject ws c x i sp) rest) kinds r later = absurd later.0
later-types (decl_then (DEnumeration w ws sp) rest) kinds r later = absurd later.0
later-types (decl_then (DArray w q x sp) rest) kinds r later = absurd later.0
later-types (decl_then (DSubtype w x sp) rest) kinds r later = absurd later.0
later-types (decl_then (DException ws sp) rest) kinds r later = absurd later.0
later-types (decl_then (DPragma e sp) rest) kinds r later = absurd later.0

-- what a name means behind them is what it meant, or a unit
later-told : (ds : PDecls) (kinds : List PTask) (r : Scope) (id : NameId) → AreLater ds → (meaning (after_decls r (first_decls kinds ds)) id ≡ meaning r id) ⊎ (meaning (after_decls r (first_decls kinds ds)) id ≡ Some AnotherUnit)
later-told no_decl kinds r id later = inl refl
later-told (decl_then (DTask t sp) rest) kinds r id later = later-told rest (with_type kinds t.of_kind t) r id later.1
later-told (decl_then (DTaskBody w objects its sp) rest) kinds r id later = later-told rest kinds r id later.1
later-told (decl_then (DIntIo w sp) rest) kinds r id later = by_test (w.name.0 == id.0) refl (later-told rest kinds (after_decl r (DIntIo w sp)) id later.1)
  where
    last : Scope
    last = after_decls (after_decl r (DIntIo w sp)) (first_decls kinds rest)

    by_test : (b : Bool) → (w.name.0 == id.0) ≡ b → (meaning last id ≡ meaning (with_name AnotherUnit r w) id) ⊎ (meaning last id ≡ Some AnotherUnit) → (meaning last id ≡ meaning r id) ⊎ (meaning last id ≡ Some AnotherUnit)
    by_test true e h = inr (⊎_elim (λ k. k ∙ name_means AnotherUnit w r id e) (λ k. k) h)
    by_test false e h = ⊎_elim (λ k. inl (k ∙ names-kept AnotherUnit (w ∷ []) r id (e, tt))) (λ k. inr k) h
later-told (decl_then (DNumber w e sp) rest) kinds r id later = absurd later.0
later-told (decl_then (DObject ws c x i sp) rest) kinds r id later = absurd later.0
later-told (decl_then (DEnumeration w ws sp) rest) kinds r id later = absurd later.0
later-told (decl_then (DArray w q x sp) rest) kinds r id later = absurd later.0
later-told (decl_then (DSubtype w x sp) rest) kinds r id later = absurd later.0
later-told (decl_then (DException ws sp) rest) kinds r id later = absurd later.0
later-told (decl_then (DPragma e sp) rest) kinds r id later = absurd later.0

-- what is kept of a name that means nothing, or is used, is so behind them
later-kept : (ds : PDecls) (kinds : List PTask) (s r : Scope) (id : NameId) (a : Option Thing) → AreLater ds → DeclareOnce s ds → (a ≡ None) ⊎ IsUsed s id → IsKept a (meaning r id) →
    IsKept a (meaning (after_decls r (first_decls kinds ds)) id)
later-kept no_decl kinds s r id a later once u h = h
later-kept (decl_then (DTask t sp) rest) kinds s r id a later once u h =
    later-kept rest (with_type kinds t.of_kind t) (after_decl s (DTask t sp)) r id a later.1 once.1 (⊎_elim (λ e. inl e) (λ k. inr (used-more s t.name.name.0 id k)) u) h
later-kept (decl_then (DTaskBody w objects its sp) rest) kinds s r id a later once u h = later-kept rest kinds (after_decl s (DTaskBody w objects its sp)) r id a later.1 once.1 u h
later-kept (decl_then (DIntIo w sp) rest) kinds s r id a later once u h =
    later-kept rest kinds (after_decl s (DIntIo w sp)) (after_decl r (DIntIo w sp)) id a later.1 once.1 (⊎_elim (λ e. inl e) (λ k. inr (used-more s w.name.0 id k)) u) (by_use u)
  where
    by_use : (a ≡ None) ⊎ IsUsed s id → IsKept a (meaning (with_name AnotherUnit r w) id)
    by_use (inl e) = by_test (w.name.0 == id.0) refl
      where
        by_test : (b : Bool) → (w.name.0 == id.0) ≡ b → IsKept a (meaning (with_name AnotherUnit r w) id)
        by_test true f = is_none (no_thing e) (a_unit (name_means AnotherUnit w r id f))
        by_test false f = subst (IsKept a) (sym (names-kept AnotherUnit (w ∷ []) r id (f, tt))) h
    by_use (inr k) = subst (IsKept a) (sym (names-kept AnotherUnit (w ∷ []) r id (other s.here w.name.0 id.0 once.0.0.0 once.0.0.1 k, tt))) h
later-kept (decl_then (DNumber w e sp) rest) kinds s r id a later once u h = absurd later.0
later-kept (decl_then (DObject ws c x i sp) rest) kinds s r id a later once u h = absurd later.0
later-kept (decl_then (DEnumeration w ws sp) rest) kinds s r id a later once u h = absurd later.0
later-kept (decl_then (DArray w q x sp) rest) kinds s r id a later once u h = absurd later.0
later-kept (decl_then (DSubtype w x sp) rest) kinds s r id a later once u h = absurd later.0
later-kept (decl_then (DException ws sp) rest) kinds s r id a later once u h = absurd later.0
later-kept (decl_then (DPragma e sp) rest) kinds s r id a later once u h = absurd later.0

none-or-used : (s : Scope) (id : NameId) → InHere s → (meaning s id ≡ None) ⊎ IsUsed s id
none-or-used s id here = by_meaning (meaning s id) refl
  where
    by_meaning : (o : Option Thing) → meaning s id ≡ o → (meaning s id ≡ None) ⊎ IsUsed s id
    by_meaning (Some x) e = inr (meaning-used s id x here e)
    by_meaning None e = inl e

module _ (S : Scope) (T : TypeTable) (all : List NamedTasks) where
  -- the parts so far, and those to come
  parts-all : (ds : PDecls) (kinds : List PTask) (done : List NamedTasks) (s : Scope) → all ≡ done ++ task_names_in kinds ds → Sees S kinds done s → DeclareOnce s ds → AllByRecursion (IsSeenOrHidden S s) all
  parts-all ds kinds done s e sees once =
      subst (AllByRecursion (IsSeenOrHidden S s)) (sym e)
      (all_joined (IsSeenOrHidden S s) done (task_names_in kinds ds) (all_weaker _ _ done (λ x h. inl h) sees.parts) (all_weaker _ _ (task_names_in kinds ds) (λ x h. inr h) (parts-hidden S ds kinds s sees.here once)))

  place-here : (ds : PDecls) (kinds : List PTask) (done : List NamedTasks) (s r : Scope) → all ≡ done ++ task_names_in kinds ds → Sees S kinds done s → DeclareOnce s ds → AreLater ds → Keeps anybody r.types s.types → AreKept s r →
      IsPlaced S all (after_decls r (first_decls kinds ds)) s
  place-here ds kinds done s r e sees once later keeps kept = record {
    beside = record {
      keeps = subst (λ U. Keeps anybody U s.types) (sym (later-types ds kinds r later)) keeps;
      kept = λ id. later-kept ds kinds s r id (meaning s id) later once (none-or-used s id sees.here) (kept id);
    };
    parts = parts-all ds kinds done s e sees once;
  }

  walk-behind : (ds : PDecls) (kinds : List PTask) (done : List NamedTasks) (s r : Scope) → all ≡ done ++ task_names_in kinds ds → Sees S kinds done s → DeclareOnce s ds → AreLater ds → AllEntries S s ds → AllRanges T s ds →
      Keeps anybody r.types s.types → AreKept s r → AtBodies (IsPlaced S all (after_decls r (first_decls kinds ds))) s ds
  walk-behind no_decl kinds done s r e sees once later es ranges keeps kept = place-here no_decl kinds done s r e sees once later keeps kept
  walk-behind (decl_then (DTask t sp) rest) kinds done s r e sees once later es ranges keeps kept =
      let d : PDecl = DTask t sp in
      walk-behind rest (with_type kinds t.of_kind t) (done ++ parts_of kinds d) (after_decl s d) r (e ∙ sym (append_assoc done (parts_of kinds d) (task_names_in (with_type kinds t.of_kind t) rest)))
      (sees-step S T d kinds done s once.0 es.0 ranges.0 sees) once.1 later.1 es.1 ranges.1 keeps
      (kept-hidden _ t.name s r (task-none t.of_kind _) (none-kept _ _ (kept t.name.name) (sees.here.nothing t.name.name once.0.0.0 once.0.0.1)) kept)
  walk-behind (decl_then (DTaskBody w objects its sp) rest) kinds done s r e sees once later es ranges keeps kept =
      let d : PDecl = DTaskBody w objects its sp in (
        place-here (decl_then d rest) kinds done s r e sees once later keeps kept,
        walk-behind rest kinds (done ++ []) (after_decl s d) r (e ∙ sym (append_assoc done [] (task_names_in kinds rest))) (sees-step S T d kinds done s once.0 es.0 ranges.0 sees) once.1 later.1 es.1 ranges.1
            (keeps-on keeps (keeps-objects objects (in_body s w) refl)) kept,
      )
  walk-behind (decl_then (DIntIo w sp) rest) kinds done s r e sees once later es ranges keeps kept =
      let d : PDecl = DIntIo w sp in
      walk-behind rest kinds (done ++ []) (after_decl s d) (after_decl r d) (e ∙ sym (append_assoc done [] (task_names_in kinds rest))) (sees-step S T d kinds done s once.0 es.0 ranges.0 sees) once.1 later.1 es.1 ranges.1 keeps
      (kept-name AnotherUnit AnotherUnit w s r refl kept)
  walk-behind (decl_then (DNumber w x sp) rest) kinds done s r e sees once later es ranges keeps kept = absurd later.0
  walk-behind (decl_then (DObject ws c x i sp) rest) kinds done s r e sees once later es ranges keeps kept = absurd later.0
  walk-behind (decl_then (DEnumeration w ws sp) rest) kinds done s r e sees once later es ranges keeps kept = absurd later.0
  walk-behind (decl_then (DArray w q x sp) rest) kinds done s r e sees once later es ranges keeps kept = absurd later.0
  walk-behind (decl_then (DSubtype w x sp) rest) kinds done s r e sees once later es ranges keeps kept = absurd later.0
  walk-behind (decl_then (DException ws sp) rest) kinds done s r e sees once later es ranges keeps kept = absurd later.0
  walk-behind (decl_then (DPragma x sp) rest) kinds done s r e sees once later es ranges keeps kept = absurd later.0

  -- ---- before the first body

  -- what is known behind some declarations, beside the first ones of the normal form among them
  pub record Beginning (kinds : List PTask) (done : List NamedTasks) (s r : Scope) : Type 0 where
    pub sees : Sees S kinds done s
    pub close : Close s r
    pub kept : AreKept s r
    pub types : HasTypes kinds s
    pub types' : HasTypes [] r

  -- what is told at the end
  pub record Walked (s r' : Scope) (ds : PDecls) : Type 0 where
    pub places : AtBodies (IsPlaced S all r') s ds
    pub clear : IsClearly r'

  -- where a scope is clear, so is the one behind the first declarations
  clear-thing : (o q : Option Thing) (x : Thing) (U : TypeTable) → IsKept o q → ((y : Thing) → o ≡ Some y → IsClearThing U y) → q ≡ Some x → IsClearThing U x
  clear-thing o q x U (is_same e) h f = h x (e ∙ f)
  clear-thing o q x U (is_none a b) h f = no-value-clear x (subst IsNoValue f b)
    where
      clear-of : (y : Thing) → Some x ≡ Some y → IsClearThing U y → IsClearThing U x
      clear-of y e c = subst (IsClearThing U) (sym (some_same e)) c

      no-value-clear : (y : Thing) → IsNoValue (Some x) → IsClearThing U x
      no-value-clear y (no_thing e) = absurd (not_missing x (sym e))
      no-value-clear y (a_task_type es e) = clear-of (TaskType es) e tt
      no-value-clear y (a_task es e) = clear-of (SingleTask es) e tt
      no-value-clear y (a_task_object es e) = clear-of (TaskObject es) e tt
      no-value-clear y (a_task_array range es e) = clear-of (TaskArray range es) e tt
      no-value-clear y (the_procedure e) = clear-of MainProcedure e tt
      no-value-clear y (a_unit e) = clear-of AnotherUnit e tt

  pub clear-behind : (ds : PDecls) (kinds : List PTask) (done : List NamedTasks) (s r : Scope) → AreLater ds → Stands T s → Beginning kinds done s r → IsClearly (after_decls r (first_decls kinds ds))
  clear-behind ds kinds done s r later stands b id x e =
      ⊎_elim
      (λ same. clear-thing (meaning s id) (meaning r id) x U (b.kept id) (λ y q. subst (λ V. IsClearThing V y) (b.close.types ∙ sym (later-types ds kinds r later)) (stands.over.clear.things id y q)) (moved (meaning (after_decls r (first_decls kinds ds)) id) (meaning r id) same e))
      (λ unit. subst (IsClearThing U) (some_same (moved (meaning (after_decls r (first_decls kinds ds)) id) (Some AnotherUnit) unit e)) tt)
      (later-told ds kinds r id later)
    where
      U : TypeTable
      U = (after_decls r (first_decls kinds ds)).types

      moved : (a q : Option Thing) → a ≡ q → a ≡ Some x → q ≡ Some x
      moved a q f h = sym f ∙ h

  ends : (ds : PDecls) (kinds : List PTask) (done : List NamedTasks) (s r : Scope) → all ≡ done ++ task_names_in kinds ds → Beginning kinds done s r → DeclareOnce s ds → AreLater ds → Stands T s → AllEntries S s ds → AllRanges T s ds →
      Walked s (after_decls r (first_decls kinds ds)) ds
  ends ds kinds done s r e b once later stands es ranges = record {
    places = walk-behind ds kinds done s r e b.sees once later es ranges (subst (λ U. Keeps anybody U s.types) b.close.types (keeps-self s.types)) b.kept;
    clear = clear-behind ds kinds done s r later stands b;
  }

  -- ---- one declaration that stays

  pub both : (d : PDecl) (kinds : List PTask) (done : List NamedTasks) (s r : Scope) → IsFirst d → IsBoth s r d → kinds_behind kinds d ≡ kinds → kinds_after kinds d ≡ kinds → kinds_after [] d ≡ [] → AllByRecursion (IsUnused s) (names_declared d) → Sees S kinds (done ++ parts_of kinds d) (after_decl s d) →
      Beginning kinds done s r → Beginning kinds (done ++ parts_of kinds d) (after_decl s d) (after_decl r d)
  both d kinds done s r first nt e f g u sees b =
      let close = close-decl s r b.close d first in
      record {
        sees = sees;
        close = close;
        kept = kept-decl d s r nt b.close close b.kept;
        types = subst (λ l. HasTypes l (after_decl s d)) f (types-after kinds d s b.types);
        types' = subst (λ l. HasTypes l (after_decl r d)) g (types-after [] d r b.types');
      }

  -- an object of a task type, or a task, that is left out
  entries-no-value : (es : List EntryPart) (th : Thing) → HasEntries es th → IsNoValue (Some th)
  entries-no-value es (SingleTask xs) h = a_task xs refl
  entries-no-value es (TaskObject xs) h = a_task_object xs refl
  entries-no-value es (TaskArray range xs) h = a_task_array range xs refl
  entries-no-value es (TypeMark m) h = absurd h
  entries-no-value es (TaskType xs) h = absurd h
  entries-no-value es (Variable m) h = absurd h
  entries-no-value es (ConstantObject m) h = absurd h
  entries-no-value es (Parameter mode m) h = absurd h
  entries-no-value es (LoopParameter m) h = absurd h
  entries-no-value es (Literal k) h = absurd h
  entries-no-value es AnException h = absurd h
  entries-no-value es MainProcedure h = absurd h
  entries-no-value es AnotherUnit h = absurd h
  entries-no-value es Unclear h = absurd h

  free-mark : (s : Scope) (x : PShape) (es : List EntryPart) → meaning s (mark_of x) ≡ Some (TaskType es) → IsFree s (rewriting.mark_of x)
  free-mark s (OPlain x) es e = ap valued e
  free-mark s (OArray index x) es e = ap valued e

  hidden-names : (s r : Scope) → InHere s → AreKept s r → (ws : List Word) → AllByRecursion (IsUnused s) ws → AllByRecursion (λ (w : Word). IsNoValue (meaning r w.name)) ws
  hidden-names s r here kept ws u = all_weaker _ _ ws (λ w h. none-kept _ _ (kept w.name) (here.nothing w.name h.0 h.1)) u

  pub left-object : (ws : List Word) (c : Bool) (x : PShape) (i : Option PInit) (sp : Span) (kinds : List PTask) (done : List NamedTasks) (s r : Scope) (t : PTask) → type_named kinds (mark_of x) ≡ Some t → DeclRanges T s (DObject ws c x i sp) →
      AllByRecursion (IsUnused s) ws → Sees S kinds (done ++ object_task_names kinds ws x) (after_decl s (DObject ws c x i sp)) → Beginning kinds done s r → Beginning kinds (done ++ object_task_names kinds ws x) (after_decl s (DObject ws c x i sp)) r
  left-object ws c x i sp kinds done s r t e ranges u sees b = record {
    sees = sees;
    close = hide-object ws c x i s r (free-mark s x (entries_in S t) (type-mark S kinds s (mark_of x) t b.sees.types e)) (unused-all s ws b.sees.here u) b.close;
    kept = kept-all-hidden (declared_object s c x).thing ws (with_types (with_constants s ws i (declared_object s c x)) s) r
        (entries-no-value (entries_in S t) (declared_object s c x).thing (object-typed S T kinds s ws c x i sp t b.sees.main b.sees.types ranges e)) (hidden-names s r b.sees.here b.kept ws u) b.kept;
    types = types-after kinds (DObject ws c x i sp) s b.types;
    types' = b.types';
  }

  pub left-task : (t : PTask) (sp : Span) (kinds : List PTask) (done : List NamedTasks) (s r : Scope) → IsUnused s t.name → Sees S (with_type kinds t.of_kind t) (done ++ single_task_name t.of_kind t sp) (after_decl s (DTask t sp)) → Beginning kinds done s r →
      Beginning (with_type kinds t.of_kind t) (done ++ single_task_name t.of_kind t sp) (after_decl s (DTask t sp)) r
  left-task t sp kinds done s r u sees b = record {
    sees = sees;
    close = hide-task t sp s r (unused-free s t.name b.sees.here u) b.close;
    kept = kept-hidden _ t.name s r (task-none t.of_kind _) (none-kept _ _ (b.kept t.name.name) (b.sees.here.nothing t.name.name u.0 u.1)) b.kept;
    types = types-after kinds (DTask t sp) s b.types;
    types' = b.types';
  }

  -- ---- all declarations

  pub further : (d : PDecl) (kinds : List PTask) (done : List NamedTasks) (ds : PDecls) → task_names_in kinds (decl_then d ds) ≡ parts_of kinds d ++ task_names_in (kinds_behind kinds d) ds → all ≡ done ++ task_names_in kinds (decl_then d ds) →
      all ≡ (done ++ parts_of kinds d) ++ task_names_in (kinds_behind kinds d) ds
  further d kinds done ds q e = e ∙ ap (λ l. done ++ l) q ∙ sym (append_assoc done (parts_of kinds d) (task_names_in (kinds_behind kinds d) ds))

  walk : (ds : PDecls) (kinds : List PTask) (done : List NamedTasks) (s r : Scope) → all ≡ done ++ task_names_in kinds ds → Beginning kinds done s r → DeclareOnce s ds → BodiesLast ds → AllStand T s ds → AllEntries S s ds → AllRanges T s ds →
      Walked s (after_decls r (first_decls kinds ds)) ds
  walk no_decl kinds done s r e b once last stand es ranges = ends no_decl kinds done s r e b once tt stand es ranges
  walk (decl_then (DTaskBody w objects its sp) rest) kinds done s r e b once last stand es ranges = ends (decl_then (DTaskBody w objects its sp) rest) kinds done s r e b once (tt, last) stand.0 es ranges
  walk (decl_then (DTask t sp) rest) kinds done s r e b once last stand es ranges =
      let d : PDecl = DTask t sp in
      let w = walk rest (with_type kinds t.of_kind t) (done ++ parts_of kinds d) (after_decl s d) r (further d kinds done rest refl e)
      (left-task t sp kinds done s r once.0.0 (sees-step S T d kinds done s once.0 es.0 ranges.0 b.sees) b) once.1 last stand.2 es.1 ranges.1 in
      record { places = w.places; clear = w.clear }
  walk (decl_then (DObject ws c x i sp) rest) kinds done s r e b once last stand es ranges =
      by_type (type_named kinds (mark_of x)) refl (λ r' b'. walk rest kinds (done ++ object_task_names kinds ws x) (after_decl s (DObject ws c x i sp)) r' (further (DObject ws c x i sp) kinds done rest refl e) b' once.1 last stand.2 es.1 ranges.1)
    where
      d : PDecl
      d = DObject ws c x i sp

      sees : Sees S kinds (done ++ object_task_names kinds ws x) (after_decl s d)
      sees = sees-step S T d kinds done s once.0 es.0 ranges.0 b.sees

      by_type : (o : Option PTask) → type_named kinds (mark_of x) ≡ o → ((r' : Scope) → Beginning kinds (done ++ object_task_names kinds ws x) (after_decl s d) r' → Walked (after_decl s d) (after_decls r' (first_decls kinds rest)) rest) →
          Walked s (after_decls r (unless_left (is_some o) d (first_decls kinds rest))) (decl_then d rest)
      by_type (Some t) q later = let w = later r (left-object ws c x i sp kinds done s r t q ranges.0 once.0 sees b) in record { places = w.places; clear = w.clear }
      by_type None q later =
          let nt : IsBoth s r d = (no-task kinds s c x b.types (ap is_some q), no-task [] r c x b.types' refl) in
          let w = later (after_decl r d) (both d kinds done s r tt nt refl refl refl once.0 sees b) in
          record { places = w.places; clear = w.clear }
  walk (decl_then (DNumber w x sp) rest) kinds done s r e b once last stand es ranges =
      let d : PDecl = DNumber w x sp in
      let b' = both d kinds done s r tt tt refl refl refl once.0 (sees-step S T d kinds done s once.0 es.0 ranges.0 b.sees) b in
      let v = walk rest kinds (done ++ []) (after_decl s d) (after_decl r d) (further d kinds done rest refl e) b' once.1 last stand.2 es.1 ranges.1 in
      record { places = v.places; clear = v.clear }
  walk (decl_then (DEnumeration w ws sp) rest) kinds done s r e b once last stand es ranges =
      let d : PDecl = DEnumeration w ws sp in
      let b' = both d kinds done s r tt tt refl refl refl once.0 (sees-step S T d kinds done s once.0 es.0 ranges.0 b.sees) b in
      let v = walk rest kinds (done ++ []) (after_decl s d) (after_decl r d) (further d kinds done rest refl e) b' once.1 last stand.2 es.1 ranges.1 in
      record { places = v.places; clear = v.clear }
  walk (decl_then (DArray w q x sp) rest) kinds done s r e b once last stand es ranges =
      let d : PDecl = DArray w q x sp in
      let b' = both d kinds done s r tt tt refl refl refl once.0 (sees-step S T d kinds done s once.0 es.0 ranges.0 b.sees) b in
      let v = walk rest kinds (done ++ []) (after_decl s d) (after_decl r d) (further d kinds done rest refl e) b' once.1 last stand.2 es.1 ranges.1 in
      record { places = v.places; clear = v.clear }
  walk (decl_then (DSubtype w x sp) rest) kinds done s r e b once last stand es ranges =
      let d : PDecl = DSubtype w x sp in
      let b' = both d kinds done s r tt tt refl refl refl once.0 (sees-step S T d kinds done s once.0 es.0 ranges.0 b.sees) b in
      let v = walk rest kinds (done ++ []) (after_decl s d) (after_decl r d) (further d kinds done rest refl e) b' once.1 last stand.2 es.1 ranges.1 in
      record { places = v.places; clear = v.clear }
  walk (decl_then (DException ws sp) rest) kinds done s r e b once last stand es ranges =
      let d : PDecl = DException ws sp in
      let b' = both d kinds done s r tt tt refl refl refl once.0 (sees-step S T d kinds done s once.0 es.0 ranges.0 b.sees) b in
      let v = walk rest kinds (done ++ []) (after_decl s d) (after_decl r d) (further d kinds done rest refl e) b' once.1 last stand.2 es.1 ranges.1 in
      record { places = v.places; clear = v.clear }
  walk (decl_then (DIntIo w sp) rest) kinds done s r e b once last stand es ranges =
      let d : PDecl = DIntIo w sp in
      let b' = both d kinds done s r tt tt refl refl refl once.0 (sees-step S T d kinds done s once.0 es.0 ranges.0 b.sees) b in
      let v = walk rest kinds (done ++ []) (after_decl s d) (after_decl r d) (further d kinds done rest refl e) b' once.1 last stand.2 es.1 ranges.1 in
      record { places = v.places; clear = v.clear }
  walk (decl_then (DPragma x sp) rest) kinds done s r e b once last stand es ranges =
      let d : PDecl = DPragma x sp in
      let b' = both d kinds done s r tt tt refl refl refl once.0 (sees-step S T d kinds done s once.0 es.0 ranges.0 b.sees) b in
      let v = walk rest kinds (done ++ []) (after_decl s d) (after_decl r d) (further d kinds done rest refl e) b' once.1 last stand.2 es.1 ranges.1 in
      record { places = v.places; clear = v.clear }

-- At each body of a program, and behind all its declarations, the scope is so beside the one behind the first declarations of its normal form.
pub front-scopes : (p : PProgram) → NamesOnce p.name p.decls → BodiesLast p.decls → AllStand (types_in p) (first_scope p.name) p.decls → AllEntries (behind p.name p.decls) (first_scope p.name) p.decls → AllRanges (types_in p) (first_scope p.name) p.decls →
    Walked (behind p.name p.decls) (types_in p) (task_names_of p) (first_scope p.name) (behind p.name (first_decls [] p.decls)) p.decls
front-scopes p once last stand es ranges =
    walk (behind p.name p.decls) (types_in p) (task_names_of p) p.decls [] [] (first_scope p.name) (first_scope p.name) refl
    record {
      sees = record { main = refl; here = first-here p.name; types = tt; parts = tt };
      close = close-self (first_scope p.name);
      kept = λ id. is_same refl;
      types = first-types p.name;
      types' = first-types p.name;
    }
    once.1 last stand es ranges
