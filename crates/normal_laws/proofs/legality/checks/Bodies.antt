-- The bodies of tasks among the declarations of main, each with what stands around it and what is known there; and what is shared behind the first
-- declarations of the normal form is so at each of them.
use Rattle.std.proofs.Common.{◌≡◌, ℕ, Bool, true, false, ◌==◌, if◌then◌else◌, List, [], ◌++◌, Some, None, is_some, option_map, refl, sym, ap, subst, ◌∙◌}
use Rattle.std.specs.List.{AllByRecursion}
use Rattle.ada_tree.specs.declared.naming.NameId.{NameId}
use Rattle.ada_tree.specs.declared.naming.Span.{Span}
use Rattle.ada_tree.specs.declared.naming.Word.{Word}
use Rattle.ada_tree.specs.TypeTable.{TypeTable}
use Rattle.ada_tree.specs.PlainStmt.{PBody}
use Rattle.ada_tree.specs.PlainDecl.{PTask, PDecl, DNumber, DObject, DEnumeration, DArray, DSubtype, DException, DIntIo, DPragma, DTask, DTaskBody, PDecls, no_decl, decl_then}
use Rattle.ada_tree.specs.PlainProgram.{PProgram}
use Rattle.ada_tree.specs.Every.{EveryDecls}
use Rattle.ada_tree.specs.WellPlaced.{AreLater, BodiesLast}
use Rattle.ada_static_rules.specs.Scope.{Scope}
use Rattle.ada_static_rules.specs.Sites.{decl_sites, decls_sites}
use Rattle.ada_static_rules.specs.Declaring.{first_scope, inner_scope, in_body, after_objects, after_decl}
use Rattle.syn_event.specs.declared.numbering.Mode.TheVariants.{Original}
use Rattle.syn_event.specs.declared.meanings.Meant.{Meant}
use Rattle.syn_event.specs.declared.meanings.Meant.TheVariants.{MainProcedure, TaskType, Shared}
use Rattle.syn_event.specs.CheckScope.{CheckScope, CheckSite, meaning}
use Rattle.syn_event.specs.CheckSites as check
use Rattle.syn_event.specs.NamedTasks.{type_named, with_type}
use Rattle.syn_event.specs.DeclaredTasks.{decl_list}
use Rattle.task_laws.specs.legal.rewritten_types.Agreement.{Agrees}
use Rattle.task_laws.specs.legal.rewritten_types.Rewriting.{DeclareOnce}
use Rattle.task_laws.specs.legal.rewritten_values.Values.{old_names, AgreeOnValues}
use Rattle.normal_model.specs.NormalTree.{mark_of, unless_left, first_decls}
use Rattle.task_laws.specs.legal.sites.Met.{IsMet, IsCheckMet}
use Rattle.task_laws.proofs.legal.types.MainScopes.{AllStand}
use Rattle.task_laws.proofs.legal.types.InnerScopes.{AreApart}
use Rattle.task_laws.proofs.legal.types.GoodDeclarations.{after-main}
use Rattle.normal_laws.proofs.existence.units.Plain.{ArraysFree}
use Rattle.normal_laws.proofs.existence.seen_tasks.Parts.{ObjectsApart, AreRanged, MainSeen, decl-step}
use Rattle.normal_laws.proofs.existence.seen_tasks.Bodies.{TaskSeen, task-seen}
use Rattle.normal_laws.proofs.structure.once.TaskTypes.{HasTypes, kinds_after, first-types, types-after}
use Rattle.normal_laws.specs.structure.checked.Around.{own_rules}
use Rattle.normal_laws.proofs.structure.checked.MainScopes.{IsFrameOf, frame-trans, decls-frame}
use Rattle.common_lemmas.proofs.Lists.{all_front, all_back}
use Rattle.common_lemmas.proofs.Options.{some_same, not_missing}
use Rattle.normal_laws.proofs.legality.checks.Beside.{IsSharedName, IsBeside, nothing-added, object-stays, object-left, task-left}
use Rattle.normal_laws.proofs.legality.checks.FreeNames.{shared-free}
use Rattle.normal_laws.proofs.structure.units.Pairs.{used-decl}

-- behind a body nothing is left of declarations that adds to what stands around
later-still : (ds : PDecls) (kinds : List PTask) (b : CheckScope) → AreLater ds → check.after_decls b (first_decls kinds ds) ≡ b
later-still no_decl kinds b h = refl
later-still (decl_then (DTaskBody w objects its s) rest) kinds b h = later-still rest kinds b h.1
later-still (decl_then (DTask t s) rest) kinds b h = later-still rest (with_type kinds t.of_kind t) b h.1
later-still (decl_then (DIntIo w s) rest) kinds b h = later-still rest kinds b h.1
later-still (decl_then (DNumber w e s) rest) kinds b h = absurd h.0
later-still (decl_then (DObject ws c x i s) rest) kinds b h = absurd h.0
later-still (decl_then (DEnumeration w ws s) rest) kinds b h = absurd h.0
later-still (decl_then (DArray w q x s) rest) kinds b h = absurd h.0
later-still (decl_then (DSubtype w x s) rest) kinds b h = absurd h.0
later-still (decl_then (DException ws s) rest) kinds b h = absurd h.0
later-still (decl_then (DPragma e s) rest) kinds b h = absurd h.0

later-last : (ds : PDecls) → AreLater ds → BodiesLast ds
later-last no_decl h = tt
later-last (decl_then (DTaskBody w objects its s) rest) h = h.1
later-last (decl_then (DTask t s) rest) h = later-last rest h.1
later-last (decl_then (DIntIo w s) rest) h = later-last rest h.1
later-last (decl_then (DNumber w e s) rest) h = absurd h.0
later-last (decl_then (DObject ws c x i s) rest) h = absurd h.0
later-last (decl_then (DEnumeration w ws s) rest) h = absurd h.0
later-last (decl_then (DArray w q x s) rest) h = absurd h.0
later-last (decl_then (DSubtype w x s) rest) h = absurd h.0
later-last (decl_then (DException ws s) rest) h = absurd h.0
later-last (decl_then (DPragma e s) rest) h = absurd h.0

next-last : (d : PDecl) (rest : PDecls) → BodiesLast (decl_then d rest) → BodiesLast rest
next-last (DTaskBody w objects its s) rest h = later-last rest h
next-last (DTask t s) rest h = h
next-last (DIntIo w s) rest h = h
next-last (DNumber w e s) rest h = h
next-last (DObject ws c x i s) rest h = h
next-last (DEnumeration w ws s) rest h = h
next-last (DArray w q x s) rest h = h
next-last (DSubtype w x s) rest h = h
next-last (DException ws s) rest h = h
next-last (DPragma e s) rest h = h

module _ (p : PProgram) (own : ℕ → Bool) (T U : TypeTable) (names' : List (List ℕ)) (agree : AgreeOnValues own T U p.names names') (alike : Agrees own T U) (bodies : List ℕ) where
  abbrev M : CheckSite → Type 0
  M = IsCheckMet Original p.names

  -- what is known of declarations that are left, at the scopes before them
  pub record IsKnown (s : Scope) (a : CheckScope) (ds : PDecls) : Type 0 where
    pub met : AllByRecursion IsMet (decls_sites s ds)
    pub apart : AreApart T (decls_sites s ds)
    pub stands : AllStand T s ds
    pub ranged : AreRanged T s ds
    pub objects : ObjectsApart ds
    pub once : DeclareOnce s ds
    pub last : BodiesLast ds
    pub free : ArraysFree own T U p.names names' agree ds
    pub old : EveryDecls (old_names own) ds
    pub every : EveryDecls (own_rules own) ds
    pub checked : AllByRecursion M (check.decls_sites a bodies ds)

  next-known : (d : PDecl) (rest : PDecls) (s : Scope) (a : CheckScope) → IsKnown s a (decl_then d rest) → IsKnown (after_decl s d) (check.after_decl a d) rest
  next-known d rest s a k = record {
    met = all_back IsMet (decl_sites s d) (decls_sites (after_decl s d) rest) k.met;
    apart = all_back _ (decl_sites s d) (decls_sites (after_decl s d) rest) k.apart;
    stands = k.stands.2;
    ranged = k.ranged.1;
    objects = k.objects.1;
    once = k.once.1;
    last = next-last d rest k.last;
    free = k.free.1;
    old = k.old.1;
    every = k.every.1;
    checked = all_back M (check.decl_sites a bodies d) (check.decls_sites (check.after_decl a d) bodies rest) k.checked;
  }

  -- what is known of a body of a task: the scopes before it, whose body it is, and its places; `whole` is what stands around behind the first
  -- declarations of the normal form
  pub record IsBodyAt (whole : CheckScope) (w : Word) (objects : PDecls) (its : PBody) : Type 0 where
    pub scope : Scope
    pub around : CheckScope
    pub frame : IsFrameOf (check.first_around T p.name) around
    pub seen : TaskSeen p T w (inner_scope (after_objects (in_body scope w) objects)) (check.after_own (check.in_body around w) objects)
    pub checked : AllByRecursion M (check.own_sites (check.in_body around w) objects ++ check.body_sites (check.after_own (check.in_body around w) objects) 1 its)
    pub shared : (id : NameId) → meaning whole id ≡ Some Shared → IsSharedName own T U alike scope around id

  abbrev pub BodyPlace : CheckScope → PDecl → Type 0
  BodyPlace whole (DTaskBody w objects its sp) = IsBodyAt whole w objects its
  BodyPlace whole _ = Prim.Unit {0}

  one-body : (whole : CheckScope) (w : Word) (objects : PDecls) (its : PBody) (sp : Span) (rest : PDecls) (kinds : List PTask) (s : Scope) (a b : CheckScope) → IsKnown s a (decl_then (DTaskBody w objects its sp) rest) → IsFrameOf (check.first_around T p.name) a →
      MainSeen p T kinds (decl_then (DTaskBody w objects its sp) rest) s a → IsBeside own T U alike kinds s a b → check.after_decls b (first_decls kinds rest) ≡ whole → IsBodyAt whole w objects its
  one-body whole w objects its sp rest kinds s a b k f m h e = record {
    scope = s;
    around = a;
    frame = f;
    seen = task-seen p T kinds w objects its sp rest s a m met.0.known;
    checked = all_front M (check.decl_sites a bodies (DTaskBody w objects its sp)) (check.decls_sites a bodies rest) k.checked;
    shared = λ id q. h.shared id (ap (λ (y : CheckScope). meaning y id) (sym (later-still rest kinds b k.last) ∙ e) ∙ q);
  }
    where
      met : AllByRecursion IsMet (decl_sites s (DTaskBody w objects its sp))
      met = all_front IsMet (decl_sites s (DTaskBody w objects its sp)) (decls_sites (after_decl s (DTaskBody w objects its sp)) rest) k.met

  on : (d : PDecl) (a : CheckScope) → IsFrameOf (check.first_around T p.name) a → IsFrameOf (check.first_around T p.name) (check.after_decl a d)
  on d a f = frame-trans (check.first_around T p.name) a (check.after_decl a d) f (decls-frame (decl_then d no_decl) a)

  -- a declaration that adds nothing to what stands around
  plain : (d : PDecl) (kinds : List PTask) (s : Scope) (a b : CheckScope) → kinds_after kinds d ≡ kinds → IsBeside own T U alike kinds s a b → IsBeside own T U alike kinds (after_decl s d) a b
  plain d kinds s a b e h =
      nothing-added own T U alike d kinds s (after_decl s d) a b (after-main d s) (subst (λ l. HasTypes l (after_decl s d)) e (types-after kinds d s h.types)) (used-decl d s) h

  pub walk : (whole : CheckScope) (ds : PDecls) (kinds : List PTask) (s : Scope) (a b : CheckScope) → IsKnown s a ds → IsFrameOf (check.first_around T p.name) a → MainSeen p T kinds ds s a → IsBeside own T U alike kinds s a b →
      check.after_decls b (first_decls kinds ds) ≡ whole → AllByRecursion (BodyPlace whole) (decl_list ds)
  walk whole no_decl kinds s a b k f m h e = tt
  walk whole (decl_then (DTaskBody w objects its sp) rest) kinds s a b k f m h e = (
    one-body whole w objects its sp rest kinds s a b k f m h e,
    walk whole rest kinds (after_decl s (DTaskBody w objects its sp)) a b (next-known (DTaskBody w objects its sp) rest s a k) f (decl-step p T (DTaskBody w objects its sp) kinds rest s a tt tt k.once.0 m)
        (plain (DTaskBody w objects its sp) kinds s a b refl h) e,
  )
  walk whole (decl_then (DTask t sp) rest) kinds s a b k f m h e = (
    tt,
    walk whole rest (with_type kinds t.of_kind t) (after_decl s (DTask t sp)) (check.after_task a t) b (next-known (DTask t sp) rest s a k) (on (DTask t sp) a f) (decl-step p T (DTask t sp) kinds rest s a k.objects.0 k.ranged.0 k.once.0 m)
        (task-left own T U alike t sp kinds s a b (after-main (DTask t sp) s) k.once.0 h) e,
  )
  walk whole (decl_then (DObject ws c x i sp) rest) kinds s a b k f m h e = (tt, by_test (is_some (type_named kinds (mark_of x))) refl e (λ b'. walk whole rest kinds s' a' b' (next-known d rest s a k) (on d a f) (decl-step p T d kinds rest s a k.objects.0 k.ranged.0 k.once.0 m)))
    where
      d : PDecl
      d = DObject ws c x i sp

      s' : Scope
      s' = after_decl s (DObject ws c x i sp)

      a' : CheckScope
      a' = check.after_object a ws c x

      by_test : (q : Bool) → is_some (type_named kinds (mark_of x)) ≡ q → check.after_decls b (unless_left q (DObject ws c x i sp) (first_decls kinds rest)) ≡ whole →
          ((b' : CheckScope) → IsBeside own T U alike kinds s' a' b' → check.after_decls b' (first_decls kinds rest) ≡ whole → AllByRecursion (BodyPlace whole) (decl_list rest)) → AllByRecursion (BodyPlace whole) (decl_list rest)
      by_test true g r more = more b (object-left own T U alike ws c x i sp kinds s a b (after-main d s) k.once.0 h) r
      by_test false g r more =
          more (check.after_object b ws c x)
          (object-stays own T U alike ws c x i sp kinds s a b g (after-main d s) k.old.0.2 k.once.0
          (shared-free own T U p.names names' agree ws c x i sp kinds s h.main h.types k.stands.0 g (all_front IsMet (decl_sites s d) (decls_sites s' rest) k.met) (all_front _ (decl_sites s d) (decls_sites s' rest) k.apart) k.free.0) h) r
  walk whole (decl_then (DNumber w x sp) rest) kinds s a b k f m h e = (
    tt,
    walk whole rest kinds (after_decl s (DNumber w x sp)) a b (next-known (DNumber w x sp) rest s a k) f (decl-step p T (DNumber w x sp) kinds rest s a tt tt k.once.0 m) (plain (DNumber w x sp) kinds s a b refl h) e,
  )
  walk whole (decl_then (DEnumeration w ws sp) rest) kinds s a b k f m h e = (
    tt,
    walk whole rest kinds (after_decl s (DEnumeration w ws sp)) a b (next-known (DEnumeration w ws sp) rest s a k) f (decl-step p T (DEnumeration w ws sp) kinds rest s a tt tt k.once.0 m) (plain (DEnumeration w ws sp) kinds s a b refl h) e,
  )
  walk whole (decl_then (DArray w q x sp) rest) kinds s a b k f m h e = (
    tt,
    walk whole rest kinds (after_decl s (DArray w q x sp)) a b (next-known (DArray w q x sp) rest s a k) f (decl-step p T (DArray w q x sp) kinds rest s a tt tt k.once.0 m) (plain (DArray w q x sp) kinds s a b refl h) e,
  )
  walk whole (decl_then (DSubtype w x sp) rest) kinds s a b k f m h e = (
    tt,
    walk whole rest kinds (after_decl s (DSubtype w x sp)) a b (next-known (DSubtype w x sp) rest s a k) f (decl-step p T (DSubtype w x sp) kinds rest s a tt tt k.once.0 m) (plain (DSubtype w x sp) kinds s a b refl h) e,
  )
  walk whole (decl_then (DException ws sp) rest) kinds s a b k f m h e = (
    tt,
    walk whole rest kinds (after_decl s (DException ws sp)) a b (next-known (DException ws sp) rest s a k) f (decl-step p T (DException ws sp) kinds rest s a tt tt k.once.0 m) (plain (DException ws sp) kinds s a b refl h) e,
  )
  walk whole (decl_then (DIntIo w sp) rest) kinds s a b k f m h e = (
    tt,
    walk whole rest kinds (after_decl s (DIntIo w sp)) a b (next-known (DIntIo w sp) rest s a k) f (decl-step p T (DIntIo w sp) kinds rest s a tt tt k.once.0 m) (plain (DIntIo w sp) kinds s a b refl h) e,
  )
  walk whole (decl_then (DPragma x sp) rest) kinds s a b k f m h e = (
    tt,
    walk whole rest kinds (after_decl s (DPragma x sp)) a b (next-known (DPragma x sp) rest s a k) f (decl-step p T (DPragma x sp) kinds rest s a tt tt k.once.0 m) (plain (DPragma x sp) kinds s a b refl h) e,
  )

  -- before all declarations the procedure's name alone means something
  first-means : (w : Word) (V : TypeTable) (id : NameId) (k : Meant) → (MainProcedure ≡ k → ⊥) → meaning (check.first_around V w) id ≡ Some k → ⊥
  first-means w V id k apart e = by_test (w.name.0 == id.0) e
    where
      by_test : (b : Bool) → option_map (λ (y : ℕ × Meant). y.1) (if b then Some (w.name.0, MainProcedure) else None) ≡ Some k → ⊥
      by_test true f = apart (some_same f)
      by_test false f = not_missing k f

  pub first-beside : IsBeside own T U alike [] (first_scope p.name) (check.first_around T p.name) (check.first_around U p.name)
  first-beside = record {
    main = refl;
    types = first-types p.name;
    table = refl;
    table' = refl;
    named = λ id e. absurd (first-means p.name T id TaskType (λ f. cc) e);
    plain = λ id e. first-means p.name U id TaskType (λ f. cc) e;
    shared = λ id e. absurd (first-means p.name U id Shared (λ f. cc) e);
  }
