-- At no place of a legal program a name is unclear, so each callee is told.
use Rattle.std.proofs.Common.{◌≡◌, ℕ, Bool, true, false, ◌&&◌, ◌||◌, List, [], ◌∷◌, ◌++◌, flat_map, Option, Some, refl, ◌∙◌}
use Rattle.std.specs.List.{AllByRecursion}
use Rattle.ada_tree.specs.declared.naming.Word.{Word}
use Rattle.ada_tree.specs.TypeTable.{TypeTable}
use Rattle.ada_tree.specs.PlainExpr.{PExpr, PSubind}
use Rattle.ada_tree.specs.PlainDecl.{PShape, OPlain, OArray, PInit, IOne, IList, IOthers, PPriority, PEntry, PTask, DNumber, DObject, DEnumeration, DArray, DSubtype, DException, DIntIo, DPragma, DTask, DTaskBody, PDecls, no_decl, decl_then}
use Rattle.ada_tree.specs.PlainProgram.{PProgram}
use Rattle.ada_tree.specs.WellPlaced.{IsWellPlaced}
use Rattle.ada_static_rules.specs.Refusals.{MeetsTypeRules, types_in}
use Rattle.ada_static_rules.specs.Scope.{Scope, integer_kind, Range, Unclear, Marking, ScalarMark, ArrayMark, TaskMark, NoMark, UnknownMark, UnclearMark, range_of_mark}
use Rattle.ada_static_rules.specs.Demand.{MarkUse, scalar_only, Demand, addresses, Site}
use Rattle.ada_static_rules.specs.Sites.{if_there, names_sites, expr_sites, static_of, subind_sites, drange_sites, may_be_task, object_marks, component_marks, shape_sites, value_sites, free_value_sites, all_init_sites, array_init_sites, scalar_init_sites, object_marking, init_sites, is_task_object, object_sites, formals_sites, entry_sites, entries_sites, task_sites, own_object_sites, own_sites, body_sites, decl_sites, decls_sites, sites}
use Rattle.ada_static_rules.specs.Declaring.{first_scope, inner_scope, in_body, with_types, declared_object, after_object, after_objects, after_decl, after_decls}
use Rattle.task_laws.proofs.legal.rewritten_types.Adding.{names-main}
use Rattle.task_laws.specs.legal.sites.Met.{IsMet, IsAddressed}
use Rattle.task_laws.proofs.legal.sites.Meeting.{all_met}
use Rattle.task_laws.specs.legal.types.Typed.{IsSmall}
use Rattle.task_laws.proofs.legal.types.MainScopes.{Stands, StandsWhole, AllStand, AllBodies, main-stands, bodies-stand, last-stands}
use Rattle.task_laws.proofs.legal.types.InnerScopes.{AreApart, same-stands, inside-stands}
use Rattle.task_laws.proofs.legal.types.BodyScopes.{no-unclear, object-stands, body-stands}
use Rattle.task_laws.proofs.legal.types.AllClear.{IsClearScope, AllClear, clear-join, clear-flat, clear-if, clear-three, IsPlace, mets, aparts, expr-clear, static-clear, drange-clear, constraint-clear, names-clear, formals-clear, body-clear}
use Rattle.common_lemmas.proofs.Lists.{all_back, all_front}

module _ (s : Scope) (c : IsClearScope s) where
  value-clear : (r : Option Range) (e : PExpr) → AllClear (value_sites s r e)
  value-clear r e = clear-join (static_of s _ e) _ (static-clear s c _ e) (c, tt)

  free-clear : (e : PExpr) → AllClear (free_value_sites s e)
  free-clear e = clear-join (expr_sites s e) _ (expr-clear s c e) (c, tt)

  frees-clear : (es : List PExpr) → AllClear (flat_map (free_value_sites s) es)
  frees-clear es = clear-flat (free_value_sites s) free-clear es

  any-clear : (i : PInit) → AllClear (all_init_sites s i)
  any-clear (IOne e) = free-clear e
  any-clear (IList es sp) = frees-clear es
  any-clear (IOthers e sp) = free-clear e

  array-clear : (r : Option Range) (i : PInit) → AllClear (array_init_sites s r i)
  array-clear r (IOne e) = free-clear e
  array-clear r (IList es sp) = clear-flat (value_sites s r) (value-clear r) es
  array-clear r (IOthers e sp) = value-clear r e

  scalar-clear : (r : Option Range) (i : PInit) → AllClear (scalar_init_sites s r i)
  scalar-clear r (IOne e) = value-clear r e
  scalar-clear r (IList es sp) = frees-clear es
  scalar-clear r (IOthers e sp) = free-clear e

  init-clear : (T : TypeTable) (m : Marking) (i : PInit) → AllClear (init_sites s T m i)
  init-clear T (ScalarMark m k) i = clear-join (scalar_init_sites s (range_of_mark T m) i) _ (scalar-clear (range_of_mark T m) i) (c, tt)
  init-clear T (ArrayMark m r part) i = clear-join (array_init_sites s (range_of_mark T part) i) _ (array-clear (range_of_mark T part) i) (c, tt)
  init-clear T (TaskMark es) i = any-clear i
  init-clear T NoMark i = any-clear i
  init-clear T UnknownMark i = any-clear i
  init-clear T UnclearMark i = any-clear i

  subind-clear : (allowed : MarkUse) (x : PSubind) → AllClear (subind_sites true allowed s x)
  subind-clear allowed x = (c, clear-if _ (constraint-clear s c true _) x.bounds)

  shape-clear : (constant : Bool) (shape : PShape) (init : Option PInit) → AllClear (shape_sites s constant shape init)
  shape-clear constant (OPlain x) init = subind-clear (object_marks (may_be_task s constant x.bounds init) x.bounds) x
  shape-clear constant (OArray index x) init = clear-join (drange_sites true s index) _ (drange-clear s c true index) (subind-clear (component_marks (may_be_task s constant x.bounds init)) x)

  words-clear : (fixed : Bool) (ws : List Word) → AllClear (names_sites fixed s ws)
  words-clear fixed ws = names-clear s c fixed ws s.here

  object-clear : (ws : List Word) (constant : Bool) (shape : PShape) (init : Option PInit) → AllClear (object_sites s ws constant shape init (declared_object s constant shape))
  object-clear ws constant shape init =
      let d = declared_object s constant shape in
      clear-three (names_sites (s.in_main && (constant || is_task_object d.thing)) s ws) (shape_sites s constant shape init) (if_there (init_sites s d.types (object_marking d)) init)
      (words-clear _ ws) (shape-clear constant shape init) (clear-if (init_sites s d.types (object_marking d)) (init-clear d.types (object_marking d)) init)

  entry-clear : (before : List ℕ) (e : PEntry) → AllClear (entry_sites s before e)
  entry-clear before e = (c, clear-join (if_there (drange_sites true s) e.family) (formals_sites s e.formals) (clear-if (drange_sites true s) (drange-clear s c true) e.family) (formals-clear s c e.formals))

  entries-clear : (before : List ℕ) (es : List PEntry) → AllClear (entries_sites s before es)
  entries-clear before [] = tt
  entries-clear before (e ∷ es) = clear-join (entry_sites s before e) _ (entry-clear before e) (entries-clear (e.name.name.0 ∷ before) es)

  task-clear : (t : PTask) → AllClear (task_sites s t)
  task-clear t = (c, clear-join (entries_sites s [] t.entries) _ (entries-clear [] t.entries) (clear-flat (λ (q : PPriority). static_of s (Some integer_kind) q.value) (λ q. static-clear s c (Some integer_kind) q.value) t.priorities))

-- ---- bodies

module _ (T : TypeTable) where
  abbrev Known : List Site → Type 0
  Known xs = AllByRecursion (IsPlace T) xs

  whole-clear : (s : Scope) → StandsWhole T s → IsClearScope s
  whole-clear s h id e = no-unclear T s id h e

  own-clear : (ds : PDecls) (s : Scope) → s.in_main ≡ false → StandsWhole T s → Known (own_sites s ds) → AllClear (own_sites s ds)
  own-clear no_decl s main h k = tt
  own-clear (decl_then (DObject ws constant shape init sp) rest) s main h k =
      let one = own_object_sites s (DObject ws constant shape init sp) in
      let more = own_sites (after_object s ws constant shape init) rest in
      let known = all_front (IsPlace T) one more k in
      clear-join one more (object-clear s (whole-clear s h) ws constant shape init)
      (own-clear rest (after_object s ws constant shape init) (names-main _ ws (with_types _ s) ∙ main) (object-stands T s main h ws constant shape init (mets T one known) (aparts T one known)) (all_back _ one more k))
  own-clear (decl_then (DNumber w e sp) rest) s main h k = own-clear rest s main h k
  own-clear (decl_then (DEnumeration w ws sp) rest) s main h k = own-clear rest s main h k
  own-clear (decl_then (DArray w i x sp) rest) s main h k = own-clear rest s main h k
  own-clear (decl_then (DSubtype w x sp) rest) s main h k = own-clear rest s main h k
  own-clear (decl_then (DException ws sp) rest) s main h k = own-clear rest s main h k
  own-clear (decl_then (DIntIo w sp) rest) s main h k = own-clear rest s main h k
  own-clear (decl_then (DPragma e sp) rest) s main h k = own-clear rest s main h k
  own-clear (decl_then (DTask t sp) rest) s main h k = own-clear rest s main h k
  own-clear (decl_then (DTaskBody w ds b sp) rest) s main h k = own-clear rest s main h k

  -- ---- declarations of main

  main-clear : (s : Scope) → Stands T s → IsClearScope s
  main-clear s h id e = h.over.clear.things id Unclear e

  decls-clear : (ds : PDecls) (s : Scope) → AllStand T s ds → AllBodies T s ds → Known (decls_sites s ds) → AllClear (decls_sites s ds)
  decls-clear no_decl s h b k = tt
  decls-clear (decl_then (DTaskBody w objects its sp) rest) s h b k =
      let one = decl_sites s (DTaskBody w objects its sp) in
      let more = decls_sites (after_decl s (DTaskBody w objects its sp)) rest in
      let own = own_sites (in_body s w) objects in
      let inner = body_sites (inner_scope (after_objects (in_body s w) objects)) its in
      let known = all_front (IsPlace T) one more k in
      let known1 : Known (own ++ inner) = known.1 in
      clear-join one more (
        main-clear s h.0,
        clear-join own inner (own-clear objects (in_body s w) refl (same-stands T s (in_body s w) refl (λ id. refl) b.0) (all_front _ own inner known1))
            (body-clear T its (inner_scope (after_objects (in_body s w) objects)) (body-stands T s w objects its sp b.0 (mets T one known) (aparts T one known)) (all_back _ own inner known1)),
      )
      (decls-clear rest (after_decl s (DTaskBody w objects its sp)) h.2 b.1 (all_back _ one more k))
  decls-clear (decl_then (DNumber w e sp) rest) s h b k =
      let c = main-clear s h.0 in clear-join (decl_sites s (DNumber w e sp)) _ (c, static-clear s c (Some integer_kind) e) (decls-clear rest _ h.2 b (all_back _ (decl_sites s (DNumber w e sp)) _ k))
  decls-clear (decl_then (DObject ws x shape init sp) rest) s h b k =
      clear-join (decl_sites s (DObject ws x shape init sp)) _ (object-clear s (main-clear s h.0) ws x shape init) (decls-clear rest _ h.2 b (all_back _ (decl_sites s (DObject ws x shape init sp)) _ k))
  decls-clear (decl_then (DEnumeration w ws sp) rest) s h b k =
      clear-join (decl_sites s (DEnumeration w ws sp)) _ (words-clear s (main-clear s h.0) true (w ∷ ws)) (decls-clear rest _ h.2 b (all_back _ (decl_sites s (DEnumeration w ws sp)) _ k))
  decls-clear (decl_then (DArray w i x sp) rest) s h b k =
      let c = main-clear s h.0 in
      clear-join (decl_sites s (DArray w i x sp)) _ (c, clear-join (drange_sites true s i) _ (drange-clear s c true i) (subind-clear s c scalar_only x)) (decls-clear rest _ h.2 b (all_back _ (decl_sites s (DArray w i x sp)) _ k))
  decls-clear (decl_then (DSubtype w x sp) rest) s h b k =
      let c = main-clear s h.0 in clear-join (decl_sites s (DSubtype w x sp)) _ (c, subind-clear s c scalar_only x) (decls-clear rest _ h.2 b (all_back _ (decl_sites s (DSubtype w x sp)) _ k))
  decls-clear (decl_then (DException ws sp) rest) s h b k =
      clear-join (decl_sites s (DException ws sp)) _ (words-clear s (main-clear s h.0) true ws) (decls-clear rest _ h.2 b (all_back _ (decl_sites s (DException ws sp)) _ k))
  decls-clear (decl_then (DIntIo w sp) rest) s h b k =
      let c = main-clear s h.0 in clear-join (decl_sites s (DIntIo w sp)) _ (c, (c, tt)) (decls-clear rest _ h.2 b (all_back _ (decl_sites s (DIntIo w sp)) _ k))
  decls-clear (decl_then (DPragma e sp) rest) s h b k =
      clear-join (decl_sites s (DPragma e sp)) _ (static-clear s (main-clear s h.0) (Some integer_kind) e) (decls-clear rest _ h.2 b (all_back _ (decl_sites s (DPragma e sp)) _ k))
  decls-clear (decl_then (DTask t sp) rest) s h b k =
      clear-join (decl_sites s (DTask t sp)) _ (task-clear s (main-clear s h.0) t) (decls-clear rest _ h.2 b (all_back _ (decl_sites s (DTask t sp)) _ k))

-- ---- whole programs

addressed : (s : Scope) → IsClearScope s → (d : Demand) → IsAddressed s d
addressed s c (addresses x) = c x.name.name
addressed s c _ = tt

all-addressed : (xs : List Site) → AllClear xs → AllByRecursion (λ (x : Site). IsAddressed x.scope x.demand) xs
all-addressed [] h = tt
all-addressed (x ∷ xs) h = (addressed x.scope h.0 x.demand, all-addressed xs h.1)

both : (T : TypeTable) (xs : List Site) → AllByRecursion IsMet xs → AreApart T xs → AllByRecursion (IsPlace T) xs
both T [] h k = tt
both T (x ∷ xs) h k = ((h.0, k.0), both T xs h.1 k.1)

-- At each place of a legal program, of which names of inner scopes are those of no type and no value, the callee is told.
pub callees-told : (p : PProgram) → MeetsTypeRules p → IsWellPlaced p → IsSmall (types_in p) → AreApart (types_in p) (sites p) → AllByRecursion (λ (x : Site). IsAddressed x.scope x.demand) (sites p)
callees-told p rules placed small apart =
    let T = types_in p in
    let s = first_scope p.name in
    let ds = decls_sites s p.decls in
    let last = inner_scope (after_decls s p.decls) in
    let inner = body_sites last p.body in
    let known : AllByRecursion (IsPlace T) (ds ++ inner) = (both T (sites p) (all_met p rules) apart).1 in (
      tt,
      all-addressed (ds ++ inner)
          (clear-join ds inner (decls-clear T p.decls s (main-stands p rules placed small) (bodies-stand p rules placed small) (all_front _ ds inner known))
          (body-clear T p.body last (inside-stands T (after_decls s p.decls) (last-stands p rules placed small)) (all_back _ ds inner known))),
    )
