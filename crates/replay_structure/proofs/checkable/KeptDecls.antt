-- The declarations of the normal form of an original have kept names, and are not too deep, where its new variables are so.
use Rattle.std.proofs.Common.{◌≡◌, ℕ, ◌==◌, Bool, true, false, if◌then◌else◌, List, [], ◌∷◌, ◌++◌, map, flat_map, Option, Some, None, IfSome, All, is_some, arith}
use Rattle.std.specs.List.{AllByRecursion, filter}
use Rattle.std.proofs.lemmas.List.Elements.{recursion_from_All, All-from_recursion}
use Rattle.common_lemmas.proofs.Lists.{all_front, all_back, all_joined, all_first, all_second, all_third, all_unflat}
use Rattle.ada_tree.specs.declared.naming.Span.{Span}
use Rattle.ada_tree.specs.declared.naming.Word.{Word}
use Rattle.ada_tree.specs.PlainExpr.{PExpr, PDrange}
use Rattle.ada_tree.specs.PlainStmt.{PBody}
use Rattle.ada_tree.specs.PlainDecl.{PShape, OPlain, OArray, PInit, IOne, IList, IOthers, PPriority, PEntry, PTask, PDecl, DNumber, DObject, DEnumeration, DArray, DSubtype, DException, DIntIo, DPragma, DTask, DTaskBody, PDecls, no_decl, decl_then, decls_of}
use Rattle.ada_tree.specs.WellPlaced.{AreObjects}
use Rattle.ada_tree.specs.Every.{Rules, EveryExpr, EveryNames, EveryShape, EveryInit, EveryDrange, EveryEntry, EveryPriority, EveryDecl, EveryDecls, EveryBody}
use Rattle.syn_event.specs.declared.numbering.Mode.TheVariants.{Original}
use Rattle.syn_event.specs.declared.numbering.TaskInfo.{TaskInfo}
use Rattle.syn_event.specs.declared.limits.What.TheVariants.{Formals}
use Rattle.syn_event.specs.NamedTasks.{type_named, with_type}
use Rattle.syn_event.specs.CheckScope.{CheckScope, CheckSite}
use Rattle.syn_event.specs.CheckSites as check
use Rattle.syn_event.specs.DeclaredTasks.{decl_list}
use Rattle.task_laws.specs.legal.sites.Met.{IsCheckMet}
use Rattle.task_model.specs.Setting.{Setting}
use Rattle.task_laws.specs.legal.asked.Asked.{AskedBody}
use Rattle.task_laws.specs.legal.asked.Kinds.{place_asks, check_asks, both}
use Rattle.task_laws.proofs.legal.asked.Placed.{placed_asked, asked_placed}
use Rattle.task_laws.proofs.legal.asked.Checked.{checked_asked}
use Rattle.task_laws.proofs.legal.asked.Together.{both_asked}
use Rattle.normal_model.specs.Names.{task_name}
use Rattle.normal_model.specs.RewrittenUnit.{RewrittenUnit}
use Rattle.normal_model.specs.NormalTree.{decls_front, mark_of, unless_left, first_decls, tasks_beside, task_under, declared_under, unit_for, running, bodies_of}
use Rattle.normal_model.specs.NormalStmts.{normal_body, unit_variables}
use Rattle.normal_model.proofs.VariablesLemmas.{begins-refl}
use Rattle.normal_laws.specs.structure.asked.Pieces.{IsAmong, first_among, later_among}
use Rattle.normal_laws.proofs.structure.asked.Walk.{body-keeps}
use Rattle.normal_laws.specs.structure.checked.Around.{own_rules, callee_asks}
use Rattle.replay_structure.proofs.checked.Along.{OnTask}
use Rattle.replay_structure.specs.checkable.inner.Depth.{depth_asks}
use Rattle.replay_structure.proofs.checkable.Rooted.{rooted_asked}
use Rattle.replay_structure.proofs.checkable.Form.{tells}
use Rattle.replay_structure.proofs.checkable.Kept.{rules_of, words-kept, formals-kept, expr-kept, drange-kept, subind-kept}
use Rattle.replay_structure.proofs.checkable.KeptPieces.{KeepsNames, a, b, R, kept-pieces}

-- ---- lists

every-of : (rules : Rules) (xs : List PDecl) → AllByRecursion (EveryDecl rules) xs → EveryDecls rules (decls_of xs)
every-of rules [] h = tt
every-of rules (x ∷ xs) h = (h.0, every-of rules xs h.1)

every-front : (rules : Rules) (ds es : PDecls) → EveryDecls rules ds → EveryDecls rules es → EveryDecls rules (decls_front ds es)
every-front rules no_decl es h i = i
every-front rules (decl_then x ds) es h i = (h.0, every-front rules ds es h.1 i)

-- what holds of what each member of a list gives
pub flat-among : {A B : Type 0} (P : B → Type 0) (f : A → List B) (xs : List A) → ((x : A) → IsAmong x xs → AllByRecursion P (f x)) → AllByRecursion P (flat_map f xs)
flat-among P f [] h = tt
flat-among P f (x ∷ xs) h = all_joined P (f x) (flat_map f xs) (h x (first_among xs)) (flat-among P f xs (λ y i. h y (later_among x xs i)))

pub map-among : {A B : Type 0} (P : B → Type 0) (f : A → B) (xs : List A) → ((x : A) → IsAmong x xs → P (f x)) → AllByRecursion P (map f xs)
map-among P f [] h = tt
map-among P f (x ∷ xs) h = (h x (first_among xs), map-among P f xs (λ y i. h y (later_among x xs i)))

cons-kept : {A : Type 0} (x y : A) (zs ys : List A) → (IsAmong x zs → IsAmong x ys) → IsAmong x (y ∷ zs) → IsAmong x (y ∷ ys)
cons-kept x y zs ys f (first_among vs) = first_among ys
cons-kept x y zs ys f (later_among v vs l) = later_among y ys (f l)

pub kept-among : {A : Type 0} (f : A → Bool) (x : A) (xs : List A) → IsAmong x (filter f xs) → IsAmong x xs
kept-among {A = A} f x [] i = elim i [ ]
kept-among f x (y ∷ ys) i = go (f y) i (kept-among f x ys)
  where
    go : (t : Bool) → IsAmong x (if t then y ∷ filter f ys else filter f ys) → (IsAmong x (filter f ys) → IsAmong x ys) → IsAmong x (y ∷ ys)
    go true j later = cons-kept x y (filter f ys) ys later j
    go false j later = later_among y ys (later j)

-- ---- declarations

-- a task but for its name
abbrev pub HasRest : (ℕ → Bool) → PTask → Type 0
HasRest kept t = All (EveryEntry (rules_of kept)) t.entries × All (EveryPriority (rules_of kept)) t.priorities

module _ (own kept : ℕ → Bool) (old : (n : ℕ) → own n ≡ true → kept n ≡ true) (names : List (List ℕ)) where
  abbrev r : Rules
  r = own_rules own

  abbrev r' : Rules
  r' = rules_of kept

  abbrev M : CheckSite → Type 0
  M = IsCheckMet Original names

  abbrev At : List CheckSite → Type 0
  At xs = AllByRecursion M xs

  module _ (c : CheckScope) where
    names-kept : (ws : List Word) → EveryNames r ws → EveryNames r' ws
    names-kept ws h = (tt, words-kept own kept old names c ws h.1)

    shape-kept : (x : PShape) → EveryShape r x → At (check.shape_sites c x) → EveryShape r' x
    shape-kept (OPlain x) h m = (old x.mark.name.0 h.0, subind-kept own kept old names c 2 x.bounds h.1 m)
    shape-kept (OArray x y) h m = (
      drange-kept own kept old names c 2 x h.0 (all_front M (check.index_sites c x) (check.subind_sites c 2 y) m).1,
      (old y.mark.name.0 h.1.0, subind-kept own kept old names c 2 y.bounds h.1.1 (all_back M (check.index_sites c x) (check.subind_sites c 2 y) m)),
    )

    list-kept : (es : List PExpr) → AllByRecursion (EveryExpr r 2) es → At (check.exprs_sites c 2 es) → AllByRecursion (EveryExpr r' 2) es
    list-kept [] h m = tt
    list-kept (e ∷ es) h m =
        (expr-kept own kept old names c 2 2 e (omega arith) h.0 (all_front M (check.expr_sites c 2 e) (check.exprs_sites c 2 es) m), list-kept es h.1 (all_back M (check.expr_sites c 2 e) (check.exprs_sites c 2 es) m))

    init-kept : (o : Option PInit) → IfSome o (EveryInit r) → At (check.if_there (check.init_sites c) o) → IfSome o (EveryInit r')
    init-kept None h m = tt
    init-kept (Some (IOne e)) h m = expr-kept own kept old names c 2 2 e (omega arith) h m
    init-kept (Some (IList es s)) h m = (tt, All-from_recursion (EveryExpr r' 2) es (list-kept es (recursion_from_All (EveryExpr r 2) es h.1) m))
    init-kept (Some (IOthers e s)) h m = expr-kept own kept old names c 2 2 e (omega arith) h m

    object-kept : (ws : List Word) (k : Bool) (x : PShape) (i : Option PInit) (s : Span) → EveryDecl r (DObject ws k x i s) → At (check.object_sites c ws x i) → EveryDecl r' (DObject ws k x i s)
    object-kept ws k x i s h m = (
      omega arith,
      names-kept ws h.1,
      shape-kept x h.2 (all_second M (check.names_sites c ws) (check.shape_sites c x) (check.if_there (check.init_sites c) i) m),
      tt,
      init-kept i h.4 (all_third M (check.names_sites c ws) (check.shape_sites c x) (check.if_there (check.init_sites c) i) m),
    )

    family-kept : (o : Option PDrange) → IfSome o (EveryDrange r 2) → At (check.if_there (check.family_sites c) o) → IfSome o (EveryDrange r' 2)
    family-kept None h m = tt
    family-kept (Some x) h m = drange-kept own kept old names c 2 x h m.1

    entry-kept : (e : PEntry) → EveryEntry r e → At (check.entry_sites c e) → EveryEntry r' e
    entry-kept e h m = (
      omega arith,
      old e.name.name.0 h.1,
      family-kept e.family h.2 (all_first M (check.if_there (check.family_sites c) e.family) (check.names_sites c (check.formal_names e.formals)) (check.numbered c Formals 0 (map (λ w. w.span) (check.formal_names e.formals))) m.1),
      formals-kept own kept old names c e.formals h.3,
    )

    entries-kept : (es : List PEntry) → AllByRecursion (EveryEntry r) es → AllByRecursion (λ e. At (check.entry_sites c e)) es → AllByRecursion (EveryEntry r') es
    entries-kept [] h m = tt
    entries-kept (e ∷ es) h m = (entry-kept e h.0 m.0, entries-kept es h.1 m.1)

    priorities-kept : (ps : List PPriority) → AllByRecursion (EveryPriority r) ps → At (flat_map (λ p. check.expr_sites c 2 p.value) ps) → AllByRecursion (EveryPriority r') ps
    priorities-kept [] h m = tt
    priorities-kept (p ∷ ps) h m = (
      (omega arith, expr-kept own kept old names c 2 2 p.value (omega arith) h.0.1 (all_front M (check.expr_sites c 2 p.value) (flat_map (λ x. check.expr_sites c 2 x.value) ps) m)),
      priorities-kept ps h.1 (all_back M (check.expr_sites c 2 p.value) (flat_map (λ x. check.expr_sites c 2 x.value) ps) m),
    )

  task-rest : (ids : List ℕ) (t : PTask) (s : Span) (c : CheckScope) → EveryDecl r (DTask t s) → At (check.decl_sites c ids (DTask t s)) → HasRest kept t
  task-rest ids t s c h m =
      let priorities : List CheckSite = flat_map (λ p. check.expr_sites c 2 p.value) t.priorities in (
        All-from_recursion (EveryEntry r') t.entries
            (entries-kept c t.entries (recursion_from_All (EveryEntry r) t.entries h.1.1) (all_unflat M (check.entry_sites c) t.entries (all_front M (flat_map (check.entry_sites c) t.entries) priorities m.1.1))),
        All-from_recursion (EveryPriority r') t.priorities (priorities-kept c t.priorities (recursion_from_All (EveryPriority r) t.priorities h.1.2) (all_back M (flat_map (check.entry_sites c) t.entries) priorities m.1.1)),
      )

  -- the tasks of a program
  pub tasks-rest : (ids : List ℕ) (ds : PDecls) (c : CheckScope) → EveryDecls r ds → At (check.decls_sites c ids ds) → AllByRecursion (OnTask (HasRest kept)) (decl_list ds)
  tasks-rest ids no_decl c h m = tt
  tasks-rest ids (decl_then (DTask t s) ds) c h m =
      (task-rest ids t s c h.0 (all_front M (check.decl_sites c ids (DTask t s)) (check.decls_sites (check.after_decl c (DTask t s)) ids ds) m), tasks-rest ids ds (check.after_decl c (DTask t s)) h.1 (all_back M (check.decl_sites c ids (DTask t s)) (check.decls_sites (check.after_decl c (DTask t s)) ids ds) m))
  tasks-rest ids (decl_then (DTaskBody w objects its s) ds) c h m =
      (tt, tasks-rest ids ds c h.1 (all_back M (check.decl_sites c ids (DTaskBody w objects its s)) (check.decls_sites c ids ds) m))
  tasks-rest ids (decl_then (DNumber w e s) ds) c h m = (tt, tasks-rest ids ds c h.1 (all_back M (check.decl_sites c ids (DNumber w e s)) (check.decls_sites c ids ds) m))
  tasks-rest ids (decl_then (DObject ws k x i s) ds) c h m =
      (tt, tasks-rest ids ds (check.after_decl c (DObject ws k x i s)) h.1 (all_back M (check.decl_sites c ids (DObject ws k x i s)) (check.decls_sites (check.after_decl c (DObject ws k x i s)) ids ds) m))
  tasks-rest ids (decl_then (DEnumeration w ws s) ds) c h m = (tt, tasks-rest ids ds c h.1 (all_back M (check.decl_sites c ids (DEnumeration w ws s)) (check.decls_sites c ids ds) m))
  tasks-rest ids (decl_then (DArray w x y s) ds) c h m = (tt, tasks-rest ids ds c h.1 (all_back M (check.decl_sites c ids (DArray w x y s)) (check.decls_sites c ids ds) m))
  tasks-rest ids (decl_then (DSubtype w x s) ds) c h m = (tt, tasks-rest ids ds c h.1 (all_back M (check.decl_sites c ids (DSubtype w x s)) (check.decls_sites c ids ds) m))
  tasks-rest ids (decl_then (DException ws s) ds) c h m = (tt, tasks-rest ids ds c h.1 (all_back M (check.decl_sites c ids (DException ws s)) (check.decls_sites c ids ds) m))
  tasks-rest ids (decl_then (DIntIo w s) ds) c h m = (tt, tasks-rest ids ds c h.1 (all_back M (check.decl_sites c ids (DIntIo w s)) (check.decls_sites c ids ds) m))
  tasks-rest ids (decl_then (DPragma e s) ds) c h m = (tt, tasks-rest ids ds c h.1 (all_back M (check.decl_sites c ids (DPragma e s)) (check.decls_sites c ids ds) m))

  -- the first declarations
  left-kept : (t : Bool) (ws : List Word) (k : Bool) (x : PShape) (i : Option PInit) (s : Span) (rest : PDecls) → EveryDecl r' (DObject ws k x i s) → EveryDecls r' rest → EveryDecls r' (unless_left t (DObject ws k x i s) rest)
  left-kept true ws k x i s rest h l = l
  left-kept false ws k x i s rest h l = (h, l)

  pub firsts-kept : (ids : List ℕ) (ds : PDecls) (kinds : List PTask) (c : CheckScope) → EveryDecls r ds → At (check.decls_sites c ids ds) → EveryDecls r' (first_decls kinds ds)
  firsts-kept ids no_decl kinds c h m = tt
  firsts-kept ids (decl_then (DTask t s) ds) kinds c h m =
      firsts-kept ids ds (with_type kinds t.of_kind t) (check.after_decl c (DTask t s)) h.1 (all_back M (check.decl_sites c ids (DTask t s)) (check.decls_sites (check.after_decl c (DTask t s)) ids ds) m)
  firsts-kept ids (decl_then (DTaskBody w objects its s) ds) kinds c h m = firsts-kept ids ds kinds c h.1 (all_back M (check.decl_sites c ids (DTaskBody w objects its s)) (check.decls_sites c ids ds) m)
  firsts-kept ids (decl_then (DObject ws k x i s) ds) kinds c h m =
      left-kept (is_some (type_named kinds (mark_of x))) ws k x i s (first_decls kinds ds) (object-kept c ws k x i s h.0 (all_front M (check.decl_sites c ids (DObject ws k x i s)) (check.decls_sites (check.after_decl c (DObject ws k x i s)) ids ds) m))
      (firsts-kept ids ds kinds (check.after_decl c (DObject ws k x i s)) h.1 (all_back M (check.decl_sites c ids (DObject ws k x i s)) (check.decls_sites (check.after_decl c (DObject ws k x i s)) ids ds) m))
  firsts-kept ids (decl_then (DNumber w e s) ds) kinds c h m =
      ((omega arith, old w.name.0 h.0.1, expr-kept own kept old names c 2 2 e (omega arith) h.0.2 (all_front M (check.decl_sites c ids (DNumber w e s)) (check.decls_sites c ids ds) m).1), firsts-kept ids ds kinds c h.1 (all_back M (check.decl_sites c ids (DNumber w e s)) (check.decls_sites c ids ds) m))
  firsts-kept ids (decl_then (DEnumeration w ws s) ds) kinds c h m = ((omega arith, old w.name.0 h.0.1, names-kept c ws h.0.2), firsts-kept ids ds kinds c h.1 (all_back M (check.decl_sites c ids (DEnumeration w ws s)) (check.decls_sites c ids ds) m))
  firsts-kept ids (decl_then (DArray w x y s) ds) kinds c h m =
      let here : At (check.index_sites c x ++ check.subind_sites c 2 y) = (all_front M (check.decl_sites c ids (DArray w x y s)) (check.decls_sites c ids ds) m).1 in (
        (
          omega arith,
          old w.name.0 h.0.1,
          drange-kept own kept old names c 2 x h.0.2 (all_front M (check.index_sites c x) (check.subind_sites c 2 y) here).1,
          (old y.mark.name.0 h.0.3.0, subind-kept own kept old names c 2 y.bounds h.0.3.1 (all_back M (check.index_sites c x) (check.subind_sites c 2 y) here)),
        ),
        firsts-kept ids ds kinds c h.1 (all_back M (check.decl_sites c ids (DArray w x y s)) (check.decls_sites c ids ds) m),
      )
  firsts-kept ids (decl_then (DSubtype w x s) ds) kinds c h m =
      ((omega arith, old w.name.0 h.0.1, (old x.mark.name.0 h.0.2.0, subind-kept own kept old names c 2 x.bounds h.0.2.1 (all_front M (check.decl_sites c ids (DSubtype w x s)) (check.decls_sites c ids ds) m).1)), firsts-kept ids ds kinds c h.1 (all_back M (check.decl_sites c ids (DSubtype w x s)) (check.decls_sites c ids ds) m))
  firsts-kept ids (decl_then (DException ws s) ds) kinds c h m = ((omega arith, names-kept c ws h.0.1), firsts-kept ids ds kinds c h.1 (all_back M (check.decl_sites c ids (DException ws s)) (check.decls_sites c ids ds) m))
  firsts-kept ids (decl_then (DIntIo w s) ds) kinds c h m = ((omega arith, old w.name.0 h.0.1), firsts-kept ids ds kinds c h.1 (all_back M (check.decl_sites c ids (DIntIo w s)) (check.decls_sites c ids ds) m))
  firsts-kept ids (decl_then (DPragma e s) ds) kinds c h m =
      ((omega arith, expr-kept own kept old names c 2 2 e (omega arith) h.0.1 (all_front M (check.decl_sites c ids (DPragma e s)) (check.decls_sites c ids ds) m)), firsts-kept ids ds kinds c h.1 (all_back M (check.decl_sites c ids (DPragma e s)) (check.decls_sites c ids ds) m))

  -- the objects of a body
  pub objects-kept : (ds : PDecls) (c : CheckScope) → EveryDecls r ds → AreObjects ds → At (check.own_sites c ds) → EveryDecls r' ds
  objects-kept no_decl c h o m = tt
  objects-kept (decl_then (DObject ws k x i s) ds) c h o m = (
    object-kept c ws k x i s h.0 (all_front M (check.object_sites c ws x i) (check.own_sites (check.after_own_object c (DObject ws k x i s)) ds) m),
    objects-kept ds (check.after_own_object c (DObject ws k x i s)) h.1 o (all_back M (check.object_sites c ws x i) (check.own_sites (check.after_own_object c (DObject ws k x i s)) ds) m),
  )
  objects-kept (decl_then (DTask t s) ds) c h o m = absurd o
  objects-kept (decl_then (DTaskBody w objects its s) ds) c h o m = absurd o
  objects-kept (decl_then (DNumber w e s) ds) c h o m = absurd o
  objects-kept (decl_then (DEnumeration w ws s) ds) c h o m = absurd o
  objects-kept (decl_then (DArray w x y s) ds) c h o m = absurd o
  objects-kept (decl_then (DSubtype w x s) ds) c h o m = absurd o
  objects-kept (decl_then (DException ws s) ds) c h o m = absurd o
  objects-kept (decl_then (DIntIo w s) ds) c h o m = absurd o
  objects-kept (decl_then (DPragma e s) ds) c h o m = absurd o

-- ---- units, tasks and copies of bodies

module _ (g : Setting) (own kept : ℕ → Bool) (names : List (List ℕ)) where
  -- the statements of a unit
  pub unit-kept : (u : RewrittenUnit) (c : CheckScope) (x : PBody) → KeepsNames u.setting own kept (unit_variables u x) → EveryBody (own_rules own) 1 x → AskedBody (callee_asks u.setting) tt 1 x → AllByRecursion (IsCheckMet Original names) (check.body_sites c 1 x) → EveryBody (rules_of kept) 1 (normal_body u x)
  unit-kept u c x known every calls m =
      let met = checked_asked (IsCheckMet Original names) c 1 x m in
      let vars : List PDecl = unit_variables u x in
      asked_placed (rules_of kept) 1 (normal_body u x)
      (body-keeps u vars (b u vars own kept names known) (a u vars own kept names known) (R u vars own kept names known) (kept-pieces u vars own kept names known) (tt, (c, (tt, tt))) tt 1 x tt
      (both_asked (place_asks (own_rules own)) (both (check_asks (IsCheckMet Original names)) (both (depth_asks 41) (callee_asks u.setting))) tt (c, (tt, tt)) 1 x (placed_asked (own_rules own) 1 x every)
      (both_asked (check_asks (IsCheckMet Original names)) (both (depth_asks 41) (callee_asks u.setting)) c (tt, tt) 1 x met
      (both_asked (depth_asks 41) (callee_asks u.setting) tt tt 1 x (rooted_asked (check_asks (IsCheckMet Original names)) 40 (tells names) c 1 x met) calls)))
      (begins-refl vars))

  -- the task of the normal form
  pub task-kept : (info : TaskInfo) → kept (task_name g info).0 ≡ true → (ds : List PDecl) → AllByRecursion (OnTask (HasRest kept)) ds → AllByRecursion (EveryDecl (rules_of kept)) (flat_map (declared_under info.unit (task_name g info)) ds)
  task-kept info k [] h = tt
  task-kept info k (DTask t s ∷ ds) h = all_joined (EveryDecl (rules_of kept)) (declared_under info.unit (task_name g info) (DTask t s)) (flat_map (declared_under info.unit (task_name g info)) ds) (go (t.name.name.0 == info.unit.0)) (task-kept info k ds h.1)
    where
      go : (e : Bool) → AllByRecursion (EveryDecl (rules_of kept)) (if e then DTask (task_under (task_name g info) t) s ∷ [] else [])
      go true = ((omega arith, (k, h.0.0, h.0.1, tt)), tt)
      go false = tt
  task-kept info k (DTaskBody w objects its s ∷ ds) h = task-kept info k ds h.1
  task-kept info k (DNumber w e s ∷ ds) h = task-kept info k ds h.1
  task-kept info k (DObject ws c x i s ∷ ds) h = task-kept info k ds h.1
  task-kept info k (DEnumeration w ws s ∷ ds) h = task-kept info k ds h.1
  task-kept info k (DArray w x y s ∷ ds) h = task-kept info k ds h.1
  task-kept info k (DSubtype w x s ∷ ds) h = task-kept info k ds h.1
  task-kept info k (DException ws s ∷ ds) h = task-kept info k ds h.1
  task-kept info k (DIntIo w s ∷ ds) h = task-kept info k ds h.1
  task-kept info k (DPragma e s ∷ ds) h = task-kept info k ds h.1

  pub all-tasks-kept : (ds : List PDecl) → ((info : TaskInfo) → IsAmong info (tasks_beside g) → kept (task_name g info).0 ≡ true) → AllByRecursion (OnTask (HasRest kept)) ds → AllByRecursion (EveryDecl (rules_of kept)) (flat_map (λ info. flat_map (declared_under info.unit (task_name g info)) ds) (tasks_beside g))
  all-tasks-kept ds named h = flat-among (EveryDecl (rules_of kept)) (λ info. flat_map (declared_under info.unit (task_name g info)) ds) (tasks_beside g) (λ info i. task-kept info (named info i) ds h)

  -- each copy of a body
  pub copies-kept : (ids : List ℕ) (w : Word) (objects : PDecls) (its : PBody) (s : Span) (c : CheckScope) → KeepsNames g own kept (unit_variables (unit_for g w.name) its) → AllByRecursion (EveryDecl (rules_of kept)) (unit_variables (unit_for g w.name) its) →
      ((info : TaskInfo) → IsAmong info (running g w.name) → AskedBody (callee_asks g) tt 1 its) → EveryDecl (own_rules own) (DTaskBody w objects its s) → AreObjects objects → AllByRecursion (IsCheckMet Original names) (check.decl_sites c ids (DTaskBody w objects its s)) →
      AllByRecursion (EveryDecl (rules_of kept)) (bodies_of g (DTaskBody w objects its s))
  copies-kept ids w objects its s c known vars calls every objs m =
      let ci : CheckScope = check.in_body c w in
      let u : RewrittenUnit = unit_for g w.name in
      map-among (EveryDecl (rules_of kept)) _ (running g w.name)
      (λ info i. (
        omega arith,
        known.tasks info (kept-among (λ x. x.unit.0 == w.name.0) info (tasks_beside g) i),
        tt,
        every-front (rules_of kept) objects (decls_of (unit_variables u its))
            (objects-kept own kept known.old names objects ci every.3 objs (all_front (IsCheckMet Original names) (check.own_sites ci objects) (check.body_sites (check.after_own ci objects) 1 its) m)) (every-of (rules_of kept) (unit_variables u its) vars),
        unit-kept u (check.after_own ci objects) its known every.4 (calls info i) (all_back (IsCheckMet Original names) (check.own_sites ci objects) (check.body_sites (check.after_own ci objects) 1 its) m),
      ))
