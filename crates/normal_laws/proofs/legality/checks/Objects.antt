-- The objects of a copy of a body, and the variables behind them, meet the rules 13 to 23; and what stands around the statements behind them is as
-- around those of the body.
use Rattle.std.proofs.Common.{◌≡◌, ℕ, ◌+◌, ◌<◌, ◌≤◌, ◌==◌, Bool, true, false, nat_lt, if◌then◌else◌, List, [], ◌∷◌, length, find, Option, Some, None, is_some, IfSome, option_map, refl, sym, ap, subst, ◌∙◌, arith}
use Rattle.std.specs.List.{AllByRecursion}
use Rattle.std.proofs.lemmas.List.Elements.{recursion_from_All}
use Rattle.ada_tree.specs.declared.naming.NameId.{NameId}
use Rattle.ada_tree.specs.declared.naming.Span.{Span}
use Rattle.ada_tree.specs.declared.naming.Word.{Word}
use Rattle.ada_tree.specs.TypeTable.{TypeTable}
use Rattle.ada_tree.specs.PlainExpr.{PExpr, PBounds, PSubind, PDrange, RGiven, RMarked}
use Rattle.ada_tree.specs.PlainDecl.{PShape, OPlain, OArray, PInit, IOne, IList, IOthers, PDecl, DNumber, DObject, DEnumeration, DArray, DSubtype, DException, DIntIo, DPragma, DTask, DTaskBody, PDecls, no_decl, decl_then, decls_of}
use Rattle.ada_tree.specs.Every.{EveryWord, EveryExpr, EveryBounds, EveryDrange, EveryShape, EveryInit, EveryDecl, EveryDecls}
use Rattle.ada_tree.specs.WellPlaced.{well_placed}
use Rattle.ada_static_rules.specs.StaticValue.{value_named}
use Rattle.syn_event.specs.declared.numbering.Mode.TheVariants.{Original, Any}
use Rattle.syn_event.specs.declared.limits.What.TheVariants.{Components}
use Rattle.syn_event.specs.declared.meanings.Meant.{Meant}
use Rattle.syn_event.specs.declared.meanings.Meant.TheVariants.{Inner}
use Rattle.syn_event.specs.CheckScope.{EnclosingUnit, CheckScope, CheckSite, uses}
use Rattle.syn_event.specs.CheckSites as check
use Rattle.syn_event.specs.Extents.{size, range_start}
use Rattle.syn_event.specs.RuleSharedVariable.{shared_name, in_body_of, shared_variable}
use Rattle.syn_event.specs.DeclaredTasks.{text_of}
use Rattle.task_laws.specs.legal.rewritten_types.Agreement.{Agrees}
use Rattle.task_laws.specs.legal.rewritten_values.Values.{old_names}
use Rattle.task_model.specs.Setting.{Setting}
use Rattle.normal_model.specs.Names.{variable_name}
use Rattle.normal_model.specs.Ranges.{word_at}
use Rattle.normal_model.specs.Variables.{variable_declared}
use Rattle.normal_model.specs.NormalTree.{decls_front}
use Rattle.task_laws.specs.legal.sites.Met.{IsCheckMet}
use Rattle.normal_laws.proofs.structure.placed.Added.{AreVariablesFrom}
use Rattle.normal_laws.specs.structure.checked.Around.{own_rules, IsAround}
use Rattle.normal_laws.proofs.structure.checked.Scopes.{use-under, callee-under, all-under}
use Rattle.normal_laws.proofs.structure.checked.Parts.{expr-stays}
use Rattle.normal_laws.proofs.structure.checked.Stays.{stay}
use Rattle.common_lemmas.proofs.Lists.{all_front, all_back, all_joined, all_three, all_second, all_third}
use Rattle.std.proofs.lemmas.Bool.{ltb-false}
use Rattle.common_lemmas.proofs.Numbers.{equal_self, lt_is}
use Rattle.normal_laws.proofs.legality.checks.Declared.{BoundsFree, met-count, words-met, subind-met}
use Rattle.normal_laws.proofs.legality.checks.Sizes.{ShapeSized, shape-sized, shape-fits}
use Rattle.normal_laws.proofs.legality.checks.Statics.{BoundsStatic, IsStaticSubtype, static-free}

-- ---- one list behind the other

pub after-own-front : (xs ys : PDecls) (d : CheckScope) → check.after_own d (decls_front xs ys) ≡ check.after_own (check.after_own d xs) ys
after-own-front no_decl ys d = refl
after-own-front (decl_then x xs) ys d = after-own-front xs ys (check.after_own_object d x)

meant-types : (m : Meant) (ws : List Word) (d : CheckScope) → (check.with_meant m d ws).types ≡ d.types
meant-types m [] d = refl
meant-types m (w ∷ ws) d = meant-types m ws (record d { names = (w.name.0, m) ∷ d.names })

module _ (g : Setting) (own : ℕ → Bool) (T U : TypeTable) (names names' : List (List ℕ)) (texts : (id : NameId) → own id.0 ≡ true → text_of names' id ≡ text_of names id) (agree : Agrees own T U) (types : T ≡ g.types) where
  abbrev M : CheckSite → Type 0
  M = IsCheckMet Original names

  abbrev M' : CheckSite → Type 0
  M' = IsCheckMet Any names'

  abbrev At : List CheckSite → Type 0
  At xs = AllByRecursion M xs

  abbrev At' : List CheckSite → Type 0
  At' xs = AllByRecursion M' xs

  pub own-front : (xs ys : PDecls) (d : CheckScope) → At' (check.own_sites d xs) → At' (check.own_sites (check.after_own d xs) ys) → At' (check.own_sites d (decls_front xs ys))
  own-front no_decl ys d h i = i
  own-front (decl_then x xs) ys d h i =
      let here = check.own_object_sites d x in
      let more = check.own_sites (check.after_own_object d x) xs in
      all_joined M' here (check.own_sites (check.after_own_object d x) (decls_front xs ys)) (all_front M' here more h) (own-front xs ys (check.after_own_object d x) (all_back M' here more h) i)

  -- ---- one object

  module _ (c d : CheckScope) (rel : IsAround g own [] c d) (table : d.types ≡ U) where
    one : (e : PExpr) → EveryExpr (own_rules own) 2 e → At (check.expr_sites c 2 e) → At' (check.expr_sites d 2 e)
    one e h m = expr-stays (stay g own [] names names' texts c d rel) 2 2 e (omega arith) h m

    several : (es : List PExpr) → AllByRecursion (EveryExpr (own_rules own) 2) es → At (check.exprs_sites c 2 es) → At' (check.exprs_sites d 2 es)
    several [] h m = tt
    several (e ∷ es) h m =
        all_joined M' (check.expr_sites d 2 e) (check.exprs_sites d 2 es) (one e h.0 (all_front M (check.expr_sites c 2 e) (check.exprs_sites c 2 es) m)) (several es h.1 (all_back M (check.expr_sites c 2 e) (check.exprs_sites c 2 es) m))

    bounds : (o : Option PBounds) → IfSome o (EveryBounds (own_rules own) 2) → At (check.if_there (check.bounds_sites c 2) o) → At' (check.if_there (check.bounds_sites d 2) o)
    bounds None h m = tt
    bounds (Some b) h m =
        all_joined M' (check.expr_sites d 2 b.first) (check.expr_sites d 2 b.last) (one b.first h.1 (all_front M (check.expr_sites c 2 b.first) (check.expr_sites c 2 b.last) m))
        (one b.last h.2 (all_back M (check.expr_sites c 2 b.first) (check.expr_sites c 2 b.last) m))

    range : (x : PDrange) → EveryDrange (own_rules own) 2 x → At (check.drange_sites c 2 x) → At' (check.drange_sites d 2 x)
    range (RGiven b) h m = bounds (Some b) h m
    range (RMarked x) h m = bounds x.bounds h.1 m

    shape : (x : PShape) → EveryShape (own_rules own) x → EveryShape (old_names own) x → At (check.shape_sites c x) → At' (check.shape_sites d x)
    shape (OPlain x) h o m = bounds x.bounds h.1 m
    shape (OArray q x) h o m =
        let index = check.index_sites c q in
        let few : ShapeSized c.types (OArray q x) = shape-sized names c (OArray q x) m in
        let fits = shape-fits own T U agree (OArray q x) o (subst (λ V. ShapeSized V (OArray q x)) (rel.types ∙ sym types) few) in
        let small : size d.types q ≤ 1000000 = subst (λ V. size V q ≤ 1000000) (sym table) fits in
        all_joined M' (check.index_sites d q) (check.subind_sites d 2 x)
        (met-count names' d Components 1000000 0 (size d.types q) (range_start q) refl (omega (arith, small)), range q h.0 (all_front M index (check.subind_sites c 2 x) m).1)
        (bounds x.bounds h.1.1 (all_back M index (check.subind_sites c 2 x) m))

    init : (o : Option PInit) → IfSome o (EveryInit (own_rules own)) → At (check.if_there (check.init_sites c) o) → At' (check.if_there (check.init_sites d) o)
    init None h m = tt
    init (Some (IOne e)) h m = one e h m
    init (Some (IList es s)) h m = several es (recursion_from_All (EveryExpr (own_rules own) 2) es h.1) m
    init (Some (IOthers e s)) h m = one e h m

    pub object-met : (x : PDecl) → EveryDecl (own_rules own) x → EveryDecl (old_names own) x → EveryDecl (well_placed names') x → At (check.own_object_sites c x) → At' (check.own_object_sites d x)
    object-met (DObject ws k x i s) h o v m =
        let a = check.names_sites c ws in
        let b = check.shape_sites c x in
        let e = check.if_there (check.init_sites c) i in
        all_three M' (check.names_sites d ws) (check.shape_sites d x) (check.if_there (check.init_sites d) i)
        (words-met names' d ws (recursion_from_All (EveryWord (well_placed names')) ws v.1.1)) (shape x h.2 o.2 (all_second M a b e m)) (init i h.4 (all_third M a b e m))
    object-met (DNumber w e s) h o v m = tt
    object-met (DEnumeration w ws s) h o v m = tt
    object-met (DArray w q x s) h o v m = tt
    object-met (DSubtype w x s) h o v m = tt
    object-met (DException ws s) h o v m = tt
    object-met (DIntIo w s) h o v m = tt
    object-met (DPragma e s) h o v m = tt
    object-met (DTask t s) h o v m = tt
    object-met (DTaskBody w objects its s) h o v m = tt

  -- ---- all objects

  -- what is known behind some objects
  pub record AreBehind (c d : CheckScope) : Type 0 where
    pub rel : IsAround g own [] c d
    pub table : d.types ≡ U
    pub values : (id : NameId) (s : Span) → is_some (value_named T id) ≡ true → shared_variable d (uses id s) ≡ []

  inner-values : (ws : List Word) (d : CheckScope) (id : NameId) (s : Span) → shared_variable d (uses id s) ≡ [] → shared_variable (check.with_meant Inner d ws) (uses id s) ≡ []
  inner-values [] d id s h = h
  inner-values (w ∷ ws) d id s h = inner-values ws (record d { names = (w.name.0, Inner) ∷ d.names }) id s (use-under d w.name.0 id s h)

  one-behind : (x : PDecl) (c d : CheckScope) → AreBehind c d → AreBehind (check.after_own_object c x) (check.after_own_object d x)
  one-behind (DObject ws k x i s) c d b = record {
    rel = all-under g own [] c d ws b.rel;
    table = meant-types Inner ws d ∙ b.table;
    values = λ id v e. inner-values ws d id v (b.values id v e);
  }
  one-behind (DNumber w e s) c d b = b
  one-behind (DEnumeration w ws s) c d b = b
  one-behind (DArray w q x s) c d b = b
  one-behind (DSubtype w x s) c d b = b
  one-behind (DException ws s) c d b = b
  one-behind (DIntIo w s) c d b = b
  one-behind (DPragma e s) c d b = b
  one-behind (DTask t s) c d b = b
  one-behind (DTaskBody w objects its s) c d b = b

  pub objects-met : (ds : PDecls) (c d : CheckScope) → AreBehind c d → EveryDecls (own_rules own) ds → EveryDecls (old_names own) ds → EveryDecls (well_placed names') ds → At (check.own_sites c ds) → At' (check.own_sites d ds)
  objects-met no_decl c d b h o v m = tt
  objects-met (decl_then x rest) c d b h o v m =
      let here = check.own_object_sites c x in
      let more = check.own_sites (check.after_own_object c x) rest in
      all_joined M' (check.own_object_sites d x) (check.own_sites (check.after_own_object d x) rest) (object-met c d b.rel b.table x h.0 o.0 v.0 (all_front M here more m))
      (objects-met rest (check.after_own_object c x) (check.after_own_object d x) (one-behind x c d b) h.1 o.1 v.1 (all_back M here more m))

  pub objects-behind : (ds : PDecls) (c d : CheckScope) → AreBehind c d → AreBehind (check.after_own c ds) (check.after_own d ds)
  objects-behind no_decl c d b = b
  objects-behind (decl_then x rest) c d b = objects-behind rest (check.after_own_object c x) (check.after_own_object d x) (one-behind x c d b)

  -- ---- variables

  -- the variables before a number are no shared ones
  abbrev Hidden : ℕ → CheckScope → Type 0
  Hidden k d = (j : ℕ) (s : Span) → j < k → shared_variable d (uses (variable_name g j) s) ≡ []

  with-variable : (w : Word) (c d : CheckScope) → AreBehind c d → AreBehind c (check.with_meant Inner d (w ∷ []))
  with-variable w c d b = record {
    rel = record {
      hidden = λ id s o h. use-under d w.name.0 id s (b.rel.hidden id s o h);
      variables = λ k s l. use-under d w.name.0 (variable_name g k) s (b.rel.variables k s l);
      literals = λ id s i. use-under d w.name.0 id s (b.rel.literals id s i);
      tasks = λ info s i. callee-under d w.name.0 _ (b.rel.tasks info s i);
      entries = b.rel.entries;
      accepting = b.rel.accepting;
      loops = b.rel.loops;
      in_handler = b.rel.in_handler;
      types = b.rel.types;
      fixed = b.rel.fixed;
    };
    table = b.table;
    values = λ id s e. use-under d w.name.0 id s (b.values id s e);
  }

  in-it : (o : Option EnclosingUnit) → in_body_of o [] ≡ []
  in-it None = refl
  in-it (Some u) = refl

  hidden-on : (k : ℕ) (s : Span) (d : CheckScope) → Hidden k d → Hidden (k + 1) (check.with_meant Inner d (word_at s (variable_name g k) ∷ []))
  hidden-on k s d h j v l = by_test (nat_lt j k) refl
    where
      by_test : (b : Bool) → nat_lt j k ≡ b → shared_variable (check.with_meant Inner d (word_at s (variable_name g k) ∷ [])) (uses (variable_name g j) v) ≡ []
      by_test true e = use-under d (variable_name g k).0 (variable_name g j) v (h j v (lt_is j k e))
      by_test false e =
          let last : j ≡ k = (let m : k ≤ j = ltb-false j k e in omega (arith, l, m)) in
          subst (λ i. shared_variable (check.with_meant Inner d (word_at s (variable_name g k) ∷ [])) (uses (variable_name g i) v) ≡ []) (sym last)
          (ap (λ q. in_body_of d.own (shared_name (option_map (λ (y : ℕ × Meant). y.1) (if q then Some ((variable_name g k).0, Inner) else find (λ (y : ℕ × Meant). y.0 == (variable_name g k).0) d.names)) v)) (equal_self (variable_name g k).0)
          ∙ in-it d.own)

  -- what is known behind variables up to a number
  pub record AreVariablesBehind (k : ℕ) (c d : CheckScope) : Type 0 where
    pub behind : AreBehind c d
    pub hidden : Hidden k d

  abbrev Q : PSubind → Type 0
  Q x = IsStaticSubtype T x

  variable-sites : (s : Span) (x : PSubind) (k : ℕ) (c d : CheckScope) → AreBehind c d → Q x → EveryDecl (well_placed names') (variable_declared g s x k) → At' (check.own_object_sites d (variable_declared g s x k))
  variable-sites s x k c d b q v =
      all_three M' (check.names_sites d (word_at s (variable_name g k) ∷ [])) (check.subind_sites d 2 x) []
      (words-met names' d (word_at s (variable_name g k) ∷ []) (recursion_from_All (EveryWord (well_placed names')) (word_at s (variable_name g k) ∷ []) v.1.1)) (subind-met names' d x.bounds v.2.1 (free x.bounds q)) tt
    where
      free : (o : Option PBounds) → IfSome o (BoundsStatic T) → IfSome o (BoundsFree names' d)
      free None h = tt
      free (Some y) h = (static-free names' d T b.values y.first h.0, static-free names' d T b.values y.last h.1)

  abbrev MetFrom : ℕ → CheckScope → CheckScope → List PDecl → PDecl → Type 0
  MetFrom k c d rest y = At' (check.own_sites d (decl_then y (decls_of rest))) × AreVariablesBehind (k + length (y ∷ rest)) c (check.after_own d (decl_then y (decls_of rest)))

  pub variables-met : (vars : List PDecl) (k : ℕ) (c d : CheckScope) → AreVariablesFrom g Q k vars → AreVariablesBehind k c d → AllByRecursion (EveryDecl (well_placed names')) vars →
      At' (check.own_sites d (decls_of vars)) × AreVariablesBehind (k + length vars) c (check.after_own d (decls_of vars))
  variables-met [] k c d f b v = (tt, subst (λ m. AreVariablesBehind m c d) (let e : k ≡ k + 0 = omega arith in e) b)
  variables-met (x ∷ rest) k c d f b v =
      let w : Word = word_at f.0.place (variable_name g k) in
      let d' : CheckScope = check.with_meant Inner d (w ∷ []) in
      let more = variables-met rest (k + 1) c d' f.1 (record { behind = with-variable w c d b.behind; hidden = hidden-on k f.0.place d b.hidden }) v.1 in
      let here : MetFrom k c d rest (variable_declared g f.0.place f.0.subtype k) = (
        all_joined M' (check.own_object_sites d (variable_declared g f.0.place f.0.subtype k)) (check.own_sites d' (decls_of rest))
            (variable-sites f.0.place f.0.subtype k c d b.behind f.0.fits (subst (EveryDecl (well_placed names')) f.0.is v.0)) more.0,
        subst (λ m. AreVariablesBehind m c (check.after_own d' (decls_of rest))) (let e : (k + 1) + length rest ≡ k + length (x ∷ rest) = omega arith in e) more.1,
      ) in
      subst (MetFrom k c d rest) (sym f.0.is) here

  -- With all variables of a unit, what stands around is as the pieces of the normal form ask.
  pub variables-around : (vars : List PDecl) (c d : CheckScope) → AreVariablesBehind (length vars) c d → IsAround g own vars c d
  variables-around vars c d b = record {
    hidden = b.behind.rel.hidden;
    variables = λ k s l. b.hidden k s l;
    literals = b.behind.rel.literals;
    tasks = b.behind.rel.tasks;
    entries = b.behind.rel.entries;
    accepting = b.behind.rel.accepting;
    loops = b.behind.rel.loops;
    in_handler = b.behind.rel.in_handler;
    types = b.behind.rel.types;
    fixed = b.behind.rel.fixed;
  }
