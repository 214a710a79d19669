-- Declarations of a text that is well placed: its names are short and no part of it stands too deep, so of them the rules 13 to 23 ask sizes and
-- bodies alone, and where they stand in the body of a task no shared variable.
use Rattle.std.proofs.Common.{◌≡◌, ℕ, ◌+◌, ◌≤◌, true, ◌==◌, if◌then◌else◌, List, [], ◌∷◌, length, map, flat_map, Option, Some, None, IfSome, IsSomeAnd, unwrap_or, slice_get, refl, ap, ◌∙◌, arith}
use Rattle.std.specs.List.{AllByRecursion, list_any}
use Rattle.std.proofs.lemmas.List.Elements.{recursion_from_All}
use Rattle.ada_tree.specs.declared.naming.NameId.{NameId}
use Rattle.ada_tree.specs.declared.naming.Span.{Span}
use Rattle.ada_tree.specs.declared.naming.Word.{Word}
use Rattle.ada_tree.specs.Lexical.{IsIdentifier}
use Rattle.ada_tree.specs.TypeTable.{TypeTable}
use Rattle.ada_tree.specs.PlainExpr.{PExpr, EInteger, EName, EIndex, EAttribute, EAttributeOf, EParen, EUnary, EBinary, PBounds, PDrange, RGiven, RMarked}
use Rattle.ada_tree.specs.PlainDecl.{PShape, OPlain, OArray, PInit, IOne, IList, IOthers, PPriority, PEntry, PDecl, DNumber, DObject, DEnumeration, DArray, DSubtype, DException, DIntIo, DPragma, DTask, DTaskBody}
use Rattle.ada_tree.specs.Every.{Rules, EveryWord, EveryExpr, EveryBounds, EveryDrange, EveryNames, EveryFormal, EveryShape, EveryInit, EveryEntry, EveryPriority, EveryDecl}
use Rattle.ada_tree.specs.WellPlaced.{well_placed}
use Rattle.syn_event.specs.declared.numbering.Mode.TheVariants.{Any}
use Rattle.syn_event.specs.declared.limits.What.{What}
use Rattle.syn_event.specs.declared.limits.What.TheVariants.{Members, Components, Formals, Copies}
use Rattle.syn_event.specs.Limits.{any_limit}
use Rattle.syn_event.specs.CheckScope.{CheckScope, CheckSite, meaning, declares, uses, needs_body, counts}
use Rattle.syn_event.specs.CheckSites as check
use Rattle.syn_event.specs.Extents.{size, range_start}
use Rattle.syn_event.specs.RuleLimit.{limit_passed}
use Rattle.syn_event.specs.RuleSharedVariable.{shared_name, in_body_of, shared_variable}
use Rattle.syn_event.specs.DeclaredTasks.{text_of}
use Rattle.task_laws.specs.legal.sites.Met.{IsCheckMet}
use Rattle.common_lemmas.proofs.Lists.{all_joined, all_weaker, all_three, all_flat}
use Rattle.normal_laws.proofs.structure.checked.Parts.{formal-words}
use Rattle.normal_laws.proofs.structure.checked.Places.{passed-not, met-deep, met-name, met-use}

-- ---- sizes

-- the range of a family has few values, and the entry few formals
abbrev pub EntryFits : TypeTable → PEntry → Type 0
EntryFits T e = IfSome e.family (λ r. size T r ≤ 1000) × (length (check.formal_names e.formals) ≤ 17)

-- an array that is declared with its index range has few components
abbrev pub ShapeFits : TypeTable → PShape → Type 0
ShapeFits T (OPlain x) = Unit {0}
ShapeFits T (OArray r x) = size T r ≤ 1000000

-- a declaration that is no body has no more than any text may have, and of a task there is a body of its name
abbrev pub DeclFits : TypeTable → List ℕ → PDecl → Type 0
DeclFits T bodies (DArray w r x s) = size T r ≤ 1000000
DeclFits T bodies (DObject ws c x i s) = ShapeFits T x
DeclFits T bodies (DTask t s) = (list_any (λ n. n == t.name.name.0) bodies ≡ true) × AllByRecursion (EntryFits T) t.entries
DeclFits T bodies (DTaskBody w objects its s) = ⊥
DeclFits T bodies _ = Unit {0}

-- ---- names

-- an identifier is short
pub name-short : (names : List (List ℕ)) (id : NameId) → IsSomeAnd (slice_get names id.0) IsIdentifier → length (text_of names id) ≤ 150
name-short names id h = go (slice_get names id.0) h
  where
    go : (o : Option (List ℕ)) → IsSomeAnd o IsIdentifier → length (unwrap_or o []) ≤ 150
    go None i = absurd i
    go (Some t) i = i.1

module _ (names : List (List ℕ)) (d : CheckScope) where
  abbrev r : Rules
  r = well_placed names

  abbrev M : CheckSite → Type 0
  M = IsCheckMet Any names

  abbrev At : List CheckSite → Type 0
  At xs = AllByRecursion M xs

  -- what is counted keeps to a limit, or has none
  pub met-count : (what : What) (limit n here : ℕ) (s : Span) → any_limit what ≡ Some limit → n + here ≤ limit → M (check.site d (counts what n here s))
  met-count what limit n here s e h = record {
    shared = refl;
    accepts = refl;
    selects = refl;
    twice = refl;
    reserved = refl;
    main = refl;
    order = refl;
    bodies = refl;
    exits = refl;
    raises = refl;
    limits = ap (λ o. limit_passed what o n here s) e ∙ passed-not what limit n here s h;
  }

  pub met-copies : (n here : ℕ) (s : Span) → M (check.site d (counts Copies n here s))
  met-copies n here s = record { shared = refl; accepts = refl; selects = refl; twice = refl; reserved = refl; main = refl; order = refl; bodies = refl; exits = refl; raises = refl; limits = refl }

  met-body : (bodies : List ℕ) (w : Word) (s : Span) → list_any (λ n. n == w.name.0) bodies ≡ true → M (check.site d (needs_body bodies w s))
  met-body bodies w s e = record {
    shared = refl;
    accepts = refl;
    selects = refl;
    twice = refl;
    reserved = refl;
    main = refl;
    order = refl;
    bodies = ap (λ b. if b then [] else s ∷ []) e;
    exits = refl;
    raises = refl;
    limits = refl;
  }

  pub word-met : (w : Word) → EveryWord r w → M (check.site d (declares w))
  word-met w h = met-name names d w (name-short names w.name h)

  pub words-met : (ws : List Word) → AllByRecursion (EveryWord r) ws → At (check.names_sites d ws)
  words-met [] h = tt
  words-met (w ∷ ws) h = (word-met w h.0, words-met ws h.1)

  names-met : (ws : List Word) → EveryNames r ws → At (check.names_sites d ws)
  names-met ws h = words-met ws (recursion_from_All (EveryWord r) ws h.1)

  -- parts of which each counts one
  pub numbered-met : (what : What) (limit : ℕ) (spans : List Span) (n : ℕ) → any_limit what ≡ Some limit → n + length spans ≤ limit → At (check.numbered d what n spans)
  numbered-met what limit [] n e h = tt
  numbered-met what limit (s ∷ rest) n e h = (met-count what limit n 1 s e (omega (arith, h)), numbered-met what limit rest (n + 1) e (omega (arith, h)))

  -- ---- expressions

  -- no name in it is that of a shared variable
  abbrev pub AreFree : PExpr → Type 0
  AreFree (EInteger n s) = Prim.Unit {0}
  AreFree (EName id s) = shared_variable d (uses id s) ≡ []
  AreFree (EIndex w e s) = (shared_variable d (uses w.name w.span) ≡ []) × AreFree e
  AreFree (EAttribute m w s) = Prim.Unit {0}
  AreFree (EAttributeOf m w e s) = AreFree e
  AreFree (EParen e s) = AreFree e
  AreFree (EUnary op e s) = AreFree e
  AreFree (EBinary op x y s) = AreFree x × AreFree y

  pub expr-met : (k : ℕ) (e : PExpr) → EveryExpr r k e → AreFree e → At (check.expr_sites d k e)
  expr-met k (EInteger n s) h f = (met-deep names d k s h.0, tt)
  expr-met k (EName id s) h f = (met-deep names d k s h.0, (met-use names d id s f, tt))
  expr-met k (EIndex w e s) h f = (met-deep names d k s h.0, (met-use names d w.name w.span f.0, expr-met (k + 1) e h.2 f.1))
  expr-met k (EAttribute m w s) h f = (met-deep names d k s h.0, tt)
  expr-met k (EAttributeOf m w e s) h f = (met-deep names d k s h.0, expr-met (k + 1) e h.3 f)
  expr-met k (EParen e s) h f = (met-deep names d k s h.0, expr-met (k + 1) e h.1 f)
  expr-met k (EUnary op e s) h f = (met-deep names d k s h.0, expr-met (k + 1) e h.2 f)
  expr-met k (EBinary op x y s) h f = (met-deep names d k s h.0, all_joined M (check.expr_sites d (k + 1) x) (check.expr_sites d (k + 1) y) (expr-met (k + 1) x h.2 f.0) (expr-met (k + 1) y h.3 f.1))

  abbrev pub BoundsFree : PBounds → Type 0
  BoundsFree b = AreFree b.first × AreFree b.last

  pub subind-met : (o : Option PBounds) → IfSome o (EveryBounds r 2) → IfSome o BoundsFree → At (check.if_there (check.bounds_sites d 2) o)
  subind-met None h f = tt
  subind-met (Some b) h f = all_joined M (check.expr_sites d 2 b.first) (check.expr_sites d 2 b.last) (expr-met 2 b.first h.1 f.0) (expr-met 2 b.last h.2 f.1)

  -- ---- in main

  module _ (alone : d.own ≡ None) where
    pub all-free : (e : PExpr) → AreFree e
    all-free e = go e
      where
        name-free : (id : NameId) (s : Span) → shared_variable d (uses id s) ≡ []
        name-free id s = ap (λ o. in_body_of o (shared_name (meaning d id) s)) alone

        go : (e : PExpr) → AreFree e
        go (EInteger n s) = tt
        go (EName id s) = name-free id s
        go (EIndex w e s) = (name-free w.name w.span, go e)
        go (EAttribute m w s) = tt
        go (EAttributeOf m w e s) = go e
        go (EParen e s) = go e
        go (EUnary op e s) = go e
        go (EBinary op x y s) = (go x, go y)

    one-met : (k : ℕ) (e : PExpr) → EveryExpr r k e → At (check.expr_sites d k e)
    one-met k e h = expr-met k e h (all-free e)

    exprs-met : (k : ℕ) (es : List PExpr) → AllByRecursion (EveryExpr r k) es → At (check.exprs_sites d k es)
    exprs-met k es h = all_flat M (check.expr_sites d k) es (all_weaker (EveryExpr r k) (λ e. At (check.expr_sites d k e)) es (one-met k) h)

    bounds-met : (o : Option PBounds) → IfSome o (EveryBounds r 2) → At (check.if_there (check.bounds_sites d 2) o)
    bounds-met o h = subind-met o h (go o)
      where
        go : (o : Option PBounds) → IfSome o BoundsFree
        go None = tt
        go (Some b) = (all-free b.first, all-free b.last)

    range-met : (x : PDrange) → EveryDrange r 2 x → At (check.drange_sites d 2 x)
    range-met (RGiven b) h = bounds-met (Some b) h
    range-met (RMarked x) h = bounds-met x.bounds h.1

    index-met : (x : PDrange) → EveryDrange r 2 x → size d.types x ≤ 1000000 → At (check.index_sites d x)
    index-met x h le = (met-count Components 1000000 0 (size d.types x) (range_start x) refl (omega (arith, le)), range-met x h)

    shape-met : (x : PShape) → EveryShape r x → ShapeFits d.types x → At (check.shape_sites d x)
    shape-met (OPlain x) h f = bounds-met x.bounds h.1
    shape-met (OArray q x) h f = all_joined M (check.index_sites d q) (check.subind_sites d 2 x) (index-met q h.0 f) (bounds-met x.bounds h.1.1)

    init-met : (o : Option PInit) → IfSome o (EveryInit r) → At (check.if_there (check.init_sites d) o)
    init-met None h = tt
    init-met (Some (IOne e)) h = one-met 2 e h
    init-met (Some (IList es s)) h = exprs-met 2 es (recursion_from_All (EveryExpr r 2) es h.1)
    init-met (Some (IOthers e s)) h = one-met 2 e h

    -- ---- entries

    places-count : (ws : List Word) → length (map (λ (w : Word). w.span) ws) ≡ length ws
    places-count [] = refl
    places-count (w ∷ ws) = let e = places-count ws in omega (arith, e)

    family-met : (o : Option PDrange) → IfSome o (EveryDrange r 2) → IfSome o (λ q. size d.types q ≤ 1000) → At (check.if_there (check.family_sites d) o)
    family-met None h f = tt
    family-met (Some q) h f = (met-count Members 1000 0 (size d.types q) (range_start q) refl (omega (arith, f)), range-met q h)

    entry-met : (e : PEntry) → EveryEntry r e → EntryFits d.types e → At (check.entry_sites d e)
    entry-met e h f =
        let ws : List Word = check.formal_names e.formals in
        let n = places-count ws in (
          word-met e.name h.1,
          all_three M (check.if_there (check.family_sites d) e.family) (check.names_sites d ws) (check.numbered d Formals 0 (map (λ (w : Word). w.span) ws))
              (family-met e.family h.2 f.0) (words-met ws (formal-words r e.formals (recursion_from_All (EveryFormal r) e.formals h.3))) (numbered-met Formals 17 (map (λ (w : Word). w.span) ws) 0 refl (omega (arith, f.1, n))),
        )

    entries-met : (es : List PEntry) → AllByRecursion (EveryEntry r) es → AllByRecursion (EntryFits d.types) es → At (flat_map (check.entry_sites d) es)
    entries-met [] h f = tt
    entries-met (e ∷ es) h f = all_joined M (check.entry_sites d e) (flat_map (check.entry_sites d) es) (entry-met e h.0 f.0) (entries-met es h.1 f.1)

    priorities-met : (ps : List PPriority) → AllByRecursion (EveryPriority r) ps → At (flat_map (λ (p : PPriority). check.expr_sites d 2 p.value) ps)
    priorities-met [] h = tt
    priorities-met (p ∷ ps) h = all_joined M (check.expr_sites d 2 p.value) (flat_map (λ (p : PPriority). check.expr_sites d 2 p.value) ps) (one-met 2 p.value h.0.1) (priorities-met ps h.1)

    -- ---- declarations

    -- A declaration that is no body meets the rules, where it is well placed and has such sizes.
    pub decl-met : (bodies : List ℕ) (x : PDecl) → EveryDecl r x → DeclFits d.types bodies x → At (check.decl_sites d bodies x)
    decl-met bodies (DNumber w e s) h f = (word-met w h.1, one-met 2 e h.2)
    decl-met bodies (DObject ws c x i s) h f = all_three M (check.names_sites d ws) (check.shape_sites d x) (check.if_there (check.init_sites d) i) (names-met ws h.1) (shape-met x h.2 f) (init-met i h.4)
    decl-met bodies (DEnumeration w ws s) h f = (word-met w h.1, names-met ws h.2)
    decl-met bodies (DArray w q x s) h f = (word-met w h.1, all_joined M (check.index_sites d q) (check.subind_sites d 2 x) (index-met q h.2 f) (bounds-met x.bounds h.3.1))
    decl-met bodies (DSubtype w x s) h f = (word-met w h.1, bounds-met x.bounds h.2.1)
    decl-met bodies (DException ws s) h f = names-met ws h.1
    decl-met bodies (DIntIo w s) h f = (word-met w h.1, tt)
    decl-met bodies (DPragma e s) h f = one-met 2 e h.1
    decl-met bodies (DTask t s) h f = (
      met-body bodies t.name s f.0,
      (
        word-met t.name h.1.0,
        all_joined M (flat_map (check.entry_sites d) t.entries) (flat_map (λ (p : PPriority). check.expr_sites d 2 p.value) t.priorities)
            (entries-met t.entries (recursion_from_All (EveryEntry r) t.entries h.1.1) f.1) (priorities-met t.priorities (recursion_from_All (EveryPriority r) t.priorities h.1.2)),
      ),
    )
    decl-met bodies (DTaskBody w objects its s) h f = absurd f
