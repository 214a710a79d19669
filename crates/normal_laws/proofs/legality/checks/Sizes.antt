-- The sizes of what an original declares, by the places at which they are counted; and that they are the same by the types of its normal form.
use Rattle.std.proofs.Common.{◌≡◌, ℕ, ◌+◌, ◌≤◌, Bool, true, false, ◌&&◌, nat_le, nat_lt, ◌==◌, if◌then◌else◌, List, [], ◌∷◌, length, map, flat_map, Option, Some, None, IfSome, refl, sym, ap, subst, ◌∙◌, true≢false, arith}
use Rattle.std.specs.List.{AllByRecursion, list_any}
use Rattle.std.proofs.lemmas.Bool.{ltb-false, le-leb}
use Rattle.ada_tree.specs.declared.naming.Span.{Span}
use Rattle.ada_tree.specs.declared.naming.Word.{Word}
use Rattle.ada_tree.specs.TypeTable.{TypeTable}
use Rattle.ada_tree.specs.PlainExpr.{PDrange}
use Rattle.ada_tree.specs.PlainDecl.{PShape, OPlain, OArray, PPriority, PEntry, PDecl, DNumber, DObject, DEnumeration, DArray, DSubtype, DException, DIntIo, DPragma, DTask, DTaskBody, PDecls, no_decl, decl_then}
use Rattle.ada_tree.specs.Every.{EveryDrange, EveryShape, EveryEntry, EveryDecl}
use Rattle.syn_event.specs.declared.numbering.Mode.TheVariants.{Original}
use Rattle.syn_event.specs.declared.limits.What.{What}
use Rattle.syn_event.specs.declared.limits.What.TheVariants.{Members, Components, Formals}
use Rattle.syn_event.specs.Limits.{original_limit}
use Rattle.syn_event.specs.CheckScope.{CheckScope, CheckSite, counts}
use Rattle.syn_event.specs.CheckSites as check
use Rattle.syn_event.specs.Extents.{known_size, size, range_start}
use Rattle.syn_event.specs.RuleLimit.{limit_passed}
use Rattle.syn_event.specs.DeclaredTasks.{decl_list}
use Rattle.syn_event.proofs.Nothing.{test_fails}
use Rattle.task_laws.specs.legal.sites.Met.{IsCheckMet}
use Rattle.task_laws.specs.legal.rewritten_types.Agreement.{Agrees}
use Rattle.task_laws.specs.legal.rewritten_values.Values.{old_names}
use Rattle.normal_laws.proofs.structure.numbers.Extents.{extent-alike}
use Rattle.normal_laws.proofs.structure.numbers.Listed.{IsPlain}
use Rattle.common_lemmas.proofs.Lists.{all_front, all_back, all_first, all_second, all_third}
use Rattle.normal_laws.proofs.structure.checked.MainScopes.{decls-frame}
use Rattle.normal_laws.proofs.legality.checks.Declared.{EntryFits, ShapeFits, DeclFits}

-- ---- what an original has

-- each family of an entry has at most 1000 members, and the entry at most 16 formals
abbrev pub EntrySized : TypeTable → PEntry → Type 0
EntrySized T e = IfSome e.family (λ r. size T r ≤ 1000) × (length (check.formal_names e.formals) ≤ 16)

abbrev pub ShapeSized : TypeTable → PShape → Type 0
ShapeSized T (OPlain x) = Unit {0}
ShapeSized T (OArray r x) = size T r ≤ 10000

-- a declaration of an original; of a task there is a body of its name
abbrev pub DeclSized : TypeTable → List ℕ → PDecl → Type 0
DeclSized T bodies (DArray w r x s) = size T r ≤ 10000
DeclSized T bodies (DObject ws c x i s) = ShapeSized T x
DeclSized T bodies (DTask t s) = (list_any (λ n. n == t.name.name.0) bodies ≡ true) × AllByRecursion (EntrySized T) t.entries
DeclSized T bodies _ = Unit {0}

module _ (names : List (List ℕ)) where
  abbrev M : CheckSite → Type 0
  M = IsCheckMet Original names

  abbrev At : List CheckSite → Type 0
  At xs = AllByRecursion M xs

  right : (a b : Bool) → a ≡ true → (a && b) ≡ false → b ≡ false
  right true b e f = f
  right false b e f = absurd (true≢false (sym e))

  -- where so many stand before and the limit is not passed, it is not with those here
  pub within : (what : What) (limit : ℕ) (c : CheckScope) (n here : ℕ) (s : Span) → original_limit what ≡ Some limit → n ≤ limit → M (check.site c (counts what n here s)) → n + here ≤ limit
  within what limit c n here s e le m =
      let none : limit_passed what (Some limit) n here s ≡ [] = sym (ap (λ o. limit_passed what o n here s) e) ∙ m.limits in
      let both : (nat_le n limit && nat_lt limit (n + here)) ≡ false = test_fails (nat_le n limit && nat_lt limit (n + here)) _ none in
      ltb-false limit (n + here) (right (nat_le n limit) (nat_lt limit (n + here)) (le-leb n limit le) both)

  pub numbered-within : (what : What) (limit : ℕ) (c : CheckScope) (spans : List Span) (n : ℕ) → original_limit what ≡ Some limit → n ≤ limit → At (check.numbered c what n spans) → n + length spans ≤ limit
  numbered-within what limit c [] n e le m = omega (arith, le)
  numbered-within what limit c (s ∷ rest) n e le m =
      let one : n + 1 ≤ limit = within what limit c n 1 s e le m.0 in
      let more : (n + 1) + length rest ≤ limit = numbered-within what limit c rest (n + 1) e one m.1 in
      omega (arith, more)

  module _ (c : CheckScope) where
    index-sized : (x : PDrange) → At (check.index_sites c x) → size c.types x ≤ 10000
    index-sized x m = let h : 0 + size c.types x ≤ 10000 = within Components 10000 c 0 (size c.types x) (range_start x) refl (omega arith) m.0 in omega (arith, h)

    pub shape-sized : (x : PShape) → At (check.shape_sites c x) → ShapeSized c.types x
    shape-sized (OPlain x) m = tt
    shape-sized (OArray q x) m = index-sized q (all_front M (check.index_sites c q) (check.subind_sites c 2 x) m)

    family-sized : (o : Option PDrange) → At (check.if_there (check.family_sites c) o) → IfSome o (λ q. size c.types q ≤ 1000)
    family-sized None m = tt
    family-sized (Some q) m = let h : 0 + size c.types q ≤ 1000 = within Members 1000 c 0 (size c.types q) (range_start q) refl (omega arith) m.0 in omega (arith, h)

    places-count : (ws : List Word) → length (map (λ (w : Word). w.span) ws) ≡ length ws
    places-count [] = refl
    places-count (w ∷ ws) = let e = places-count ws in omega (arith, e)

    entry-sized : (e : PEntry) → At (check.entry_sites c e) → EntrySized c.types e
    entry-sized e m =
        let ws : List Word = check.formal_names e.formals in
        let family : List CheckSite = check.if_there (check.family_sites c) e.family in
        let spans : List Span = map (λ (w : Word). w.span) ws in
        let n = places-count ws in
        let h : 0 + length spans ≤ 16 = numbered-within Formals 16 c spans 0 refl (omega arith) (all_third M family (check.names_sites c ws) (check.numbered c Formals 0 spans) m.1) in
        (family-sized e.family (all_first M family (check.names_sites c ws) (check.numbered c Formals 0 spans) m.1), omega (arith, h, n))

    entries-sized : (es : List PEntry) → At (flat_map (check.entry_sites c) es) → AllByRecursion (EntrySized c.types) es
    entries-sized [] m = tt
    entries-sized (e ∷ es) m = (
      entry-sized e (all_front M (check.entry_sites c e) (flat_map (check.entry_sites c) es) m),
      entries-sized es (all_back M (check.entry_sites c e) (flat_map (check.entry_sites c) es) m),
    )

    found : (b : Bool) (s : Span) → (if b then [] else s ∷ []) ≡ [] → b ≡ true
    found true s e = refl
    found false s e = cc

    decl-sized : (bodies : List ℕ) (d : PDecl) → At (check.decl_sites c bodies d) → DeclSized c.types bodies d
    decl-sized bodies (DArray w q x s) m = index-sized q (all_front M (check.index_sites c q) (check.subind_sites c 2 x) m.1)
    decl-sized bodies (DObject ws k x i s) m = shape-sized x (all_second M (check.names_sites c ws) (check.shape_sites c x) (check.if_there (check.init_sites c) i) m)
    decl-sized bodies (DTask t s) m = (
      found (list_any (λ n. n == t.name.name.0) bodies) s m.0.bodies,
      entries-sized t.entries (all_front M (flat_map (check.entry_sites c) t.entries) (flat_map (λ (p : PPriority). check.expr_sites c 2 p.value) t.priorities) m.1.1),
    )
    decl-sized bodies (DTaskBody w objects its s) m = tt
    decl-sized bodies (DNumber w e s) m = tt
    decl-sized bodies (DEnumeration w ws s) m = tt
    decl-sized bodies (DSubtype w x s) m = tt
    decl-sized bodies (DException ws s) m = tt
    decl-sized bodies (DIntIo w s) m = tt
    decl-sized bodies (DPragma e s) m = tt

  -- all declarations of an original
  pub decls-sized : (bodies : List ℕ) (T : TypeTable) (ds : PDecls) (c : CheckScope) → c.types ≡ T → At (check.decls_sites c bodies ds) → AllByRecursion (DeclSized T bodies) (decl_list ds)
  decls-sized bodies T no_decl c e m = tt
  decls-sized bodies T (decl_then d rest) c e m = (
    subst (λ V. DeclSized V bodies d) e (decl-sized c bodies d (all_front M (check.decl_sites c bodies d) (check.decls_sites (check.after_decl c d) bodies rest) m)),
    decls-sized bodies T rest (check.after_decl c d) ((decls-frame (decl_then d no_decl) c).types ∙ e) (all_back M (check.decl_sites c bodies d) (check.decls_sites (check.after_decl c d) bodies rest) m),
  )

-- ---- by other types

module _ (own : ℕ → Bool) (T U : TypeTable) (agree : Agrees own T U) where
  same-size : (x : PDrange) → EveryDrange (old_names own) 2 x → size U x ≡ size T x
  same-size x h = ap known_size (sym (extent-alike own T U agree x 2 h))

  pub shape-fits : (x : PShape) → EveryShape (old_names own) x → ShapeSized T x → ShapeFits U x
  shape-fits (OPlain x) h f = tt
  shape-fits (OArray q x) h f = let e = same-size q h.0 in omega (arith, e, f)

  family-fits : (o : Option PDrange) → IfSome o (EveryDrange (old_names own) 2) → IfSome o (λ q. size T q ≤ 1000) → IfSome o (λ q. size U q ≤ 1000)
  family-fits None h f = tt
  family-fits (Some q) h f = let e = same-size q h in omega (arith, e, f)

  pub entries-fit : (es : List PEntry) → AllByRecursion (EveryEntry (old_names own)) es → AllByRecursion (EntrySized T) es → AllByRecursion (EntryFits U) es
  entries-fit [] h f = tt
  entries-fit (e ∷ es) h f = ((family-fits e.family h.0.2 f.0.0, let le = f.0.1 in omega (arith, le)), entries-fit es h.1 f.1)

  -- of a declaration that is neither a task nor a body
  pub decl-fits : (bodies bodies' : List ℕ) (d : PDecl) → IsPlain d → EveryDecl (old_names own) d → DeclSized T bodies d → DeclFits U bodies' d
  decl-fits bodies bodies' (DArray w q x s) o h f = let e = same-size q h.2 in omega (arith, e, f)
  decl-fits bodies bodies' (DObject ws c x i s) o h f = shape-fits x h.2 f
  decl-fits bodies bodies' (DTask t s) o h f = absurd o
  decl-fits bodies bodies' (DTaskBody w objects its s) o h f = absurd o
  decl-fits bodies bodies' (DNumber w e s) o h f = tt
  decl-fits bodies bodies' (DEnumeration w ws s) o h f = tt
  decl-fits bodies bodies' (DSubtype w x s) o h f = tt
  decl-fits bodies bodies' (DException ws s) o h f = tt
  decl-fits bodies bodies' (DIntIo w s) o h f = tt
  decl-fits bodies bodies' (DPragma e s) o h f = tt
