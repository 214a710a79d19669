-- The places of declarations that both a normal form and a text made of it have: what both count, the objects, and each declaration that is no task and no
-- body.
use Rattle.std.proofs.Common.{ℕ, ◌+◌, Bool, List, [], ◌∷◌, flat_map, Option, Some, None, IfSome, All, sym, subst}
use Rattle.std.specs.List.{AllByRecursion}
use Rattle.std.proofs.lemmas.List.Elements.{recursion_from_All}
use Rattle.common_lemmas.proofs.Lists.{all_front, all_back, all_joined, all_three, all_first, all_second, all_third}
use Rattle.ada_tree.specs.declared.naming.Span.{Span}
use Rattle.ada_tree.specs.declared.naming.Word.{Word}
use Rattle.ada_tree.specs.PlainExpr.{PSubind, PDrange}
use Rattle.ada_tree.specs.PlainStmt.{PFormal}
use Rattle.ada_tree.specs.PlainDecl.{PShape, OPlain, OArray, PInit, IOne, IList, IOthers, PPriority, PDecl, DNumber, DObject, DEnumeration, DArray, DSubtype, DException, DIntIo, DPragma, DTask, DTaskBody}
use Rattle.ada_tree.specs.Every.{Rules, EveryWord, EveryExpr, EveryShape, EveryInit, EveryPriority, EveryDecl, EveryDrange, EverySubind, EveryFormal}
use Rattle.syn_event.specs.declared.limits.What.{What}
use Rattle.syn_event.specs.declared.limits.What.TheVariants.{Members, Components}
use Rattle.syn_event.specs.CheckScope.{CheckScope, CheckSite, counts}
use Rattle.syn_event.specs.CheckSites as check
use Rattle.syn_event.specs.Extents.{size, range_start}
use Rattle.normal_laws.proofs.structure.numbers.Listed.{IsPlain}
use Rattle.replay_structure.specs.checked.Checkable.{HasSameSize, IsSameShape, IsSameDecl}
use Rattle.normal_laws.proofs.structure.checked.Parts.{Stay, StayOut, words-stay, formals-stay, expr-stays, list-stays, drange-stays, subind-stays}

module _ {r : Rules} {M M' : CheckSite → Type 0} {near : ℕ → ℕ → Type 0} {c d : CheckScope} (O : StayOut r M M' near c d) where
  abbrev S : Stay r M M' near c d
  S = O.parts

  abbrev At : List CheckSite → Type 0
  At xs = AllByRecursion M xs

  abbrev At' : List CheckSite → Type 0
  At' xs = AllByRecursion M' xs

  -- ---- counts

  pub numbered-stay : (what : What) (n : ℕ) (ss : List Span) → At (check.numbered c what n ss) → At' (check.numbered d what n ss)
  numbered-stay what n [] m = tt
  numbered-stay what n (s ∷ ss) m = (O.counted what n 1 s m.0, numbered-stay what (n + 1) ss m.1)

  size-stays : (what : What) (x : PDrange) → HasSameSize c.types d.types x → M (check.site c (counts what 0 (size c.types x) (range_start x))) → M' (check.site d (counts what 0 (size d.types x) (range_start x)))
  size-stays what x e m = subst (λ n. M' (check.site d (counts what 0 n (range_start x)))) (sym e) (O.counted what 0 (size c.types x) (range_start x) m)

  -- ---- objects

  subtype-stays : (x : PSubind) → EverySubind r 2 x → At (check.subind_sites c 2 x) → At' (check.subind_sites d 2 x)
  subtype-stays x h m = subind-stays S 2 2 x.bounds O.level h.1 m

  range-stays : (x : PDrange) → EveryDrange r 2 x → At (check.drange_sites c 2 x) → At' (check.drange_sites d 2 x)
  range-stays x h m = drange-stays S 2 2 x O.level h m

  index-stays : (x : PDrange) → HasSameSize c.types d.types x → EveryDrange r 2 x → At (check.index_sites c x) → At' (check.index_sites d x)
  index-stays x e h m = (size-stays Components x e m.0, range-stays x h m.1)

  shape-stays : (x : PShape) → IsSameShape c.types d.types x → EveryShape r x → At (check.shape_sites c x) → At' (check.shape_sites d x)
  shape-stays (OPlain x) e h m = subtype-stays x h m
  shape-stays (OArray x y) e h m =
      all_joined M' (check.index_sites d x) (check.subind_sites d 2 y)
      (index-stays x e h.0 (all_front M (check.index_sites c x) (check.subind_sites c 2 y) m))
      (subtype-stays y h.1 (all_back M (check.index_sites c x) (check.subind_sites c 2 y) m))

  value-stays : (o : Option PInit) → IfSome o (EveryInit r) → At (check.if_there (check.init_sites c) o) → At' (check.if_there (check.init_sites d) o)
  value-stays None h m = tt
  value-stays (Some (IOne e)) h m = expr-stays S 2 2 e O.level h m
  value-stays (Some (IList es s)) h m = list-stays S 2 2 es O.level (recursion_from_All (EveryExpr r 2) es h.1) m
  value-stays (Some (IOthers e s)) h m = expr-stays S 2 2 e O.level h m

  pub object-stays : (ws : List Word) (constant : Bool) (x : PShape) (i : Option PInit) (s : Span) → IsSameShape c.types d.types x → EveryDecl r (DObject ws constant x i s) → At (check.object_sites c ws x i) → At' (check.object_sites d ws x i)
  object-stays ws constant x i s e h m =
      let names : List CheckSite = check.names_sites c ws in
      let shape : List CheckSite = check.shape_sites c x in
      let init : List CheckSite = check.if_there (check.init_sites c) i in
      all_three M' (check.names_sites d ws) (check.shape_sites d x) (check.if_there (check.init_sites d) i)
      (words-stay r M M' c d S.name ws (recursion_from_All (EveryWord r) ws h.1.1) (all_first M names shape init m))
      (shape-stays x e h.2 (all_second M names shape init m))
      (value-stays i h.4 (all_third M names shape init m))

  -- ---- entries

  -- the range of a family
  pub family-stays : (o : Option PDrange) → IfSome o (HasSameSize c.types d.types) → IfSome o (EveryDrange r 2) → At (check.if_there (check.family_sites c) o) → At' (check.if_there (check.family_sites d) o)
  family-stays None e h m = tt
  family-stays (Some x) e h m = (size-stays Members x e m.0, range-stays x h m.1)

  pub formals-there : (fs : List PFormal) → All (EveryFormal r) fs → At (check.names_sites c (check.formal_names fs)) → At' (check.names_sites d (check.formal_names fs))
  formals-there fs h m = formals-stay r M M' c d S.name fs h m

  pub priorities-stay : (ps : List PPriority) → AllByRecursion (EveryPriority r) ps → At (flat_map (λ p. check.expr_sites c 2 p.value) ps) → At' (flat_map (λ p. check.expr_sites d 2 p.value) ps)
  priorities-stay [] h m = tt
  priorities-stay (p ∷ ps) h m =
      all_joined M' (check.expr_sites d 2 p.value) (flat_map (λ x. check.expr_sites d 2 x.value) ps)
      (expr-stays S 2 2 p.value O.level h.0.1 (all_front M (check.expr_sites c 2 p.value) (flat_map (λ x. check.expr_sites c 2 x.value) ps) m))
      (priorities-stay ps h.1 (all_back M (check.expr_sites c 2 p.value) (flat_map (λ x. check.expr_sites c 2 x.value) ps) m))

  -- ---- declarations

  -- a declaration that is no task and no body
  pub plain-decl : (bodies bodies' : List ℕ) (x : PDecl) → IsPlain x → EveryDecl r x → IsSameDecl c.types d.types x → At (check.decl_sites c bodies x) → At' (check.decl_sites d bodies' x)
  plain-decl b b' (DNumber w e s) p h t m = (S.name w h.1 m.0, expr-stays S 2 2 e O.level h.2 m.1)
  plain-decl b b' (DObject ws constant x i s) p h t m = object-stays ws constant x i s t.0 h m
  plain-decl b b' (DEnumeration w ws s) p h t m = words-stay r M M' c d S.name (w ∷ ws) (h.1, recursion_from_All (EveryWord r) ws h.2.1) m
  plain-decl b b' (DArray w x y s) p h t m = (
    S.name w h.1 m.0,
    all_joined M' (check.index_sites d x) (check.subind_sites d 2 y)
        (index-stays x t h.2 (all_front M (check.index_sites c x) (check.subind_sites c 2 y) m.1))
        (subtype-stays y h.3 (all_back M (check.index_sites c x) (check.subind_sites c 2 y) m.1)),
  )
  plain-decl b b' (DSubtype w x s) p h t m = (S.name w h.1 m.0, subtype-stays x h.2 m.1)
  plain-decl b b' (DException ws s) p h t m = words-stay r M M' c d S.name ws (recursion_from_All (EveryWord r) ws h.1.1) m
  plain-decl b b' (DIntIo w s) p h t m = (S.name w h.1 m.0, tt)
  plain-decl b b' (DPragma e s) p h t m = expr-stays S 2 2 e O.level h.1 m
  plain-decl b b' (DTask x s) p h t m = absurd p
  plain-decl b b' (DTaskBody w objects its s) p h t m = absurd p
