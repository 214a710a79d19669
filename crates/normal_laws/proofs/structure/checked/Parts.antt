-- What is asked of the places of a part by the rules 13 to 23 is so where the part stands in another text, also deeper, if it is so of each demand.
-- `M` is what is known at a place of the first text, `M'` what is to be shown at one of the second, and `near` relates the nestings in both.
use Rattle.std.proofs.Common.{ℕ, ◌+◌, List, [], ◌∷◌, ◌++◌, flat_map, Option, Some, None, IfSome, All}
use Rattle.std.specs.List.{AllByRecursion}
use Rattle.std.proofs.lemmas.List.Elements.{recursion_from_All}
use Rattle.common_lemmas.proofs.Lists.{all_front, all_back, all_joined}
use Rattle.ada_tree.specs.declared.naming.NameId.{NameId}
use Rattle.ada_tree.specs.declared.naming.Span.{Span}
use Rattle.ada_tree.specs.declared.naming.Word.{Word}
use Rattle.ada_tree.specs.PlainExpr.{PExpr, EInteger, EName, EIndex, EAttribute, EAttributeOf, EParen, EUnary, EBinary, PBounds, PDrange, RGiven, RMarked}
use Rattle.ada_tree.specs.PlainStmt.{PTarget, PCallee, PArgs, PFormal, PPart, PWords, PValue, PChoice, PScheme, LWhile, LFor, PHead, PStmt, SNull, SAssign, SDelay, SExit, SRaise, SAbort, SCall, SAccept, SWait, SConditional, STimed, SPut, SPutLine, SNewLine, SGet, SIf, SCase, SBlock, SLoop}
use Rattle.ada_tree.specs.Every.{Rules, EveryWord, EveryExpr, EveryExprs, EveryArgs, EveryBounds, EveryDrange, EveryTarget, EveryCallee, EveryFormal, EveryPart, EveryChoice, EveryScheme, EveryHead, EveryStmt}
use Rattle.syn_event.specs.declared.limits.What.{What}
use Rattle.syn_event.specs.declared.limits.What.TheVariants.{Nesting}
use Rattle.syn_event.specs.CheckScope.{CheckScope, CheckSite, declares, uses, addresses, accepts, exits, raises_again, counts}
use Rattle.syn_event.specs.CheckSites as check
use Rattle.normal_laws.specs.structure.asked.Pieces.{IsPlain}

-- what a rule asks of the names of formals it asks of each of them
pub formal-words : (r : Rules) (fs : List PFormal) → AllByRecursion (EveryFormal r) fs → AllByRecursion (EveryWord r) (check.formal_names fs)
formal-words r [] h = tt
formal-words r (f ∷ fs) h =
    all_joined (EveryWord r) f.names (check.formal_names fs) (recursion_from_All (EveryWord r) f.names h.0.0.1) (formal-words r fs h.1)

-- ---- names

-- the demand of each name that is declared stays
abbrev pub NamesStay : Rules → (CheckSite → Type 0) → (CheckSite → Type 0) → CheckScope → CheckScope → Type 0
NamesStay r M M' c d = (w : Word) → EveryWord r w → M (check.site c (declares w)) → M' (check.site d (declares w))

module _ (r : Rules) (M M' : CheckSite → Type 0) (c d : CheckScope) (name : NamesStay r M M' c d) where
  pub words-stay : (ws : List Word) → AllByRecursion (EveryWord r) ws → AllByRecursion M (check.names_sites c ws) →
      AllByRecursion M' (check.names_sites d ws)
  words-stay [] h m = tt
  words-stay (w ∷ ws) h m = (name w h.0 m.0, words-stay ws h.1 m.1)

  pub formals-stay : (fs : List PFormal) → All (EveryFormal r) fs → AllByRecursion M (check.names_sites c (check.formal_names fs)) →
      AllByRecursion M' (check.names_sites d (check.formal_names fs))
  formals-stay fs h m = words-stay (check.formal_names fs) (formal-words r fs (recursion_from_All (EveryFormal r) fs h)) m

-- ---- expressions

-- The demands of expressions and of loops stay.
pub record Stay (r : Rules) (M M' : CheckSite → Type 0) (near : ℕ → ℕ → Type 0) (c d : CheckScope) : Type 0 where
  pub next : (k n : ℕ) → near k n → near (k + 1) (n + 1)
  pub deep : (k n : ℕ) (s : Span) → near k n → r.nested k → M (check.site c (counts Nesting 0 k s)) → M' (check.site d (counts Nesting 0 n s))
  pub used : (id : NameId) (s : Span) → r.name id → M (check.site c (uses id s)) → M' (check.site d (uses id s))
  pub name : NamesStay r M M' c d

module _ {r : Rules} {M M' : CheckSite → Type 0} {near : ℕ → ℕ → Type 0} {c d : CheckScope} (S : Stay r M M' near c d) where
  abbrev At : List CheckSite → Type 0
  At xs = AllByRecursion M xs

  abbrev At' : List CheckSite → Type 0
  At' xs = AllByRecursion M' xs

  pub expr-stays : (k n : ℕ) (e : PExpr) → near k n → EveryExpr r k e → At (check.expr_sites c k e) → At' (check.expr_sites d n e)
  expr-stays k n (EInteger i s) le h m = (S.deep k n s le h.0 m.0, tt)
  expr-stays k n (EName id s) le h m = (S.deep k n s le h.0 m.0, (S.used id s h.1 m.1.0, tt))
  expr-stays k n (EIndex w e s) le h m = (S.deep k n s le h.0 m.0, (S.used w.name w.span h.1 m.1.0, expr-stays (k + 1) (n + 1) e (S.next k n le) h.2 m.1.1))
  expr-stays k n (EAttribute x w s) le h m = (S.deep k n s le h.0 m.0, tt)
  expr-stays k n (EAttributeOf x w e s) le h m = (S.deep k n s le h.0 m.0, expr-stays (k + 1) (n + 1) e (S.next k n le) h.3 m.1)
  expr-stays k n (EParen e s) le h m = (S.deep k n s le h.0 m.0, expr-stays (k + 1) (n + 1) e (S.next k n le) h.1 m.1)
  expr-stays k n (EUnary op e s) le h m = (S.deep k n s le h.0 m.0, expr-stays (k + 1) (n + 1) e (S.next k n le) h.2 m.1)
  expr-stays k n (EBinary op x y s) le h m = (
    S.deep k n s le h.0 m.0,
    all_joined M' (check.expr_sites d (n + 1) x) (check.expr_sites d (n + 1) y)
        (expr-stays (k + 1) (n + 1) x (S.next k n le) h.2 (all_front M (check.expr_sites c (k + 1) x) (check.expr_sites c (k + 1) y) m.1))
        (expr-stays (k + 1) (n + 1) y (S.next k n le) h.3 (all_back M (check.expr_sites c (k + 1) x) (check.expr_sites c (k + 1) y) m.1)),
  )

  pub option-stays : (k n : ℕ) (o : Option PExpr) → near k n → IfSome o (EveryExpr r k) → At (check.if_there (check.expr_sites c k) o) →
      At' (check.if_there (check.expr_sites d n) o)
  option-stays k n None le h m = tt
  option-stays k n (Some e) le h m = expr-stays k n e le h m

  pub list-stays : (k n : ℕ) (es : List PExpr) → near k n → AllByRecursion (EveryExpr r k) es → At (check.exprs_sites c k es) →
      At' (check.exprs_sites d n es)
  list-stays k n [] le h m = tt
  list-stays k n (e ∷ es) le h m =
      all_joined M' (check.expr_sites d n e) (check.exprs_sites d n es)
      (expr-stays k n e le h.0 (all_front M (check.expr_sites c k e) (check.exprs_sites c k es) m))
      (list-stays k n es le h.1 (all_back M (check.expr_sites c k e) (check.exprs_sites c k es) m))

  bounds-stay : (k n : ℕ) (x : PBounds) → near k n → EveryBounds r k x → At (check.bounds_sites c k x) → At' (check.bounds_sites d n x)
  bounds-stay k n x le h m =
      all_joined M' (check.expr_sites d n x.first) (check.expr_sites d n x.last)
      (expr-stays k n x.first le h.1 (all_front M (check.expr_sites c k x.first) (check.expr_sites c k x.last) m))
      (expr-stays k n x.last le h.2 (all_back M (check.expr_sites c k x.first) (check.expr_sites c k x.last) m))

  pub subind-stays : (k n : ℕ) (o : Option PBounds) → near k n → IfSome o (EveryBounds r k) → At (check.if_there (check.bounds_sites c k) o) →
      At' (check.if_there (check.bounds_sites d n) o)
  subind-stays k n None le h m = tt
  subind-stays k n (Some x) le h m = bounds-stay k n x le h m

  pub drange-stays : (k n : ℕ) (x : PDrange) → near k n → EveryDrange r k x → At (check.drange_sites c k x) → At' (check.drange_sites d n x)
  drange-stays k n (RGiven x) le h m = bounds-stay k n x le h m
  drange-stays k n (RMarked x) le h m = subind-stays k n x.bounds le h.1 m

  target-stays : (k n : ℕ) (t : PTarget) → near k n → EveryTarget r k t → At (check.target_sites c k t) → At' (check.target_sites d n t)
  target-stays k n t le h m = (S.used t.name.name t.name.span h.0 m.0, option-stays k n t.index le h.1 m.1)

  part-stays : (k n : ℕ) (x : PPart) → near k n → EveryPart r k x → At (check.part_sites c k x) → At' (check.part_sites d n x)
  part-stays k n (PWords t s) le h m = tt
  part-stays k n (PValue e) le h m = expr-stays k n e le h m

  parts-stay : (k n : ℕ) (xs : List PPart) → near k n → AllByRecursion (EveryPart r k) xs → At (flat_map (check.part_sites c k) xs) →
      At' (flat_map (check.part_sites d n) xs)
  parts-stay k n [] le h m = tt
  parts-stay k n (x ∷ xs) le h m =
      all_joined M' (check.part_sites d n x) (flat_map (check.part_sites d n) xs)
      (part-stays k n x le h.0 (all_front M (check.part_sites c k x) (flat_map (check.part_sites c k) xs) m))
      (parts-stay k n xs le h.1 (all_back M (check.part_sites c k x) (flat_map (check.part_sites c k) xs) m))

  last-stays : (k n : ℕ) (first : PExpr) (o : Option PExpr) → near k n → IfSome o (λ l. r.bounds first l × EveryExpr r k l) →
      At (check.if_there (check.expr_sites c k) o) → At' (check.if_there (check.expr_sites d n) o)
  last-stays k n first None le h m = tt
  last-stays k n first (Some e) le h m = expr-stays k n e le h.1 m

  choice-stays : (k n : ℕ) (x : PChoice) → near k n → EveryChoice r k x → At (check.choice_sites c k x) → At' (check.choice_sites d n x)
  choice-stays k n x le h m =
      all_joined M' (check.expr_sites d n x.first) (check.if_there (check.expr_sites d n) x.last)
      (expr-stays k n x.first le h.0 (all_front M (check.expr_sites c k x.first) (check.if_there (check.expr_sites c k) x.last) m))
      (last-stays k n x.first x.last le h.1 (all_back M (check.expr_sites c k x.first) (check.if_there (check.expr_sites c k) x.last) m))

  pub choices-stay : (k n : ℕ) (xs : List PChoice) → near k n → AllByRecursion (EveryChoice r k) xs → At (flat_map (check.choice_sites c k) xs) →
      At' (flat_map (check.choice_sites d n) xs)
  choices-stay k n [] le h m = tt
  choices-stay k n (x ∷ xs) le h m =
      all_joined M' (check.choice_sites d n x) (flat_map (check.choice_sites d n) xs)
      (choice-stays k n x le h.0 (all_front M (check.choice_sites c k x) (flat_map (check.choice_sites c k) xs) m))
      (choices-stay k n xs le h.1 (all_back M (check.choice_sites c k x) (flat_map (check.choice_sites c k) xs) m))

  -- the lists of a call
  pub args-stay : (k n : ℕ) (x : PArgs) → near k n → EveryArgs r k x → At (check.args_sites c k x) → At' (check.args_sites d n x)
  args-stay k n x le h m =
      all_joined M' (check.exprs_sites d n x.first) (check.if_there (check.exprs_sites d n) x.second)
      (list-stays k n x.first le (recursion_from_All (EveryExpr r k) x.first h.0.1)
      (all_front M (check.exprs_sites c k x.first) (check.if_there (check.exprs_sites c k) x.second) m))
      (go x.second h.1 (all_back M (check.exprs_sites c k x.first) (check.if_there (check.exprs_sites c k) x.second) m))
    where
      go : (o : Option (List PExpr)) → IfSome o (EveryExprs r k) → At (check.if_there (check.exprs_sites c k) o) →
          At' (check.if_there (check.exprs_sites d n) o)
      go None i j = tt
      go (Some es) i j = list-stays k n es le (recursion_from_All (EveryExpr r k) es i.1) j

  -- ---- loops

  label-stays : (o : Option Word) → IfSome o (EveryWord r) → At (check.if_there (λ y. check.site c (declares y) ∷ []) o) →
      At' (check.if_there (λ y. check.site d (declares y) ∷ []) o)
  label-stays None h m = tt
  label-stays (Some w) h m = (S.name w h m.0, tt)

  scheme-stays : (k n : ℕ) (o : Option PScheme) → near k n → IfSome o (EveryScheme r k) → At (check.if_there (check.scheme_sites c k) o) →
      At' (check.if_there (check.scheme_sites d n) o)
  scheme-stays k n None le h m = tt
  scheme-stays k n (Some (LWhile e)) le h m = expr-stays k n e le h m
  scheme-stays k n (Some (LFor w backwards x)) le h m = (S.name w h.0 m.0, drange-stays k n x le h.1 m.1)

  -- a loop without its statements
  pub loop-stays : (k n : ℕ) (w : Option Word) (x : Option PScheme) → near k n → IfSome w (EveryWord r) → IfSome x (EveryScheme r k) →
      At (check.if_there (λ y. check.site c (declares y) ∷ []) w ++ check.if_there (check.scheme_sites c k) x) →
      At' (check.if_there (λ y. check.site d (declares y) ∷ []) w ++ check.if_there (check.scheme_sites d n) x)
  loop-stays k n w x le h i m =
      all_joined M' (check.if_there (λ y. check.site d (declares y) ∷ []) w) (check.if_there (check.scheme_sites d n) x)
      (label-stays w h (all_front M (check.if_there (λ y. check.site c (declares y) ∷ []) w) (check.if_there (check.scheme_sites c k) x) m))
      (scheme-stays k n x le i (all_back M (check.if_there (λ y. check.site c (declares y) ∷ []) w) (check.if_there (check.scheme_sites c k) x) m))

-- ---- outside of statements

-- So do those of declarations, and what is counted.
pub record StayOut (r : Rules) (M M' : CheckSite → Type 0) (near : ℕ → ℕ → Type 0) (c d : CheckScope) : Type 0 where
  pub parts : Stay r M M' near c d
  pub level : near 2 2
  pub counted : (what : What) (before here : ℕ) (s : Span) → M (check.site c (counts what before here s)) → M' (check.site d (counts what before here s))

-- ---- statements

-- So do those of the statements that hold no others.
pub record StayIn (r : Rules) (M M' : CheckSite → Type 0) (near : ℕ → ℕ → Type 0) (c d : CheckScope) : Type 0 where
  pub parts : Stay r M M' near c d
  pub left : (w : Option Word) (s : Span) → M (check.site c (exits w s)) → M' (check.site d (exits w s))
  pub raised : (s : Span) → M (check.site c (raises_again s)) → M' (check.site d (raises_again s))

module _ {r : Rules} {M M' : CheckSite → Type 0} {near : ℕ → ℕ → Type 0} {c d : CheckScope} (T : StayIn r M M' near c d) where
  abbrev S : Stay r M M' near c d
  S = T.parts

  raise-stays : (o : Option Word) (s : Span) → AllByRecursion M (check.raise_sites c o s) → AllByRecursion M' (check.raise_sites d o s)
  raise-stays (Some w) s m = tt
  raise-stays None s m = (T.raised s m.0, tt)

  pub plain-stays : (k n : ℕ) (x : PStmt) → IsPlain x → near k n → EveryStmt r k x → AllByRecursion M (check.stmt_sites c k x) →
      AllByRecursion M' (check.stmt_sites d n x)
  plain-stays k n (SNull s) p le h m = (S.deep k n s le h m.0, tt)
  plain-stays k n (SAssign t e s) p le h m = (
    S.deep k n s le h.0 m.0,
    all_joined M' (check.target_sites d (n + 1) t) (check.expr_sites d (n + 1) e)
        (target-stays S (k + 1) (n + 1) t (S.next k n le) h.1 (all_front M (check.target_sites c (k + 1) t) (check.expr_sites c (k + 1) e) m.1))
        (expr-stays S (k + 1) (n + 1) e (S.next k n le) h.2 (all_back M (check.target_sites c (k + 1) t) (check.expr_sites c (k + 1) e) m.1)),
  )
  plain-stays k n (SDelay i s) p le h m = (S.deep k n s le h.0 m.0, tt)
  plain-stays k n (SExit w e s) p le h m = (S.deep k n s le h.0 m.0, (T.left w s m.1.0, option-stays S (k + 1) (n + 1) e (S.next k n le) h.2 m.1.1))
  plain-stays k n (SRaise w s) p le h m = (S.deep k n s le h.0 m.0, raise-stays w s m.1)
  plain-stays k n (SPut xs s) p le h m =
      (S.deep k n s le h.0 m.0, parts-stay S (k + 1) (n + 1) xs (S.next k n le) (recursion_from_All (EveryPart r (k + 1)) xs h.1.1) m.1)
  plain-stays k n (SPutLine xs s) p le h m =
      (S.deep k n s le h.0 m.0, parts-stay S (k + 1) (n + 1) xs (S.next k n le) (recursion_from_All (EveryPart r (k + 1)) xs h.1.1) m.1)
  plain-stays k n (SNewLine s) p le h m = (S.deep k n s le h m.0, tt)
  plain-stays k n (SGet t s) p le h m = (S.deep k n s le h.0 m.0, target-stays S (k + 1) (n + 1) t (S.next k n le) h.1 m.1)
  plain-stays k n (SAbort xs s) p le h m = absurd p
  plain-stays k n (SCall x s) p le h m = absurd p
  plain-stays k n (SAccept x s) p le h m = absurd p
  plain-stays k n (SWait x o s) p le h m = absurd p
  plain-stays k n (SConditional x l o s) p le h m = absurd p
  plain-stays k n (STimed x l i o s) p le h m = absurd p
  plain-stays k n (SIf x o s) p le h m = absurd p
  plain-stays k n (SCase e x o s) p le h m = absurd p
  plain-stays k n (SBlock x s) p le h m = absurd p
  plain-stays k n (SLoop w x l s) p le h m = absurd p

-- ---- callees and heads of accepts

-- a task that is called or aborted
pub callee-stays : {r : Rules} {M M' : CheckSite → Type 0} {near : ℕ → ℕ → Type 0} {c d : CheckScope} → Stay r M M' near c d →
    ((w : Word) → EveryWord r w → M (check.site c (addresses w)) → M' (check.site d (addresses w))) →
    (k n : ℕ) (x : PCallee) → near k n → EveryCallee r k x → AllByRecursion M (check.callee_sites c k x) →
    AllByRecursion M' (check.callee_sites d n x)
callee-stays S called k n x le h m = (called x.name h.0 m.0, option-stays S k n x.index le h.1 m.1)

-- the head of an accept statement
pub head-stays : {r : Rules} {M M' : CheckSite → Type 0} {near : ℕ → ℕ → Type 0} {c d : CheckScope} → Stay r M M' near c d →
    ((h : PHead) → M (check.site c (accepts h)) → M' (check.site d (accepts h))) →
    (k n : ℕ) (h : PHead) → near k n → r.nested k × EveryHead r k h → AllByRecursion M (check.head_sites c k h) →
    AllByRecursion M' (check.head_sites d n h)
head-stays {r} {M} {M'} {near} {c} {d} S accepted k n h le i m =
    let index : List CheckSite = check.if_there (check.expr_sites c (k + 1)) h.index in
    let formals : List CheckSite = check.names_sites c (check.formal_names h.formals) in (
      S.deep k n h.span le i.0 m.0,
      (
        accepted h m.1.0,
        all_joined M' (check.if_there (check.expr_sites d (n + 1)) h.index) (check.names_sites d (check.formal_names h.formals))
            (option-stays S (k + 1) (n + 1) h.index (S.next k n le) i.1.1 (all_front M index formals m.1.1))
            (formals-stay r M M' c d S.name h.formals i.1.2 (all_back M index formals m.1.1)),
      ),
    )
