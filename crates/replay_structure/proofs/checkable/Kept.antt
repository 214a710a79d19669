-- What stays in the normal form of an original has kept names, and is not too deep.
use Rattle.std.proofs.Common.{◌≡◌, ℕ, ◌+◌, ◌≤◌, Bool, true, List, [], ◌∷◌, flat_map, Option, Some, None, IfSome, All, arith}
use Rattle.std.specs.List.{AllByRecursion}
use Rattle.std.proofs.lemmas.List.Elements.{recursion_from_All, All-from_recursion}
use Rattle.common_lemmas.proofs.Lists.{all_front, all_back}
use Rattle.ada_tree.specs.declared.naming.Word.{Word}
use Rattle.ada_tree.specs.PlainExpr.{PExpr, EInteger, EName, EIndex, EAttribute, EAttributeOf, EParen, EUnary, EBinary, PBounds, PDrange, RGiven, RMarked}
use Rattle.ada_tree.specs.PlainStmt.{PTarget, PFormal, PPart, PWords, PValue, PChoice, PScheme, LWhile, LFor, PHead, PStmt, SNull, SAssign, SDelay, SExit, SRaise, SAbort, SCall, SAccept, SWait, SConditional, STimed, SPut, SPutLine, SNewLine, SGet, SIf, SCase, SBlock, SLoop}
use Rattle.ada_tree.specs.Every.{Rules, no_rules, EveryWord, EveryExpr, EveryBounds, EveryDrange, EveryTarget, EveryFormal, EveryPart, EveryChoice, EveryScheme, EveryHead, EveryStmt}
use Rattle.syn_event.specs.declared.numbering.Mode.TheVariants.{Original}
use Rattle.syn_event.specs.CheckScope.{CheckScope, CheckSite}
use Rattle.syn_event.specs.CheckSites as check
use Rattle.task_laws.specs.legal.sites.Met.{IsCheckMet}
use Rattle.normal_laws.specs.structure.checked.Around.{own_rules}
use Rattle.normal_laws.specs.structure.asked.Pieces.{IsPlain}
use Rattle.normal_laws.proofs.structure.placed.Depth.{depth-of}

-- each name is such a one, and no part stands deeper than 100
abbrev pub rules_of : (ℕ → Bool) → Rules
rules_of kept = record no_rules { name = λ id. kept id.0 ≡ true; nested = λ k. k ≤ 100 }

module _ (own kept : ℕ → Bool) (old : (n : ℕ) → own n ≡ true → kept n ≡ true) (names : List (List ℕ)) (c : CheckScope) where
  abbrev r : Rules
  r = own_rules own

  abbrev r' : Rules
  r' = rules_of kept

  abbrev At : List CheckSite → Type 0
  At xs = AllByRecursion (IsCheckMet Original names) xs

  pub words-kept : (ws : List Word) → All (EveryWord r) ws → All (EveryWord r') ws
  words-kept ws h = All-from_recursion (EveryWord r') ws (go ws (recursion_from_All (EveryWord r) ws h))
    where
      go : (vs : List Word) → AllByRecursion (EveryWord r) vs → AllByRecursion (EveryWord r') vs
      go [] i = tt
      go (v ∷ vs) i = (old v.name.0 i.0, go vs i.1)

  pub formals-kept : (fs : List PFormal) → All (EveryFormal r) fs → All (EveryFormal r') fs
  formals-kept fs h = All-from_recursion (EveryFormal r') fs (go fs (recursion_from_All (EveryFormal r) fs h))
    where
      go : (xs : List PFormal) → AllByRecursion (EveryFormal r) xs → AllByRecursion (EveryFormal r') xs
      go [] i = tt
      go (x ∷ xs) i = (((tt, words-kept x.names i.0.0.1), old x.mark.name.0 i.0.1), go xs i.1)

  pub expr-kept : (k n : ℕ) (e : PExpr) → n ≤ k + 5 → EveryExpr r k e → At (check.expr_sites c k e) → EveryExpr r' n e
  expr-kept k n (EInteger i s) le h m = let d : k ≤ 40 = depth-of names c k s m.0 in (omega (arith, d, le), tt)
  expr-kept k n (EName id s) le h m = let d : k ≤ 40 = depth-of names c k s m.0 in (omega (arith, d, le), old id.0 h.1)
  expr-kept k n (EIndex w e s) le h m = let d : k ≤ 40 = depth-of names c k s m.0 in (omega (arith, d, le), old w.name.0 h.1, expr-kept (k + 1) (n + 1) e (omega (arith, le)) h.2 m.1.1)
  expr-kept k n (EAttribute x w s) le h m = let d : k ≤ 40 = depth-of names c k s m.0 in (omega (arith, d, le), old x.name.0 h.1, old w.name.0 h.2)
  expr-kept k n (EAttributeOf x w e s) le h m = let d : k ≤ 40 = depth-of names c k s m.0 in (omega (arith, d, le), old x.name.0 h.1, old w.name.0 h.2, expr-kept (k + 1) (n + 1) e (omega (arith, le)) h.3 m.1)
  expr-kept k n (EParen e s) le h m = let d : k ≤ 40 = depth-of names c k s m.0 in (omega (arith, d, le), expr-kept (k + 1) (n + 1) e (omega (arith, le)) h.1 m.1)
  expr-kept k n (EUnary op e s) le h m = let d : k ≤ 40 = depth-of names c k s m.0 in (omega (arith, d, le), tt, expr-kept (k + 1) (n + 1) e (omega (arith, le)) h.2 m.1)
  expr-kept k n (EBinary op x y s) le h m =
      let d : k ≤ 40 = depth-of names c k s m.0 in (
        omega (arith, d, le),
        tt,
        expr-kept (k + 1) (n + 1) x (omega (arith, le)) h.2 (all_front (IsCheckMet Original names) (check.expr_sites c (k + 1) x) (check.expr_sites c (k + 1) y) m.1),
        expr-kept (k + 1) (n + 1) y (omega (arith, le)) h.3 (all_back (IsCheckMet Original names) (check.expr_sites c (k + 1) x) (check.expr_sites c (k + 1) y) m.1),
      )

  pub option-kept : (k : ℕ) (o : Option PExpr) → IfSome o (EveryExpr r k) → At (check.if_there (check.expr_sites c k) o) → IfSome o (EveryExpr r' k)
  option-kept k None h m = tt
  option-kept k (Some e) h m = expr-kept k k e (omega arith) h m

  bounds-kept : (k : ℕ) (x : PBounds) → EveryBounds r k x → At (check.bounds_sites c k x) → EveryBounds r' k x
  bounds-kept k x h m = (
    tt,
    expr-kept k k x.first (omega arith) h.1 (all_front (IsCheckMet Original names) (check.expr_sites c k x.first) (check.expr_sites c k x.last) m),
    expr-kept k k x.last (omega arith) h.2 (all_back (IsCheckMet Original names) (check.expr_sites c k x.first) (check.expr_sites c k x.last) m),
  )

  pub subind-kept : (k : ℕ) (o : Option PBounds) → IfSome o (EveryBounds r k) → At (check.if_there (check.bounds_sites c k) o) → IfSome o (EveryBounds r' k)
  subind-kept k None h m = tt
  subind-kept k (Some x) h m = bounds-kept k x h m

  pub drange-kept : (k : ℕ) (x : PDrange) → EveryDrange r k x → At (check.drange_sites c k x) → EveryDrange r' k x
  drange-kept k (RGiven x) h m = bounds-kept k x h m
  drange-kept k (RMarked x) h m = (old x.mark.name.0 h.0, subind-kept k x.bounds h.1 m)

  target-kept : (k : ℕ) (t : PTarget) → EveryTarget r k t → At (check.target_sites c k t) → EveryTarget r' k t
  target-kept k t h m = (old t.name.name.0 h.0, option-kept k t.index h.1 m.1)

  part-kept : (k : ℕ) (x : PPart) → EveryPart r k x → At (check.part_sites c k x) → EveryPart r' k x
  part-kept k (PWords t s) h m = tt
  part-kept k (PValue e) h m = expr-kept k k e (omega arith) h m

  parts-kept : (k : ℕ) (xs : List PPart) → AllByRecursion (EveryPart r k) xs → At (flat_map (check.part_sites c k) xs) → AllByRecursion (EveryPart r' k) xs
  parts-kept k [] h m = tt
  parts-kept k (x ∷ xs) h m =
      (part-kept k x h.0 (all_front (IsCheckMet Original names) (check.part_sites c k x) (flat_map (check.part_sites c k) xs) m), parts-kept k xs h.1 (all_back (IsCheckMet Original names) (check.part_sites c k x) (flat_map (check.part_sites c k) xs) m))

  last-kept : (k : ℕ) (first : PExpr) (o : Option PExpr) → IfSome o (λ l. r.bounds first l × EveryExpr r k l) → At (check.if_there (check.expr_sites c k) o) → IfSome o (λ l. r'.bounds first l × EveryExpr r' k l)
  last-kept k first None h m = tt
  last-kept k first (Some e) h m = (tt, expr-kept k k e (omega arith) h.1 m)

  choice-kept : (k : ℕ) (x : PChoice) → EveryChoice r k x → At (check.choice_sites c k x) → EveryChoice r' k x
  choice-kept k x h m = (
    expr-kept k k x.first (omega arith) h.0 (all_front (IsCheckMet Original names) (check.expr_sites c k x.first) (check.if_there (check.expr_sites c k) x.last) m),
    last-kept k x.first x.last h.1 (all_back (IsCheckMet Original names) (check.expr_sites c k x.first) (check.if_there (check.expr_sites c k) x.last) m),
  )

  pub choices-kept : (k : ℕ) (xs : List PChoice) → AllByRecursion (EveryChoice r k) xs → At (flat_map (check.choice_sites c k) xs) → AllByRecursion (EveryChoice r' k) xs
  choices-kept k [] h m = tt
  choices-kept k (x ∷ xs) h m =
      (choice-kept k x h.0 (all_front (IsCheckMet Original names) (check.choice_sites c k x) (flat_map (check.choice_sites c k) xs) m), choices-kept k xs h.1 (all_back (IsCheckMet Original names) (check.choice_sites c k x) (flat_map (check.choice_sites c k) xs) m))

  pub word-kept : (o : Option Word) → IfSome o (EveryWord r) → IfSome o (EveryWord r')
  word-kept None h = tt
  word-kept (Some w) h = old w.name.0 h

  pub scheme-kept : (k : ℕ) (o : Option PScheme) → IfSome o (EveryScheme r k) → At (check.if_there (check.scheme_sites c k) o) → IfSome o (EveryScheme r' k)
  scheme-kept k None h m = tt
  scheme-kept k (Some (LWhile e)) h m = expr-kept k k e (omega arith) h m
  scheme-kept k (Some (LFor w backwards x)) h m = (old w.name.0 h.0, drange-kept k x h.1 m.1)

  pub head-kept : (k : ℕ) (h : PHead) → EveryHead r k h → At (check.head_sites c k h) → EveryHead r' k h
  head-kept k h i m = (
    old h.entry.name.0 i.0,
    option-kept (k + 1) h.index i.1 (all_front (IsCheckMet Original names) (check.if_there (check.expr_sites c (k + 1)) h.index) (check.names_sites c (check.formal_names h.formals)) m.1.1),
    formals-kept h.formals i.2,
  )

  small : (k : ℕ) → k ≤ 40 → k ≤ 100
  small k le = omega (arith, le)

  pub plain-kept : (k : ℕ) (x : PStmt) → IsPlain x → EveryStmt r k x → At (check.stmt_sites c k x) → EveryStmt r' k x
  plain-kept k (SNull s) p h m = small k (depth-of names c k s m.0)
  plain-kept k (SAssign t e s) p h m = (
    small k (depth-of names c k s m.0),
    target-kept (k + 1) t h.1 (all_front (IsCheckMet Original names) (check.target_sites c (k + 1) t) (check.expr_sites c (k + 1) e) m.1),
    expr-kept (k + 1) (k + 1) e (omega arith) h.2 (all_back (IsCheckMet Original names) (check.target_sites c (k + 1) t) (check.expr_sites c (k + 1) e) m.1),
  )
  plain-kept k (SDelay n s) p h m = (small k (depth-of names c k s m.0), tt)
  plain-kept k (SExit w e s) p h m = (small k (depth-of names c k s m.0), word-kept w h.1, option-kept (k + 1) e h.2 m.1.1)
  plain-kept k (SRaise w s) p h m = (small k (depth-of names c k s m.0), word-kept w h.1)
  plain-kept k (SPut xs s) p h m = (small k (depth-of names c k s m.0), (tt, All-from_recursion (EveryPart r' (k + 1)) xs (parts-kept (k + 1) xs (recursion_from_All (EveryPart r (k + 1)) xs h.1.1) m.1)))
  plain-kept k (SPutLine xs s) p h m = (small k (depth-of names c k s m.0), (tt, All-from_recursion (EveryPart r' (k + 1)) xs (parts-kept (k + 1) xs (recursion_from_All (EveryPart r (k + 1)) xs h.1.1) m.1)))
  plain-kept k (SNewLine s) p h m = small k (depth-of names c k s m.0)
  plain-kept k (SGet t s) p h m = (small k (depth-of names c k s m.0), target-kept (k + 1) t h.1 m.1)
  plain-kept k (SAbort xs s) p h m = absurd p
  plain-kept k (SCall x s) p h m = absurd p
  plain-kept k (SAccept x s) p h m = absurd p
  plain-kept k (SWait x o s) p h m = absurd p
  plain-kept k (SConditional x l o s) p h m = absurd p
  plain-kept k (STimed x l n o s) p h m = absurd p
  plain-kept k (SIf x o s) p h m = absurd p
  plain-kept k (SCase e x o s) p h m = absurd p
  plain-kept k (SBlock x s) p h m = absurd p
  plain-kept k (SLoop w x l s) p h m = absurd p
