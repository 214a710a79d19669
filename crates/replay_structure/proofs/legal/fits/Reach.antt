-- Parts of an original are shallow, also where they stand a few levels deeper.
use Rattle.std.proofs.Common.{ℕ, ◌+◌, ◌≤◌, List, [], ◌∷◌, flat_map, Option, Some, None, IfSome, All, arith}
use Rattle.std.specs.List.{AllByRecursion}
use Rattle.std.proofs.lemmas.List.Elements.{All-from_recursion}
use Rattle.ada_tree.specs.declared.naming.Word.{Word}
use Rattle.ada_tree.specs.PlainExpr.{PExpr, EInteger, EName, EIndex, EAttribute, EAttributeOf, EParen, EUnary, EBinary, PBounds, PSubind, PDrange, RGiven, RMarked}
use Rattle.ada_tree.specs.PlainStmt.{PTarget, PPart, PWords, PValue, PChoice, PScheme, LWhile, LFor, PStmt, SNull, SAssign, SDelay, SExit, SRaise, SAbort, SCall, SAccept, SWait, SConditional, STimed, SPut, SPutLine, SNewLine, SGet, SIf, SCase, SBlock, SLoop}
use Rattle.ada_tree.specs.Every.{EveryWord, EveryExpr, EveryBounds, EverySubind, EveryDrange, EveryTarget, EveryExprs, EveryPart, EveryText, EveryChoice, EveryScheme, EveryStmt}
use Rattle.syn_event.specs.declared.numbering.Mode.TheVariants.{Original}
use Rattle.syn_event.specs.CheckScope.{CheckScope, CheckSite}
use Rattle.syn_event.specs.CheckSites as check
use Rattle.task_laws.specs.legal.sites.Met.{IsCheckMet}
use Rattle.common_lemmas.proofs.Lists.{all_back, all_front, all_unflat}
use Rattle.normal_laws.specs.structure.asked.Pieces.{IsPlain}
use Rattle.normal_laws.proofs.structure.placed.Depth.{depth-of, expr-depth}
use Rattle.replay_structure.specs.placed.Fitting.{reach}

module _ (names : List (List ℕ)) where
  abbrev M : CheckSite → Type 0
  M = IsCheckMet Original names

  abbrev pub At : List CheckSite → Type 0
  At xs = AllByRecursion M xs

  -- ---- expressions

  -- what stood k deep, now n deep in a part that stands j deep
  pub expr-reach : (c : CheckScope) (k j n : ℕ) (e : PExpr) → j ≤ 46 → n ≤ k + 5 → At (check.expr_sites c k e) → EveryExpr (reach j) n e
  expr-reach c k j n (EInteger i s) low le m = ((low, omega (arith, le, depth-of names c k s m.0)), tt)
  expr-reach c k j n (EName id s) low le m = ((low, omega (arith, le, depth-of names c k s m.0)), tt)
  expr-reach c k j n (EIndex w e s) low le m = ((low, omega (arith, le, depth-of names c k s m.0)), tt, expr-reach c (k + 1) j (n + 1) e low (omega (arith, le)) m.1.1)
  expr-reach c k j n (EAttribute x w s) low le m = ((low, omega (arith, le, depth-of names c k s m.0)), tt, tt)
  expr-reach c k j n (EAttributeOf x w e s) low le m = ((low, omega (arith, le, depth-of names c k s m.0)), tt, tt, expr-reach c (k + 1) j (n + 1) e low (omega (arith, le)) m.1)
  expr-reach c k j n (EParen e s) low le m = ((low, omega (arith, le, depth-of names c k s m.0)), expr-reach c (k + 1) j (n + 1) e low (omega (arith, le)) m.1)
  expr-reach c k j n (EUnary op e s) low le m = ((low, omega (arith, le, depth-of names c k s m.0)), tt, expr-reach c (k + 1) j (n + 1) e low (omega (arith, le)) m.1)
  expr-reach c k j n (EBinary op x y s) low le m = (
    (low, omega (arith, le, depth-of names c k s m.0)),
    tt,
    expr-reach c (k + 1) j (n + 1) x low (omega (arith, le)) (all_front M (check.expr_sites c (k + 1) x) (check.expr_sites c (k + 1) y) m.1),
    expr-reach c (k + 1) j (n + 1) y low (omega (arith, le)) (all_back M (check.expr_sites c (k + 1) x) (check.expr_sites c (k + 1) y) m.1),
  )

  -- one that stays where it stood
  pub expr-here : (c : CheckScope) (k : ℕ) (e : PExpr) → At (check.expr_sites c k e) → EveryExpr (reach k) k e
  expr-here c k e m = expr-reach c k k k e (omega (arith, expr-depth names c k e m)) (omega arith) m

  pub option-reach : (c : CheckScope) (k j n : ℕ) (o : Option PExpr) → j ≤ 46 → n ≤ k + 5 → At (check.if_there (check.expr_sites c k) o) → IfSome o (EveryExpr (reach j) n)
  option-reach c k j n None low le m = tt
  option-reach c k j n (Some e) low le m = expr-reach c k j n e low le m

  option-here : (c : CheckScope) (k : ℕ) (o : Option PExpr) → At (check.if_there (check.expr_sites c k) o) → IfSome o (EveryExpr (reach k) k)
  option-here c k None m = tt
  option-here c k (Some e) m = expr-here c k e m

  bounds-here : (c : CheckScope) (k : ℕ) (x : PBounds) → At (check.bounds_sites c k x) → EveryBounds (reach k) k x
  bounds-here c k x m = (tt, expr-here c k x.first (all_front M (check.expr_sites c k x.first) (check.expr_sites c k x.last) m), expr-here c k x.last (all_back M (check.expr_sites c k x.first) (check.expr_sites c k x.last) m))

  subind-here : (c : CheckScope) (k : ℕ) (x : PSubind) → At (check.subind_sites c k x) → EverySubind (reach k) k x
  subind-here c k x m = (tt, go x.bounds m)
    where
      go : (o : Option PBounds) → At (check.if_there (check.bounds_sites c k) o) → IfSome o (EveryBounds (reach k) k)
      go None i = tt
      go (Some b) i = bounds-here c k b i

  drange-here : (c : CheckScope) (k : ℕ) (x : PDrange) → At (check.drange_sites c k x) → EveryDrange (reach k) k x
  drange-here c k (RGiven b) m = bounds-here c k b m
  drange-here c k (RMarked x) m = subind-here c k x m

  exprs-reach : (c : CheckScope) (k j n : ℕ) (es : List PExpr) → j ≤ 46 → n ≤ k + 5 → At (check.exprs_sites c k es) → EveryExprs (reach j) n es
  exprs-reach c k j n es low le m = (tt, All-from_recursion (EveryExpr (reach j) n) es (go es (all_unflat M (check.expr_sites c k) es m)))
    where
      go : (ys : List PExpr) → AllByRecursion (λ e. At (check.expr_sites c k e)) ys → AllByRecursion (EveryExpr (reach j) n) ys
      go [] i = tt
      go (y ∷ ys) i = (expr-reach c k j n y low le i.0, go ys i.1)

  pub second-reach : (c : CheckScope) (k j n : ℕ) (o : Option (List PExpr)) → j ≤ 46 → n ≤ k + 5 → At (check.if_there (check.exprs_sites c k) o) → IfSome o (EveryExprs (reach j) n)
  second-reach c k j n None low le m = tt
  second-reach c k j n (Some es) low le m = exprs-reach c k j n es low le m

  -- ---- parts of statements

  unasked : (k : ℕ) (o : Option Word) → IfSome o (EveryWord (reach k))
  unasked k None = tt
  unasked k (Some w) = tt

  target-here : (c : CheckScope) (k j : ℕ) (x : PTarget) → j ≤ 40 → k ≤ 41 → At (check.target_sites c k x) → EveryTarget (reach j) k x
  target-here c k j x low le m = (tt, option-reach c k j k x.index (omega (arith, low)) (omega arith) m.1)

  text-here : (c : CheckScope) (k j : ℕ) (ps : List PPart) → j ≤ 40 → At (flat_map (check.part_sites c k) ps) → EveryText (reach j) k ps
  text-here c k j ps low m = (tt, All-from_recursion (EveryPart (reach j) k) ps (go ps (all_unflat M (check.part_sites c k) ps m)))
    where
      part : (p : PPart) → At (check.part_sites c k p) → EveryPart (reach j) k p
      part (PWords t s) i = tt
      part (PValue e) i = expr-reach c k j k e (omega (arith, low)) (omega arith) i

      go : (qs : List PPart) → AllByRecursion (λ p. At (check.part_sites c k p)) qs → AllByRecursion (EveryPart (reach j) k) qs
      go [] i = tt
      go (q ∷ qs) i = (part q i.0, go qs i.1)

  pub choices-here : (c : CheckScope) (k : ℕ) (xs : List PChoice) → At (flat_map (check.choice_sites c k) xs) → All (EveryChoice (reach k) k) xs
  choices-here c k xs m = All-from_recursion (EveryChoice (reach k) k) xs (go xs (all_unflat M (check.choice_sites c k) xs m))
    where
      last : (e : PExpr) (o : Option PExpr) → At (check.if_there (check.expr_sites c k) o) → IfSome o (λ l. (reach k).bounds e l × EveryExpr (reach k) k l)
      last e None i = tt
      last e (Some l) i = (tt, expr-here c k l i)

      go : (ys : List PChoice) → AllByRecursion (λ x. At (check.choice_sites c k x)) ys → AllByRecursion (EveryChoice (reach k) k) ys
      go [] i = tt
      go (y ∷ ys) i =
          let more : List CheckSite = check.if_there (check.expr_sites c k) y.last in
          ((expr-here c k y.first (all_front M (check.expr_sites c k y.first) more i.0), last y.first y.last (all_back M (check.expr_sites c k y.first) more i.0)), go ys i.1)

  pub scheme-here : (c : CheckScope) (k : ℕ) (o : Option PScheme) → At (check.if_there (check.scheme_sites c k) o) → IfSome o (EveryScheme (reach k) k)
  scheme-here c k None m = tt
  scheme-here c k (Some (LWhile e)) m = expr-here c k e m
  scheme-here c k (Some (LFor w b x)) m = (tt, drange-here c k x m.1)

  -- ---- statements in which no statement stands

  pub plain-here : (c : CheckScope) (k : ℕ) (x : PStmt) → IsPlain x → At (check.stmt_sites c k x) → EveryStmt (reach k) k x
  plain-here c k (SNull s) i m = let d : k ≤ 40 = depth-of names c k s m.0 in (omega (arith, d), omega (arith, d))
  plain-here c k (SAssign x e s) i m =
      let d : k ≤ 40 = depth-of names c k s m.0 in (
        (omega (arith, d), omega (arith, d)),
        target-here c (k + 1) k x d (omega (arith, d)) (all_front M (check.target_sites c (k + 1) x) (check.expr_sites c (k + 1) e) m.1),
        expr-reach c (k + 1) k (k + 1) e (omega (arith, d)) (omega arith) (all_back M (check.target_sites c (k + 1) x) (check.expr_sites c (k + 1) e) m.1),
      )
  plain-here c k (SDelay n s) i m = let d : k ≤ 40 = depth-of names c k s m.0 in ((omega (arith, d), omega (arith, d)), tt)
  plain-here c k (SExit w e s) i m = let d : k ≤ 40 = depth-of names c k s m.0 in ((omega (arith, d), omega (arith, d)), unasked k w, option-reach c (k + 1) k (k + 1) e (omega (arith, d)) (omega arith) m.1.1)
  plain-here c k (SRaise w s) i m = let d : k ≤ 40 = depth-of names c k s m.0 in ((omega (arith, d), omega (arith, d)), unasked k w)
  plain-here c k (SPut ps s) i m = let d : k ≤ 40 = depth-of names c k s m.0 in ((omega (arith, d), omega (arith, d)), text-here c (k + 1) k ps d m.1)
  plain-here c k (SPutLine ps s) i m = let d : k ≤ 40 = depth-of names c k s m.0 in ((omega (arith, d), omega (arith, d)), text-here c (k + 1) k ps d m.1)
  plain-here c k (SNewLine s) i m = let d : k ≤ 40 = depth-of names c k s m.0 in (omega (arith, d), omega (arith, d))
  plain-here c k (SGet x s) i m = let d : k ≤ 40 = depth-of names c k s m.0 in ((omega (arith, d), omega (arith, d)), target-here c (k + 1) k x d (omega (arith, d)) m.1)
  plain-here c k (SAbort xs s) i m = absurd i
  plain-here c k (SCall x s) i m = absurd i
  plain-here c k (SAccept x s) i m = absurd i
  plain-here c k (SWait x o s) i m = absurd i
  plain-here c k (SConditional x l o s) i m = absurd i
  plain-here c k (STimed x l d o s) i m = absurd i
  plain-here c k (SIf x o s) i m = absurd i
  plain-here c k (SCase e x o s) i m = absurd i
  plain-here c k (SBlock x s) i m = absurd i
  plain-here c k (SLoop w x l s) i m = absurd i
