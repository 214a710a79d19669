-- Parts of a normal form stay well placed where they stand deeper in its replay text, whose names are more.
use Rattle.std.proofs.Common.{ℕ, ◌+◌, ◌*◌, ◌<◌, ◌≤◌, List, [], ◌∷◌, Option, Some, None, IfSome, All, arith}
use Rattle.std.specs.List.{AllByRecursion}
use Rattle.std.proofs.lemmas.List.Elements.{All-from_recursion, recursion_from_All}
use Rattle.ada_tree.specs.declared.naming.NameId.{NameId}
use Rattle.ada_tree.specs.declared.naming.Word.{Word}
use Rattle.ada_tree.specs.PlainExpr.{PExpr, EInteger, EName, EIndex, EAttribute, EAttributeOf, EParen, EUnary, EBinary, PBounds, PSubind, PDrange, RGiven, RMarked}
use Rattle.ada_tree.specs.PlainStmt.{PTarget, PArgs, PFormal, PPart, PWords, PValue, PChoice, PScheme, LWhile, LFor, PStmt, SNull, SAssign, SDelay, SExit, SRaise, SAbort, SCall, SAccept, SWait, SConditional, STimed, SPut, SPutLine, SNewLine, SGet, SIf, SCase, SBlock, SLoop}
use Rattle.ada_tree.specs.Every.{Rules, EveryWord, EveryExpr, EveryBounds, EverySubind, EveryDrange, EveryTarget, EveryExprs, EveryArgs, EveryFormal, EveryPart, EveryText, EveryChoice, EveryScheme, EveryStmt}
use Rattle.ada_tree.specs.WellPlaced.{well_placed}
use Rattle.normal_laws.specs.structure.asked.Pieces.{IsPlain}
use Rattle.normal_laws.specs.structure.placed.Placeable.{IsName}
use Rattle.replay_structure.specs.placed.Fitting.{reach}
use Rattle.task_laws.proofs.legal.sites.Both.{all-both}

-- ---- lists

pub all-one : {A : Type 0} (P Q : A → Type 0) → ((x : A) → P x → Q x) → (xs : List A) → All P xs → All Q xs
all-one {A = A} P Q f xs h = All-from_recursion Q xs (go xs (recursion_from_All P xs h))
  where
    go : (ys : List A) → AllByRecursion P ys → AllByRecursion Q ys
    go [] i = tt
    go (y ∷ ys) i = (f y i.0, go ys i.1)

module _ (names names' : List (List ℕ)) (old : (id : NameId) → IsName names id → IsName names' id) where
  abbrev r : Rules
  r = well_placed names

  abbrev r' : Rules
  r' = well_placed names'

  -- ---- expressions

  -- what stands j deep in a part that stands k deep, and now n deep
  pub expr-moved : (k j n : ℕ) (e : PExpr) → n ≤ j + 3 * k + 50 → EveryExpr (reach k) j e → EveryExpr r j e → EveryExpr r' n e
  expr-moved k j n (EInteger i s) le f h = (omega (arith, le, f.0.0, f.0.1), h.1)
  expr-moved k j n (EName a s) le f h = (omega (arith, le, f.0.0, f.0.1), old a h.1)
  expr-moved k j n (EIndex w e s) le f h = (omega (arith, le, f.0.0, f.0.1), old w.name h.1, expr-moved k (j + 1) (n + 1) e (omega (arith, le)) f.2 h.2)
  expr-moved k j n (EAttribute m w s) le f h = (omega (arith, le, f.0.0, f.0.1), old m.name h.1, old w.name h.2)
  expr-moved k j n (EAttributeOf m w e s) le f h = (omega (arith, le, f.0.0, f.0.1), old m.name h.1, old w.name h.2, expr-moved k (j + 1) (n + 1) e (omega (arith, le)) f.3 h.3)
  expr-moved k j n (EParen e s) le f h = (omega (arith, le, f.0.0, f.0.1), expr-moved k (j + 1) (n + 1) e (omega (arith, le)) f.1 h.1)
  expr-moved k j n (EUnary op e s) le f h = (omega (arith, le, f.0.0, f.0.1), h.1, expr-moved k (j + 1) (n + 1) e (omega (arith, le)) f.2 h.2)
  expr-moved k j n (EBinary op x y s) le f h =
      (omega (arith, le, f.0.0, f.0.1), h.1, expr-moved k (j + 1) (n + 1) x (omega (arith, le)) f.2 h.2, expr-moved k (j + 1) (n + 1) y (omega (arith, le)) f.3 h.3)

  pub option-moved : (k j n : ℕ) (o : Option PExpr) → n ≤ j + 3 * k + 50 → IfSome o (EveryExpr (reach k) j) → IfSome o (EveryExpr r j) → IfSome o (EveryExpr r' n)
  option-moved k j n None le f h = tt
  option-moved k j n (Some e) le f h = expr-moved k j n e le f h

  bounds-moved : (k j n : ℕ) (x : PBounds) → n ≤ j + 3 * k + 50 → EveryBounds (reach k) j x → EveryBounds r j x → EveryBounds r' n x
  bounds-moved k j n x le f h = (h.0, expr-moved k j n x.first le f.1 h.1, expr-moved k j n x.last le f.2 h.2)

  subind-moved : (k j n : ℕ) (x : PSubind) → n ≤ j + 3 * k + 50 → EverySubind (reach k) j x → EverySubind r j x → EverySubind r' n x
  subind-moved k j n x le f h = (old x.mark.name h.0, go x.bounds f.1 h.1)
    where
      go : (o : Option PBounds) → IfSome o (EveryBounds (reach k) j) → IfSome o (EveryBounds r j) → IfSome o (EveryBounds r' n)
      go None f h = tt
      go (Some y) f h = bounds-moved k j n y le f h

  drange-moved : (k j n : ℕ) (x : PDrange) → n ≤ j + 3 * k + 50 → EveryDrange (reach k) j x → EveryDrange r j x → EveryDrange r' n x
  drange-moved k j n (RGiven b) le f h = bounds-moved k j n b le f h
  drange-moved k j n (RMarked x) le f h = subind-moved k j n x le f h

  exprs-moved : (k j n : ℕ) (es : List PExpr) → n ≤ j + 3 * k + 50 → EveryExprs (reach k) j es → EveryExprs r j es → EveryExprs r' n es
  exprs-moved k j n es le f h = (h.0, all-both (EveryExpr (reach k) j) (EveryExpr r j) (EveryExpr r' n) (λ e. expr-moved k j n e le) es f.1 h.1)

  -- ---- parts of statements

  pub words-moved : (ws : List Word) → All (EveryWord r) ws → All (EveryWord r') ws
  words-moved ws h = all-one (EveryWord r) (EveryWord r') (λ w. old w.name) ws h

  pub word-moved : (o : Option Word) → IfSome o (EveryWord r) → IfSome o (EveryWord r')
  word-moved None h = tt
  word-moved (Some w) h = old w.name h

  pub formals-moved : (fs : List PFormal) → All (EveryFormal r) fs → All (EveryFormal r') fs
  formals-moved fs h = all-one (EveryFormal r) (EveryFormal r') (λ f i. ((i.0.0, words-moved f.names i.0.1), old f.mark.name i.1)) fs h

  target-moved : (k j n : ℕ) (x : PTarget) → n ≤ j + 3 * k + 50 → EveryTarget (reach k) j x → EveryTarget r j x → EveryTarget r' n x
  target-moved k j n x le f h = (old x.name.name h.0, option-moved k j n x.index le f.1 h.1)

  pub args-moved : (k j n : ℕ) (o : Option PArgs) → n ≤ j + 3 * k + 50 → IfSome o (EveryArgs (reach k) j) → IfSome o (EveryArgs r j) → IfSome o (EveryArgs r' n)
  args-moved k j n None le f h = tt
  args-moved k j n (Some x) le f h = (exprs-moved k j n x.first le f.0 h.0, go x.second f.1 h.1)
    where
      go : (o : Option (List PExpr)) → IfSome o (EveryExprs (reach k) j) → IfSome o (EveryExprs r j) → IfSome o (EveryExprs r' n)
      go None f h = tt
      go (Some es) f h = exprs-moved k j n es le f h

  text-moved : (k j n : ℕ) (ps : List PPart) → n ≤ j + 3 * k + 50 → EveryText (reach k) j ps → EveryText r j ps → EveryText r' n ps
  text-moved k j n ps le f h = (h.0, all-both (EveryPart (reach k) j) (EveryPart r j) (EveryPart r' n) part ps f.1 h.1)
    where
      part : (p : PPart) → EveryPart (reach k) j p → EveryPart r j p → EveryPart r' n p
      part (PWords t s) f h = h
      part (PValue e) f h = expr-moved k j n e le f h

  pub choices-moved : (k j n : ℕ) (xs : List PChoice) → n ≤ j + 3 * k + 50 → All (EveryChoice (reach k) j) xs → All (EveryChoice r j) xs → All (EveryChoice r' n) xs
  choices-moved k j n xs le f h = all-both (EveryChoice (reach k) j) (EveryChoice r j) (EveryChoice r' n) (λ x p q. (expr-moved k j n x.first le p.0 q.0, go x.first x.last p.1 q.1)) xs f h
    where
      go : (e : PExpr) (o : Option PExpr) → IfSome o (λ l. (reach k).bounds e l × EveryExpr (reach k) j l) → IfSome o (λ l. r.bounds e l × EveryExpr r j l) → IfSome o (λ l. r'.bounds e l × EveryExpr r' n l)
      go e None f h = tt
      go e (Some l) f h = (h.0, expr-moved k j n l le f.1 h.1)

  pub scheme-moved : (k j n : ℕ) (o : Option PScheme) → n ≤ j + 3 * k + 50 → IfSome o (EveryScheme (reach k) j) → IfSome o (EveryScheme r j) → IfSome o (EveryScheme r' n)
  scheme-moved k j n None le f h = tt
  scheme-moved k j n (Some (LWhile e)) le f h = expr-moved k j n e le f h
  scheme-moved k j n (Some (LFor w b x)) le f h = (old w.name h.0, drange-moved k j n x le f.1 h.1)

  -- ---- statements in which no statement stands

  pub plain-moved : (k n : ℕ) (x : PStmt) → IsPlain x → n < 4 * k → EveryStmt (reach k) k x → EveryStmt r k x → EveryStmt r' n x
  plain-moved k n (SNull s) i le f h = omega (arith, le, f.0)
  plain-moved k n (SAssign x e s) i le f h = (omega (arith, le, f.0.0), target-moved k (k + 1) (n + 1) x (omega (arith, le)) f.1 h.1, expr-moved k (k + 1) (n + 1) e (omega (arith, le)) f.2 h.2)
  plain-moved k n (SDelay d s) i le f h = (omega (arith, le, f.0.0), h.1)
  plain-moved k n (SExit w e s) i le f h = (omega (arith, le, f.0.0), word-moved w h.1, option-moved k (k + 1) (n + 1) e (omega (arith, le)) f.2 h.2)
  plain-moved k n (SRaise w s) i le f h = (omega (arith, le, f.0.0), word-moved w h.1)
  plain-moved k n (SPut ps s) i le f h = (omega (arith, le, f.0.0), text-moved k (k + 1) (n + 1) ps (omega (arith, le)) f.1 h.1)
  plain-moved k n (SPutLine ps s) i le f h = (omega (arith, le, f.0.0), text-moved k (k + 1) (n + 1) ps (omega (arith, le)) f.1 h.1)
  plain-moved k n (SNewLine s) i le f h = omega (arith, le, f.0)
  plain-moved k n (SGet x s) i le f h = (omega (arith, le, f.0.0), target-moved k (k + 1) (n + 1) x (omega (arith, le)) f.1 h.1)
  plain-moved k n (SAbort xs s) i le f h = absurd i
  plain-moved k n (SCall x s) i le f h = absurd i
  plain-moved k n (SAccept x s) i le f h = absurd i
  plain-moved k n (SWait x o s) i le f h = absurd i
  plain-moved k n (SConditional x l o s) i le f h = absurd i
  plain-moved k n (STimed x l d o s) i le f h = absurd i
  plain-moved k n (SIf x o s) i le f h = absurd i
  plain-moved k n (SCase e x o s) i le f h = absurd i
  plain-moved k n (SBlock x s) i le f h = absurd i
  plain-moved k n (SLoop w x l s) i le f h = absurd i
