-- Expressions and ranges whose names are plain, as rules of every part say it, are of old names.
use Rattle.std.proofs.Common.{◌≡◌, ℕ, Bool, true, ◌+◌, IfSome, Option, Some, None}
use Rattle.ada_tree.specs.declared.naming.NameId.{NameId}
use Rattle.ada_tree.specs.PlainExpr.{PExpr, EInteger, EName, EIndex, EAttribute, EAttributeOf, EParen, EUnary, EBinary, PBounds, PSubind, PDrange, RGiven, RMarked}
use Rattle.ada_tree.specs.PlainDecl.{PShape, OPlain, OArray, PDecl, DNumber, DObject, DEnumeration, DArray, DSubtype, DException, DIntIo, DPragma, DTask, DTaskBody, PDecls, no_decl, decl_then}
use Rattle.ada_tree.specs.Every.{Rules, EveryExpr, EveryBounds, EverySubind, EveryDrange, EveryShape, EveryDecl, EveryDecls}
use Rattle.task_laws.specs.legal.alike_scopes.Old.{IsOldExpr, IsOldBounds, IsOldSubind, IsOldDrange, IsOldShape, IsOldObject, AreOldObjects}

module _ (rules : Rules) (old : ℕ → Bool) (names : (id : NameId) → rules.name id → old id.0 ≡ true) where
  pub old-expr : (e : PExpr) (k : ℕ) → EveryExpr rules k e → IsOldExpr old e
  old-expr (EInteger n s) k h = tt
  old-expr (EName id s) k h = names id h.1
  old-expr (EIndex w e s) k h = (names w.name h.1, old-expr e (k + 1) h.2)
  old-expr (EAttribute m w s) k h = names m.name h.1
  old-expr (EAttributeOf m w e s) k h = (names m.name h.1, old-expr e (k + 1) h.3)
  old-expr (EParen e s) k h = old-expr e (k + 1) h.1
  old-expr (EUnary op e s) k h = old-expr e (k + 1) h.2
  old-expr (EBinary op l r s) k h = (old-expr l (k + 1) h.2, old-expr r (k + 1) h.3)

  pub old-bounds : (b : PBounds) (k : ℕ) → EveryBounds rules k b → IsOldBounds old b
  old-bounds b k h = (old-expr b.first k h.1, old-expr b.last k h.2)

  old-if : (o : Option PBounds) (k : ℕ) → IfSome o (EveryBounds rules k) → IfSome o (IsOldBounds old)
  old-if None k h = tt
  old-if (Some b) k h = old-bounds b k h

  pub old-subind : (x : PSubind) (k : ℕ) → EverySubind rules k x → IsOldSubind old x
  old-subind x k h = (names x.mark.name h.0, old-if x.bounds k h.1)

  pub old-drange : (r : PDrange) (k : ℕ) → EveryDrange rules k r → IsOldDrange old r
  old-drange (RGiven b) k h = old-bounds b k h
  old-drange (RMarked x) k h = old-subind x k h

  -- the objects of a body
  pub old-objects : (ds : PDecls) → EveryDecls rules ds → AreOldObjects old ds
  old-objects no_decl h = tt
  old-objects (decl_then d rest) h = (old-object d h.0, old-objects rest h.1)
    where
      old-shape : (x : PShape) → EveryShape rules x → IsOldShape old x
      old-shape (OPlain x) h = old-subind x 2 h
      old-shape (OArray r x) h = (old-drange r 2 h.0, old-subind x 2 h.1)

      old-object : (d : PDecl) → EveryDecl rules d → IsOldObject old d
      old-object (DObject ws c x i sp) k = old-shape x k.2
      old-object (DNumber w e sp) k = tt
      old-object (DEnumeration w ws sp) k = tt
      old-object (DArray w r x sp) k = tt
      old-object (DSubtype w x sp) k = tt
      old-object (DException ws sp) k = tt
      old-object (DIntIo w sp) k = tt
      old-object (DPragma e sp) k = tt
      old-object (DTask t sp) k = tt
      old-object (DTaskBody w os its sp) k = tt
