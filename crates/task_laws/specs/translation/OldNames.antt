-- Parts of a text in which the original's names alone stand (this project's rule).
use Rattle.std.specs.Prelude.{◌≡◌, ℕ, Bool, true, List, [], ◌∷◌, Option, Some, None}
use Rattle.ada_tree.specs.declared.naming.NameId.{NameId}
use Rattle.ada_tree.specs.declared.naming.Span.{Span}
use Rattle.ada_tree.specs.declared.naming.Word.{Word}
use Rattle.ada_tree.specs.declared.expressions.UnaryOp.{UnaryOp}
use Rattle.ada_tree.specs.declared.expressions.BinaryOp.{BinaryOp}
use Rattle.ada_tree.specs.PlainExpr.{PExpr, EInteger, EName, EIndex, EAttribute, EAttributeOf, EParen, EUnary, EBinary, PBounds, PSubind, PDrange, RGiven, RMarked}
use Rattle.ada_tree.specs.PlainStmt.{PTarget, PPart, PWords, PValue, PChoice, PScheme, LWhile, LFor}
use Rattle.ada_value.specs.Values.{limits_named}
use Rattle.task_laws.specs.translation.Translations.{Programs, types_before, IsOld, IsFree}

-- an expression
pub data OldExpr (b : Programs) : PExpr → Type 0 where
  old_integer : (n : ℕ) (s : Span) → OldExpr b (EInteger n s)
  old_name : (id : NameId) (s : Span) → IsOld b id → OldExpr b (EName id s)
  old_index : (w : Word) (e : PExpr) (s : Span) → IsOld b w.name → OldExpr b e → OldExpr b (EIndex w e s)
  old_attribute : (m w : Word) (s : Span) → IsOld b m.name → OldExpr b (EAttribute m w s)
  old_attribute_of : (m w : Word) (e : PExpr) (s : Span) → IsOld b m.name → OldExpr b e → OldExpr b (EAttributeOf m w e s)
  old_paren : (e : PExpr) (s : Span) → OldExpr b e → OldExpr b (EParen e s)
  old_unary : (op : UnaryOp) (e : PExpr) (s : Span) → OldExpr b e → OldExpr b (EUnary op e s)
  old_binary : (op : BinaryOp) (l r : PExpr) (s : Span) → OldExpr b l → OldExpr b r → OldExpr b (EBinary op l r s)

-- an expression that may be left out
pub data OldOption (b : Programs) : Option PExpr → Type 0 where
  old_none : OldOption b None
  old_some : (e : PExpr) → OldExpr b e → OldOption b (Some e)

-- two bounds that may be left out
pub data OldBounds (b : Programs) : Option PBounds → Type 0 where
  old_unbounded : OldBounds b None
  old_bounded : (r : PBounds) → OldExpr b r.first → OldExpr b r.last → OldBounds b (Some r)

-- a discrete range; the mark of one is of a known kind, as that of each discrete type is
pub data OldRange (b : Programs) : PDrange → Type 0 where
  old_given : (r : PBounds) → OldExpr b r.first → OldExpr b r.last → OldRange b (RGiven r)
  old_marked : (m : PSubind) → IsOld b m.mark.name → b.is_known (limits_named (types_before b) m.mark.name).kind ≡ true → OldBounds b m.bounds → OldRange b (RMarked m)

-- a variable or a component
pub record OldTarget (b : Programs) (t : PTarget) : Type 0 where
  pub name : IsOld b t.name.name
  pub index : OldOption b t.index

-- the parts of what PUT writes
pub data OldParts (b : Programs) : List PPart → Type 0 where
  old_no_part : OldParts b []
  old_words : (text : List ℕ) (s : Span) (rest : List PPart) → OldParts b rest → OldParts b (PWords text s ∷ rest)
  old_value : (e : PExpr) (rest : List PPart) → OldExpr b e → OldParts b rest → OldParts b (PValue e ∷ rest)

-- the choices of a case statement
pub data OldChoices (b : Programs) : List PChoice → Type 0 where
  old_no_choice : OldChoices b []
  old_choice : (c : PChoice) (rest : List PChoice) → OldExpr b c.first → OldOption b c.last → OldChoices b rest → OldChoices b (c ∷ rest)

-- how a loop goes on
pub data OldScheme (b : Programs) : Option PScheme → Type 0 where
  old_endless : OldScheme b None
  old_while : (e : PExpr) → OldExpr b e → OldScheme b (Some (LWhile e))
  old_for : (w : Word) (backwards : Bool) (range : PDrange) → IsOld b w.name → IsFree b w.name → OldRange b range → OldScheme b (Some (LFor w backwards range))
