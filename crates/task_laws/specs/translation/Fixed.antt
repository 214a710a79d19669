-- Expressions that are worth the same at every place of a program: no variable has a name that stands in them (4.9; this project's rule).
use Rattle.std.specs.Prelude.{◌≡◌, ℕ, true}
use Rattle.ada_tree.specs.declared.naming.NameId.{NameId}
use Rattle.ada_tree.specs.declared.naming.Span.{Span}
use Rattle.ada_tree.specs.declared.naming.Word.{Word}
use Rattle.ada_tree.specs.declared.expressions.UnaryOp.{UnaryOp}
use Rattle.ada_tree.specs.declared.expressions.BinaryOp.{BinaryOp}
use Rattle.ada_tree.specs.PlainExpr.{PExpr, EInteger, EName, EAttribute, EAttributeOf, EParen, EUnary, EBinary}
use Rattle.task_laws.specs.translation.Translations.{Programs, IsOld}

-- a name that no variable has
abbrev pub IsFixed : Programs → NameId → Type 0
IsFixed b id = b.is_fixed id.0 ≡ true

-- an expression in which such names alone stand
pub data FixedExpr (b : Programs) : PExpr → Type 0 where
  fixed_integer : (n : ℕ) (s : Span) → FixedExpr b (EInteger n s)
  fixed_name : (id : NameId) (s : Span) → IsOld b id → IsFixed b id → FixedExpr b (EName id s)
  fixed_attribute : (m w : Word) (s : Span) → FixedExpr b (EAttribute m w s)
  fixed_attribute_of : (m w : Word) (e : PExpr) (s : Span) → FixedExpr b e → FixedExpr b (EAttributeOf m w e s)
  fixed_paren : (e : PExpr) (s : Span) → FixedExpr b e → FixedExpr b (EParen e s)
  fixed_unary : (op : UnaryOp) (e : PExpr) (s : Span) → FixedExpr b e → FixedExpr b (EUnary op e s)
  fixed_binary : (op : BinaryOp) (l r : PExpr) (s : Span) → FixedExpr b l → FixedExpr b r → FixedExpr b (EBinary op l r s)
