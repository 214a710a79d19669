-- The plain mirror of expressions and of what is built of them alone: trees with no pointer and no capacity, and the view of each type in it.
use Rattle.std.specs.Prelude.{ℕ, Option, option_map}
use Rattle.ada_tree.specs.declared.naming.NameId.{NameId}
use Rattle.ada_tree.specs.declared.naming.Span.{Span}
use Rattle.ada_tree.specs.declared.naming.Word.{Word}
use Rattle.ada_tree.specs.declared.expressions.UnaryOp.{UnaryOp}
use Rattle.ada_tree.specs.declared.expressions.BinaryOp.{BinaryOp}
use Rattle.ada_tree.specs.declared.expressions.Bounds.{Bounds}
use Rattle.ada_tree.specs.declared.expressions.Expr.{Expr}
use Rattle.ada_tree.specs.declared.expressions.ExprKind.{ExprKind, Integer, Name, Index', Attribute', Paren', Unary', Binary', None', Some'}
use Rattle.ada_tree.specs.declared.declarations.Subind.{Subind}
use Rattle.ada_tree.specs.declared.declarations.Drange.{Drange}
use Rattle.ada_tree.specs.declared.declarations.Drange.TheVariants.{Given, Marked}

-- an expression, with the place of each node
pub data PExpr : Type 0 where
  EInteger : ℕ → Span → PExpr
  EName : NameId → Span → PExpr
  EIndex : Word → PExpr → Span → PExpr
  EAttribute : Word → Word → Span → PExpr
  EAttributeOf : Word → Word → PExpr → Span → PExpr
  EParen : PExpr → Span → PExpr
  EUnary : UnaryOp → PExpr → Span → PExpr
  EBinary : BinaryOp → PExpr → PExpr → Span → PExpr

-- `first .. last`
pub record PBounds : Type 0 where
  pub first : PExpr
  pub last : PExpr

-- a subtype indication
pub record PSubind : Type 0 where
  pub mark : Word
  pub bounds : Option PBounds

-- a discrete range
pub data PDrange : Type 0 where
  RGiven : PBounds → PDrange
  RMarked : PSubind → PDrange

-- the expression of a kind that stands at a place
abbrev pub expr_at : ExprKind → Span → PExpr
expr_at (Integer n) s = EInteger n s
expr_at (Name n) s = EName n s
expr_at (Index' w p k t) s = EIndex w (expr_at k t) s
expr_at (Attribute' m w None') s = EAttribute m w s
expr_at (Attribute' m w (Some' p k t)) s = EAttributeOf m w (expr_at k t) s
expr_at (Paren' p k t) s = EParen (expr_at k t) s
expr_at (Unary' op p k t) s = EUnary op (expr_at k t) s
expr_at (Binary' op p k t q l u) s = EBinary op (expr_at k t) (expr_at l u) s

abbrev pub plain_expr : Expr → PExpr
plain_expr e = expr_at e.kind e.span

abbrev pub plain_bounds : Bounds → PBounds
plain_bounds b = record { first = plain_expr b.first; last = plain_expr b.last }

abbrev pub plain_subind : Subind → PSubind
plain_subind x = record { mark = x.mark; bounds = option_map plain_bounds x.bounds }

abbrev pub plain_drange : Drange → PDrange
plain_drange (Given b) = RGiven (plain_bounds b)
plain_drange (Marked x) = RMarked (plain_subind x)
