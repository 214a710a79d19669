-- The place of a node is the place that it is stored with.
use Rattle.std.proofs.Common.{◌≡◌, refl}
use Rattle.ada_tree.specs.declared.naming.Span.{Span}
use Rattle.ada_tree.specs.declared.expressions.ExprKind.{ExprKind, Integer, Name, Index', Attribute', Paren', Unary', Binary', None', Some'}
use Rattle.ada_tree.specs.PlainExpr.{expr_at}
use Rattle.ada_expr_parser.specs.Trees.{span_of}

pub span_is : (k : ExprKind) (s : Span) → span_of (expr_at k s) ≡ s
span_is (Integer n) s = refl
span_is (Name n) s = refl
span_is (Index' w p k t) s = refl
span_is (Attribute' m w None') s = refl
span_is (Attribute' m w (Some' p k t)) s = refl
span_is (Paren' p k t) s = refl
span_is (Unary' op p k t) s = refl
span_is (Binary' op p k t q l u) s = refl
