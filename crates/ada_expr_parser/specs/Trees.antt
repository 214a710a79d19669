-- Nodes of the tree: their places, their heights and their operators.
use Rattle.std.specs.Prelude.{ℕ, ◌+◌, max, Option, Some, None}
use Rattle.ada_tree.specs.declared.naming.Span.{Span}
use Rattle.ada_tree.specs.declared.naming.Word.{Word}
use Rattle.ada_tree.specs.declared.expressions.BinaryOp.{BinaryOp}
use Rattle.ada_tree.specs.PlainExpr.{PExpr, EInteger, EName, EIndex, EAttribute, EAttributeOf, EParen, EUnary, EBinary}
use Rattle.ada_expr_parser.specs.Tests.{Prefix}

-- the place of an expression
abbrev pub span_of : PExpr → Span
span_of (EInteger n s) = s
span_of (EName a s) = s
span_of (EIndex w e s) = s
span_of (EAttribute m w s) = s
span_of (EAttributeOf m w e s) = s
span_of (EParen e s) = s
span_of (EUnary op e s) = s
span_of (EBinary op l r s) = s

-- how many levels stand below the root: an operand, index, argument or content of parentheses is one level below its node (this project's rule)
abbrev pub levels : PExpr → ℕ
levels (EInteger n s) = 0
levels (EName a s) = 0
levels (EIndex w e s) = levels e + 1
levels (EAttribute m w s) = 0
levels (EAttributeOf m w e s) = levels e + 1
levels (EParen e s) = levels e + 1
levels (EUnary op e s) = levels e + 1
levels (EBinary op l r s) = max (levels l) (levels r) + 1

-- the operator of an expression that has two operands
abbrev pub last_operator : PExpr → Option BinaryOp
last_operator (EBinary op l r s) = Some op
last_operator _ = None

-- from the start of one piece to the end of another
abbrev pub from_to : Span → Span → Span
from_to first last = record { start = first.start; end = last.end }

-- each node stands from its first item to its last
abbrev pub indexed : Word → PExpr → Span → PExpr
indexed name arg close = EIndex name arg (from_to name.span close)

abbrev pub attribute : Word → Word → PExpr
attribute mark w = EAttribute mark w (from_to mark.span w.span)

abbrev pub attribute_of : Word → Word → PExpr → Span → PExpr
attribute_of mark w arg close = EAttributeOf mark w arg (from_to mark.span close)

abbrev pub in_parens : Span → PExpr → Span → PExpr
in_parens lead part close = EParen part (from_to lead close)

abbrev pub with_prefix : Prefix → PExpr → PExpr
with_prefix p part = EUnary p.op part (from_to p.span (span_of part))

abbrev pub joined : PExpr → BinaryOp → PExpr → PExpr
joined left op right = EBinary op left right (from_to (span_of left) (span_of right))
