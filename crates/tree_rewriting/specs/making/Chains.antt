-- Chains of one operator.
use Rattle.std.specs.Prelude.{Option, Some, None}
use Rattle.ada_tree.specs.declared.naming.Span.{Span}
use Rattle.ada_tree.specs.declared.expressions.BinaryOp.{BinaryOp}
use Rattle.ada_tree.specs.PlainExpr.{PExpr, EBinary}

-- an expression behind a chain, or alone where there is none
abbrev pub chained : BinaryOp → Option PExpr → PExpr → Span → PExpr
chained op None x s = x
chained op (Some e) x s = EBinary op e x s
