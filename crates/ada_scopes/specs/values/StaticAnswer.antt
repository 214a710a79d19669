-- What a call for the value of a static expression answers (4.9).
use Rattle.std.specs.Prelude.{ℤ, Bool, true, false, Result, Ok, Err}
use Rattle.ada_tree.specs.declared.naming.Span.{Span}
use Rattle.ada_tree.specs.TypeTable.{TypeTable}
use Rattle.ada_tree.specs.PlainExpr.{PExpr}
use Rattle.ada_static_rules.specs.ExprTypes.{expr_place}
use Rattle.ada_static_rules.specs.StaticValue.{is_static, value_of}
use Rattle.ada_static_rules.specs.declared.errors.TypeError.{TypeError}
use Rattle.ada_static_rules.specs.declared.errors.TypeError.TheVariants.{NotStatic, RangeBad}

-- the value, or RangeBad at the operation that raises
abbrev pub answered : Result ℤ Span → Result ℤ TypeError
answered (Ok z) = Ok z
answered (Err s) = Err (RangeBad s)

-- NotStatic at the whole expression exactly where it is not static
abbrev pub if_static : Bool → Span → Result ℤ Span → Result ℤ TypeError
if_static true s r = answered r
if_static false s r = Err (NotStatic s)

-- The answer: the value of a static expression, RangeBad at an operation in it that raises, or NotStatic.
abbrev pub static_answer : TypeTable → PExpr → Result ℤ TypeError
static_answer types e = if_static (is_static types e) (expr_place e) (value_of types e)
