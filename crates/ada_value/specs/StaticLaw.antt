-- The law that a static expression is worth its static value where it is evaluated (4.9): on a table whose bounds and constants are values of their kinds, as that of each legal program is.
use Rattle.std.specs.Prelude.{◌≡◌, ◌≤◌, ⊤, ℕ, ℤ, true, [], length, All, Result, Ok, Err}
use Rattle.ada_tree.specs.declared.naming.Span.{Span}
use Rattle.ada_tree.specs.declared.static_types.Kind.{Kind}
use Rattle.ada_tree.specs.declared.static_types.Kind.TheVariants as kind
use Rattle.ada_tree.specs.TypeTable.{TypeTable}
use Rattle.ada_tree.specs.PlainExpr.{PExpr, EInteger, EName, EIndex, EAttribute, EAttributeOf, EParen, EUnary, EBinary}
use Rattle.ada_static_rules.specs.Scope.{mark_at}
use Rattle.ada_static_rules.specs.StaticValue.{is_integer_value, is_static, value_of}
use Rattle.ada_value.specs.declared.values.Value.{Value}
use Rattle.ada_value.specs.declared.values.Raised.{Raised}
use Rattle.ada_value.specs.Values.{position_of, value_at, limits_or}
use Rattle.ada_value.specs.Evaluating.{evaluated}

-- a kind has a value at a position, which is one of 32 bits: the value of the kind there has that position
pub record HasValueAt (types : TypeTable) (k : ℕ) (z : ℤ) : Type 0 where
  pub fits : is_integer_value z ≡ true
  pub same : position_of (value_at types k z) ≡ z

-- an enumeration has at most 2147483648 literals, so that each position is a number of INTEGER
abbrev pub HasFewLiterals : Kind → Type 0
HasFewLiterals kind.Integer = ⊤
HasFewLiterals kind.Truth = ⊤
HasFewLiterals (kind.Enumeration names) = length names ≤ 2147483648
HasFewLiterals (kind.Array index first last part) = ⊤

-- The bounds and the constants of a table are values of their kinds.
pub record IsSound (types : TypeTable) : Type 0 where
  pub kinds : All HasFewLiterals types.kinds
  pub firsts : All (λ m. HasValueAt types m.kind m.first) types.marks
  pub lasts : All (λ m. HasValueAt types m.kind m.last) types.marks
  pub constants : All (λ c. HasValueAt types (limits_or (mark_at types c.mark)).kind c.value) types.constants

-- Each integer literal of an expression is a number of INTEGER.
abbrev pub HasSmallLiterals : PExpr → Type 0
HasSmallLiterals (EInteger n s) = n ≤ 2147483647
HasSmallLiterals (EName id s) = ⊤
HasSmallLiterals (EIndex w e s) = HasSmallLiterals e
HasSmallLiterals (EAttribute m w s) = ⊤
HasSmallLiterals (EAttributeOf m w e s) = HasSmallLiterals e
HasSmallLiterals (EParen e s) = HasSmallLiterals e
HasSmallLiterals (EUnary op e s) = HasSmallLiterals e
HasSmallLiterals (EBinary op l r s) = HasSmallLiterals l × HasSmallLiterals r

-- There is a static value and a value, of one position; or both raise.
abbrev pub Agree : Result ℤ Span → Result Value Raised → Type 0
Agree (Ok z) (Ok v) = position_of v ≡ z
Agree (Ok z) (Err x) = ⊥
Agree (Err s) (Ok v) = ⊥
Agree (Err s) (Err x) = ⊤

-- A static expression that is evaluated without variables is worth its static value, and raises where that does.
abbrev pub StaticLaw : Type 0
StaticLaw = (types : TypeTable) (e : PExpr) → IsSound types → HasSmallLiterals e → is_static types e ≡ true → Agree (value_of types e) (evaluated types [] e)
