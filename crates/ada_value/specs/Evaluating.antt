-- What an expression is worth: a value, or the exception that its evaluation raises (4.1 to 4.5, 3.5.5). Operands are evaluated from left to right (this project's rule where the standard leaves the order open). It is said of every expression over every variables and table.
use Rattle.std.specs.Prelude.{ℕ, ℤ, pos, ◌+ℤ◌, ◌-ℤ◌, ◌*ℤ◌, neg_ℤ, int_le, int_lt, int_div, int_rem, suc, Bool, true, false, not, ◌&&◌, ◌||◌, ◌==◌, if◌then◌else◌, List, [], ◌∷◌, Option, Some, None, option_map, unwrap_or, Result, Ok, Err}
use Rattle.std.specs.Ordering.{int_eq}
use Rattle.ada_tree.specs.declared.naming.NameId.{NameId}
use Rattle.ada_tree.specs.declared.expressions.UnaryOp.{UnaryOp}
use Rattle.ada_tree.specs.declared.expressions.UnaryOp.TheVariants as unary
use Rattle.ada_tree.specs.declared.expressions.BinaryOp.{BinaryOp}
use Rattle.ada_tree.specs.declared.expressions.BinaryOp.TheVariants.{And, Or, Xor, AndThen, OrElse, Equal, NotEqual, Less, LessEqual, Greater, GreaterEqual, Plus, Minus, Times, Divide, Mod, Rem}
use Rattle.ada_tree.specs.declared.static_types.Kind.{Kind}
use Rattle.ada_tree.specs.declared.static_types.Constant.{Constant}
use Rattle.ada_tree.specs.TypeTable.{TypeTable}
use Rattle.ada_tree.specs.PlainExpr.{PExpr, EInteger, EName, EIndex, EAttribute, EAttributeOf, EParen, EUnary, EBinary, PBounds, PDrange, RGiven, RMarked}
use Rattle.ada_tree.specs.Attributes.{Attribute, First, Last, Pos, Val, Succ, Pred, attribute_of, false_name, true_name}
use Rattle.ada_static_rules.specs.Scope.{mark_at}
use Rattle.ada_static_rules.specs.StaticValue.{constant_named, position_in, first_of_two}
use Rattle.common_lemmas.specs.division.Modulus.{modulus}
use Rattle.ada_value.specs.declared.values.Value.{Value}
use Rattle.ada_value.specs.declared.values.Value.TheVariants.{Number, Truth}
use Rattle.ada_value.specs.declared.values.Raised.{Raised}
use Rattle.ada_value.specs.declared.values.Raised.TheVariants as raised
use Rattle.ada_value.specs.Values.{placed, word, and_then, position_of, kind_of_value, is_true_value, value_at, based, fitted, Limits, limits_or, limits_named}
use Rattle.ada_value.specs.Variables.{Object, Variables, object_named, value_there, component_place}

-- ---- names (4.1)

-- the value of an enumeration literal among kinds that stand from the place k on (3.5.1)
abbrev pub literal_value : List Kind → ℕ → NameId → Option Value
literal_value [] k id = None
literal_value (kind ∷ rest) k id = first_of_two (option_map (λ n. placed (word k) (pos n)) (position_in id kind)) (literal_value rest (suc k) id)

-- the value of a named number or scalar constant of main (3.2)
abbrev pub constant_value : TypeTable → Constant → Value
constant_value types c = value_at types (limits_or (mark_at types c.mark)).kind c.value

-- the value of a name that is no variable: of FALSE or TRUE, of a constant, or of an enumeration literal; of another name, as in no legal program, it is 0
abbrev pub fixed_value : TypeTable → NameId → Value
fixed_value types id =
    if id.0 == false_name then Truth false
    else if id.0 == true_name then Truth true
    else unwrap_or (first_of_two (option_map (constant_value types) (constant_named types id)) (literal_value types.kinds 0 id)) (Number (pos 0))

-- The value of a name: that of the latest variable of the name, and else that of the constant or literal (4.1, 8.3).
abbrev pub name_value : TypeTable → Option Object → NameId → Value
name_value types (Some o) id = value_there o 0
name_value types None id = fixed_value types id

-- The value of a component at an index value (4.1.1).
abbrev pub component_value : Option Object → Value → Result Value Raised
component_value None v = Err raised.Constraint
component_value (Some o) v = and_then (component_place (Some o) v) (λ k. Ok (value_there o k))

-- ---- attributes (3.5.5)

-- a bound of the type or subtype that is named; another word without argument, as in no legal program, is 0
abbrev pub bound_value : TypeTable → Limits → Attribute → Value
bound_value types limits First = value_at types limits.kind limits.first
bound_value types limits Last = value_at types limits.kind limits.last
bound_value types limits _ = Number (pos 0)

-- an attribute of a value; of a subtype they are those of its base type. Another word with an argument, as in no legal program, is 0
abbrev pub attribute_value : TypeTable → Limits → Attribute → Value → Result Value Raised
attribute_value types limits Pos v = fitted (position_of v)
attribute_value types limits Val v = based types limits.kind (position_of v)
attribute_value types limits Succ v = based types limits.kind (position_of v +ℤ pos 1)
attribute_value types limits Pred v = based types limits.kind (position_of v -ℤ pos 1)
attribute_value types limits _ v = Ok (Number (pos 0))

-- ---- operators (4.5)

-- the value of `+`, `-`, `abs` or `not` at an operand's value (4.5.4, 4.5.6); a number that INTEGER lacks raises NUMERIC_ERROR
abbrev pub signed_value : UnaryOp → Value → Result Value Raised
signed_value unary.Plus v = fitted (position_of v)
signed_value unary.Minus v = fitted (neg_ℤ (position_of v))
signed_value unary.Abs v = fitted (if int_lt (position_of v) (pos 0) then neg_ℤ (position_of v) else position_of v)
signed_value unary.Not v = Ok (Truth (not (is_true_value v)))

-- a divisor 0 raises NUMERIC_ERROR (4.5.5)
abbrev pub unless_zero : ℤ → Result Value Raised → Result Value Raised
unless_zero b r = if int_eq b (pos 0) then Err raised.Numeric else r

-- an operator, applied to the values of both operands: `/` truncates toward zero, `rem` has the sign of the left operand and `mod` that of the right (4.5.5)
abbrev pub combined : BinaryOp → Value → Value → Result Value Raised
combined And a b = Ok (Truth (is_true_value a && is_true_value b))
combined AndThen a b = Ok (Truth (is_true_value a && is_true_value b))
combined Or a b = Ok (Truth (is_true_value a || is_true_value b))
combined OrElse a b = Ok (Truth (is_true_value a || is_true_value b))
combined Xor a b = Ok (Truth (not (int_eq (position_of a) (position_of b))))
combined Equal a b = Ok (Truth (int_eq (position_of a) (position_of b)))
combined NotEqual a b = Ok (Truth (not (int_eq (position_of a) (position_of b))))
combined Less a b = Ok (Truth (int_lt (position_of a) (position_of b)))
combined LessEqual a b = Ok (Truth (int_le (position_of a) (position_of b)))
combined Greater a b = Ok (Truth (int_lt (position_of b) (position_of a)))
combined GreaterEqual a b = Ok (Truth (int_le (position_of b) (position_of a)))
combined Plus a b = fitted (position_of a +ℤ position_of b)
combined Minus a b = fitted (position_of a -ℤ position_of b)
combined Times a b = fitted (position_of a *ℤ position_of b)
combined Divide a b = unless_zero (position_of b) (fitted (int_div (position_of a) (position_of b)))
combined Mod a b = unless_zero (position_of b) (fitted (modulus (position_of a) (position_of b)))
combined Rem a b = unless_zero (position_of b) (fitted (int_rem (position_of a) (position_of b)))

-- an operator over what its operands come to: the right one of a short-circuit form counts only where the left one does not decide (4.5.1)
abbrev pub operated : BinaryOp → Result Value Raised → Result Value Raised → Result Value Raised
operated AndThen l r = and_then l (λ a. if is_true_value a then r else Ok (Truth false))
operated OrElse l r = and_then l (λ a. if is_true_value a then Ok (Truth true) else r)
operated op l r = and_then l (λ a. and_then r (λ b. combined op a b))

-- ---- expressions

-- The value of an expression, or the exception that it raises (4.4).
abbrev pub evaluated : TypeTable → Variables → PExpr → Result Value Raised
evaluated types vars (EInteger n s) = fitted (pos n)
evaluated types vars (EName id s) = Ok (name_value types (object_named vars id) id)
evaluated types vars (EIndex w e s) = and_then (evaluated types vars e) (λ v. component_value (object_named vars w.name) v)
evaluated types vars (EAttribute m w s) = Ok (bound_value types (limits_named types m.name) (attribute_of w.name))
evaluated types vars (EAttributeOf m w e s) = and_then (evaluated types vars e) (λ v. attribute_value types (limits_named types m.name) (attribute_of w.name) v)
evaluated types vars (EParen e s) = evaluated types vars e
evaluated types vars (EUnary op e s) = and_then (evaluated types vars e) (λ v. signed_value op v)
evaluated types vars (EBinary op l r s) = operated op (evaluated types vars l) (evaluated types vars r)

-- The truth of a condition (5.3).
abbrev pub condition_of : TypeTable → Variables → PExpr → Result Bool Raised
condition_of types vars e = and_then (evaluated types vars e) (λ v. Ok (is_true_value v))

-- ---- ranges (3.6)

-- the range between two values, of the kind of the first (3.5)
abbrev pub range_between : Value → Value → Limits
range_between a b = record { kind = kind_of_value a; first = position_of a; last = position_of b }

-- two bounds, the first one first
abbrev pub bounds_of : TypeTable → Variables → PBounds → Result Limits Raised
bounds_of types vars b = and_then (evaluated types vars b.first) (λ x. and_then (evaluated types vars b.last) (λ y. Ok (range_between x y)))

-- the range of a subtype with bounds of its own, if it has them
abbrev pub narrowed : TypeTable → Variables → Limits → Option PBounds → Result Limits Raised
narrowed types vars limits None = Ok limits
narrowed types vars limits (Some b) = and_then (bounds_of types vars b) (λ r. Ok record { kind = limits.kind; first = r.first; last = r.last })

-- A discrete range: its kind and its bounds.
abbrev pub range_of : TypeTable → Variables → PDrange → Result Limits Raised
range_of types vars (RGiven b) = bounds_of types vars b
range_of types vars (RMarked x) = narrowed types vars (limits_named types x.mark.name) x.bounds
