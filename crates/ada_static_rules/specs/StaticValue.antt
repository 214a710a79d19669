-- Static expressions (4.9) and their values. A static expression is built of integer literals, enumeration literals, the named numbers and scalar constants of main, operators, and attributes of static parts (this project's rule). The value of a truth value or of an enumeration literal is its position.
use Rattle.std.specs.Prelude.{ℕ, ℤ, pos, negsuc, ◌+ℤ◌, ◌-ℤ◌, ◌*ℤ◌, neg_ℤ, int_le, int_lt, int_div, int_rem, Bool, true, false, not, ◌&&◌, ◌||◌, ◌==◌, if◌then◌else◌, List, [], ◌∷◌, length, find, position, slice_get, Option, Some, None, is_some, option_map, Result, Ok, Err}
use Rattle.std.specs.Ordering.{int_eq}
use Rattle.common_lemmas.specs.division.Modulus.{modulus}
use Rattle.ada_tree.specs.declared.naming.NameId.{NameId}
use Rattle.ada_tree.specs.declared.naming.Span.{Span}
use Rattle.ada_tree.specs.declared.expressions.UnaryOp.{UnaryOp}
use Rattle.ada_tree.specs.declared.expressions.UnaryOp.TheVariants as unary
use Rattle.ada_tree.specs.declared.expressions.BinaryOp.{BinaryOp}
use Rattle.ada_tree.specs.declared.expressions.BinaryOp.TheVariants.{And, Or, Xor, AndThen, OrElse, Equal, NotEqual, Less, LessEqual, Greater, GreaterEqual, Plus, Minus, Times, Divide, Mod, Rem}
use Rattle.ada_tree.specs.declared.static_types.Kind.{Kind}
use Rattle.ada_tree.specs.declared.static_types.Kind.TheVariants.{Integer, Truth, Enumeration, Array}
use Rattle.ada_tree.specs.declared.static_types.Mark.{Mark}
use Rattle.ada_tree.specs.declared.static_types.Constant.{Constant}
use Rattle.ada_tree.specs.TypeTable.{TypeTable}
use Rattle.ada_tree.specs.PlainExpr.{PExpr, EInteger, EName, EIndex, EAttribute, EAttributeOf, EParen, EUnary, EBinary}
use Rattle.ada_tree.specs.Attributes.{Attribute, First, Last, Pos, Val, Succ, Pred, attribute_of, is_bound, false_name, true_name}

-- ---- names

-- the name that may be missing is there, and is that one
abbrev pub is_named : NameId → Option NameId → Bool
is_named id None = false
is_named id (Some other) = other.0 == id.0

-- the type or subtype of a name
abbrev pub mark_named : TypeTable → NameId → Option Mark
mark_named types id = find (λ m. is_named id m.name) types.marks

-- the named number or constant of a name
abbrev pub constant_named : TypeTable → NameId → Option Constant
constant_named types id = find (λ c. c.name.0 == id.0) types.constants

-- the first, and where there is none the second
abbrev pub first_of_two : {A : Type 0} → Option A → Option A → Option A
first_of_two (Some x) o = Some x
first_of_two None o = o

-- the position of a literal among those of its enumeration
abbrev pub position_in : NameId → Kind → Option ℕ
position_in id (Enumeration names) = position (λ n. n.0 == id.0) names
position_in id _ = None

-- the position of an enumeration literal, in the first of the kinds that has it (3.5.1)
abbrev pub literal_position : List Kind → NameId → Option ℕ
literal_position [] id = None
literal_position (kind ∷ rest) id = first_of_two (position_in id kind) (literal_position rest id)

-- the value that a name stands for: that of FALSE or TRUE, of a named number or constant, or of an enumeration literal
abbrev pub value_named : TypeTable → NameId → Option ℤ
value_named types id =
    if id.0 == false_name then Some (pos 0)
    else if id.0 == true_name then Some (pos 1)
    else first_of_two (option_map (λ c. c.value) (constant_named types id)) (option_map (λ k. pos k) (literal_position types.kinds id))

-- ---- static expressions

-- 'POS, 'VAL, 'SUCC and 'PRED of a static argument are static
abbrev pub keeps_static : Attribute → Bool
keeps_static Pos = true
keeps_static Val = true
keeps_static Succ = true
keeps_static Pred = true
keeps_static _ = false

-- The expression is static. The names in it mean the same at every place of the program, since a name of main that is no variable is declared nowhere else; so the whole table may be asked at any place.
abbrev pub is_static : TypeTable → PExpr → Bool
is_static types (EInteger n s) = true
is_static types (EName id s) = is_some (value_named types id)
is_static types (EIndex w e s) = false
is_static types (EAttribute m w s) = is_bound (attribute_of w.name) && is_some (mark_named types m.name)
is_static types (EAttributeOf m w e s) = keeps_static (attribute_of w.name) && is_some (mark_named types m.name) && is_static types e
is_static types (EParen e s) = is_static types e
is_static types (EUnary op e s) = is_static types e
is_static types (EBinary op l r s) = is_static types l && is_static types r

-- ---- operations

-- a value of INTEGER has 32 bits
abbrev pub is_integer_value : ℤ → Bool
is_integer_value z = int_le (negsuc 2147483647) z && int_le z (pos 2147483647)

-- a result outside INTEGER raises NUMERIC_ERROR at the operation (4.5)
abbrev pub fitted : Span → ℤ → Result ℤ Span
fitted s z = if is_integer_value z then Ok z else Err s

-- the position of a truth value in BOOLEAN: 0 of FALSE, 1 of TRUE (3.5.3)
abbrev pub truth : Bool → ℤ
truth true = pos 1
truth false = pos 0

-- the value of BOOLEAN is not that of FALSE (3.5.3)
abbrev pub is_true : ℤ → Bool
is_true z = not (int_eq z (pos 0))

-- a divisor 0 raises NUMERIC_ERROR (4.5.5)
abbrev pub unless_zero : Span → ℤ → Result ℤ Span → Result ℤ Span
unless_zero s b r = if int_eq b (pos 0) then Err s else r

-- an operator applied to the values of its operands (4.5); `s` is its place
abbrev pub applied : BinaryOp → Span → ℤ → ℤ → Result ℤ Span
applied And s a b = Ok (truth (is_true a && is_true b))
applied AndThen s a b = Ok (truth (is_true a && is_true b))
applied Or s a b = Ok (truth (is_true a || is_true b))
applied OrElse s a b = Ok (truth (is_true a || is_true b))
applied Xor s a b = Ok (truth (not (int_eq a b)))
applied Equal s a b = Ok (truth (int_eq a b))
applied NotEqual s a b = Ok (truth (not (int_eq a b)))
applied Less s a b = Ok (truth (int_lt a b))
applied LessEqual s a b = Ok (truth (int_le a b))
applied Greater s a b = Ok (truth (int_lt b a))
applied GreaterEqual s a b = Ok (truth (int_le b a))
applied Plus s a b = fitted s (a +ℤ b)
applied Minus s a b = fitted s (a -ℤ b)
applied Times s a b = fitted s (a *ℤ b)
applied Divide s a b = unless_zero s b (fitted s (int_div a b))
applied Mod s a b = unless_zero s b (Ok (modulus a b))
applied Rem s a b = unless_zero s b (Ok (int_rem a b))

-- a unary operator applied to the value of its operand (4.5.4, 4.5.6); `s` is its place
abbrev pub signed : UnaryOp → Span → ℤ → Result ℤ Span
signed unary.Plus s a = Ok a
signed unary.Minus s a = fitted s (neg_ℤ a)
signed unary.Abs s a = fitted s (if int_lt a (pos 0) then neg_ℤ a else a)
signed unary.Not s a = Ok (truth (not (is_true a)))

-- the value is one of the type, not only of the subtype
abbrev pub is_of_kind : Option Kind → ℤ → Bool
is_of_kind (Some Integer) z = is_integer_value z
is_of_kind (Some Truth) z = int_le (pos 0) z && int_le z (pos 1)
is_of_kind (Some (Enumeration names)) z = int_le (pos 0) z && int_lt z (pos (length names))
is_of_kind (Some (Array index first last part)) z = false
is_of_kind None z = false

-- the bounds of the type or subtype that is named (3.5)
abbrev pub bound_of : Attribute → Option Mark → ℤ
bound_of First (Some m) = m.first
bound_of Last (Some m) = m.last
bound_of _ _ = pos 0

-- a value outside the base type raises CONSTRAINT_ERROR at the attribute (3.5.5)
abbrev pub of_base : TypeTable → Option Mark → Span → ℤ → Result ℤ Span
of_base types (Some m) s z = if is_of_kind (slice_get types.kinds m.kind) z then Ok z else Err s
of_base types None s z = Err s

-- the value of 'POS, 'VAL, 'SUCC or 'PRED at an argument of that value, or the place that raises (3.5.5)
abbrev pub attribute_at : TypeTable → Option Mark → Attribute → Span → ℤ → Result ℤ Span
attribute_at types m Pos s z = Ok z
attribute_at types m Val s z = of_base types m s z
attribute_at types m Succ s z = of_base types m s (z +ℤ pos 1)
attribute_at types m Pred s z = of_base types m s (z -ℤ pos 1)
attribute_at types m _ s z = Err s

-- ---- values

-- what f makes of a value; where something raised before, its place stays
abbrev pub then_do : (ℤ → Result ℤ Span) → Result ℤ Span → Result ℤ Span
then_do f (Ok z) = f z
then_do f (Err s) = Err s

-- the operands are evaluated from left to right, and the right one of a short-circuit form only where the left one does not decide (4.5.1)
abbrev pub operated : BinaryOp → Span → Result ℤ Span → Result ℤ Span → Result ℤ Span
operated AndThen s l r = then_do (λ a. if is_true a then r else Ok (pos 0)) l
operated OrElse s l r = then_do (λ a. if is_true a then Ok (pos 1) else r) l
operated op s l r = then_do (λ a. then_do (λ b. applied op s a b) r) l

-- the value of a name where it has one; else 0, since nothing is said of an expression that is not static
abbrev pub named : Option ℤ → Result ℤ Span
named (Some z) = Ok z
named None = Ok (pos 0)

-- The value of a static expression, or the place of the operation in it that raises. It says nothing of an expression that is not static.
abbrev pub value_of : TypeTable → PExpr → Result ℤ Span
value_of types (EInteger n s) = Ok (pos n)
value_of types (EName id s) = named (value_named types id)
value_of types (EIndex w e s) = Ok (pos 0)
value_of types (EAttribute m w s) = Ok (bound_of (attribute_of w.name) (mark_named types m.name))
value_of types (EAttributeOf m w e s) = then_do (attribute_at types (mark_named types m.name) (attribute_of w.name) s) (value_of types e)
value_of types (EParen e s) = value_of types e
value_of types (EUnary op e s) = then_do (signed op s) (value_of types e)
value_of types (EBinary op l r s) = operated op s (value_of types l) (value_of types r)
