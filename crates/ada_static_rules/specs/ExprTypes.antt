-- The kind of an expression's value, and its nodes (4.4; this project's rule: an expression has a kind only where no part of it is refused by the rules Unknown, Mismatch, ArgCount, ArrayUse or TextUse).
use Rattle.std.specs.Prelude.{ℕ, ℤ, Bool, true, false, ◌&&◌, ◌==◌, if◌then◌else◌, List, [], ◌∷◌, ◌++◌, Option, Some, None, Result, Ok, Err}
use Rattle.ada_tree.specs.declared.naming.Span.{Span}
use Rattle.ada_tree.specs.declared.expressions.UnaryOp.{UnaryOp}
use Rattle.ada_tree.specs.declared.expressions.UnaryOp.TheVariants as unary
use Rattle.ada_tree.specs.declared.expressions.BinaryOp.{BinaryOp}
use Rattle.ada_tree.specs.declared.expressions.BinaryOp.TheVariants.{And, Or, Xor, AndThen, OrElse, Equal, NotEqual, Less, LessEqual, Greater, GreaterEqual, Plus, Minus, Times, Divide, Mod, Rem}
use Rattle.ada_tree.specs.TypeTable.{TypeTable}
use Rattle.ada_tree.specs.PlainExpr.{PExpr, EInteger, EName, EIndex, EAttribute, EAttributeOf, EParen, EUnary, EBinary, PBounds}
use Rattle.ada_tree.specs.Attributes.{Attribute, First, Last, Pos, Val, Succ, Pred, attribute_of}
use Rattle.ada_static_rules.specs.StaticValue.{is_static, value_of}
use Rattle.ada_static_rules.specs.Scope.{Scope, integer_kind, truth_kind, Range, Reading, AsScalar, AsArray, reading, marking, scalar_kind, kind_of_mark, and_then}

-- the place of an expression
abbrev pub expr_place : PExpr → Span
expr_place (EInteger n s) = s
expr_place (EName id s) = s
expr_place (EIndex w e s) = s
expr_place (EAttribute m w s) = s
expr_place (EAttributeOf m w e s) = s
expr_place (EParen e s) = s
expr_place (EUnary op e s) = s
expr_place (EBinary op l r s) = s

-- an expression and all its parts, an outer one before its parts, the left one before the right
abbrev pub nodes : PExpr → List PExpr
nodes (EInteger n s) = EInteger n s ∷ []
nodes (EName id s) = EName id s ∷ []
nodes (EIndex w e s) = EIndex w e s ∷ nodes e
nodes (EAttribute m w s) = EAttribute m w s ∷ []
nodes (EAttributeOf m w e s) = EAttributeOf m w e s ∷ nodes e
nodes (EParen e s) = EParen e s ∷ nodes e
nodes (EUnary op e s) = EUnary op e s ∷ nodes e
nodes (EBinary op l r s) = EBinary op l r s ∷ nodes l ++ nodes r

-- ---- what operators and attributes take and give

-- the operand that an operator takes: of one kind, or of any scalar kind (4.5)
pub data Operand : Type 0 where
  of_kind : ℕ → Operand
  of_any_kind : Operand

-- what an operator between two operands takes (4.5)
abbrev pub takes : BinaryOp → Operand
takes And = of_kind truth_kind
takes Or = of_kind truth_kind
takes Xor = of_kind truth_kind
takes AndThen = of_kind truth_kind
takes OrElse = of_kind truth_kind
takes Equal = of_any_kind
takes NotEqual = of_any_kind
takes Less = of_any_kind
takes LessEqual = of_any_kind
takes Greater = of_any_kind
takes GreaterEqual = of_any_kind
takes Plus = of_kind integer_kind
takes Minus = of_kind integer_kind
takes Times = of_kind integer_kind
takes Divide = of_kind integer_kind
takes Mod = of_kind integer_kind
takes Rem = of_kind integer_kind

-- what an operator before one operand takes (4.5.4, 4.5.6)
abbrev pub takes_one : UnaryOp → Operand
takes_one unary.Plus = of_kind integer_kind
takes_one unary.Minus = of_kind integer_kind
takes_one unary.Abs = of_kind integer_kind
takes_one unary.Not = of_kind truth_kind

-- an operand of that kind fits
abbrev pub is_taken : Operand → ℕ → Bool
is_taken (of_kind k) kind = k == kind
is_taken of_any_kind kind = true

-- the kind of the result: that of the operands, and for a relation BOOLEAN
abbrev pub given_by : Operand → ℕ
given_by (of_kind k) = k
given_by of_any_kind = truth_kind

-- the kind that an operator with one operand gives, where the operand fits (4.5.4, 4.5.6)
abbrev pub unary_kind : Operand → Option ℕ → Option ℕ
unary_kind operand (Some k) = if is_taken operand k then Some (given_by operand) else None
unary_kind operand None = None

-- both operands fit, and they are of one kind
abbrev pub binary_kind : Operand → Option ℕ → Option ℕ → Option ℕ
binary_kind operand (Some k) (Some l) = if is_taken operand k && is_taken operand l && (k == l) then Some (given_by operand) else None
binary_kind operand _ _ = None

-- the kind that an attribute's argument has, for a mark of that kind
abbrev pub argument_kind : Attribute → ℕ → ℕ
argument_kind Val k = integer_kind
argument_kind _ k = k

-- the kind that an attribute with an argument gives; 'IMAGE gives a text
abbrev pub function_kind : Attribute → ℕ → Option ℕ
function_kind Pos k = Some integer_kind
function_kind Val k = Some k
function_kind Succ k = Some k
function_kind Pred k = Some k
function_kind _ k = None

-- the kind that an attribute without an argument gives
abbrev pub bound_kind : Attribute → ℕ → Option ℕ
bound_kind First k = Some k
bound_kind Last k = Some k
bound_kind _ k = None

-- the second, where the first is that kind
abbrev pub if_kind : ℕ → Option ℕ → Option ℕ → Option ℕ
if_kind k (Some other) o = if k == other then o else None
if_kind k None o = None

-- ---- the kind of an expression

-- the kind of a name without an index, where it stands for a scalar value (4.1)
abbrev pub name_kind : Reading → Option ℕ
name_kind (AsScalar k) = Some k
name_kind _ = None

-- the kind of a component, where the name is an array's and the index is of its kind (4.1.1)
abbrev pub component_kind : TypeTable → Reading → Option ℕ → Option ℕ
component_kind types (AsArray index part) o = if_kind index o (kind_of_mark types part)
component_kind types _ o = None

-- the kind that an attribute with an argument gives, where its mark is a scalar one and the argument fits (3.5.5)
abbrev pub attribute_kind : Attribute → Option ℕ → Option ℕ → Option ℕ
attribute_kind a (Some k) o = if_kind (argument_kind a k) o (function_kind a k)
attribute_kind a None o = None

-- The kind of the expression's value.
abbrev pub kind_of : Scope → PExpr → Option ℕ
kind_of scope (EInteger n s) = Some integer_kind
kind_of scope (EName id s) = name_kind (reading scope id)
kind_of scope (EIndex w e s) = component_kind scope.types (reading scope w.name) (kind_of scope e)
kind_of scope (EAttribute m w s) = and_then (bound_kind (attribute_of w.name)) (scalar_kind (marking scope m.name))
kind_of scope (EAttributeOf m w e s) = attribute_kind (attribute_of w.name) (scalar_kind (marking scope m.name)) (kind_of scope e)
kind_of scope (EParen e s) = kind_of scope e
kind_of scope (EUnary op e s) = unary_kind (takes_one op) (kind_of scope e)
kind_of scope (EBinary op l r s) = binary_kind (takes op) (kind_of scope l) (kind_of scope r)

-- an expression that has a kind is of another one than asked
abbrev pub is_other_kind : Option ℕ → Option ℕ → Bool
is_other_kind (Some k) (Some other) = if k == other then false else true
is_other_kind _ _ = false

-- an expression has a kind, and it is this one (4.4)
abbrev pub is_kind : ℕ → Option ℕ → Bool
is_kind k (Some other) = k == other
is_kind k None = false

-- ---- static parts

-- the value of an expression of that kind, where it is static and no operation in it raises
abbrev pub ok_value : Result ℤ Span → Option ℤ
ok_value (Ok z) = Some z
ok_value (Err s) = None

-- the value of an expression, where it is of that kind and static and no operation in it raises (4.9)
abbrev pub static_in : Scope → ℕ → PExpr → Option ℤ
static_in scope k e = if is_kind k (kind_of scope e) && is_static scope.types e then ok_value (value_of scope.types e) else None

-- the range of two static bounds of that kind
abbrev pub range_between : ℕ → Option ℤ → Option ℤ → Option Range
range_between k (Some a) (Some b) = Some record { kind = k; first = a; last = b }
range_between k _ _ = None

-- the range of two bounds, where both are static and of that kind (3.5, 4.9)
abbrev pub static_range : Scope → ℕ → PBounds → Option Range
static_range scope k b = range_between k (static_in scope k b.first) (static_in scope k b.last)
