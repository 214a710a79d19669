-- Rule RangeBad: a range with two static bounds is empty; a static initial value, accept index or case choice is outside its subtype, or a static index outside its array of tasks; or an operation of a static expression raises (3.5, 4.9; this project's rule).
use Rattle.std.specs.Prelude.{ℕ, ℤ, int_lt, Bool, false, ◌||◌, ◌&&◌, if◌then◌else◌, List, [], ◌∷◌, ◌++◌, Option, Some, None, is_some, Result, Ok, Err}
use Rattle.ada_tree.specs.declared.naming.Span.{Span}
use Rattle.ada_tree.specs.PlainExpr.{PExpr, EInteger, EName, EIndex, EAttribute, EAttributeOf, EParen, EUnary, EBinary}
use Rattle.ada_static_rules.specs.StaticValue.{is_static, value_of}
use Rattle.ada_static_rules.specs.Scope.{Scope, Range, Thing, TaskArray, meaning}
use Rattle.ada_static_rules.specs.ExprTypes.{expr_place, kind_of, static_in}
use Rattle.ada_static_rules.specs.Demand.{Demand, whole, must_not_be_empty, must_lie_in, addresses}

-- the expression has a kind and is static
abbrev pub is_fixed : Scope → PExpr → Bool
is_fixed scope e = is_some (kind_of scope e) && is_static scope.types e

-- the operation that raises as a static expression is evaluated
abbrev pub raised : Result ℤ Span → List Span
raised (Ok z) = []
raised (Err s) = s ∷ []

-- the operations that raise in the largest static expressions of one; of an expression that is refused these are looked for in its parts
abbrev pub raises : Scope → PExpr → List Span
raises scope (EInteger n s) = []
raises scope (EName id s) = []
raises scope (EIndex w e s) = raises scope e
raises scope (EAttribute m w s) = []
raises scope (EAttributeOf m w e s) = if is_fixed scope (EAttributeOf m w e s) then raised (value_of scope.types (EAttributeOf m w e s)) else raises scope e
raises scope (EParen e s) = raises scope e
raises scope (EUnary op e s) = if is_fixed scope (EUnary op e s) then raised (value_of scope.types (EUnary op e s)) else raises scope e
raises scope (EBinary op l r s) = if is_fixed scope (EBinary op l r s) then raised (value_of scope.types (EBinary op l r s)) else raises scope l ++ raises scope r

-- both values are known, and the first is less than the second
abbrev pub is_below : Option ℤ → Option ℤ → Bool
is_below (Some a) (Some b) = int_lt a b
is_below _ _ = false

-- two static bounds of one kind of which the second is the smaller one, at the first
abbrev pub empty_range : Scope → PExpr → PExpr → Option ℕ → List Span
empty_range scope a b (Some k) = if is_below (static_in scope k b) (static_in scope k a) then expr_place a ∷ [] else []
empty_range scope a b None = []

-- the value is known, and it lies outside the range (3.5)
abbrev pub is_outside : Range → Option ℤ → Bool
is_outside range (Some z) = int_lt z range.first || int_lt range.last z
is_outside range None = false

-- a static value outside a range
abbrev pub out_of : Scope → PExpr → Option Range → List Span
out_of scope e (Some range) = if is_outside range (static_in scope range.kind e) then expr_place e ∷ [] else []
out_of scope e None = []

-- the index range of an array of tasks
abbrev pub member_range : Option Thing → Option Range
member_range (Some (TaskArray range entries)) = Some range
member_range _ = None

-- a static index of a member of an array of tasks that lies outside the index range (this project's rule)
abbrev pub member_out_of : Scope → Option PExpr → Option Range → List Span
member_out_of scope (Some e) range = out_of scope e range
member_out_of scope None range = []

-- The ranges, values and operations that are refused.
abbrev pub range_bad : Scope → Demand → List Span
range_bad scope (whole e) = raises scope e
range_bad scope (must_not_be_empty a b) = empty_range scope a b (kind_of scope a)
range_bad scope (must_lie_in e range) = out_of scope e range
range_bad scope (addresses c) = member_out_of scope c.index (member_range (meaning scope c.name.name))
range_bad scope _ = []
