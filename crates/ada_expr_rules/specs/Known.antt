-- What is known of an expression where its value is looked at.
use Rattle.std.specs.Prelude.{◌≡◌, ℕ, ℤ, if◌then◌else◌, List, [], ◌∷◌, Option, Some, None, Result}
use Rattle.ada_tree.specs.declared.naming.Span.{Span}
use Rattle.ada_tree.specs.PlainExpr.{PExpr}
use Rattle.ada_static_rules.specs.Scope.{Scope, Range}
use Rattle.ada_static_rules.specs.ExprTypes.{kind_of, is_kind, ok_value, range_between}
use Rattle.ada_static_rules.specs.RuleRangeBad.{is_below, is_outside}
use Rattle.ada_expr_rules.specs.Judged.{fixed_value}
use Rattle.ada_expr_rules.specs.declared.known.Known.{Known}

-- its kind, and its value where it is static
pub record IsKnown (scope : Scope) (e : PExpr) (known : Known) : Type 0 where
  pub kind_is : known.kind ≡ kind_of scope e
  pub value_is : known.value ≡ fixed_value scope.types e

abbrev pub ok_of : Option (Result ℤ Span) → Option ℤ
ok_of (Some r) = ok_value r
ok_of None = None

-- the value of what is of that kind
abbrev pub value_in : ℕ → Known → Option ℤ
value_in k known = if is_kind k known.kind then ok_of known.value else None

-- the range of two values of a kind
abbrev pub range_of_both : ℕ → Known → Known → Option Range
range_of_both k low high = range_between k (value_in k low) (value_in k high)

-- two bounds of which the second is the smaller one, at a place
abbrev pub emptied : Option ℕ → Known → Known → Span → List Span
emptied (Some k) low high s = if is_below (value_in k high) (value_in k low) then s ∷ [] else []
emptied None low high s = []

-- a value outside a range, at a place
abbrev pub outlying : Option Range → Known → Span → List Span
outlying (Some range) known s = if is_outside range (value_in range.kind known) then s ∷ [] else []
outlying None known s = []
