-- What is told of bounds, subtype indications and discrete ranges that stand at some places.
use Rattle.std.specs.Prelude.{◌≡◌, ℕ, List, Option, Some, None, option_map}
use Rattle.ada_tree.specs.PlainExpr.{PBounds, PSubind, PDrange}
use Rattle.ada_tree.specs.TypeTable.{TypeTable}
use Rattle.ada_static_rules.specs.Scope.{Scope, scalar_kind, marking, range_of_mark}
use Rattle.ada_static_rules.specs.Scope as scope
use Rattle.ada_static_rules.specs.Demand.{Site}
use Rattle.ada_static_rules.specs.Declaring.{Made, made, made_none, mark_for, made_subind, marked_range, drange_kind, drange_range}
use Rattle.ada_static_rules.specs.RefusedFirst.{refused_first}
use Rattle.ada_scopes.specs.Entries.{plain_range}
use Rattle.ada_expr_rules.specs.Known.{IsKnown, range_of_both}
use Rattle.ada_expr_rules.specs.declared.known.Known.{Known}
use Rattle.ada_scopes.specs.declared.denotations.Range.{Range}
use Rattle.ada_expr_rules.specs.declared.ranges.WalkedBounds.{WalkedBounds}
use Rattle.ada_expr_rules.specs.declared.ranges.WalkedSubind.{WalkedSubind}
use Rattle.ada_expr_rules.specs.declared.ranges.WalkedRange.{WalkedRange}
use Rattle.ada_expr_rules.specs.declared.ranges.Making.{Making}
use Rattle.ada_expr_rules.specs.declared.ranges.Making.TheVariants.{Named, Ranged, Refused}

-- the table with what a subtype indication makes, and the place of its mark
abbrev pub made_as : TypeTable → Making → Made
made_as types (Named m) = record { types = types; mark = Some m }
made_as types (Ranged r) = made types (mark_for None (plain_range r))
made_as types Refused = made_none types

-- the range of its mark
abbrev pub range_as : TypeTable → Making → Option scope.Range
range_as types (Named m) = range_of_mark types m
range_as types (Ranged r) = Some (plain_range r)
range_as types Refused = None

-- what a range makes, where it is known
abbrev pub ranged : Option Range → Making
ranged (Some r) = Ranged r
ranged None = Refused

-- the range of two bounds, where their kind is known
abbrev pub range_if : Option ℕ → Known → Known → Option scope.Range
range_if (Some k) low high = range_of_both k low high
range_if None low high = None

-- what is known of each bound, and the first refusal at the places
pub record AreBounds (sites : List Site) (scope : Scope) (b : PBounds) (w : WalkedBounds) : Type 0 where
  pub first_is : IsKnown scope b.first w.first
  pub last_is : IsKnown scope b.last w.last
  pub refusal_is : w.refusal ≡ refused_first sites

-- the kind of a subtype indication, what it makes, and the first refusal at the places
pub record IsSubind (sites : List Site) (scope : Scope) (x : PSubind) (w : WalkedSubind) : Type 0 where
  pub kind_is : w.kind ≡ scalar_kind (marking scope x.mark.name)
  pub made_is : made_as scope.types w.making ≡ made_subind scope x
  pub range_is : range_as scope.types w.making ≡ marked_range scope (marking scope x.mark.name) x.bounds
  pub refusal_is : w.refusal ≡ refused_first sites

-- the kind of a discrete range, its values where its bounds are static, and the first refusal at the places
pub record IsRange (sites : List Site) (scope : Scope) (r : PDrange) (w : WalkedRange) : Type 0 where
  pub kind_is : w.kind ≡ drange_kind scope r
  pub range_is : option_map plain_range w.range ≡ drange_range scope r
  pub refusal_is : w.refusal ≡ refused_first sites
