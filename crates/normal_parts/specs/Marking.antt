-- The types by whose positions the members of families are told (this project's rule).
use Rattle.std.specs.Prelude.{ℕ, List, map, slice_get, Option, Some, None}
use Rattle.ada_tree.specs.declared.naming.NameId.{NameId}
use Rattle.ada_tree.specs.declared.static_types.Kind.{Kind}
use Rattle.ada_tree.specs.declared.static_types.Kind.TheVariants as kind
use Rattle.ada_tree.specs.TypeTable.{TypeTable}
use Rattle.ada_tree.specs.PlainExpr.{PDrange}
use Rattle.task_model.specs.Setting.{Setting}
use Rattle.normal_model.specs.Ranges.{kind_of_range, kind_name, family_range, range_of_info}

-- the type whose positions stand for the indices of a family over a kind; of integers there is none
abbrev pub mark_of_kind : TypeTable → ℕ → Option Kind → Option NameId
mark_of_kind types k None = Some (kind_name types k)
mark_of_kind types k (Some kind.Integer) = None
mark_of_kind types k (Some kind.Truth) = Some (kind_name types k)
mark_of_kind types k (Some (kind.Enumeration names)) = Some (kind_name types k)
mark_of_kind types k (Some (kind.Array index first last part)) = Some (kind_name types k)

abbrev pub mark_of_range : TypeTable → Option PDrange → Option NameId
mark_of_range types None = None
mark_of_range types (Some r) = mark_of_kind types (kind_of_range types r) (slice_get types.kinds (kind_of_range types r))

-- that of the entry of a number
abbrev pub mark_at : Setting → ℕ → Option NameId
mark_at g e = mark_of_range g.types (family_range g e)

-- those of all entries, from 1
abbrev pub marks_of : Setting → List (Option NameId)
marks_of g = map (λ info. mark_of_range g.types (range_of_info g (Some info))) g.numbers.entries
