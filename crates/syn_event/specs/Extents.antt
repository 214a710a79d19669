-- The values that the parts of a program have for sure, by its types, marks and constants. The names in a static expression mean the same at every place of the program, so the whole table may be asked at any place.
use Rattle.std.specs.Prelude.{ℕ, ℤ, pos, negsuc, ◌+ℤ◌, ◌-ℤ◌, Bool, true, false, if◌then◌else◌, Option, Some, None, option_map, Result, Ok, Err}
use Rattle.ada_tree.specs.declared.naming.Span.{Span}
use Rattle.ada_tree.specs.declared.naming.NameId.{NameId}
use Rattle.ada_tree.specs.declared.static_types.Kind.{Kind}
use Rattle.ada_tree.specs.declared.static_types.Kind.TheVariants.{Array}
use Rattle.ada_tree.specs.declared.static_types.Mark.{Mark}
use Rattle.ada_tree.specs.TypeTable.{TypeTable}
use Rattle.ada_tree.specs.PlainExpr.{PExpr, PBounds, PDrange, RGiven, RMarked}
use Rattle.ada_static_rules.specs.StaticValue.{is_static, value_of, mark_named}
use Rattle.ada_static_rules.specs.Scope.{kind_at}
use Rattle.ada_static_rules.specs.ExprTypes.{expr_place}

-- the value of a static expression in which nothing raises
abbrev pub unraised_value : Result ℤ Span → Option ℤ
unraised_value (Ok z) = Some z
unraised_value (Err s) = None

-- the value of an expression, where it is static and nothing in it raises (4.9)
abbrev pub fixed : TypeTable → PExpr → Option ℤ
fixed types e = if is_static types e then unraised_value (value_of types e) else None

-- the first and the last value of a discrete range with static bounds
pub record Extent : Type 0 where
  pub first : ℤ
  pub last : ℤ

-- the extent from one value to another, where both are known
abbrev pub between : Option ℤ → Option ℤ → Option Extent
between (Some a) (Some b) = Some record { first = a; last = b }
between _ _ = None

-- the extent of two bounds, where both are static and nothing in them raises (4.9)
abbrev pub bounds_extent : TypeTable → PBounds → Option Extent
bounds_extent types b = between (fixed types b.first) (fixed types b.last)

-- the extent of a type or subtype
abbrev pub mark_extent : TypeTable → NameId → Option Extent
mark_extent types id = option_map (λ m. record { first = m.first; last = m.last }) (mark_named types id)

-- a range of a mark, with bounds of its own or those of the mark
abbrev pub marked_extent : TypeTable → NameId → Option PBounds → Option Extent
marked_extent types id (Some b) = bounds_extent types b
marked_extent types id None = mark_extent types id

-- the extent of a discrete range, where it is known (3.6.1)
abbrev pub extent : TypeTable → PDrange → Option Extent
extent types (RGiven b) = bounds_extent types b
extent types (RMarked x) = marked_extent types x.mark.name x.bounds

-- how many values lie between two numbers
abbrev pub count_to : ℤ → ℕ
count_to (pos n) = n
count_to (negsuc n) = 0

-- how many values an extent has; 0 where it is empty (3.5)
abbrev pub size_of : Extent → ℕ
size_of x = count_to ((x.last -ℤ x.first) +ℤ pos 1)

-- how many values a range has; none where its bounds are not known
abbrev pub known_size : Option Extent → ℕ
known_size (Some x) = size_of x
known_size None = 0

-- how many values a discrete range has (3.6.1); 0 where its bounds are not known
abbrev pub size : TypeTable → PDrange → ℕ
size types r = known_size (extent types r)

-- ---- places and arrays

-- a range starts with its first bound or with its mark
abbrev pub range_start : PDrange → Span
range_start (RGiven b) = expr_place b.first
range_start (RMarked x) = x.mark.span

-- the kind is that of an array type (3.6)
abbrev pub is_array_kind : Option Kind → Bool
is_array_kind (Some (Array index first last part)) = true
is_array_kind _ = false

-- the mark is that of an array type (3.6)
abbrev pub is_array_mark : TypeTable → Option Mark → Bool
is_array_mark types (Some m) = is_array_kind (kind_at types m.kind)
is_array_mark types None = false

-- the name is that of an array type
abbrev pub is_array_type : TypeTable → NameId → Bool
is_array_type types id = is_array_mark types (mark_named types id)
