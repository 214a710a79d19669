-- Numbers by the value of `?`, as the code keeps them.
use Rattle.std.specs.Prelude.{ℕ, ℤ, pos, negsuc, nat_lt, List, length, slice_index, Option, Some, None, unwrap_or, if◌then◌else◌}
use Rattle.std.specs.HashMap.{get}
use Rattle.std.specs.Ordering.{int_eq}
use Rattle.syn_constraint.specs.declared.by_value.ByValue.{ByValue}

-- the place of a value that stands in the list of the low ones
abbrev pub place_in : List ℕ → ℤ → Option ℕ
place_in low (pos n) = if nat_lt n (length low) then Some n else None
place_in low (negsuc n) = None

-- what stands at the place, or else in the map
abbrev pub number_by : Option ℕ → List ℕ → Option ℕ → ℕ
number_by (Some place) low other = slice_index low place
number_by None low other = unwrap_or other 0

-- the number of a value
abbrev pub number_at : ByValue → ℤ → ℕ
number_at values z = number_by (place_in values.low.items z) values.low.items (get int_eq values.others z)
