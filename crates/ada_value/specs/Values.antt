-- Values, and the subtypes in which they lie (3.3, 3.5; INTEGER has 32 bits by this project's rule). A subtype is told by its content and not by its place in a table: the kind of its values and its bounds. Each definition answers something for every value, bound and table, so that nothing need be known of them: where a program is legal, what is said to be of no legal program does not happen.
use Rattle.std.specs.Prelude.{ℕ, ℤ, pos, negsuc, ◌-ℤ◌, ◌==◌, int_le, int_lt, Bool, not, ◌&&◌, if◌then◌else◌, find, slice_get, unsigned_abs, nat_le, Option, Some, None, option_map, unwrap_or, Result, Ok, Err}
use Rattle.std.specs.Ordering.{int_eq}
use Rattle.ada_tree.specs.declared.naming.NameId.{NameId}
use Rattle.ada_tree.specs.declared.static_types.Kind.{Kind}
use Rattle.ada_tree.specs.declared.static_types.Kind.TheVariants as kind
use Rattle.ada_tree.specs.declared.static_types.Mark.{Mark}
use Rattle.ada_tree.specs.TypeTable.{TypeTable}
use Rattle.ada_static_rules.specs.StaticValue.{is_integer_value, is_of_kind, mark_named}
use Rattle.ada_static_rules.specs.Scope.{integer_kind, truth_kind}
pub use Rattle.ada_value.specs.declared.values.Limits.{Limits}
use Rattle.ada_value.specs.declared.values.Value.{Value}
use Rattle.ada_value.specs.declared.values.Value.TheVariants.{Number, Truth, Place}
use Rattle.ada_value.specs.declared.values.Raised.{Raised}
use Rattle.ada_value.specs.declared.values.Raised.TheVariants as raised

-- ---- one thing after another

-- What is done with a value that comes out; an exception goes on instead (11.4.1).
abbrev pub and_then : {A B : Type 0} → Result A Raised → (A → Result B Raised) → Result B Raised
and_then (Ok a) f = f a
and_then (Err x) f = Err x

-- ---- values

-- The position of a value: of a number itself, of FALSE and TRUE 0 and 1, of an enumeration literal its place from 0 (3.5.1, 3.5.3, 3.5.5).
abbrev pub position_of : Value → ℤ
position_of (Number z) = z
position_of (Truth b) = if b then pos 1 else pos 0
position_of (Place k p) = pos p

-- The kind of a value, by its place in the table.
abbrev pub kind_of_value : Value → ℕ
kind_of_value (Number z) = integer_kind
kind_of_value (Truth b) = truth_kind
kind_of_value (Place k p) = k

-- A condition holds where its value is TRUE; that of a value of another kind is of no legal program.
abbrev pub is_true_value : Value → Bool
is_true_value v = not (int_eq (position_of v) (pos 0))

-- a number of INTEGER; one that INTEGER lacks, as in no legal program, is 0
abbrev pub number : ℤ → Value
number z = if is_integer_value z then Number z else Number (pos 0)

-- a place or position of 32 bits; one that has more, as in no legal program, is 0
abbrev pub word : ℕ → ℕ
word n = if nat_le n 4294967295 then n else 0

-- the value of an enumeration at a position; a negative one, as in no legal program, is 0
abbrev pub placed : ℕ → ℤ → Value
placed k (pos n) = Place k (word n)
placed k (negsuc n) = Place k 0

-- the value of a kind, which stands at the place k of the table, at a position
abbrev pub value_in : ℕ → Option Kind → ℤ → Value
value_in k (Some kind.Integer) z = number z
value_in k (Some kind.Truth) z = Truth (not (int_eq z (pos 0)))
value_in k (Some (kind.Enumeration names)) z = placed k z
value_in k (Some (kind.Array index first last part)) z = number z
value_in k None z = number z

-- The value of a kind at a position.
abbrev pub value_at : TypeTable → ℕ → ℤ → Value
value_at types k z = value_in k (slice_get types.kinds k) z

-- The value of a kind at a position, where the kind has one there; else CONSTRAINT_ERROR (3.5.5).
abbrev pub based : TypeTable → ℕ → ℤ → Result Value Raised
based types k z = if is_of_kind (slice_get types.kinds k) z then Ok (value_at types k z) else Err raised.Constraint

-- The number that an operation gives; one that INTEGER lacks raises NUMERIC_ERROR (4.5, 11.1).
abbrev pub fitted : ℤ → Result Value Raised
fitted z = if is_integer_value z then Ok (Number z) else Err raised.Numeric

-- ---- subtypes

-- the subtype INTEGER (3.5.4), whose bounds are those of 32 bits by this project's rule
abbrev pub integer_limits : Limits
integer_limits = record { kind = integer_kind; first = negsuc 2147483647; last = pos 2147483647 }

-- the subtype BOOLEAN, in which FALSE stands before TRUE (3.5.3)
abbrev pub truth_limits : Limits
truth_limits = record { kind = truth_kind; first = pos 0; last = pos 1 }

-- the subtype of a mark
abbrev pub limits_of : Mark → Limits
limits_of m = record { kind = m.kind; first = m.first; last = m.last }

-- the subtype of a mark that may be none; none is INTEGER, as in no legal program
abbrev pub limits_or : Option Mark → Limits
limits_or mark = unwrap_or (option_map limits_of mark) integer_limits

-- The subtype of a name.
abbrev pub limits_named : TypeTable → NameId → Limits
limits_named types id = limits_or (mark_named types id)

-- The subtype of all values of a kind: that of its first mark.
abbrev pub limits_of_kind : TypeTable → ℕ → Limits
limits_of_kind types k = limits_or (find (λ m. m.kind == k) types.marks)

-- a position lies between the bounds
abbrev pub lies_in : Limits → ℤ → Bool
lies_in limits z = int_le limits.first z && int_le z limits.last

-- no position lies between the bounds
abbrev pub is_empty_range : Limits → Bool
is_empty_range limits = int_lt limits.last limits.first

-- The lower bound of a subtype, as a value.
abbrev pub lower_bound : TypeTable → Limits → Value
lower_bound types limits = value_at types limits.kind limits.first

-- A value as it goes to a variable or formal of a subtype: outside it CONSTRAINT_ERROR is raised (3.3, 5.2, 6.4.1).
abbrev pub checked : Limits → Value → Result Value Raised
checked limits v = if lies_in limits (position_of v) then Ok v else Err raised.Constraint

-- The place of an index value in an index range, counted from 0; outside it CONSTRAINT_ERROR is raised (4.1.1).
abbrev pub place_in : Limits → ℤ → Result ℕ Raised
place_in limits z = if lies_in limits z then Ok (unsigned_abs (z -ℤ limits.first)) else Err raised.Constraint
