-- The variables of one task as one list, the innermost and latest first, so that an inner one hides an outer one of its name (8.3). Constants of a task body, formal parameters and loop parameters are among them: what may not be assigned is a matter of the static rules. Each has its subtype by content, so nothing hangs on the table of types.
use Rattle.std.specs.Prelude.{ℕ, pos, ◌==◌, if◌then◌else◌, List, [], ◌∷◌, find, slice_index_or, slice_set, Option, Some, None, Result, Ok, Err}
use Rattle.ada_tree.specs.declared.naming.NameId.{NameId}
use Rattle.ada_tree.specs.declared.static_types.Kind.{Kind}
use Rattle.ada_tree.specs.declared.static_types.Kind.TheVariants as kind
use Rattle.ada_tree.specs.declared.static_types.Mark.{Mark}
use Rattle.ada_tree.specs.TypeTable.{TypeTable}
use Rattle.ada_static_rules.specs.Scope.{kind_at, mark_at}
pub use Rattle.ada_value.specs.declared.values.Form.{Form}
use Rattle.ada_value.specs.declared.values.Value.{Value}
use Rattle.ada_value.specs.declared.values.Value.TheVariants.{Number}
use Rattle.ada_value.specs.declared.values.Raised.{Raised}
use Rattle.ada_value.specs.declared.values.Raised.TheVariants as raised
use Rattle.ada_value.specs.Values.{Limits, position_of, checked, place_in, limits_of, limits_or}

-- A variable: its name, the subtype of its value or of its components, for an array the range of its index, and its values: one, or one for each index in order (3.2.1, 3.6).
pub record Object : Type 0 where
  pub name : NameId
  pub limits : Limits
  pub index : Option Limits
  pub values : List Value

-- All variables of one task, the innermost and latest first (8.3).
abbrev pub Variables : Type 0
Variables = List Object

-- ---- what an object is

-- what an object of a mark of this kind is: of an array type it has components, and of any other it is scalar (3.3, 3.6)
abbrev pub form_of_kind : TypeTable → Mark → Option Kind → Form
form_of_kind types m (Some (kind.Array index first last part)) =
    record { limits = limits_or (mark_at types part); index = Some record { kind = index; first = first; last = last } }
form_of_kind types m _ = record { limits = limits_of m; index = None }

-- What an object of a mark is: one of a named array type is an array (3.6).
abbrev pub form_of_mark : TypeTable → Mark → Form
form_of_mark types m = form_of_kind types m (kind_at types m.kind)

-- a variable of that form
abbrev pub object_with : NameId → Form → List Value → Object
object_with name form values = record { name = name; limits = form.limits; index = form.index; values = values }

-- ---- names and places

-- What a name that is a variable means: the latest of that name (8.3).
abbrev pub object_named : Variables → NameId → Option Object
object_named vars id = find (λ o. o.name.0 == id.0) vars

-- the value at a place of a variable; past its end, as in no legal program, it is 0
abbrev pub value_there : Object → ℕ → Value
value_there o k = slice_index_or o.values k (Number (pos 0))

-- the place of an index value in the index range of what may be no array, which has no index value in range, as in no legal program
abbrev pub place_among : Option Limits → Value → Result ℕ Raised
place_among None v = Err raised.Constraint
place_among (Some limits) v = place_in limits (position_of v)

-- The place of a component: an index outside the array's range raises CONSTRAINT_ERROR (4.1.1).
abbrev pub component_place : Option Object → Value → Result ℕ Raised
component_place None v = Err raised.Constraint
component_place (Some o) v = place_among o.index v

-- A value as it is assigned to a variable or to its components: outside the subtype CONSTRAINT_ERROR is raised (5.2).
abbrev pub checked_for : Option Object → Value → Result Value Raised
checked_for None v = Ok v
checked_for (Some o) v = checked o.limits v

-- a variable with a new value at a place
abbrev pub with_value : Object → ℕ → Value → Object
with_value o k v = record { name = o.name; limits = o.limits; index = o.index; values = slice_set o.values k v }

-- The variables after the latest of that name has got a value at a place (5.2).
abbrev pub set_value : Variables → NameId → ℕ → Value → Variables
set_value [] id k v = []
set_value (o ∷ rest) id k v = if o.name.0 == id.0 then with_value o k v ∷ rest else o ∷ set_value rest id k v
