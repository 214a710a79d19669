-- What scopes bind, as lists, and the variables that they come to (8.2, 8.3).
use Rattle.std.specs.Prelude.{ℕ, List, map, reverse, flat_map, Option, Some, None}
use Rattle.ada_tree.specs.declared.naming.NameId.{NameId}
use Rattle.ada_tree.specs.declared.static_types.Mark.{Mark}
use Rattle.ada_tree.specs.TypeTable.{TypeTable}
use Rattle.ada_static_rules.specs.Scope.{mark_at}
use Rattle.ada_value.specs.declared.values.Value.{Value}
use Rattle.ada_value.specs.Values.{integer_limits}
use Rattle.ada_value.specs.Variables.{Object, Variables, Form, form_of_mark, object_with}

-- A name with the place of its mark in the table, and its values: one, or one for each index of an array in order.
pub record Bound : Type 0 where
  pub name : NameId
  pub mark : ℕ
  pub values : List Value

-- What an object of a mark that may be none is; of none, as in no legal program, it is scalar and of INTEGER.
abbrev pub form_or : TypeTable → Option Mark → Form
form_or types (Some m) = form_of_mark types m
form_or types None = record { limits = integer_limits; index = None }

-- the variable that a binding stands for
abbrev pub object_bound : TypeTable → Bound → Object
object_bound types b = object_with b.name (form_or types (mark_at types b.mark)) b.values

-- all bindings of scopes that stand with the innermost last: the innermost and latest first
abbrev pub latest_first : List (List Bound) → List Bound
latest_first scopes = reverse (flat_map (λ bindings. bindings) scopes)

-- The variables of scopes: each binding by the content of its mark, the innermost and latest first, so that an inner one hides an outer one of its name (8.3).
abbrev pub plain_vars : TypeTable → List (List Bound) → Variables
plain_vars types scopes = map (object_bound types) (latest_first scopes)
