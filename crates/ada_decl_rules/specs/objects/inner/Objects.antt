-- What a declaration of objects adds to a scope.
use Rattle.std.specs.Prelude.{◌≡◌, ℕ, ℤ, if◌then◌else◌, List, Option, Some, None}
use Rattle.ada_tree.specs.declared.naming.Word.{Word}
use Rattle.ada_tree.specs.TypeTable.{TypeTable}
use Rattle.ada_static_rules.specs.Scope.{Scope}
use Rattle.ada_static_rules.specs.Declaring.{Declared, with_names, with_types, add_constants, constant_mark, kind_at_mark}
use Rattle.ada_expr_rules.specs.Known.{value_in}
use Rattle.ada_scopes.specs.Denotations.{plain_thing}
use Rattle.ada_expr_rules.specs.declared.known.Known.{Known}
use Rattle.ada_scopes.specs.declared.denotations.Thing.{Thing}

-- the scope with the new table, and what the objects are
pub record IsDeclared (scope : Scope) (d : Declared) (after : Scope) (thing : Thing) : Type 0 where
  pub scope_is : after ≡ with_types d.types scope
  pub thing_is : plain_thing thing ≡ d.thing

-- the value of that kind of what may be known
abbrev pub known_in : ℕ → Option Known → Option ℤ
known_in k (Some known) = value_in k known
known_in k None = None

-- the value of a constant of a mark
abbrev pub value_of_mark : TypeTable → Option ℕ → Option Known → Option ℤ
value_of_mark types (Some m) known = known_in (kind_at_mark types m) known
value_of_mark types None known = None

-- the table with the constants of a declaration
abbrev pub with_values : Scope → List Word → Option ℕ → Option Known → TypeTable
with_values scope names mark known = if scope.in_main then add_constants names mark (value_of_mark scope.types mark known) scope.types else scope.types

-- the scope with what is made, its constants and its names
abbrev pub behind_plan : Scope → List Word → Declared → Option Known → Scope
behind_plan scope names d known = with_names d.thing (with_types (with_values (with_types d.types scope) names (constant_mark d.thing) known) (with_types d.types scope)) names
