-- What a declaration adds to the table of a scope.
use Rattle.std.specs.Prelude.{◌≡◌, ℕ, [], ◌∷◌, ◌++◌, Option}
use Rattle.ada_tree.specs.declared.static_types.Constant.{Constant}
use Rattle.ada_tree.specs.TypeTable.{TypeTable}
use Rattle.ada_static_rules.specs.Scope.{Scope}
use Rattle.ada_static_rules.specs.Declaring.{Made, with_types}

-- the scope with the new table, and the place of the mark
pub record IsMade (scope : Scope) (m : Made) (after : Scope) (mark : Option ℕ) : Type 0 where
  pub scope_is : after ≡ with_types m.types scope
  pub mark_is : mark ≡ m.mark

-- the table with a named number or constant more
abbrev pub add_constant : TypeTable → Constant → TypeTable
add_constant types constant = record types { constants = types.constants ++ constant ∷ [] }
