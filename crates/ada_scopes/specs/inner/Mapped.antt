-- What is kept beside the table of types, so that a name is looked up in one step.
use Rattle.std.specs.Prelude.{◌≡◌, ◌==◌, ℕ, nat_eq, position}
use Rattle.std.specs.HashMap.{HashMap, get}
use Rattle.ada_tree.specs.declared.naming.NameId.{NameId}
use Rattle.ada_tree.specs.declared.static_types.Constant.{Constant}
use Rattle.ada_tree.specs.declared.static_types.Mark.{Mark}
use Rattle.ada_tree.specs.TypeTable.{TypeTable}
use Rattle.ada_static_rules.specs.StaticValue.{mark_named, constant_named, literal_position}

pub record Mapped {S : Type 0} (types : TypeTable) (constants : HashMap ℕ Constant S) (literals : HashMap ℕ ℕ S) (named : HashMap ℕ Mark S) (firsts : HashMap ℕ ℕ S) : Type 0 where
  -- the named number or constant of each name
  pub constants_are : (id : NameId) → get nat_eq constants id.0 ≡ constant_named types id
  -- the position of each enumeration literal
  pub literals_are : (id : NameId) → get nat_eq literals id.0 ≡ literal_position types.kinds id
  -- the type or subtype of each name
  pub named_are : (id : NameId) → get nat_eq named id.0 ≡ mark_named types id
  -- the first mark of each kind
  pub firsts_are : (k : ℕ) → get nat_eq firsts k ≡ position (λ m. m.kind == k) types.marks
