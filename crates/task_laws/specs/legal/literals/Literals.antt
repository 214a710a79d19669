-- What the literals of enumerations stand for (3.5.1, 8.3; this project's rule).
use Rattle.std.specs.Prelude.{◌≡◌, ℕ, ℤ, pos, true, List, [], slice_get, Some, Ok}
use Rattle.ada_tree.specs.declared.naming.NameId.{NameId}
use Rattle.ada_tree.specs.declared.static_types.Kind.TheVariants.{Enumeration}
use Rattle.ada_tree.specs.TypeTable.{TypeTable}
use Rattle.ada_tree.specs.PlainExpr.{PDrange}
use Rattle.ada_static_rules.specs.Scope.{kind_at}
use Rattle.ada_static_rules.specs.StaticValue.{value_named}
use Rattle.ada_value.specs.declared.values.Limits.{Limits}
use Rattle.ada_value.specs.declared.values.Value.TheVariants.{Place}
use Rattle.ada_value.specs.Values.{lies_in}
use Rattle.ada_value.specs.Evaluating.{fixed_value, range_of}

-- The name stands for the literal at a position of the enumeration at a place of the table: its static value is that position, and it is worth that
-- literal (3.5.1, 4.9).
pub record StandsFor (T : TypeTable) (id : NameId) (k i : ℕ) : Type 0 where
  pub static : value_named T id ≡ Some (pos i)
  pub worth : fixed_value T id ≡ Place k i

-- Each literal of each enumeration stands for itself: its name is that of no constant and of no other literal (8.3).
abbrev pub LiteralsStand : TypeTable → Type 0
LiteralsStand T = (k : ℕ) (ids : List NameId) → kind_at T k ≡ Some (Enumeration ids) → (i : ℕ) (id : NameId) → slice_get ids i ≡ Some id → StandsFor T id k i

-- A number is the position of one of these literals, which stands for itself (3.5.1).
pub record HasLiteralAt (T : TypeTable) (k : ℕ) (ids : List NameId) (z : ℤ) : Type 0 where
  pub place : ℕ
  pub position : z ≡ pos place
  pub id : NameId
  pub there : slice_get ids place ≡ Some id
  pub stands : StandsFor T id k place

-- Each index in a static range over an enumeration is the position of a literal (3.6).
abbrev pub HasIndexLiterals : TypeTable → PDrange → Type 0
HasIndexLiterals T r =
    (limits : Limits) → range_of T [] r ≡ Ok limits → (ids : List NameId) → kind_at T limits.kind ≡ Some (Enumeration ids) → (z : ℤ) → lies_in limits z ≡ true → HasLiteralAt T limits.kind ids z
