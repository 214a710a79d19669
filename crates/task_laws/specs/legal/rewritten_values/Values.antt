-- What two tables that agree on old names say of values (3.3, 3.5; this project's rule).
use Rattle.std.specs.Prelude.{◌≡◌, ℕ, ℤ, ◌<◌, Bool, true, List, slice_get, is_some, Some}
use Rattle.std.specs.List.{AllByRecursion}
use Rattle.ada_tree.specs.declared.naming.NameId.{NameId}
use Rattle.ada_tree.specs.declared.static_types.Kind.TheVariants.{Enumeration}
use Rattle.ada_tree.specs.TypeTable.{TypeTable}
use Rattle.ada_static_rules.specs.Scope.{integer_kind, truth_kind, kind_at}
use Rattle.ada_static_rules.specs.StaticValue.{is_of_kind}
use Rattle.ada_tree.specs.Every.{Rules, no_rules}
use Rattle.ada_value.specs.declared.values.Value.{Value}
use Rattle.ada_value.specs.Values.{kind_of_value, value_at, limits_named, limits_of_kind}
use Rattle.ada_value.specs.Evaluating.{fixed_value}
use Rattle.ada_value.specs.Texts.{image}
use Rattle.task_laws.specs.legal.rewritten_types.Agreement.{scalar_only}

-- the kind at that place is one of values
abbrev pub is_known : TypeTable → ℕ → Bool
is_known T k = is_some (scalar_only (kind_at T k))

-- Two tables, with the texts of names in their programs, say the same of old names and of values. Of an old name the bounds are the same that it has
-- as a type, and the value that it has as a constant or literal. At each position of each kind the value is the same, and whether there is one; so
-- are the bounds of each kind of values, and the image of each value. Every value is of a known kind.
pub record AgreeOnValues (old : ℕ → Bool) (T U : TypeTable) (before after : List (List ℕ)) : Type 0 where
  pub marks : (id : NameId) → old id.0 ≡ true → limits_named T id ≡ limits_named U id
  pub fixed : (id : NameId) → old id.0 ≡ true → fixed_value T id ≡ fixed_value U id
  pub fixed_known : (id : NameId) → old id.0 ≡ true → is_known T (kind_of_value (fixed_value T id)) ≡ true
  pub values : (k : ℕ) (z : ℤ) → value_at T k z ≡ value_at U k z
  pub values_known : (k : ℕ) (z : ℤ) → is_known T (kind_of_value (value_at T k z)) ≡ true
  pub bases : (k : ℕ) (z : ℤ) → is_of_kind (slice_get T.kinds k) z ≡ is_of_kind (slice_get U.kinds k) z
  pub kinds : (k : ℕ) → is_known T k ≡ true → limits_of_kind T k ≡ limits_of_kind U k
  pub integers : is_known T integer_kind ≡ true
  pub truths : is_known T truth_kind ≡ true
  pub images : (v : Value) → image before T v ≡ image after U v

-- each enumeration literal has one of the first n names
abbrev pub LiteralsWithin : ℕ → TypeTable → Type 0
LiteralsWithin n T = (k : ℕ) (ids : List NameId) → kind_at T k ≡ Some (Enumeration ids) → AllByRecursion (λ id. id.0 < n) ids

-- each name of a part is old
abbrev pub old_names : (ℕ → Bool) → Rules
old_names old = record no_rules { name = λ id. old id.0 ≡ true }
