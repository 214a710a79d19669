-- What names mean on both sides of a translation: what the two tables of types have in common, and which variables a task and its image see alike (3,
-- 4.1, 8.3; this project's rule).
use Rattle.std.specs.Prelude.{◌≡◌, ℕ, ℤ, true, slice_get, Option, Some, None}
use Rattle.ada_tree.specs.declared.naming.NameId.{NameId}
use Rattle.ada_static_rules.specs.Scope.{integer_kind, truth_kind}
use Rattle.ada_static_rules.specs.StaticValue.{is_of_kind}
use Rattle.ada_value.specs.declared.values.Value.{Value}
use Rattle.ada_value.specs.Values.{value_at, limits_named, limits_of_kind}
use Rattle.ada_value.specs.Variables.{Object, Variables, object_named, value_there}
use Rattle.ada_value.specs.Evaluating.{fixed_value}
use Rattle.ada_value.specs.Texts.{image}
use Rattle.task_laws.specs.translation.Translations.{Programs, types_before, types_after, IsOld, IsFree, IsKnown}

-- Both tables say the same of the original's names: of marks the bounds, of constants and literals the value. They give the same values, texts and
-- tests at each position of each kind, and the same subtype for a known one. What they give is of a known kind.
pub record AgreeOnTypes (b : Programs) : Type 0 where
  pub marks : (id : NameId) → IsOld b id → limits_named (types_before b) id ≡ limits_named (types_after b) id
  pub fixed : (id : NameId) → IsOld b id → fixed_value (types_before b) id ≡ fixed_value (types_after b) id
  pub fixed_known : (id : NameId) → IsOld b id → IsKnown b (fixed_value (types_before b) id)
  pub values : (k : ℕ) (z : ℤ) → value_at (types_before b) k z ≡ value_at (types_after b) k z
  pub values_known : (k : ℕ) (z : ℤ) → IsKnown b (value_at (types_before b) k z)
  pub bases : (k : ℕ) (z : ℤ) → is_of_kind (slice_get (types_before b).kinds k) z ≡ is_of_kind (slice_get (types_after b).kinds k) z
  pub kinds : (k : ℕ) → b.is_known k ≡ true → limits_of_kind (types_before b) k ≡ limits_of_kind (types_after b) k
  pub integers : b.is_known integer_kind ≡ true
  pub truths : b.is_known truth_kind ≡ true
  pub texts : (v : Value) → image b.original.program.names (types_before b) v ≡ image b.made.program.names (types_after b) v

-- each value of an object is of a known kind, and its name is one that a variable may have
abbrev pub HasKnown : Programs → Object → Type 0
HasKnown b o = ((k : ℕ) → IsKnown b (value_there o k)) × IsFree b o.name

-- a name means no variable on either side, or one that is the same on both
pub data SameObject (b : Programs) : Option Object → Option Object → Type 0 where
  no_object : SameObject b None None
  same_object : (o : Object) → HasKnown b o → SameObject b (Some o) (Some o)

-- Both see the same variables by the original's names.
pub record SeeAlike (b : Programs) (before after : Variables) : Type 0 where
  pub named : (id : NameId) → IsOld b id → SameObject b (object_named before id) (object_named after id)
