-- The first literal of a name stands for itself, where the scope behind all declarations stands over a table that the program's keeps.
use Rattle.std.proofs.Common.{◌≡◌, ◌<◌, ◌≤◌, ℕ, pos, Bool, true, false, ◌==◌, if◌then◌else◌, List, length, slice_get, unwrap_or, option_map, Option, Some, None, refl, sym, ap, ap₂, ◌∙◌, subst, arith}
use Rattle.std.proofs.lemmas.Option.{slice_get_within}
use Rattle.ada_tree.specs.declared.naming.NameId.{NameId}
use Rattle.ada_tree.specs.declared.static_types.Kind.TheVariants as kind
use Rattle.ada_tree.specs.declared.static_types.Constant.{Constant}
use Rattle.ada_tree.specs.TypeTable.{TypeTable}
use Rattle.ada_tree.specs.Attributes.{false_name, true_name}
use Rattle.ada_static_rules.specs.Scope.{Scope, truth_kind, ConstantObject, Literal, meaning, kind_at}
use Rattle.ada_static_rules.specs.StaticValue.{value_named, constant_named, literal_position, first_of_two}
use Rattle.ada_value.specs.declared.values.Value.{Value}
use Rattle.ada_value.specs.declared.values.Value.TheVariants.{Number, Truth, Place}
use Rattle.ada_value.specs.Values.{word, placed, value_in}
use Rattle.ada_value.specs.Evaluating.{literal_value, constant_value, fixed_value}
use Rattle.task_laws.specs.legal.rewritten_types.Agreement.{Literal as LiteralAt, literal_named}
use Rattle.task_laws.specs.legal.types.Typed.{IsSmall}
use Rattle.task_laws.proofs.legal.types.TypedValues.{IsOf}
use Rattle.task_laws.proofs.legal.types.GoodDeclarations.{literal-read}
use Rattle.task_laws.proofs.legal.types.MainScopes.{StandsWhole}
use Rattle.task_laws.specs.legal.literals.Literals.{StandsFor}
use Rattle.ada_value.proofs.StaticLaws.{small_word}
use Rattle.task_laws.proofs.legal.rewritten_types.Lookups.{position-among}

-- ---- meanings

literal-place : (j k : ℕ) → Some (Literal j) ≡ Some (Literal k) → j ≡ k
literal-place j k e = cc

literal-constant : (j m : ℕ) → Some (Literal j) ≡ Some (ConstantObject m) → ⊥
literal-constant j m e = cc

truth-place : (b : Bool) (k n : ℕ) → Truth b ≡ Place k n → ⊥
truth-place b k n e = cc

-- a value of BOOLEAN is none of an enumeration
truth-other : (T : TypeTable) (k n : ℕ) → kind_at T truth_kind ≡ Some kind.Truth → IsOf T truth_kind (Place k n) → ⊥
truth-other T k n e h = truth-place _ k n (ap (λ o. value_in truth_kind o (pos n)) (sym e) ∙ h.same)

module _ (T : TypeTable) (s : Scope) (h : StandsWhole T s) (id : NameId) (k i : ℕ) (first : literal_named T id ≡ Some record { kind = k; position = i }) where
  abbrev R : TypeTable
  R = h.stands.root

  abbrev v : Value
  v = placed (word k) (pos i)

  read : (U : TypeTable) → literal_named U id ≡ Some record { kind = k; position = i } → literal_value U.kinds 0 id ≡ Some v
  read U e = literal-read U.kinds 0 id ∙ ap (option_map (λ (y : LiteralAt). placed (word y.kind) (pos y.position))) e

  means : (j : ℕ) × (meaning s id ≡ Some (Literal j)) × IsOf R j v
  means = h.stands.over.literals id v (read R (sym (h.whole.literals id) ∙ first))

  -- it is no constant, and neither FALSE nor TRUE
  no-constant : constant_named T id ≡ None
  no-constant = h.whole.constants id refl ∙ by_constant (constant_named R id) refl
    where
      by_constant : (o : Option Constant) → constant_named R id ≡ o → o ≡ None
      by_constant None e = refl
      by_constant (Some c) e = absurd (literal-constant means.0 c.mark (sym means.1 ∙ h.stands.over.constants id c e))

  no-truth : meaning s id ≡ Some (Literal truth_kind) → ⊥
  no-truth e = truth-other R (word k) (word i) h.stands.typed.whole.truths (subst (λ j. IsOf R j v) (literal-place means.0 truth_kind (sym means.1 ∙ e)) means.2)

  no-name : (n : ℕ) → ((id.0 == n) ≡ true → meaning s id ≡ Some (Literal truth_kind)) → (id.0 == n) ≡ false
  no-name n f = by_test (id.0 == n) refl
    where
      by_test : (b : Bool) → (id.0 == n) ≡ b → b ≡ false
      by_test false e = refl
      by_test true e = absurd (no-truth (f e))

  no-false : (id.0 == false_name) ≡ false
  no-false = no-name false_name (h.stands.over.falses id)

  no-true : (id.0 == true_name) ≡ false
  no-true = no-name true_name (h.stands.over.trues id)

  told : value_named T id ≡ Some (pos i)
  told =
      ap₂ (λ a b. if a then Some (pos 0) else if b then Some (pos 1) else first_of_two (option_map (λ c. c.value) (constant_named T id)) (option_map (λ n. pos n) (literal_position T.kinds id))) no-false no-true
      ∙ ap₂ (λ (o : Option Constant) (q : Option ℕ). first_of_two (option_map (λ c. c.value) o) (option_map (λ n. pos n) q)) no-constant
      (position-among T.kinds 0 id ∙ ap (option_map (λ (y : LiteralAt). y.position)) first)

  worth : fixed_value T id ≡ v
  worth =
      ap₂ (λ a b. if a then Truth false else if b then Truth true else unwrap_or (first_of_two (option_map (constant_value T) (constant_named T id)) (literal_value T.kinds 0 id)) (Number (pos 0))) no-false no-true
      ∙ ap₂ (λ (o : Option Constant) (q : Option Value). unwrap_or (first_of_two (option_map (constant_value T) o) q) (Number (pos 0))) no-constant (read T first)

  -- The literal stands for itself, where enumerations are small.
  pub first-stands : IsSmall T → (ids : List NameId) → kind_at T k ≡ Some (kind.Enumeration ids) → slice_get ids i ≡ Some id → StandsFor T id k i
  first-stands small ids e at =
      let few : (length ids ≤ 2147483648) × (word k ≡ k) = small.kinds k (kind.Enumeration ids) e in
      let within : i < length ids = slice_get_within ids i id at in
      let f = few.0 in
      let low : i ≤ 2147483647 = omega arith in
      record { static = told; worth = worth ∙ ap₂ Place few.1 (small_word i low) }
