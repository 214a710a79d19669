-- Numbers of INTEGER, as values and as literals.
use Rattle.std.proofs.Common.{◌≡◌, ℕ, suc, ◌==◌, Bool, true, false, Option, unwrap_or, if◌then◌else◌, refl, sym, ap, ◌∙◌, arith, eqb-true}
use Rattle.std.specs.Prelude.{ℤ, pos, negsuc, neg_ℤ, Ok, Err}
use Rattle.std.proofs.lemmas.Int.{ints}
use Rattle.std.proofs.lemmas.Bool.Decides.{nat_tests}
use Rattle.ada_tree.specs.declared.naming.Span.{Span}
use Rattle.ada_tree.specs.declared.expressions.UnaryOp.TheVariants as unary
use Rattle.ada_tree.specs.Attributes.{First}
use Rattle.ada_tree.specs.PlainExpr.{EInteger, EAttribute, EUnary}
use Rattle.ada_static_rules.specs.Scope.{integer_kind}
use Rattle.ada_static_rules.specs.StaticValue.{is_integer_value}
use Rattle.ada_value.specs.declared.values.Value.{Value}
use Rattle.ada_value.specs.declared.values.Value.TheVariants.{Number}
use Rattle.ada_value.specs.declared.values.Raised.TheVariants as raised
use Rattle.ada_value.specs.declared.values.Limits.{Limits}
use Rattle.ada_value.specs.Values.{and_then, fitted, position_of, limits_named, integer_limits, value_in, value_at, checked}
use Rattle.ada_value.specs.Variables.{Variables}
use Rattle.ada_value.specs.Evaluating.{evaluated, bound_value}
use Rattle.normal_model.specs.Members.{integer_literal}
use Rattle.normal_model.specs.Ranges.{word_at}
use Rattle.table_law.specs.Controllers.{Controller, Entries, IsController}

pub fitted-ok : (z : ℤ) → is_integer_value z ≡ true → fitted z ≡ Ok (Number z)
fitted-ok z h = ap (λ (b : Bool). if b then Ok (Number z) else Err raised.Numeric) h

not-least : (n : ℕ) → (n == 2147483647) ≡ false → is_integer_value (negsuc n) ≡ true → is_integer_value (pos (suc n)) ≡ true
not-least n e h = grind (arith, ints, nat_tests)

module _ (k : Controller) (e : Entries) (h : IsController k e) where
  -- the subtype INTEGER
  pub marked : limits_named k.setting.types record { 0 = 0 } ≡ integer_limits
  marked = ap (λ (o : Option Limits). unwrap_or o integer_limits) h.of_mark

  -- the value of INTEGER at a position
  pub number-at : (z : ℤ) → is_integer_value z ≡ true → value_at k.setting.types integer_kind z ≡ Number z
  number-at z whole = ap (λ o. value_in integer_kind o z) h.integer ∙ ap (λ (b : Bool). if b then Number z else Number (pos 0)) whole

  -- such a value goes to a variable of INTEGER
  pub number-fits : (z : ℤ) → is_integer_value z ≡ true → checked (limits_named k.setting.types record { 0 = 0 }) (Number z) ≡ Ok (Number z)
  number-fits z whole = ap (λ (l : Limits). checked l (Number z)) marked ∙ ap (λ (b : Bool). if b then Ok (Number z) else Err raised.Constraint) whole

  -- INTEGER'FIRST
  least-is : (vars : Variables) (s : Span) → evaluated k.setting.types vars (EAttribute (word_at s record { 0 = 0 }) (word_at s record { 0 = 18 }) s) ≡ Ok (Number (negsuc 2147483647))
  least-is vars s = ap (λ (l : Limits). Ok (bound_value k.setting.types l First)) marked ∙ ap (λ (v : Value). Ok v) (number-at (negsuc 2147483647) refl)

  -- the literal of a number is worth it
  pub literal-is : (vars : Variables) (s : Span) (z : ℤ) → is_integer_value z ≡ true → evaluated k.setting.types vars (integer_literal s z) ≡ Ok (Number z)
  literal-is vars s (pos n) whole = fitted-ok (pos n) whole
  literal-is vars s (negsuc n) whole = by_test (n == 2147483647) refl
    where
      by_test : (c : Bool) → (n == 2147483647) ≡ c →
          evaluated k.setting.types vars (if c then EAttribute (word_at s record { 0 = 0 }) (word_at s record { 0 = 18 }) s else EUnary unary.Minus (EInteger (suc n) s) s) ≡ Ok (Number (negsuc n))
      by_test true same = least-is vars s ∙ ap (λ (m : ℕ). Ok (Number (negsuc m))) (sym (eqb-true n 2147483647 same))
      by_test false other = ap (λ r. and_then r (λ v. fitted (neg_ℤ (position_of v)))) (fitted-ok (pos (suc n)) (not-least n other whole)) ∙ fitted-ok (negsuc n) whole
