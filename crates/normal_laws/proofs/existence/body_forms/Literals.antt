-- The indices of the members of an array of tasks have literals.
use Rattle.std.proofs.Common.{◌≡◌, ℕ, ℤ, pos, negsuc, zero, suc, neg_ℤ, ◌==◌, ◌&&◌, not, Bool, true, false, if◌then◌else◌, List, [], slice_get, Option, Some, None, Ok, Err, refl, sym, ap, ap₂, ◌∙◌, subst, true≢false, eqb-true, arith}
use Rattle.std.proofs.lemmas.Int.{ints}
use Rattle.std.specs.Prelude.{int_le}
use Rattle.std.specs.Ordering.{int_eq}
use Rattle.std.proofs.lemmas.Bool.Decides.{nat_tests}
use Rattle.ada_tree.specs.declared.naming.Span.{Span}
use Rattle.ada_tree.specs.declared.expressions.UnaryOp.TheVariants as unary
use Rattle.ada_tree.specs.declared.static_types.Kind.{Kind}
use Rattle.ada_tree.specs.declared.static_types.Kind.TheVariants as kind
use Rattle.ada_tree.specs.NameList.{AreNames}
use Rattle.ada_tree.specs.TypeTable.{TypeTable}
use Rattle.ada_tree.specs.Attributes.{false_name, true_name, First}
use Rattle.ada_tree.specs.PlainExpr.{PExpr, EInteger, EName, EAttribute, EUnary, PDrange}
use Rattle.ada_tree.specs.PlainProgram.{PProgram}
use Rattle.ada_static_rules.specs.Refusals.{types_in}
use Rattle.ada_static_rules.specs.StaticValue.{is_integer_value}
use Rattle.ada_static_rules.specs.Scope.{Range, integer_kind, kind_at}
use Rattle.ada_value.specs.declared.values.Value.{Value}
use Rattle.ada_value.specs.declared.values.Value.TheVariants.{Number, Truth}
use Rattle.ada_value.specs.declared.values.Raised.TheVariants as raised
use Rattle.ada_value.specs.Values as values
use Rattle.ada_value.specs.Values.{position_of, value_in, limits_or}
use Rattle.ada_value.specs.Evaluating.{evaluated, bound_value}
use Rattle.task_model.specs.Starting.{known_range}
use Rattle.normal_model.specs.Members.{integer_literal, literal_in, kind_of_index}
use Rattle.normal_model.specs.Ranges.{word_at}
use Rattle.task_laws.specs.translation.Translations.{Programs}
use Rattle.task_laws.specs.translation.Fixed.{FixedExpr, fixed_integer, fixed_name, fixed_attribute, fixed_unary}
use Rattle.normal_laws.specs.runs.floors.Suited.{IsLiteral}
use Rattle.normal_laws.specs.runs.runs.Premises.{programs_of}
use Rattle.normal_laws.specs.runs.forms.Normalisable.{made_for, normal_rewrite}
use Rattle.normal_laws.proofs.existence.variable_types.SubtypeForms.{begins, predefined-mark, predefined-own}
use Rattle.normal_laws.proofs.existence.seen_tasks.Parts.{IsExtent}
use Rattle.task_laws.specs.legal.types.Typed.{HasLimits, HasPosition}
use Rattle.normal_laws.proofs.existence.body_forms.Ranges.{some-bounds}
use Rattle.normal_laws.proofs.existence.body_forms.Worth.{HasRangeLiterals}

module _ (p : PProgram) (names : AreNames p.names) (inputs : List (List ℤ)) where
  abbrev T : TypeTable
  T = types_in p

  abbrev U : TypeTable
  U = types_in (made_for p)

  abbrev b : Programs
  b = programs_of (normal_rewrite p inputs)

  -- an expression that is worth a position, in the normal form
  record IsFor (e : PExpr) (i : ℤ) : Type 0 where
    fixed : FixedExpr b e
    value : Value
    worth : evaluated U [] e ≡ Ok value
    position : position_of value ≡ i

  -- ---- numbers

  fitted-ok : (z : ℤ) → is_integer_value z ≡ true → values.fitted z ≡ Ok (Number z)
  fitted-ok z h = ap (λ c. if c then Ok (Number z) else Err raised.Numeric) h

  least-is : (sp : Span) → evaluated U [] (EAttribute (word_at sp record { 0 = 0 }) (word_at sp record { 0 = 18 }) sp) ≡ Ok (Number (negsuc 2147483647))
  least-is sp =
      let m = predefined-mark (made_for p) (record { 0 = 0 }) _ refl in
      ap (λ o. Ok (bound_value U (limits_or o) First)) m
      ∙ ap (λ o. Ok (value_in integer_kind o (negsuc 2147483647))) ((begins (made_for p)).kind integer_kind kind.Integer refl)

  not-least : (n : ℕ) → (n == 2147483647) ≡ false → is_integer_value (negsuc n) ≡ true → is_integer_value (pos (suc n)) ≡ true
  not-least n e h = grind (arith, ints, nat_tests)

  least : (n : ℕ) → (n == 2147483647) ≡ true → n ≡ 2147483647
  least n e = eqb-true n 2147483647 e

  number-for : (sp : Span) (i : ℤ) → is_integer_value i ≡ true → IsFor (integer_literal sp i) i
  number-for sp (pos n) h = record { fixed = fixed_integer n sp; value = Number (pos n); worth = fitted-ok (pos n) h; position = refl }
  number-for sp (negsuc n) h = by_test (n == 2147483647) refl
    where
      by_test : (c : Bool) → (n == 2147483647) ≡ c → IsFor (if c then EAttribute (word_at sp record { 0 = 0 }) (word_at sp record { 0 = 18 }) sp else EUnary unary.Minus (EInteger (suc n) sp) sp) (negsuc n)
      by_test true e = record { fixed = fixed_attribute _ _ sp; value = Number (negsuc 2147483647); worth = least-is sp; position = ap negsuc (sym (least n e)) }
      by_test false e = record {
        fixed = fixed_unary unary.Minus (EInteger (suc n) sp) sp (fixed_integer (suc n) sp);
        value = Number (negsuc n);
        worth = ap (λ r. values.and_then r (λ v. values.fitted (neg_ℤ (position_of v)))) (fitted-ok (pos (suc n)) (not-least n e h)) ∙ fitted-ok (negsuc n) h;
        position = refl;
      }

  -- ---- truth values

  two-large : (n : ℕ) → int_le (pos (suc (suc n))) (pos 1) ≡ true → ⊥
  two-large n h = grind (arith, ints)

  truth-for : (sp : Span) (i : ℤ) → int_le (pos 0) i ≡ true → int_le i (pos 1) ≡ true → IsFor (EName record { 0 = if int_eq i (pos 0) then false_name else true_name } sp) i
  truth-for sp (pos zero) low high = record { fixed = fixed_name _ sp (predefined-own p names 4 (omega arith)) refl; value = Truth false; worth = refl; position = refl }
  truth-for sp (pos (suc zero)) low high = record { fixed = fixed_name _ sp (predefined-own p names 5 (omega arith)) refl; value = Truth true; worth = refl; position = refl }
  truth-for sp (pos (suc (suc n))) low high = absurd (two-large n high)
  truth-for sp (negsuc n) low high = absurd (true≢false (sym low))

  -- ---- all kinds

  within-values : (f l i : ℤ) → is_integer_value f ≡ true → is_integer_value l ≡ true → int_le f i ≡ true → int_le i l ≡ true → is_integer_value i ≡ true
  within-values f l i a c d e = grind (arith, ints)

  both-true : (x y : Bool) → (x && y) ≡ true → (x ≡ true) × (y ≡ true)
  both-true true y e = (refl, e)
  both-true false y e = absurd (true≢false (sym e))

  truth-position : (k : ℕ) (z : ℤ) → position_of (value_in k (Some kind.Truth) z) ≡ z → (int_le (pos 0) z ≡ true) × (int_le z (pos 1) ≡ true)
  truth-position k z e = by_test (int_eq z (pos 0)) e
    where
      by_test : (c : Bool) → position_of (Truth (not c)) ≡ z → (int_le (pos 0) z ≡ true) × (int_le z (pos 1) ≡ true)
      by_test true q = subst (λ y. (int_le (pos 0) y ≡ true) × (int_le y (pos 1) ≡ true)) q (refl, refl)
      by_test false q = subst (λ y. (int_le (pos 0) y ≡ true) × (int_le y (pos 1) ≡ true)) q (refl, refl)

  at-least : (a c d : ℤ) → int_le a c ≡ true → int_le c d ≡ true → int_le a d ≡ true
  at-least a c d e f = grind (arith, ints)

  is-literal : (k : Option Kind) (sp : Span) (i : ℤ) → IsFor (literal_in k sp i) i → IsLiteral b k sp i
  is-literal k sp i h = record { fixed = h.fixed; value = h.value; worth = h.worth; position = h.position }

  -- each index in a row has a literal
  pub row-literal : (r : PDrange) (v : HasLimits T r) → HasRangeLiterals p r v → (range : Range) → IsExtent T r range → (sp : Span) (i : ℤ) → (int_le range.first i && int_le i range.last) ≡ true → IsLiteral b (kind_of_index T (Some r)) sp i
  row-literal r v h range ext sp i lies = subst (λ o. IsLiteral b o sp i) (sym kind_is) (is-literal (kind_at T k) sp i (by_kind (kind_at T k) refl))
    where
      k : ℕ
      k = v.limits.kind

      f : ℤ
      f = v.limits.first

      l : ℤ
      l = v.limits.last

      same : (f ≡ range.first) × (l ≡ range.last)
      same = some-bounds (record { first = f; last = l }) (record { first = range.first; last = range.last }) (sym v.told ∙ ext.extent)

      kind_is : kind_of_index T (Some r) ≡ kind_at T k
      kind_is = ap (λ q. slice_get T.kinds (known_range q).kind) v.range

      here : (int_le f i && int_le i l) ≡ true
      here = ap₂ (λ x y. int_le x i && int_le i y) same.0 same.1 ∙ lies

      low : int_le f i ≡ true
      low = (both-true (int_le f i) (int_le i l) here).0

      high : int_le i l ≡ true
      high = (both-true (int_le f i) (int_le i l) here).1

      number : IsFor (integer_literal sp i) i
      number = number-for sp i (within-values f l i v.first.fits v.last.fits low high)

      position : (o : Option Kind) (z : ℤ) → kind_at T k ≡ o → HasPosition T k z → position_of (value_in k o z) ≡ z
      position o z e q = ap (λ x. position_of (value_in k x z)) (sym e) ∙ q.same

      by_kind : (o : Option Kind) → kind_at T k ≡ o → IsFor (literal_in o sp i) i
      by_kind None e = number
      by_kind (Some kind.Integer) e = number
      by_kind (Some (kind.Array index first last part)) e = number
      by_kind (Some kind.Truth) e =
          let x = truth-position k f (position (Some kind.Truth) f e v.first) in
          let y = truth-position k l (position (Some kind.Truth) l e v.last) in
          truth-for sp i (at-least (pos 0) f i x.0 low) (at-least i l (pos 1) high y.1)
      by_kind (Some (kind.Enumeration ns)) e =
          let q = h ns e i here in
          record { fixed = fixed_name _ sp q.own q.fixed; value = _; worth = refl; position = q.position }
