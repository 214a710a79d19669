-- A static expression of a kind is worth its static value, by the table over which its scope stands.
use Rattle.std.proofs.Common.{◌≡◌, ℕ, ℤ, pos, ◌+◌, ◌+ℤ◌, ◌-ℤ◌, ◌==◌, Bool, true, false, ◌&&◌, if◌then◌else◌, List, [], is_some, option_map, Option, Some, None, Result, Ok, Err, refl, sym, ap, ap₂, ◌∙◌, subst}
use Rattle.ada_tree.specs.declared.naming.NameId.{NameId}
use Rattle.ada_tree.specs.declared.naming.Span.{Span}
use Rattle.ada_tree.specs.declared.expressions.UnaryOp.TheVariants as unary
use Rattle.ada_tree.specs.declared.static_types.Mark.{Mark}
use Rattle.ada_tree.specs.declared.static_types.Constant.{Constant}
use Rattle.ada_tree.specs.TypeTable.{TypeTable}
use Rattle.ada_tree.specs.PlainExpr.{PExpr, EInteger, EName, EIndex, EAttribute, EAttributeOf, EParen, EUnary, EBinary}
use Rattle.ada_tree.specs.Attributes.{Attribute, First, Last, Pos, Val, Succ, Pred, Image, NoAttribute, attribute_of, is_bound, false_name, true_name}
use Rattle.ada_tree.specs.Every.{EveryExpr}
use Rattle.ada_tree.specs.WellPlaced.{well_placed}
use Rattle.ada_static_rules.specs.Scope.{Scope, kind_at}
use Rattle.ada_static_rules.specs.StaticValue.{is_integer_value, is_static, keeps_static, value_of, value_named, mark_named, first_of_two, named, bound_of, of_base, attribute_at, then_do, operated, signed}
use Rattle.ada_value.specs.declared.values.Value.{Value}
use Rattle.ada_value.specs.declared.values.Value.TheVariants.{Number}
use Rattle.ada_value.specs.declared.values.Raised.{Raised}
use Rattle.ada_value.specs.declared.values.Raised.TheVariants as raised
use Rattle.ada_value.specs.Values as values
use Rattle.ada_value.specs.Values.{position_of, value_at}
use Rattle.ada_value.specs.Evaluating.{evaluated, signed_value}
use Rattle.ada_value.specs.StaticLaw.{HasSmallLiterals, Agree}
use Rattle.ada_value.proofs.StaticLaws.{static_law}
use Rattle.task_laws.specs.legal.rewritten_types.Agreement.{Literal, Keeps, Agrees}
use Rattle.task_laws.proofs.legal.rewritten_types.Keeping.{keeps-self}
use Rattle.task_laws.proofs.legal.rewritten_types.Rooting.{rooted_agrees}
use Rattle.task_laws.proofs.legal.rewritten_values.Saying.{bases-alike}
use Rattle.task_laws.proofs.legal.types.StaticParts.{IsStaticIn}
use Rattle.task_laws.specs.legal.types.Typed.{HasLiteral, HasPosition}
use Rattle.task_laws.proofs.legal.types.TypedValues.{anybody, IsOf, IsTyped, IsOver, Gives, typed-gives}
use Rattle.task_laws.proofs.legal.rewritten_types.Lookups.{position-among}

-- ---- tables that agree on all names

pub keeps-agrees : (T U : TypeTable) → IsTyped T → Keeps anybody T U → Agrees anybody T U
keeps-agrees T U typed keeps = rooted_agrees anybody T T U (record { sound = typed.root; whole = typed.whole; left = keeps-self T; right = keeps })

-- the value of an old name is the same
pub named-alike : (old : ℕ → Bool) (T U : TypeTable) → Agrees old T U → (id : NameId) → old id.0 ≡ true → value_named T id ≡ value_named U id
named-alike old T U h id o =
    ap₂ (λ (c : Option Constant) (n : Option ℕ). if id.0 == false_name then Some (pos 0) else if id.0 == true_name then Some (pos 1) else first_of_two (option_map (λ d. d.value) c) (option_map (λ k. pos k) n))
    (h.constants id o)
    (position-among T.kinds 0 id ∙ ap (option_map (λ (l : Literal). l.position)) (h.literals id) ∙ sym (position-among U.kinds 0 id))

module _ (T U : TypeTable) (h : Agrees anybody T U) where
  named-same : (id : NameId) → value_named T id ≡ value_named U id
  named-same id = named-alike anybody T U h id refl

  base-same : (o : Option Mark) (s : Span) (z : ℤ) → of_base T o s z ≡ of_base U o s z
  base-same (Some m) s z = ap (λ b. if b then Ok z else Err s) (bases-alike anybody T U h m.kind z)
  base-same None s z = refl

  attribute-same : (o : Option Mark) (a : Attribute) (s : Span) (z : ℤ) → attribute_at T o a s z ≡ attribute_at U o a s z
  attribute-same o Pos s z = refl
  attribute-same o Val s z = base-same o s z
  attribute-same o Succ s z = base-same o s (z +ℤ pos 1)
  attribute-same o Pred s z = base-same o s (z -ℤ pos 1)
  attribute-same o First s z = refl
  attribute-same o Last s z = refl
  attribute-same o Image s z = refl
  attribute-same o NoAttribute s z = refl

  then-same : (r : Result ℤ Span) (f g : ℤ → Result ℤ Span) → ((z : ℤ) → f z ≡ g z) → then_do f r ≡ then_do g r
  then-same (Ok z) f g e = e z
  then-same (Err s) f g e = refl

  -- the same expressions are static
  pub static-same : (e : PExpr) → is_static T e ≡ is_static U e
  static-same (EInteger n s) = refl
  static-same (EName id s) = ap is_some (named-same id)
  static-same (EIndex w e s) = refl
  static-same (EAttribute m w s) = ap (λ o. is_bound (attribute_of w.name) && is_some o) (h.marks m.name refl)
  static-same (EAttributeOf m w e s) = ap₂ (λ o b. keeps_static (attribute_of w.name) && is_some o && b) (h.marks m.name refl) (static-same e)
  static-same (EParen e s) = static-same e
  static-same (EUnary op e s) = static-same e
  static-same (EBinary op l r s) = ap₂ (λ a b. a && b) (static-same l) (static-same r)

  -- with the same static values
  pub value-same : (e : PExpr) → value_of T e ≡ value_of U e
  value-same (EInteger n s) = refl
  value-same (EName id s) = ap named (named-same id)
  value-same (EIndex w e s) = refl
  value-same (EAttribute m w s) = ap (λ o. Ok (bound_of (attribute_of w.name) o)) (h.marks m.name refl)
  value-same (EAttributeOf m w e s) =
      then-same (value_of T e) _ _ (λ z. attribute-same (mark_named T m.name) (attribute_of w.name) s z ∙ ap (λ o. attribute_at U o (attribute_of w.name) s z) (h.marks m.name refl))
      ∙ ap (then_do (attribute_at U (mark_named U m.name) (attribute_of w.name) s)) (value-same e)
  value-same (EParen e s) = value-same e
  value-same (EUnary op e s) = ap (then_do (signed op s)) (value-same e)
  value-same (EBinary op l r s) = ap₂ (operated op s) (value-same l) (value-same r)

-- ---- integer literals

-- the literals that the source can hold are small
pub small-literals : (names : List (List ℕ)) (k : ℕ) (e : PExpr) → EveryExpr (well_placed names) k e → HasSmallLiterals e
small-literals names k (EInteger n s) h = h.1
small-literals names k (EName id s) h = tt
small-literals names k (EIndex w e s) h = small-literals names (k + 1) e h.2
small-literals names k (EAttribute m w s) h = tt
small-literals names k (EAttributeOf m w e s) h = small-literals names (k + 1) e h.3
small-literals names k (EParen e s) h = small-literals names (k + 1) e h.1
small-literals names k (EUnary op e s) h = small-literals names (k + 1) e h.2
small-literals names k (EBinary op l r s) h = (small-literals names (k + 1) l h.2, small-literals names (k + 1) r h.3)

-- ---- worth

-- The expression is static, with that static value, and is worth a value of the kind at that position.
pub record IsWorth (T : TypeTable) (k : ℕ) (e : PExpr) (z : ℤ) : Type 0 where
  pub static : is_static T e ≡ true
  pub told : value_of T e ≡ Ok z
  pub value : Value
  pub worth : evaluated T [] e ≡ Ok value
  pub position : position_of value ≡ z
  pub kind : IsOf T k value
  pub fits : is_integer_value z ≡ true

-- the kind has a value at that position
pub worth-value : (T : TypeTable) (k : ℕ) (e : PExpr) (z : ℤ) → IsWorth T k e z → HasPosition T k z
worth-value T k e z h = record {
  fits = h.fits;
  same = ap (λ y. position_of (value_at T k y)) (sym h.position) ∙ ap position_of h.kind.same ∙ h.position;
  literal = subst (HasLiteral (kind_at T k)) h.position h.kind.literal;
}

module _ (T : TypeTable) (s : Scope) (typed : IsTyped T) (over : IsOver T s) where
  agrees : Agrees anybody T s.types
  agrees = keeps-agrees T s.types typed over.keeps

  -- a value that agrees with a static one
  agreed : (e : PExpr) (z : ℤ) → value_of T e ≡ Ok z → Agree (value_of T e) (evaluated T [] e) → (v : Value) × (evaluated T [] e ≡ Ok v) × (position_of v ≡ z)
  agreed e z f a = by_value (evaluated T [] e) refl (subst (λ r. Agree r (evaluated T [] e)) f a)
    where
      by_value : (r : Result Value Raised) → evaluated T [] e ≡ r → Agree (Ok z) r → (v : Value) × (evaluated T [] e ≡ Ok v) × (position_of v ≡ z)
      by_value (Ok v) p q = (v, p, q)
      by_value (Err x) p q = absurd q

  -- `+` before a static expression has a value, so its own is a number of INTEGER
  is-integer : (e : PExpr) (z : ℤ) (v : Value) → value_of T e ≡ Ok z → evaluated T [] e ≡ Ok v → Agree (then_do (signed unary.Plus (record { start = 0; end = 0 })) (value_of T e)) (values.and_then (evaluated T [] e) (signed_value unary.Plus)) → is_integer_value (position_of v) ≡ true
  is-integer e z v f g a = by_test (is_integer_value (position_of v)) refl (subst (λ r. Agree (Ok z) (values.and_then r (signed_value unary.Plus))) g (subst (λ r. Agree (then_do (signed unary.Plus (record { start = 0; end = 0 })) r) (values.and_then (evaluated T [] e) (signed_value unary.Plus))) f a))
    where
      by_test : (b : Bool) → is_integer_value (position_of v) ≡ b → Agree (Ok z) (if b then Ok (Number (position_of v)) else Err raised.Numeric) → b ≡ true
      by_test true p q = refl
      by_test false p q = absurd q

  pub worth : (k : ℕ) (e : PExpr) → HasSmallLiterals e → (h : IsStaticIn s k e) → IsWorth T k e h.value
  worth k e small h =
      let static : is_static T e ≡ true = static-same T s.types agrees e ∙ h.static in
      let told : value_of T e ≡ Ok h.value = value-same T s.types agrees e ∙ h.worth in
      let v = agreed e h.value told (static_law T e typed.sound small static) in
      record {
        static = static;
        told = told;
        value = v.0;
        worth = v.1;
        position = v.2;
        kind = subst (Gives (IsOf T k)) v.1 (typed-gives T s typed over e static k h.kind);
        fits = ap is_integer_value (sym v.2) ∙ is-integer e h.value v.0 told v.1 (static_law T (EUnary unary.Plus e (record { start = 0; end = 0 })) typed.sound small static);
      }
