-- An expression without names of variables is worth the same whatever variables there are.
use Rattle.std.proofs.Common.{◌≡◌, Bool, true, false, cond, ◌==◌, [], ◌∷◌, Option, Some, None, Result, Ok, refl, sym, ap, subst, ◌∙◌, true≢false}
use Rattle.std.proofs.lemmas.Bool.{eqb-true}
use Rattle.ada_tree.specs.declared.naming.NameId.{NameId}
use Rattle.ada_tree.specs.declared.expressions.BinaryOp.{BinaryOp}
use Rattle.ada_tree.specs.TypeTable.{TypeTable}
use Rattle.ada_tree.specs.PlainExpr.{PExpr}
use Rattle.ada_tree.specs.Attributes.{attribute_of}
use Rattle.ada_value.specs.declared.values.Value.{Value}
use Rattle.ada_value.specs.declared.values.Raised.{Raised}
use Rattle.ada_value.specs.Values.{and_then, limits_named}
use Rattle.ada_value.specs.Variables.{Object, Variables, object_named}
use Rattle.ada_value.specs.Evaluating.{name_value, attribute_value, signed_value, operated, evaluated}
use Rattle.task_laws.specs.translation.Translations.{Programs, IsOld}
use Rattle.task_laws.specs.translation.Scopes.{SameObject, no_object, same_object, SeeAlike}
use Rattle.task_laws.specs.translation.Fixed.{IsFixed, FixedExpr, fixed_integer, fixed_name, fixed_attribute, fixed_attribute_of, fixed_paren, fixed_unary, fixed_binary}

some-same : (c o : Object) → Some c ≡ Some o → c ≡ o
some-same c o e = cc

-- what is found has the name
named-has : (V : Variables) (id : NameId) (o : Object) → object_named V id ≡ Some o → (o.name.0 == id.0) ≡ true
named-has [] id o e = cc
named-has (c ∷ rest) id o e = go (c.name.0 == id.0) refl (λ f. named-has rest id o f) e
  where
    go : (t : Bool) → (c.name.0 == id.0) ≡ t → (object_named rest id ≡ Some o → (o.name.0 == id.0) ≡ true) → cond t (Some c) (object_named rest id) ≡ Some o → (o.name.0 == id.0) ≡ true
    go true h more e1 = subst (λ a. (a.name.0 == id.0) ≡ true) (some-same c o e1) h
    go false h more f = more f

module _ (b : Programs) where
  no-fixed : (V : Variables) (id : NameId) → IsFixed b id → {o o' : Option Object} → SameObject b o o' → object_named V id ≡ o → o ≡ None
  no-fixed V id fixed no_object e = refl
  no-fixed V id fixed (same_object o h) e = absurd (true≢false (sym fixed ∙ ap b.is_fixed (sym (eqb-true o.name.0 id.0 (named-has V id o e))) ∙ h.1))

  none-too : {o o' : Option Object} → SameObject b o o' → o ≡ None → o' ≡ None
  none-too no_object e = refl
  none-too (same_object o h) e = e

  -- no variable has a fixed name, on either side
  pub fixed-before : {V V' : Variables} → SeeAlike b V V' → (id : NameId) → IsOld b id → IsFixed b id → object_named V id ≡ None
  fixed-before {V} {V'} see id old fixed = no-fixed V id fixed (see.named id old) refl

  pub fixed-after : {V V' : Variables} → SeeAlike b V V' → (id : NameId) → IsOld b id → IsFixed b id → object_named V' id ≡ None
  fixed-after {V} {V'} see id old fixed = none-too (see.named id old) (fixed-before see id old fixed)

  operated-same : (op : BinaryOp) {l l' r r' : Result Value Raised} → l ≡ l' → r ≡ r' → operated op l r ≡ operated op l' r'
  operated-same op {l} {l'} {r} {r'} e f = ap (λ a. operated op a r) e ∙ ap (λ a. operated op l' a) f

  -- an expression, where no variable has a fixed name
  pub fixed-worth : (T : TypeTable) (V : Variables) → ((id : NameId) → IsOld b id → IsFixed b id → object_named V id ≡ None) → {e : PExpr} → FixedExpr b e → evaluated T V e ≡ evaluated T [] e
  fixed-worth T V none (fixed_integer n s) = refl
  fixed-worth T V none (fixed_name id s old fixed) = ap (λ o. Ok (name_value T o id)) (none id old fixed)
  fixed-worth T V none (fixed_attribute m w s) = refl
  fixed-worth T V none (fixed_attribute_of m w e s h) = ap (λ r. and_then r (λ v. attribute_value T (limits_named T m.name) (attribute_of w.name) v)) (fixed-worth T V none h)
  fixed-worth T V none (fixed_paren e s h) = fixed-worth T V none h
  fixed-worth T V none (fixed_unary op e s h) = ap (λ r. and_then r (λ v. signed_value op v)) (fixed-worth T V none h)
  fixed-worth T V none (fixed_binary op l r s h k) = operated-same op (fixed-worth T V none h) (fixed-worth T V none k)
