-- Expressions and ranges in which all names are old come to the same by tables that agree on old names.
use Rattle.std.proofs.Common.{◌≡◌, ℕ, ℤ, Bool, true, if◌then◌else◌, Option, Some, None, Result, Ok, Err, IfSome, refl, ap, ap₂, ◌∙◌}
use Rattle.ada_tree.specs.declared.naming.NameId.{NameId}
use Rattle.ada_tree.specs.TypeTable.{TypeTable}
use Rattle.ada_tree.specs.Attributes.{Attribute, First, Last, Pos, Val, Succ, Pred, Image, NoAttribute, attribute_of}
use Rattle.ada_tree.specs.PlainExpr.{PExpr, EInteger, EName, EIndex, EAttribute, EAttributeOf, EParen, EUnary, EBinary, PBounds, PDrange, RGiven, RMarked}
use Rattle.ada_tree.specs.Every.{EveryExpr, EveryBounds, EveryDrange}
use Rattle.ada_value.specs.declared.values.Value.{Value}
use Rattle.ada_value.specs.declared.values.Raised.{Raised}
use Rattle.ada_value.specs.declared.values.Raised.TheVariants as raised
use Rattle.ada_value.specs.declared.values.Limits.{Limits}
use Rattle.ada_value.specs.Values.{and_then, based, limits_named}
use Rattle.ada_value.specs.Variables.{Object, Variables, object_named}
use Rattle.ada_value.specs.Evaluating.{name_value, component_value, bound_value, attribute_value, signed_value, operated, evaluated, range_between, bounds_of, narrowed, range_of}
use Rattle.task_laws.specs.legal.rewritten_types.Agreement.{Agrees}
use Rattle.task_laws.specs.legal.rewritten_values.Values.{old_names}
use Rattle.task_laws.specs.legal.rewritten_values.Laws.{EvaluatedAlike}
use Rattle.task_laws.proofs.legal.rewritten_values.Saying.{limits-alike, fixed-alike, values-alike, bases-alike}

-- what is done with values that are the same
pub and_then-alike : {A B : Type 0} (r s : Result A Raised) (f g : A → Result B Raised) → r ≡ s → ((a : A) → f a ≡ g a) → and_then r f ≡ and_then s g
and_then-alike r s f g e h = each r ∙ ap (λ x. and_then x g) e
  where
    each : (x : Result _ Raised) → and_then x f ≡ and_then x g
    each (Ok a) = h a
    each (Err x) = refl

module _ (old : ℕ → Bool) (T U : TypeTable) (h : Agrees old T U) where
  based-alike : (k : ℕ) (z : ℤ) → based T k z ≡ based U k z
  based-alike k z = ap₂ (λ (b : Bool) v. if b then Ok v else Err raised.Constraint) (bases-alike old T U h k z) (values-alike old T U h k z)

  bound-alike : (l : Limits) (a : Attribute) → bound_value T l a ≡ bound_value U l a
  bound-alike l First = values-alike old T U h l.kind l.first
  bound-alike l Last = values-alike old T U h l.kind l.last
  bound-alike l Pos = refl
  bound-alike l Val = refl
  bound-alike l Succ = refl
  bound-alike l Pred = refl
  bound-alike l Image = refl
  bound-alike l NoAttribute = refl

  attribute-alike : (l : Limits) (a : Attribute) (v : Value) → attribute_value T l a v ≡ attribute_value U l a v
  attribute-alike l Val v = based-alike l.kind _
  attribute-alike l Succ v = based-alike l.kind _
  attribute-alike l Pred v = based-alike l.kind _
  attribute-alike l Pos v = refl
  attribute-alike l First v = refl
  attribute-alike l Last v = refl
  attribute-alike l Image v = refl
  attribute-alike l NoAttribute v = refl

  name-alike : (o : Option Object) (id : NameId) → old id.0 ≡ true → name_value T o id ≡ name_value U o id
  name-alike (Some o) id e = refl
  name-alike None id e = fixed-alike old T U h id e

  -- expressions
  pub expr-alike : (e : PExpr) (k : ℕ) → EveryExpr (old_names old) k e → (vars : Variables) → evaluated T vars e ≡ evaluated U vars e
  expr-alike (EInteger n s) k p vars = refl
  expr-alike (EName id s) k p vars = ap Ok (name-alike (object_named vars id) id p.1)
  expr-alike (EIndex w e s) k p vars = ap (λ r. and_then r (λ v. component_value (object_named vars w.name) v)) (expr-alike e _ p.2 vars)
  expr-alike (EAttribute m w s) k p vars =
      ap Ok (ap (λ l. bound_value T l (attribute_of w.name)) (limits-alike old T U h m.name p.1) ∙ bound-alike (limits_named U m.name) (attribute_of w.name))
  expr-alike (EAttributeOf m w e s) k p vars =
      and_then-alike _ _ _ _ (expr-alike e _ p.3 vars)
      (λ v. ap (λ l. attribute_value T l (attribute_of w.name) v) (limits-alike old T U h m.name p.1) ∙ attribute-alike (limits_named U m.name) (attribute_of w.name) v)
  expr-alike (EParen e s) k p vars = expr-alike e _ p.1 vars
  expr-alike (EUnary op e s) k p vars = ap (λ r. and_then r (λ v. signed_value op v)) (expr-alike e _ p.2 vars)
  expr-alike (EBinary op l r s) k p vars = ap₂ (operated op) (expr-alike l _ p.2 vars) (expr-alike r _ p.3 vars)

  -- ranges
  pub bounds-alike : (b : PBounds) (k : ℕ) → EveryBounds (old_names old) k b → (vars : Variables) → bounds_of T vars b ≡ bounds_of U vars b
  bounds-alike b k p vars = and_then-alike _ _ _ _ (expr-alike b.first k p.1 vars) (λ x. ap (λ r. and_then r (λ y. Ok (range_between x y))) (expr-alike b.last k p.2 vars))

  pub narrowed-alike : (l : Limits) (b : Option PBounds) (k : ℕ) → IfSome b (EveryBounds (old_names old) k) → (vars : Variables) → narrowed T vars l b ≡ narrowed U vars l b
  narrowed-alike l None k p vars = refl
  narrowed-alike l (Some b) k p vars = ap (λ r. and_then r (λ x. Ok record { kind = l.kind; first = x.first; last = x.last })) (bounds-alike b k p vars)

  pub range-alike : (r : PDrange) (k : ℕ) → EveryDrange (old_names old) k r → (vars : Variables) → range_of T vars r ≡ range_of U vars r
  range-alike (RGiven b) k p vars = bounds-alike b k p vars
  range-alike (RMarked x) k p vars = ap (λ l. narrowed T vars l x.bounds) (limits-alike old T U h x.mark.name p.0) ∙ narrowed-alike (limits_named U x.mark.name) x.bounds k p.1 vars

pub evaluated_alike : EvaluatedAlike
evaluated_alike old T U h k e p vars = expr-alike old T U h e k p vars
