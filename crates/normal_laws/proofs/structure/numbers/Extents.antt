-- Static expressions and ranges in which all names are old have the same values by tables that agree on old names.
use Rattle.std.proofs.Common.{◌≡◌, ℕ, ℤ, pos, ◌+ℤ◌, ◌-ℤ◌, ◌==◌, Bool, true, ◌&&◌, if◌then◌else◌, is_some, option_map, Option, Some, None, Result, Ok, Err, IfSome, refl, sym, ap, ap₂, ◌∙◌}
use Rattle.ada_tree.specs.declared.naming.NameId.{NameId}
use Rattle.ada_tree.specs.declared.naming.Span.{Span}
use Rattle.ada_tree.specs.declared.static_types.Mark.{Mark}
use Rattle.ada_tree.specs.declared.static_types.Constant.{Constant}
use Rattle.ada_tree.specs.TypeTable.{TypeTable}
use Rattle.ada_tree.specs.Attributes.{Attribute, First, Last, Pos, Val, Succ, Pred, Image, NoAttribute, attribute_of, is_bound, false_name, true_name}
use Rattle.ada_tree.specs.PlainExpr.{PExpr, EInteger, EName, EIndex, EAttribute, EAttributeOf, EParen, EUnary, EBinary, PBounds, PDrange, RGiven, RMarked}
use Rattle.ada_static_rules.specs.StaticValue.{first_of_two, value_named, keeps_static, is_static, signed, bound_of, of_base, attribute_at, then_do, operated, named, value_of}
use Rattle.ada_tree.specs.Every.{EveryExpr, EveryBounds, EveryDrange}
use Rattle.syn_event.specs.Extents.{unraised_value, fixed, between, bounds_extent, marked_extent, extent}
use Rattle.task_laws.specs.legal.rewritten_types.Agreement.{Literal, Agrees}
use Rattle.task_laws.specs.legal.rewritten_values.Values.{old_names}
use Rattle.task_laws.proofs.legal.rewritten_values.Saying.{bases-alike}
use Rattle.task_laws.proofs.legal.rewritten_types.Lookups.{position-among}

-- what is done with a value
then-alike : (f g : ℤ → Result ℤ Span) (r : Result ℤ Span) → ((z : ℤ) → f z ≡ g z) → then_do f r ≡ then_do g r
then-alike f g (Ok z) h = h z
then-alike f g (Err s) h = refl

module _ (old : ℕ → Bool) (T U : TypeTable) (h : Agrees old T U) where
  value-alike : (id : NameId) → old id.0 ≡ true → value_named T id ≡ value_named U id
  value-alike id e =
      ap₂ (λ (c : Option Constant) (p : Option ℕ). if id.0 == false_name then Some (pos 0) else if id.0 == true_name then Some (pos 1) else first_of_two (option_map (λ c. c.value) c) (option_map (λ k. pos k) p))
      (h.constants id e)
      (position-among T.kinds 0 id ∙ ap (option_map (λ (l : Literal). l.position)) (h.literals id) ∙ sym (position-among U.kinds 0 id))

  static-alike : (e : PExpr) (k : ℕ) → EveryExpr (old_names old) k e → is_static T e ≡ is_static U e
  static-alike (EInteger n s) k p = refl
  static-alike (EName id s) k p = ap is_some (value-alike id p.1)
  static-alike (EIndex w e s) k p = refl
  static-alike (EAttribute m w s) k p = ap (λ (o : Option Mark). is_bound (attribute_of w.name) && is_some o) (h.marks m.name p.1)
  static-alike (EAttributeOf m w e s) k p = ap₂ (λ (o : Option Mark) (b : Bool). keeps_static (attribute_of w.name) && is_some o && b) (h.marks m.name p.1) (static-alike e _ p.3)
  static-alike (EParen e s) k p = static-alike e _ p.1
  static-alike (EUnary op e s) k p = static-alike e _ p.2
  static-alike (EBinary op l r s) k p = ap₂ (λ (a b : Bool). a && b) (static-alike l _ p.2) (static-alike r _ p.3)

  base-alike : (o : Option Mark) (s : Span) (z : ℤ) → of_base T o s z ≡ of_base U o s z
  base-alike (Some m) s z = ap (λ (b : Bool). if b then Ok z else Err s) (bases-alike old T U h m.kind z)
  base-alike None s z = refl

  attribute-alike : (o : Option Mark) (a : Attribute) (s : Span) (z : ℤ) → attribute_at T o a s z ≡ attribute_at U o a s z
  attribute-alike o Pos s z = refl
  attribute-alike o Val s z = base-alike o s z
  attribute-alike o Succ s z = base-alike o s (z +ℤ pos 1)
  attribute-alike o Pred s z = base-alike o s (z -ℤ pos 1)
  attribute-alike o First s z = refl
  attribute-alike o Last s z = refl
  attribute-alike o Image s z = refl
  attribute-alike o NoAttribute s z = refl

  worth-alike : (e : PExpr) (k : ℕ) → EveryExpr (old_names old) k e → value_of T e ≡ value_of U e
  worth-alike (EInteger n s) k p = refl
  worth-alike (EName id s) k p = ap named (value-alike id p.1)
  worth-alike (EIndex w e s) k p = refl
  worth-alike (EAttribute m w s) k p = ap (λ (o : Option Mark). Ok (bound_of (attribute_of w.name) o)) (h.marks m.name p.1)
  worth-alike (EAttributeOf m w e s) k p =
      ap₂ (λ (o : Option Mark) (r : Result ℤ Span). then_do (attribute_at T o (attribute_of w.name) s) r) (h.marks m.name p.1) (worth-alike e _ p.3)
      ∙ then-alike _ _ (value_of U e) (attribute-alike _ (attribute_of w.name) s)
  worth-alike (EParen e s) k p = worth-alike e _ p.1
  worth-alike (EUnary op e s) k p = ap (then_do (signed op s)) (worth-alike e _ p.2)
  worth-alike (EBinary op l r s) k p = ap₂ (operated op s) (worth-alike l _ p.2) (worth-alike r _ p.3)

  fixed-alike : (e : PExpr) (k : ℕ) → EveryExpr (old_names old) k e → fixed T e ≡ fixed U e
  fixed-alike e k p = ap₂ (λ (b : Bool) (r : Result ℤ Span). if b then unraised_value r else None) (static-alike e k p) (worth-alike e k p)

  bounds-alike : (b : PBounds) (k : ℕ) → EveryBounds (old_names old) k b → bounds_extent T b ≡ bounds_extent U b
  bounds-alike b k p = ap₂ between (fixed-alike b.first k p.1) (fixed-alike b.last k p.2)

  marked-alike : (id : NameId) (o : Option PBounds) (k : ℕ) → old id.0 ≡ true → IfSome o (EveryBounds (old_names old) k) → marked_extent T id o ≡ marked_extent U id o
  marked-alike id (Some b) k e p = bounds-alike b k p
  marked-alike id None k e p = ap (option_map (λ (m : Mark). record { first = m.first; last = m.last })) (h.marks id e)

  -- the extent of a range
  pub extent-alike : (r : PDrange) (k : ℕ) → EveryDrange (old_names old) k r → extent T r ≡ extent U r
  extent-alike (RGiven b) k p = bounds-alike b k p
  extent-alike (RMarked x) k p = marked-alike x.mark.name x.bounds k p.0 p.1
