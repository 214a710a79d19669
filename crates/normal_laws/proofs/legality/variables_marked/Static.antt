-- A static subtype of plain names has only names with a value or a mark in the table, which no inner scope hides.
use Rattle.std.proofs.Common.{◌≡◌, ℕ, Bool, true, ◌||◌, ◌&&◌, IfSome, is_some, Option, Some, None, sym, ap, ◌∙◌, true≢false}
use Rattle.common_lemmas.proofs.Truth.{and_left, and_right, or_true}
use Rattle.ada_tree.specs.declared.naming.NameId.{NameId}
use Rattle.ada_tree.specs.TypeTable.{TypeTable}
use Rattle.ada_tree.specs.Attributes.{attribute_of, is_bound}
use Rattle.ada_tree.specs.PlainExpr.{PExpr, EInteger, EName, EIndex, EAttribute, EAttributeOf, EParen, EUnary, EBinary, PBounds, PSubind}
use Rattle.ada_static_rules.specs.Scope.{Scope}
use Rattle.ada_static_rules.specs.StaticValue.{value_named, mark_named, is_static, keeps_static}
use Rattle.task_laws.specs.legal.alike_scopes.Old.{IsOldExpr, IsOldBounds, IsOldSubind}
use Rattle.task_laws.specs.legal.alike_scopes.Alike.{SameTypes, SameNames}
use Rattle.task_laws.proofs.legal.types.StaticParts.{AreBounds}

module _ (T : TypeTable) (plain : ℕ → Bool) where
  -- a plain name that has a value or a mark
  abbrev pub fixed_name : ℕ → Bool
  fixed_name n = plain n && (is_some (value_named T record { 0 = n }) || is_some (mark_named T record { 0 = n }))

  value-fixed : (id : NameId) → plain id.0 ≡ true → is_some (value_named T id) ≡ true → fixed_name id.0 ≡ true
  value-fixed id o v = ap (λ b. b && (is_some (value_named T id) || is_some (mark_named T id))) o ∙ ap (λ b. b || is_some (mark_named T id)) v

  pub mark-fixed : (id : NameId) → plain id.0 ≡ true → is_some (mark_named T id) ≡ true → fixed_name id.0 ≡ true
  mark-fixed id o m = ap (λ b. b && (is_some (value_named T id) || is_some (mark_named T id))) o ∙ ap (λ b. is_some (value_named T id) || b) m ∙ or_true (is_some (value_named T id))

  expr-fixed : (e : PExpr) → IsOldExpr plain e → is_static T e ≡ true → IsOldExpr fixed_name e
  expr-fixed (EInteger n s) o h = tt
  expr-fixed (EName id s) o h = value-fixed id o h
  expr-fixed (EIndex w e s) o h = absurd (true≢false (sym h))
  expr-fixed (EAttribute m w s) o h = mark-fixed m.name o (and_right (is_bound (attribute_of w.name)) (is_some (mark_named T m.name)) h)
  expr-fixed (EAttributeOf m w e s) o h =
      let front = and_left (keeps_static (attribute_of w.name) && is_some (mark_named T m.name)) (is_static T e) h in (
        mark-fixed m.name o.0 (and_right (keeps_static (attribute_of w.name)) (is_some (mark_named T m.name)) front),
        expr-fixed e o.1 (and_right (keeps_static (attribute_of w.name) && is_some (mark_named T m.name)) (is_static T e) h),
      )
  expr-fixed (EParen e s) o h = expr-fixed e o h
  expr-fixed (EUnary op e s) o h = expr-fixed e o h
  expr-fixed (EBinary op l r s) o h = (expr-fixed l o.0 (and_left (is_static T l) (is_static T r) h), expr-fixed r o.1 (and_right (is_static T l) (is_static T r) h))

  pub subind-fixed : (s : Scope) → s.types ≡ T → (k : ℕ) (x : PSubind) → IsOldSubind plain x → is_some (mark_named T x.mark.name) ≡ true → IfSome x.bounds (AreBounds s k) → IsOldSubind fixed_name x
  subind-fixed s e k x o m h = (mark-fixed x.mark.name o.0 m, by_bounds x.bounds o.1 h)
    where
      by_bounds : (b : Option PBounds) → IfSome b (IsOldBounds plain) → IfSome b (AreBounds s k) → IfSome b (IsOldBounds fixed_name)
      by_bounds None p q = tt
      by_bounds (Some b) p q = (expr-fixed b.first p.0 (sym (ap (λ U. is_static U b.first) e) ∙ q.0.static), expr-fixed b.last p.1 (sym (ap (λ U. is_static U b.last) e) ∙ q.1.static))

-- two scopes in which some names mean the same, for fewer names
pub types-fewer : (old few : ℕ → Bool) → ((n : ℕ) → few n ≡ true → old n ≡ true) → (T U : TypeTable) → SameTypes old T U → SameTypes few T U
types-fewer old few f T U h = record {
  values = λ id o. h.values id (f id.0 o);
  marks = λ id o. h.marks id (f id.0 o);
  mark_kinds = λ id m o. h.mark_kinds id m (f id.0 o);
  kinds = h.kinds;
  first_marks = h.first_marks;
  integers = h.integers;
  truths = h.truths;
}

pub names-fewer : (old few : ℕ → Bool) → ((n : ℕ) → few n ≡ true → old n ≡ true) → (s t : Scope) → SameNames old s t → SameNames few s t
names-fewer old few f s t h = record { types = types-fewer old few f s.types t.types h.types; things = λ id o. h.things id (f id.0 o) }
