-- What a static expression is worth is the same by the tables of later scopes.
use Rattle.std.proofs.Common.{◌≡◌, ℕ, ℤ, pos, ◌+ℤ◌, ◌-ℤ◌, true, false, ◌&&◌, if◌then◌else◌, [], is_some, Option, Some, None, Result, Ok, Err, refl, sym, ap, ap₂, ◌∙◌, true≢false}
use Rattle.ada_tree.specs.declared.naming.NameId.{NameId}
use Rattle.ada_tree.specs.declared.naming.Span.{Span}
use Rattle.ada_tree.specs.declared.static_types.Mark.{Mark}
use Rattle.ada_tree.specs.TypeTable.{TypeTable}
use Rattle.ada_tree.specs.PlainExpr.{PExpr, EInteger, EName, EIndex, EAttribute, EAttributeOf, EParen, EUnary, EBinary}
use Rattle.ada_tree.specs.Attributes.{Attribute, First, Last, Pos, Val, Succ, Pred, Image, NoAttribute, attribute_of, is_bound}
use Rattle.ada_static_rules.specs.Scope.{kind_at}
use Rattle.ada_static_rules.specs.StaticValue as static
use Rattle.ada_static_rules.specs.StaticValue.{is_static, is_named, is_of_kind, keeps_static, value_of, value_named, mark_named, named, bound_of, of_base, attribute_at, then_do}
use Rattle.ada_value.specs.declared.values.Value.{Value}
use Rattle.ada_value.specs.declared.values.Raised.{Raised}
use Rattle.ada_value.specs.declared.values.Raised.TheVariants as raised
use Rattle.ada_value.specs.Values as values
use Rattle.ada_value.specs.Values.{position_of, value_in, based, limits_of, limits_or, limits_named}
use Rattle.ada_value.specs.Evaluating as evaluating
use Rattle.ada_value.specs.Evaluating.{evaluated, fixed_value, bound_value, attribute_value, signed_value}
use Rattle.task_laws.specs.legal.rewritten_types.Agreement.{HasKind, Grows, Sound}
use Rattle.task_laws.proofs.legal.rewritten_types.Lookups.{find-grown, find-all}
use Rattle.task_laws.proofs.legal.types.GoodScopes.{of-grown}
use Rattle.task_laws.proofs.legal.types.StaticWorth.{IsWorth}
use Rattle.common_lemmas.proofs.Truth.{and_left, and_right}

-- The second table has whatever the first one has, and names with a value keep it.
pub record IsLaterTable (T U : TypeTable) : Type 0 where
  pub grows : Grows T U
  pub named : (id : NameId) → is_some (value_named T id) ≡ true → value_named U id ≡ value_named T id
  pub fixed : (id : NameId) → is_some (value_named T id) ≡ true → fixed_value U id ≡ fixed_value T id

pub later-self : (T : TypeTable) → IsLaterTable T T
later-self T = record { grows = record { kind = λ k x e. e; mark = λ m x e. e }; named = λ id h. refl; fixed = λ id h. refl }

pub later-on : (T U V : TypeTable) → IsLaterTable T U → IsLaterTable U V → IsLaterTable T V
later-on T U V a b = record {
  grows = record { kind = λ k x e. b.grows.kind k x (a.grows.kind k x e); mark = λ m x e. b.grows.mark m x (a.grows.mark m x e) };
  named = λ id h. b.named id (ap is_some (a.named id h) ∙ h) ∙ a.named id h;
  fixed = λ id h. b.fixed id (ap is_some (a.named id h) ∙ h) ∙ a.fixed id h;
}

module _ (T U : TypeTable) (root : Sound T) (later : IsLaterTable T U) where
  -- a mark that has the name has it still
  pub mark-later : (id : NameId) (m : Mark) → mark_named T id ≡ Some m → mark_named U id ≡ Some m
  mark-later id m e = find-grown (λ x. is_named id x.name) T.marks U.marks later.grows.mark m e

  mark-same : (id : NameId) → is_some (mark_named T id) ≡ true → mark_named U id ≡ mark_named T id
  mark-same id h = by_mark (mark_named T id) refl h
    where
      by_mark : (o : Option Mark) → mark_named T id ≡ o → is_some o ≡ true → mark_named U id ≡ mark_named T id
      by_mark (Some m) e g = mark-later id m e ∙ sym e
      by_mark None e g = absurd (true≢false (sym g))

  -- its kind is there
  kind-same : (id : NameId) (m : Mark) → mark_named T id ≡ Some m → kind_at U m.kind ≡ kind_at T m.kind
  kind-same id m e =
      let h : HasKind T m.kind = find-all (λ (x : Mark). HasKind T x.kind) (λ x. is_named id x.name) T.marks m root.marks e in
      later.grows.kind m.kind h.0 h.1 ∙ sym h.1

  base-same : (id : NameId) (o : Option Mark) (s : Span) (z : ℤ) → mark_named T id ≡ o → of_base U o s z ≡ of_base T o s z
  base-same id (Some m) s z e = ap (λ k. if is_of_kind k z then Ok z else Err s) (kind-same id m e)
  base-same id None s z e = refl

  attribute-same : (id : NameId) (o : Option Mark) (a : Attribute) (s : Span) (z : ℤ) → mark_named T id ≡ o → attribute_at U o a s z ≡ attribute_at T o a s z
  attribute-same id o Pos s z e = refl
  attribute-same id o Val s z e = base-same id o s z e
  attribute-same id o Succ s z e = base-same id o s (z +ℤ pos 1) e
  attribute-same id o Pred s z e = base-same id o s (z -ℤ pos 1) e
  attribute-same id o First s z e = refl
  attribute-same id o Last s z e = refl
  attribute-same id o Image s z e = refl
  attribute-same id o NoAttribute s z e = refl

  then-same : (r : Result ℤ Span) (f g : ℤ → Result ℤ Span) → ((z : ℤ) → f z ≡ g z) → then_do f r ≡ then_do g r
  then-same (Ok z) f g e = e z
  then-same (Err s) f g e = refl

  -- a static expression is static, with its value
  pub static-later : (e : PExpr) → is_static T e ≡ true → is_static U e ≡ true
  static-later (EInteger n s) h = refl
  static-later (EName id s) h = ap is_some (later.named id h) ∙ h
  static-later (EIndex w e s) h = h
  static-later (EAttribute m w s) h = ap (λ o. is_bound (attribute_of w.name) && is_some o) (mark-same m.name (and_right (is_bound (attribute_of w.name)) (is_some (mark_named T m.name)) h)) ∙ h
  static-later (EAttributeOf m w e s) h =
      let outer = and_left (keeps_static (attribute_of w.name) && is_some (mark_named T m.name)) (is_static T e) h in
      ap₂ (λ o b. keeps_static (attribute_of w.name) && is_some o && b) (mark-same m.name (and_right (keeps_static (attribute_of w.name)) (is_some (mark_named T m.name)) outer))
      (static-later e (and_right (keeps_static (attribute_of w.name) && is_some (mark_named T m.name)) (is_static T e) h) ∙ sym (and_right (keeps_static (attribute_of w.name) && is_some (mark_named T m.name)) (is_static T e) h)) ∙ h
  static-later (EParen e s) h = static-later e h
  static-later (EUnary op e s) h = static-later e h
  static-later (EBinary op l r s) h =
      let a = and_left (is_static T l) (is_static T r) h in
      let b = and_right (is_static T l) (is_static T r) h in
      ap₂ (λ x y. x && y) (static-later l a) (static-later r b)

  pub value-later : (e : PExpr) → is_static T e ≡ true → value_of U e ≡ value_of T e
  value-later (EInteger n s) h = refl
  value-later (EName id s) h = ap named (later.named id h)
  value-later (EIndex w e s) h = refl
  value-later (EAttribute m w s) h = ap (λ o. Ok (bound_of (attribute_of w.name) o)) (mark-same m.name (and_right (is_bound (attribute_of w.name)) (is_some (mark_named T m.name)) h))
  value-later (EAttributeOf m w e s) h =
      let outer = and_left (keeps_static (attribute_of w.name) && is_some (mark_named T m.name)) (is_static T e) h in
      let same = mark-same m.name (and_right (keeps_static (attribute_of w.name)) (is_some (mark_named T m.name)) outer) in
      ap (then_do (attribute_at U (mark_named U m.name) (attribute_of w.name) s)) (value-later e (and_right (keeps_static (attribute_of w.name) && is_some (mark_named T m.name)) (is_static T e) h))
      ∙ ap (λ o. then_do (attribute_at U o (attribute_of w.name) s) (value_of T e)) same
      ∙ then-same (value_of T e) _ _ (λ z. attribute-same m.name (mark_named T m.name) (attribute_of w.name) s z refl)
  value-later (EParen e s) h = value-later e h
  value-later (EUnary op e s) h = ap (then_do (static.signed op s)) (value-later e h)
  value-later (EBinary op l r s) h = ap₂ (static.operated op s) (value-later l (and_left (is_static T l) (is_static T r) h)) (value-later r (and_right (is_static T l) (is_static T r) h))

  -- and is worth the same
  bound-same : (id : NameId) (m : Mark) (a : Attribute) → mark_named T id ≡ Some m → bound_value U (limits_of m) a ≡ bound_value T (limits_of m) a
  bound-same id m First e = ap (λ o. value_in m.kind o m.first) (kind-same id m e)
  bound-same id m Last e = ap (λ o. value_in m.kind o m.last) (kind-same id m e)
  bound-same id m Pos e = refl
  bound-same id m Val e = refl
  bound-same id m Succ e = refl
  bound-same id m Pred e = refl
  bound-same id m Image e = refl
  bound-same id m NoAttribute e = refl

  based-same : (id : NameId) (m : Mark) (z : ℤ) → mark_named T id ≡ Some m → based U m.kind z ≡ based T m.kind z
  based-same id m z e = ap (λ o. if is_of_kind o z then Ok (value_in m.kind o z) else Err raised.Constraint) (kind-same id m e)

  worth-same : (id : NameId) (m : Mark) (a : Attribute) (v : Value) → mark_named T id ≡ Some m → attribute_value U (limits_of m) a v ≡ attribute_value T (limits_of m) a v
  worth-same id m Pos v e = refl
  worth-same id m Val v e = based-same id m (position_of v) e
  worth-same id m Succ v e = based-same id m (position_of v +ℤ pos 1) e
  worth-same id m Pred v e = based-same id m (position_of v -ℤ pos 1) e
  worth-same id m First v e = refl
  worth-same id m Last v e = refl
  worth-same id m Image v e = refl
  worth-same id m NoAttribute v e = refl

  and-same : (r : Result Value Raised) (f g : Value → Result Value Raised) → ((v : Value) → f v ≡ g v) → values.and_then r f ≡ values.and_then r g
  and-same (Ok v) f g e = e v
  and-same (Err x) f g e = refl

  some-mark : (id : NameId) → is_some (mark_named T id) ≡ true → (m : Mark) × (mark_named T id ≡ Some m)
  some-mark id h = by_mark (mark_named T id) refl h
    where
      by_mark : (o : Option Mark) → mark_named T id ≡ o → is_some o ≡ true → (m : Mark) × (mark_named T id ≡ Some m)
      by_mark (Some m) e g = (m, e)
      by_mark None e g = absurd (true≢false (sym g))

  pub evaluated-later : (e : PExpr) → is_static T e ≡ true → evaluated U [] e ≡ evaluated T [] e
  evaluated-later (EInteger n s) h = refl
  evaluated-later (EName id s) h = ap Ok (later.fixed id h)
  evaluated-later (EIndex w e s) h = absurd (true≢false (sym h))
  evaluated-later (EAttribute m w s) h =
      let q = some-mark m.name (and_right (is_bound (attribute_of w.name)) (is_some (mark_named T m.name)) h) in
      ap (λ o. Ok (bound_value U (limits_or o) (attribute_of w.name))) (mark-later m.name q.0 q.1)
      ∙ ap Ok (bound-same m.name q.0 (attribute_of w.name) q.1)
      ∙ ap (λ o. Ok (bound_value T (limits_or o) (attribute_of w.name))) (sym q.1)
  evaluated-later (EAttributeOf m w e s) h =
      let outer = and_left (keeps_static (attribute_of w.name) && is_some (mark_named T m.name)) (is_static T e) h in
      let q = some-mark m.name (and_right (keeps_static (attribute_of w.name)) (is_some (mark_named T m.name)) outer) in
      ap (λ r. values.and_then r (λ v. attribute_value U (limits_named U m.name) (attribute_of w.name) v)) (evaluated-later e (and_right (keeps_static (attribute_of w.name) && is_some (mark_named T m.name)) (is_static T e) h))
      ∙ and-same (evaluated T [] e) _ _
      (λ v. ap (λ o. attribute_value U (limits_or o) (attribute_of w.name) v) (mark-later m.name q.0 q.1)
      ∙ worth-same m.name q.0 (attribute_of w.name) v q.1
      ∙ ap (λ o. attribute_value T (limits_or o) (attribute_of w.name) v) (sym q.1))
  evaluated-later (EParen e s) h = evaluated-later e h
  evaluated-later (EUnary op e s) h = ap (λ r. values.and_then r (λ v. signed_value op v)) (evaluated-later e h)
  evaluated-later (EBinary op l r s) h = ap₂ (evaluating.operated op) (evaluated-later l (and_left (is_static T l) (is_static T r) h)) (evaluated-later r (and_right (is_static T l) (is_static T r) h))

  pub worth-later : (k : ℕ) (e : PExpr) (z : ℤ) → IsWorth T k e z → IsWorth U k e z
  worth-later k e z h = record {
    static = static-later e h.static;
    told = value-later e h.static ∙ h.told;
    value = h.value;
    worth = evaluated-later e h.static ∙ h.worth;
    position = h.position;
    kind = of-grown T U later.grows k h.value h.kind;
    fits = h.fits;
  }
