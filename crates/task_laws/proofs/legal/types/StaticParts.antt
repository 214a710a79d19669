-- Where nothing is refused, what must be static is static and has a value of its kind; so are the bounds of ranges.
use Rattle.std.proofs.Common.{◌≡◌, ℕ, ℤ, pos, int_le, int_lt, arith, Bool, true, false, not, ◌&&◌, ◌==◌, if◌then◌else◌, List, [], ◌∷◌, ◌++◌, is_some, IfSome, Option, Some, None, Result, Ok, Err, refl, sym, ap, ap₂, ◌∙◌, subst, true≢false, eqb-true}
use Rattle.std.specs.List.{AllByRecursion}
use Rattle.std.proofs.lemmas.Bool.{eq-eqb}
use Rattle.std.proofs.lemmas.Int.{ints}
use Rattle.ada_tree.specs.declared.naming.Span.{Span}
use Rattle.ada_tree.specs.PlainExpr.{PExpr, EInteger, EName, EIndex, EAttribute, EAttributeOf, EParen, EUnary, EBinary, PBounds, PSubind, PDrange, RGiven, RMarked}
use Rattle.ada_static_rules.specs.Scope.{Scope, meaning, marking, scalar_kind}
use Rattle.ada_static_rules.specs.StaticValue.{is_static, value_of, value_named, named}
use Rattle.ada_static_rules.specs.ExprTypes.{nodes, expr_place, kind_of, is_kind, ok_value, static_in, is_other_kind}
use Rattle.ada_static_rules.specs.Demand.{scalar_only, node, must_be_of, must_be_alike, must_be_static, must_not_be_empty, Site}
use Rattle.ada_static_rules.specs.Sites.{site, if_there, expr_sites, bounds_sites, constraint_sites, subind_sites, drange_sites}
use Rattle.ada_static_rules.specs.RuleMismatch.{is_allowed}
use Rattle.ada_static_rules.specs.RuleRangeBad.{raised, raises, is_below, empty_range}
use Rattle.task_laws.specs.legal.sites.Met.{IsMet}
use Rattle.task_laws.proofs.legal.types.ExprKinds.{IsClear, IsScalarMark, same-kind, scalar-mark, has-kind}
use Rattle.common_lemmas.proofs.Lists.{all_back, all_front, not_empty, all_unmapped}
use Rattle.common_lemmas.proofs.Options.{some_same}
use Rattle.task_laws.proofs.legal.sites.Around.{test-fails, test-holds}

-- ---- values

named-ok : (o : Option ℤ) → (z : ℤ) × (named o ≡ Ok z)
named-ok (Some z) = (z, refl)
named-ok None = (pos 0, refl)

not-raised : (r : Result ℤ Span) → raised r ≡ [] → (z : ℤ) × (r ≡ Ok z)
not-raised (Ok z) e = (z, refl)
not-raised (Err s) e = absurd (not_empty s [] e)

fixed-value : (a b : Bool) (r : Result ℤ Span) (ys : List Span) → a ≡ true → b ≡ true → (if a && b then raised r else ys) ≡ [] → (z : ℤ) × (r ≡ Ok z)
fixed-value true true r ys e f h = not-raised r h
fixed-value true false r ys e f h = absurd (true≢false (sym f))
fixed-value false b r ys e f h = absurd (true≢false (sym e))

-- in a static expression with a kind nothing raises
pub raise-free : (s : Scope) (e : PExpr) → is_some (kind_of s e) ≡ true → is_static s.types e ≡ true → raises s e ≡ [] → (z : ℤ) × (value_of s.types e ≡ Ok z)
raise-free s (EInteger n sp) k t h = (pos n, refl)
raise-free s (EName id sp) k t h = named-ok (value_named s.types id)
raise-free s (EIndex w e sp) k t h = (pos 0, refl)
raise-free s (EAttribute m w sp) k t h = (_, refl)
raise-free s (EAttributeOf m w e sp) k t h = fixed-value _ _ (value_of s.types (EAttributeOf m w e sp)) _ k t h
raise-free s (EParen e sp) k t h = raise-free s e k t h
raise-free s (EUnary op e sp) k t h = fixed-value _ _ (value_of s.types (EUnary op e sp)) _ k t h
raise-free s (EBinary op l r sp) k t h = fixed-value _ _ (value_of s.types (EBinary op l r sp)) _ k t h

-- a static expression of a kind, with its value
pub record IsStaticIn (s : Scope) (k : ℕ) (e : PExpr) : Type 0 where
  pub kind : kind_of s e ≡ Some k
  pub static : is_static s.types e ≡ true
  pub value : ℤ
  pub worth : value_of s.types e ≡ Ok value

-- its value is what the static rules read
pub static-told : (s : Scope) (k : ℕ) (e : PExpr) (h : IsStaticIn s k e) → static_in s k e ≡ Some h.value
static-told s k e h =
    ap (λ o. if is_kind k o && is_static s.types e then ok_value (value_of s.types e) else None) h.kind
    ∙ ap (λ b. if b && is_static s.types e then ok_value (value_of s.types e) else None) (eq-eqb k k refl)
    ∙ ap (λ b. if b then ok_value (value_of s.types e) else None) h.static
    ∙ ap ok_value h.worth

-- and what the static rules read is such a value
pub static-read : (s : Scope) (k : ℕ) (e : PExpr) (z : ℤ) → static_in s k e ≡ Some z → (h : IsStaticIn s k e) × (h.value ≡ z)
static-read s k e z f = by_kind (kind_of s e) refl f
  where
    clash : {A : Type 0} → None ≡ Some z → A
    clash g = absurd (true≢false (ap is_some (sym g)))

    by_worth : (r : Result ℤ Span) → value_of s.types e ≡ r → kind_of s e ≡ Some k → is_static s.types e ≡ true → ok_value r ≡ Some z → (h : IsStaticIn s k e) × (h.value ≡ z)
    by_worth (Ok y) w p t g = (record { kind = p; static = t; value = y; worth = w }, some_same g)
    by_worth (Err sp) w p t g = clash g

    by_static : (b : Bool) → is_static s.types e ≡ b → kind_of s e ≡ Some k → (if b then ok_value (value_of s.types e) else None) ≡ Some z → (h : IsStaticIn s k e) × (h.value ≡ z)
    by_static true t p g = by_worth (value_of s.types e) refl p t g
    by_static false t p g = clash g

    by_same : (j : ℕ) (b : Bool) → (k == j) ≡ b → kind_of s e ≡ Some j → (if b && is_static s.types e then ok_value (value_of s.types e) else None) ≡ Some z → (h : IsStaticIn s k e) × (h.value ≡ z)
    by_same j true q p g = by_static (is_static s.types e) refl (p ∙ ap Some (sym (eqb-true k j q))) g
    by_same j false q p g = clash g

    by_kind : (o : Option ℕ) → kind_of s e ≡ o → (if is_kind k o && is_static s.types e then ok_value (value_of s.types e) else None) ≡ Some z → (h : IsStaticIn s k e) × (h.value ≡ z)
    by_kind (Some j) p g = by_same j (k == j) refl p g
    by_kind None p g = clash g

not-below : (a b : ℤ) → int_lt a b ≡ false → int_le b a ≡ true
not-below a b h = grind (arith, ints)

-- static bounds of a kind, the first no greater than the last
abbrev pub AreBounds : Scope → ℕ → PBounds → Type 0
AreBounds s k b = (f : IsStaticIn s k b.first) × (l : IsStaticIn s k b.last) × (int_le f.value l.value ≡ true)

static-of : (a b : Bool) (sp : Span) → a ≡ true → (if a && not b then sp ∷ [] else []) ≡ [] → b ≡ true
static-of true true sp e f = refl
static-of true false sp e f = absurd (not_empty sp [] f)
static-of false b sp e f = absurd (true≢false (sym e))

module _ (s : Scope) (clear : IsClear s) where
  -- an expression at which nothing is refused has a kind
  pub met-kind : (e : PExpr) → AllByRecursion IsMet (expr_sites s e) → (k : ℕ) × (kind_of s e ≡ Some k)
  met-kind e h = has-kind s clear e (all_unmapped IsMet (λ n. site s (node false n)) (nodes e) h.1)

  -- one that must be static besides has a value
  pub met-static : (e : PExpr) → AllByRecursion IsMet (expr_sites s e) → IsMet (site s (must_be_static e)) → (k : ℕ) × IsStaticIn s k e
  met-static e h m =
      let k = met-kind e h in
      let some : is_some (kind_of s e) ≡ true = ap is_some k.1 in
      let static = static-of (is_some (kind_of s e)) (is_static s.types e) (expr_place e) some m.static in
      let z = raise-free s e some static h.0.ranged in
      (k.0, record { kind = k.1; static = static; value = z.0; worth = z.1 })

  -- and where it must be of a kind it is of that one
  pub of-kind : (k j : ℕ) (e : PExpr) → IsStaticIn s j e → IsMet (site s (must_be_of e (Some k))) → IsStaticIn s k e
  of-kind k j e h m =
      let other : is_other_kind (Some k) (Some j) ≡ false = ap (is_other_kind (Some k)) (sym h.kind) ∙ test-fails (is_other_kind (Some k) (kind_of s e)) (expr_place e) m.matched in
      subst (λ n. IsStaticIn s n e) (sym (eqb-true k j (same-kind k j other))) h

  -- both bounds
  pub bounds-met : (b : PBounds) → AllByRecursion IsMet (bounds_sites true s b) → ((k : ℕ) × IsStaticIn s k b.first) × ((k : ℕ) × IsStaticIn s k b.last) × IsMet (site s (must_not_be_empty b.first b.last))
  bounds-met b h =
      let f = expr_sites s b.first in
      let l = expr_sites s b.last in
      let fs : List Site = site s (must_be_static b.first) ∷ [] in
      let ls : List Site = site s (must_be_static b.last) ∷ [] in
      let order : List Site = site s (must_not_be_empty b.first b.last) ∷ [] in
      let h5 : AllByRecursion IsMet order = all_back IsMet (f ++ fs ++ l ++ ls) order h in
      let h4 : AllByRecursion IsMet (f ++ fs ++ l ++ ls) = all_front IsMet (f ++ fs ++ l ++ ls) order h in
      let h3 : AllByRecursion IsMet (f ++ fs ++ l) = all_front IsMet (f ++ fs ++ l) ls h4 in
      let h2 : AllByRecursion IsMet (f ++ fs) = all_front IsMet (f ++ fs) l h3 in
      let q : AllByRecursion IsMet fs = all_back IsMet f fs h2 in
      let r : AllByRecursion IsMet ls = all_back IsMet (f ++ fs ++ l) ls h4 in
      (met-static b.first (all_front IsMet f fs h2) q.0, met-static b.last (all_back IsMet (f ++ fs) l h3) r.0, h5.0)

  -- static bounds of one kind between which a value lies
  in-order : (k : ℕ) (b : PBounds) (f : IsStaticIn s k b.first) (l : IsStaticIn s k b.last) → IsMet (site s (must_not_be_empty b.first b.last)) → int_le f.value l.value ≡ true
  in-order k b f l m =
      let e : empty_range s b.first b.last (Some k) ≡ [] = ap (empty_range s b.first b.last) (sym f.kind) ∙ m.ranged in
      let below : int_lt l.value f.value ≡ false =
      ap₂ is_below (sym (static-told s k b.last l)) (sym (static-told s k b.first f)) ∙ test-fails (is_below (static_in s k b.last) (static_in s k b.first)) (expr_place b.first) e in
      not-below l.value f.value below

  -- bounds behind a mark of a kind
  pub constraint-met : (k : ℕ) (b : PBounds) → AllByRecursion IsMet (constraint_sites true s (Some k) b) → AreBounds s k b
  constraint-met k b h =
      let ms : List Site = site s (must_be_of b.first (Some k)) ∷ site s (must_be_of b.last (Some k)) ∷ [] in
      let r = bounds-met b (all_front IsMet (bounds_sites true s b) ms h) in
      let q : AllByRecursion IsMet ms = all_back IsMet (bounds_sites true s b) ms h in
      let first = of-kind k r.0.0 b.first r.0.1 q.0 in
      let last = of-kind k r.1.0 b.last r.1.1 q.1.0 in
      (first, last, in-order k b first last r.2)

-- ---- ranges

-- a scalar mark with static bounds of its kind, if it has bounds
pub record HasSubtype (s : Scope) (x : PSubind) : Type 0 where
  pub mark : IsScalarMark s x.mark.name
  pub bounds : IfSome x.bounds (AreBounds s mark.leads.mark.kind)

-- static bounds of one kind
pub record HasBounds (s : Scope) (b : PBounds) : Type 0 where
  pub kind : ℕ
  pub first : IsStaticIn s kind b.first
  pub last : IsStaticIn s kind b.last
  pub order : int_le first.value last.value ≡ true

-- a static range
abbrev pub HasRange : Scope → PDrange → Type 0
HasRange s (RGiven b) = HasBounds s b
HasRange s (RMarked x) = HasSubtype s x

module _ (s : Scope) (clear : IsClear s) where
  pub mark-bounds : (k : Option ℕ) (j : ℕ) (o : Option PBounds) → k ≡ Some j → AllByRecursion IsMet (if_there (constraint_sites true s k) o) → IfSome o (AreBounds s j)
  mark-bounds k j None e h = tt
  mark-bounds k j (Some b) e h = constraint-met s clear j b (subst (λ q. AllByRecursion IsMet (constraint_sites true s q b)) e h)

  pub subind-met : (x : PSubind) → AllByRecursion IsMet (subind_sites true scalar_only s x) → HasSubtype s x
  subind-met x h =
      let known = test-holds (is_some (meaning s x.mark.name)) x.mark.span h.0.known in
      let mark = scalar-mark s clear x.mark.name known (test-holds (is_allowed scalar_only (marking s x.mark.name)) x.mark.span h.0.matched) in
      record { mark = mark; bounds = mark-bounds (scalar_kind (marking s x.mark.name)) mark.leads.mark.kind x.bounds (ap scalar_kind mark.marks) h.1 }

  -- A range of a declaration at which nothing is refused is static.
  pub drange-met : (r : PDrange) → AllByRecursion IsMet (drange_sites true s r) → HasRange s r
  drange-met (RMarked x) h = subind-met x h
  drange-met (RGiven b) h =
      let ms : List Site = site s (must_be_alike b.first b.last) ∷ [] in
      let r = bounds-met s clear b (all_front IsMet (bounds_sites true s b) ms h) in
      let qs : AllByRecursion IsMet ms = all_back IsMet (bounds_sites true s b) ms h in
      let q = qs.0 in
      let other : is_other_kind (Some r.0.0) (Some r.1.0) ≡ false =
      ap₂ is_other_kind (sym r.0.1.kind) (sym r.1.1.kind) ∙ test-fails (is_other_kind (kind_of s b.first) (kind_of s b.last)) (expr_place b.last) q.matched in
      let last = subst (λ n. IsStaticIn s n b.last) (sym (eqb-true r.0.0 r.1.0 (same-kind r.0.0 r.1.0 other))) r.1.1 in
      record { kind = r.0.0; first = r.0.1; last = last; order = in-order s clear r.0.0 b r.0.1 last r.2 }
