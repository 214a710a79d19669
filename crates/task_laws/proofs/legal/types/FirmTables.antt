-- Tables whose bounds and constants are values of their kinds, and how they stay so where a declaration adds to them.
use Rattle.std.proofs.Common.{int_le, ◌≡◌, ℕ, ℤ, pos, true, if◌then◌else◌, List, [], ◌∷◌, ◌++◌, length, IfSome, slice_get, option_map, Option, Some, None, refl, sym, ap, ap₂, ◌∙◌, subst, ⊎_elim}
use Rattle.std.specs.List.{AllByRecursion}
use Rattle.std.proofs.lemmas.Option.{none-some}
use Rattle.std.proofs.lemmas.List.Elements.{All-from_recursion}
use Rattle.ada_tree.specs.declared.naming.NameId.{NameId}
use Rattle.ada_tree.specs.declared.naming.Word.{Word}
use Rattle.ada_tree.specs.declared.static_types.Kind.{Kind}
use Rattle.ada_tree.specs.declared.static_types.Kind.TheVariants.{Integer, Truth, Enumeration, Array}
use Rattle.ada_tree.specs.declared.static_types.Mark.{Mark}
use Rattle.ada_tree.specs.declared.static_types.Constant.{Constant}
use Rattle.ada_tree.specs.TypeTable.{TypeTable}
use Rattle.ada_tree.specs.PlainExpr.{PExpr, PBounds, PSubind, PDrange, RGiven, RMarked}
use Rattle.ada_tree.specs.Every.{EveryExpr, EveryBounds, EverySubind, EveryDrange}
use Rattle.ada_tree.specs.WellPlaced.{well_placed}
use Rattle.ada_static_rules.specs.Scope.{Scope, integer_kind, truth_kind, Range, kind_at, mark_at, ScalarMark, scalar_kind}
use Rattle.ada_static_rules.specs.StaticValue.{is_integer_value, is_named, mark_named}
use Rattle.ada_static_rules.specs.ExprTypes.{range_between, static_range}
use Rattle.ada_static_rules.specs.Declaring.{add_mark, add_kind, mark_for, constants_for, Made, made, made_range, subind_made, made_subind, given_range, marked_range, drange_range, made_array}
use Rattle.ada_value.specs.Values.{position_of, value_at, value_in, limits_or}
use Rattle.ada_value.specs.declared.values.Value.TheVariants.{Number}
use Rattle.ada_value.specs.StaticLaw.{HasValueAt, HasFewLiterals}
use Rattle.task_laws.specs.legal.rewritten_types.Agreement.{scalar_only, HasKind, IsScalar, Grows, Sound, WholeTable}
use Rattle.task_laws.proofs.legal.rewritten_types.Lookups.{place-all, find-only, earlier-or-last}
use Rattle.task_laws.proofs.legal.rewritten_types.Keeping.{grows-self, grows-on, grows-mark, grows-kind}
use Rattle.task_laws.specs.legal.types.Typed.{IsSmall, IsSmallKind, HasLiteral, HasPosition}
use Rattle.task_laws.proofs.legal.types.ExprKinds.{LeadsOn, IsScalarMark}
use Rattle.task_laws.proofs.legal.types.StaticParts.{IsStaticIn, AreBounds, static-told, HasSubtype, HasRange}
use Rattle.task_laws.proofs.legal.types.TypedValues.{IsPlaced, IsTyped, IsOver, mark-of}
use Rattle.task_laws.proofs.legal.types.StaticWorth.{worth-value, worth, small-literals}
use Rattle.common_lemmas.proofs.Lists.{all_by_place, all_joined, all_weaker, last_at}
use Rattle.common_lemmas.proofs.Options.{some_same}

-- ---- one table

-- a mark has a kind, and its bounds are values of it
pub record IsFirmMark (T : TypeTable) (m : Mark) : Type 0 where
  pub has : HasKind T m.kind
  pub first : HasPosition T m.kind m.first
  pub last : HasPosition T m.kind m.last
  pub order : int_le m.first m.last ≡ true

-- a constant has a mark, and a value of its kind
pub record IsFirmConstant (T : TypeTable) (c : Constant) : Type 0 where
  pub mark : Mark
  pub there : mark_at T c.mark ≡ Some mark
  pub has : HasKind T mark.kind
  pub value : HasPosition T mark.kind c.value

-- INTEGER and BOOLEAN stand at their places alone
abbrev pub IsAlone : ℕ → Kind → Type 0
IsAlone k Integer = k ≡ integer_kind
IsAlone k Truth = k ≡ truth_kind
IsAlone k (Enumeration names) = Unit {0}
IsAlone k (Array index first last part) = Unit {0}

-- The bounds and constants of the table are values of their kinds.
pub record IsFirm (T : TypeTable) : Type 0 where
  pub marks : AllByRecursion (IsFirmMark T) T.marks
  pub constants : AllByRecursion (IsFirmConstant T) T.constants
  pub alone : (k : ℕ) (x : Kind) → kind_at T k ≡ Some x → IsAlone k x

pub small-before : (T U : TypeTable) → Grows T U → IsSmall U → IsSmall T
small-before T U g h = record { kinds = λ k x e. h.kinds k x (g.kind k x e) }

few-kind : (k : ℕ) (x : Kind) → IsSmallKind k x → HasFewLiterals x
few-kind k Integer h = tt
few-kind k Truth h = tt
few-kind k (Enumeration names) h = h.0
few-kind k (Array index first last part) h = tt

placed-kind : (k : ℕ) (x : Kind) → IsAlone k x → IsSmallKind k x → IsPlaced k x
placed-kind k Integer a h = a
placed-kind k Truth a h = a
placed-kind k (Enumeration names) a h = h.1
placed-kind k (Array index first last part) a h = tt

firm-constant : (T : TypeTable) (c : Constant) → IsFirmConstant T c → HasPosition T (limits_or (mark_at T c.mark)).kind c.value
firm-constant T c h = subst (λ o. HasPosition T (limits_or o).kind c.value) (sym h.there) h.value

has-value : (T : TypeTable) (k : ℕ) (z : ℤ) → HasPosition T k z → HasValueAt T k z
has-value T k z h = record { fits = h.fits; same = h.same }

pub typed-from : (T : TypeTable) → WholeTable T → Sound T → IsFirm T → IsSmall T → IsTyped T
typed-from T whole root firm small = record {
  whole = whole;
  root = root;
  sound = record {
    kinds = All-from_recursion HasFewLiterals T.kinds (all_by_place HasFewLiterals T.kinds (λ k x e. few-kind k x (small.kinds k x e)));
    firsts = All-from_recursion _ T.marks (all_weaker (IsFirmMark T) (λ m. HasValueAt T m.kind m.first) T.marks (λ m h. has-value T m.kind m.first h.first) firm.marks);
    lasts = All-from_recursion _ T.marks (all_weaker (IsFirmMark T) (λ m. HasValueAt T m.kind m.last) T.marks (λ m h. has-value T m.kind m.last h.last) firm.marks);
    constants = All-from_recursion _ T.constants
        (all_weaker (IsFirmConstant T) (λ c. HasValueAt T (limits_or (mark_at T c.mark)).kind c.value) T.constants (λ c h. has-value T (limits_or (mark_at T c.mark)).kind c.value (firm-constant T c h)) firm.constants);
  };
  places = λ k x e. placed-kind k x (firm.alone k x e) (small.kinds k x e);
  firsts = all_weaker (IsFirmMark T) (λ m. HasPosition T m.kind m.first) T.marks (λ m h. h.first) firm.marks;
  lasts = all_weaker (IsFirmMark T) (λ m. HasPosition T m.kind m.last) T.marks (λ m h. h.last) firm.marks;
  constants = all_weaker (IsFirmConstant T) (λ c. HasPosition T (limits_or (mark_at T c.mark)).kind c.value) T.constants (firm-constant T) firm.constants;
  orders = all_weaker (IsFirmMark T) (λ m. int_le m.first m.last ≡ true) T.marks (λ m h. h.order) firm.marks;
}

-- ---- more entries

pub scalar-kind : (o : Option Kind) (x : Kind) → scalar_only o ≡ Some x → o ≡ Some x
scalar-kind (Some Integer) x e = e
scalar-kind (Some Truth) x e = e
scalar-kind (Some (Enumeration names)) x e = e
scalar-kind (Some (Array index first last part)) x e = absurd (none-some x e)
scalar-kind None x e = absurd (none-some x e)

-- a kind of values is a kind
pub scalar-has : (T : TypeTable) (k : ℕ) → IsScalar T k → HasKind T k
scalar-has T k h = (h.0, scalar-kind (kind_at T k) h.0 h.1)

module _ (T U : TypeTable) (g : Grows T U) where
  pub has-grown : (k : ℕ) → HasKind T k → HasKind U k
  has-grown k h = (h.0, g.kind k h.0 h.1)

  kind-same : (k : ℕ) → HasKind T k → kind_at T k ≡ kind_at U k
  kind-same k h = h.1 ∙ sym (g.kind k h.0 h.1)

  pub scalar-grown : (k : ℕ) → IsScalar T k → IsScalar U k
  scalar-grown k h = (h.0, ap scalar_only (sym (kind-same k (scalar-has T k h))) ∙ h.1)

  pub value-grown : (k : ℕ) (z : ℤ) → HasKind T k → HasPosition T k z → HasPosition U k z
  value-grown k z has h = record {
    fits = h.fits;
    same = ap (λ o. position_of (value_in k o z)) (sym (kind-same k has)) ∙ h.same;
    literal = subst (λ o. HasLiteral o z) (kind-same k has) h.literal;
  }

  mark-grown : (m : Mark) → IsFirmMark T m → IsFirmMark U m
  mark-grown m h = record { has = has-grown m.kind h.has; first = value-grown m.kind m.first h.has h.first; last = value-grown m.kind m.last h.has h.last; order = h.order }

  constant-grown : (c : Constant) → IsFirmConstant T c → IsFirmConstant U c
  constant-grown c h = record { mark = h.mark; there = g.mark c.mark h.mark h.there; has = has-grown h.mark.kind h.has; value = value-grown h.mark.kind c.value h.has h.value }

  pub leads-grown : (m : ℕ) → LeadsOn T m → LeadsOn U m
  leads-grown m h = record { mark = h.mark; there = g.mark m h.mark h.there; kind = h.kind; known = g.kind h.mark.kind h.kind h.known }

pub firm-mark : (T : TypeTable) (m : Mark) → IsFirm T → IsFirmMark T m → IsFirm (add_mark T m)
firm-mark T m firm h =
    let U = add_mark T m in
    let g = grows-mark T m in
    record {
      marks = all_joined (IsFirmMark U) T.marks (m ∷ []) (all_weaker (IsFirmMark T) (IsFirmMark U) T.marks (mark-grown T U g) firm.marks) (mark-grown T U g m h, tt);
      constants = all_weaker (IsFirmConstant T) (IsFirmConstant U) T.constants (constant-grown T U g) firm.constants;
      alone = firm.alone;
    }

pub firm-kind : (T : TypeTable) (x : Kind) → IsFirm T → IsAlone (length T.kinds) x → IsFirm (add_kind T x)
firm-kind T x firm a =
    let U = add_kind T x in
    let g = grows-kind T x in
    record {
      marks = all_weaker (IsFirmMark T) (IsFirmMark U) T.marks (mark-grown T U g) firm.marks;
      constants = all_weaker (IsFirmConstant T) (IsFirmConstant U) T.constants (constant-grown T U g) firm.constants;
      alone = λ k y e. ⊎_elim
          (λ same. firm.alone k y (sym same ∙ e))
          (λ last. subst (IsAlone k) (some_same (sym (last_at T.kinds x) ∙ ap (slice_get (T.kinds ++ x ∷ [])) (sym last) ∙ e)) (subst (λ n. IsAlone n x) (sym last) a))
          (earlier-or-last T.kinds x k);
    }

constants-firm : (T : TypeTable) (names : List Word) (m : ℕ) (z : ℤ) (x : Mark) → mark_at T m ≡ Some x → HasKind T x.kind → HasPosition T x.kind z → AllByRecursion (IsFirmConstant T) (constants_for names m z)
constants-firm T [] m z x e h v = tt
constants-firm T (w ∷ ws) m z x e h v = (record { mark = x; there = e; has = h; value = v }, constants-firm T ws m z x e h v)

pub firm-constants : (T : TypeTable) (names : List Word) (m : ℕ) (z : ℤ) (x : Mark) → IsFirm T → mark_at T m ≡ Some x → HasKind T x.kind → HasPosition T x.kind z →
    IsFirm (record T { constants = T.constants ++ constants_for names m z })
firm-constants T names m z x firm e h v =
    let U : TypeTable = record T { constants = T.constants ++ constants_for names m z } in
    let g : Grows T U = record { kind = λ k y f. f; mark = λ k y f. f } in
    record {
      marks = all_weaker (IsFirmMark T) (IsFirmMark U) T.marks (mark-grown T U g) firm.marks;
      constants = all_joined (IsFirmConstant U) T.constants (constants_for names m z) (all_weaker (IsFirmConstant T) (IsFirmConstant U) T.constants (constant-grown T U g) firm.constants)
          (all_weaker (IsFirmConstant T) (IsFirmConstant U) (constants_for names m z) (constant-grown T U g) (constants-firm T names m z x e h v));
      alone = firm.alone;
    }

-- ---- ranges and marks that are made

-- a mark that is made of a scope, with all that is added to the table for it
pub record HasMade (s : Scope) (d : Made) : Type 0 where
  pub place : ℕ
  pub made : d.mark ≡ Some place
  pub leads : LeadsOn d.types place
  pub grows : Grows s.types d.types
  pub firm : IsFirm d.types
  pub constants : d.types.constants ≡ s.types.constants

-- a static range, of values of its kind
pub record HasDrange (s : Scope) (r : PDrange) : Type 0 where
  pub range : Range
  pub known : drange_range s r ≡ Some range
  pub scalar : IsScalar s.types range.kind
  pub first : HasPosition s.types range.kind range.first
  pub last : HasPosition s.types range.kind range.last
  pub order : int_le range.first range.last ≡ true

module _ (s : Scope) (firm : IsFirm s.types) (typed : IsTyped s.types) (over : IsOver s.types s) where
  -- the value of a static expression
  value-static : (names : List (List ℕ)) (j k : ℕ) (e : PExpr) → EveryExpr (well_placed names) j e → (h : IsStaticIn s k e) → HasPosition s.types k h.value
  value-static names j k e every h = worth-value s.types k e h.value (worth s.types s typed over k e (small-literals names j e every) h)

  -- a range of static bounds
  pub range-static : (k : ℕ) (b : PBounds) (f : IsStaticIn s k b.first) (l : IsStaticIn s k b.last) → static_range s k b ≡ Some record { kind = k; first = f.value; last = l.value }
  range-static k b f l = ap₂ (range_between k) (static-told s k b.first f) (static-told s k b.last l)

  scalar-mark-of : (id : NameId) (h : IsScalarMark s id) → IsScalar s.types h.leads.mark.kind
  scalar-mark-of id h = (mark-of s.types s typed over id h.leads.mark.kind (ap scalar_kind h.marks)).scalar

  firm-leads : (m : ℕ) (h : LeadsOn s.types m) → IsFirmMark s.types h.mark
  firm-leads m h = place-all (IsFirmMark s.types) s.types.marks m h.mark firm.marks h.there

  new-mark : (k : ℕ) (f l : ℤ) → IsScalar s.types k → HasPosition s.types k f → HasPosition s.types k l → int_le f l ≡ true → HasMade s (made s.types (mark_for None record { kind = k; first = f; last = l }))
  new-mark k f l scalar first last order =
      let m = mark_for None record { kind = k; first = f; last = l } in
      let has = scalar-has s.types k scalar in
      record {
        place = length s.types.marks;
        made = refl;
        leads = record { mark = m; there = last_at s.types.marks m; kind = has.0; known = has.1 };
        grows = grows-mark s.types m;
        firm = firm-mark s.types m firm (record { has = has; first = first; last = last; order = order });
        constants = refl;
      }

  pub subind-made : (names : List (List ℕ)) (x : PSubind) → EverySubind (well_placed names) 2 x → HasSubtype s x → HasMade s (made_subind s x)
  subind-made names x every h =
      subst (λ m. HasMade s (subind_made s m x.bounds)) (sym h.mark.marks) (by_bounds x.bounds every.1 h.bounds)
    where
      k : ℕ
      k = h.mark.leads.mark.kind

      by_bounds : (o : Option PBounds) → IfSome o (EveryBounds (well_placed names) 2) → IfSome o (AreBounds s k) → HasMade s (subind_made s (ScalarMark h.mark.place k) o)
      by_bounds None e b = record { place = h.mark.place; made = refl; leads = h.mark.leads; grows = grows-self s.types; firm = firm; constants = refl }
      by_bounds (Some b) e q =
          subst (λ o. HasMade s (made_range s.types o)) (sym (range-static k b q.0 q.1))
          (new-mark k q.0.value q.1.value (scalar-mark-of x.mark.name h.mark) (value-static names 2 k b.first e.1 q.0) (value-static names 2 k b.last e.2 q.1) q.2)

  pub drange-made : (names : List (List ℕ)) (r : PDrange) → EveryDrange (well_placed names) 2 r → HasRange s r → HasDrange s r
  drange-made names (RGiven b) every h =
      record {
        range = record { kind = h.kind; first = h.first.value; last = h.last.value };
        known = ap (λ o. given_range s o b) h.first.kind ∙ range-static h.kind b h.first h.last;
        scalar = (worth s.types s typed over h.kind b.first (small-literals names 2 b.first every.1) h.first).kind.scalar;
        first = value-static names 2 h.kind b.first every.1 h.first;
        last = value-static names 2 h.kind b.last every.2 h.last;
        order = h.order;
      }
  drange-made names (RMarked x) every h = by_bounds x.bounds refl every.1 h.bounds
    where
      k : ℕ
      k = h.mark.leads.mark.kind

      by_bounds : (o : Option PBounds) → x.bounds ≡ o → IfSome o (EveryBounds (well_placed names) 2) → IfSome o (AreBounds s k) → HasDrange s (RMarked x)
      by_bounds None p e b =
          let m = h.mark.leads.mark in
          let f = firm-leads h.mark.place h.mark.leads in
          record {
            range = record { kind = k; first = m.first; last = m.last };
            known = ap₂ (marked_range s) h.mark.marks p ∙ ap (λ o. option_map (λ (y : Mark). record { kind = y.kind; first = y.first; last = y.last }) o) h.mark.leads.there;
            scalar = scalar-mark-of x.mark.name h.mark;
            first = f.first;
            last = f.last;
            order = f.order;
          }
      by_bounds (Some b) p e q =
          record {
            range = record { kind = k; first = q.0.value; last = q.1.value };
            known = ap₂ (marked_range s) h.mark.marks p ∙ range-static k b q.0 q.1;
            scalar = scalar-mark-of x.mark.name h.mark;
            first = value-static names 2 k b.first e.1 q.0;
            last = value-static names 2 k b.last e.2 q.1;
            order = q.2;
          }

-- a mark that is made for a name
pub record HasNamed (s : Scope) (name : NameId) (d : Made) : Type 0 where
  pub made : HasMade s d
  pub named : mark_named d.types name ≡ mark_at d.types made.place

-- the last mark is found where it has the name and none before it has
pub last-named : (T : TypeTable) (m : Mark) (id : NameId) → is_named id m.name ≡ true → mark_named T id ≡ None → mark_named (add_mark T m) id ≡ mark_at (add_mark T m) (length T.marks)
last-named T m id e n = find-only (λ (x : Mark). is_named id x.name) T.marks m n e ∙ sym (last_at T.marks m)

-- an array of a static range, with its mark
pub array-made : (s : Scope) (name : Option NameId) (d : Made) (r : PDrange) → HasMade s d → HasDrange s r →
    (P : Made → Type 0) → ((x : Kind) (m : Mark) → m.name ≡ name → HasMade s (made (add_kind d.types x) m) → P (made (add_kind d.types x) m)) → P (made_array name d.types (drange_range s r) d.mark)
array-made s name d r h q P holds =
    subst (λ o. P (made_array name d.types o d.mark)) (sym q.known)
    (subst (λ o. P (made_array name d.types (Some q.range) o)) (sym h.made) (holds x m refl both))
  where
    x : Kind
    x = Array q.range.kind q.range.first q.range.last h.place

    V : TypeTable
    V = add_kind d.types x

    m : Mark
    m = record { name = name; kind = length d.types.kinds; first = q.range.first; last = q.range.last }

    there : kind_at V (length d.types.kinds) ≡ Some x
    there = last_at d.types.kinds x

    number-same : (z : ℤ) → is_integer_value z ≡ true → position_of (value_at V (length d.types.kinds) z) ≡ z
    number-same z e = ap (λ o. position_of (value_in (length d.types.kinds) o z)) there ∙ ap (λ b. position_of (if b then Number z else Number (pos 0))) e

    index-position : (z : ℤ) → is_integer_value z ≡ true → HasPosition V (length d.types.kinds) z
    index-position z e = record { fits = e; same = number-same z e; literal = subst (λ o. HasLiteral o z) (sym there) tt }

    both : HasMade s (made V m)
    both = record {
      place = length d.types.marks;
      made = refl;
      leads = record { mark = m; there = last_at V.marks m; kind = x; known = there };
      grows = grows-on h.grows (grows-on (grows-kind d.types x) (grows-mark V m));
      firm = firm-mark V m (firm-kind d.types x h.firm tt) (record {
        has = (x, there);
        first = index-position q.range.first q.first.fits;
        last = index-position q.range.last q.last.fits;
        order = q.order;
      });
      constants = h.constants;
    }

-- an array of no name
pub array-unnamed : (s : Scope) (d : Made) (r : PDrange) → HasMade s d → HasDrange s r → HasMade s (made_array None d.types (drange_range s r) d.mark)
array-unnamed s d r h q = array-made s None d r h q (HasMade s) (λ x m e both. both)
