-- The literal of an index of a member is static, of the index's kind and worth the index.
use Rattle.std.proofs.Common.{◌≡◌, ℕ, zero, suc, ◌==◌, ℤ, pos, negsuc, unsigned_abs, int_le, Bool, true, false, not, if◌then◌else◌, List, [], ◌∷◌, ◌++◌, slice_get, unwrap_or, Option, Some, None, is_some, Ok, Err, refl, sym, ap, subst, ◌∙◌, true≢false, eqb-true, arith}
use Rattle.std.specs.Ordering.{int_eq}
use Rattle.std.proofs.lemmas.Int.{ints}
use Rattle.common_lemmas.proofs.Truth.{and_both}
use Rattle.ada_tree.specs.declared.naming.NameId.{NameId}
use Rattle.ada_tree.specs.declared.naming.Span.{Span}
use Rattle.ada_tree.specs.declared.expressions.UnaryOp.TheVariants as unary
use Rattle.ada_tree.specs.declared.static_types.Kind.{Kind}
use Rattle.ada_tree.specs.declared.static_types.Kind.TheVariants as kind
use Rattle.ada_tree.specs.TypeTable.{TypeTable}
use Rattle.ada_tree.specs.Attributes.{First, false_name, true_name}
use Rattle.ada_tree.specs.PlainExpr.{PExpr, EInteger, EName, EAttribute, EUnary, PDrange}
use Rattle.ada_static_rules.specs.Scope.{Scope, ScalarMark, integer_kind, truth_kind, and_then, kind_at, marking, marking_of, marking_of_mark, marking_of_kind, scalar_kind, reading_of}
use Rattle.ada_static_rules.specs.ExprTypes.{name_kind, bound_kind}
use Rattle.ada_static_rules.specs.StaticValue.{is_integer_value, bound_of, named}
use Rattle.ada_static_rules.specs.Demand.{scalar_only}
use Rattle.ada_static_rules.specs.Sites.{expr_sites}
use Rattle.ada_static_rules.specs.RuleMismatch.{no_value, is_allowed}
use Rattle.ada_static_rules.specs.RuleRangeBad.{raised}
use Rattle.ada_static_rules.specs.RuleReadOut.{out_formal}
use Rattle.ada_static_rules.specs.RuleArrayUse.{whole_array}
use Rattle.ada_value.specs.declared.values.Value.TheVariants.{Truth}
use Rattle.ada_value.specs.Values.{lies_in, position_of, value_in}
use Rattle.task_laws.specs.legal.rewritten_types.Agreement as types
use Rattle.task_laws.specs.legal.types.Typed.{HasPosition, HasLimits}
use Rattle.task_laws.proofs.legal.types.StaticParts.{IsStaticIn}
use Rattle.task_laws.specs.legal.literals.Literals.{HasLiteralAt, HasIndexLiterals}
use Rattle.normal_model.specs.Ranges.{word_at}
use Rattle.normal_model.specs.Members.{integer_literal, literal_in}
use Rattle.normal_laws.specs.structure.typed.ScopeOf.{HasKnownKinds, IsLiteralOf, MeansLiteral, MeansInteger}
use Rattle.normal_laws.proofs.structure.typed.Places.{met-whole, met-node}
use Rattle.normal_laws.proofs.structure.typed.Variables.{AllMetBut}

-- an expression is met, static, of a kind and worth a number
pub record IsFixedAt (d : Scope) (k : ℕ) (e : PExpr) (z : ℤ) : Type 0 where
  pub static : IsStaticIn d k e
  pub value : static.value ≡ z
  pub met : AllMetBut (expr_sites d e)

-- ---- names

pub name-fixed : (d : Scope) (id : NameId) (k : ℕ) (z : ℤ) (s : Span) → MeansLiteral d id k z → IsFixedAt d k (EName id s) z
name-fixed d id k z s h = record {
  static = record { kind = ap (λ o. name_kind (reading_of d.types o)) h.0; static = ap is_some h.1; value = z; worth = ap named h.1 };
  value = refl;
  met = (
    met-whole d (EName id s) refl,
    (
      met-node d false (EName id s) record {
        known = ap (λ o. if is_some o then [] else s ∷ []) h.0;
        matched = ap (λ o. no_value (reading_of d.types o) s) h.0;
        readable = ap (λ o. out_formal o s) h.0;
        counted = refl;
        arrays = ap (λ o. whole_array (reading_of d.types o) s) h.0;
        texts = refl;
      },
      tt,
    ),
  );
}

-- ---- numbers

scalar-marked : (m k : ℕ) (o : Option Kind) (x : Kind) → types.scalar_only o ≡ Some x → marking_of_kind m k o ≡ ScalarMark m k
scalar-marked m k (Some kind.Integer) x h = refl
scalar-marked m k (Some kind.Truth) x h = refl
scalar-marked m k (Some (kind.Enumeration names)) x h = refl
scalar-marked m k (Some (kind.Array index first last part)) x h = cc
scalar-marked m k None x h = cc

module _ (d : Scope) (int : MeansInteger d) where
  pub integer-marked : marking d (record { 0 = 0 }) ≡ ScalarMark int.place integer_kind
  integer-marked =
      ap (marking_of d.types) int.means ∙ ap (marking_of_mark d.types int.place) int.there
      ∙ scalar-marked int.place int.mark.kind (kind_at d.types int.mark.kind) int.scalar.0 int.scalar.1 ∙ ap (ScalarMark int.place) int.kind

  abbrev least : Span → PExpr
  least s = EAttribute (word_at s record { 0 = 0 }) (word_at s record { 0 = 18 }) s

  least-fixed : (s : Span) → IsFixedAt d integer_kind (least s) (negsuc 2147483647)
  least-fixed s = record {
    static = record {
      kind = ap (λ m. and_then (bound_kind First) (scalar_kind m)) integer-marked;
      static = ap is_some int.named;
      value = negsuc 2147483647;
      worth = ap (λ o. Ok (bound_of First o)) int.named ∙ ap Ok int.first;
    };
    value = refl;
    met = (
      met-whole d (least s) refl,
      (
        met-node d false (least s) record {
          known = ap (λ o. (if is_some o then [] else s ∷ []) ++ []) int.means;
          matched = ap (λ m. if is_allowed scalar_only m then [] else s ∷ []) integer-marked;
          readable = refl;
          counted = refl;
          arrays = refl;
          texts = refl;
        },
        tt,
      ),
    );
  }

  fitted-ok : (z : ℤ) (s : Span) → is_integer_value z ≡ true → (if is_integer_value z then Ok z else Err s) ≡ Ok z
  fitted-ok z s h = ap (λ b. if b then Ok z else Err s) h

  negative-fixed : (n : ℕ) (s : Span) → is_integer_value (negsuc n) ≡ true → IsFixedAt d integer_kind (EUnary unary.Minus (EInteger (suc n) s) s) (negsuc n)
  negative-fixed n s h = record {
    static = record { kind = refl; static = refl; value = negsuc n; worth = fitted-ok (negsuc n) s h };
    value = refl;
    met = (
      met-whole d (EUnary unary.Minus (EInteger (suc n) s) s) (ap raised (fitted-ok (negsuc n) s h)),
      (
        met-node d false (EUnary unary.Minus (EInteger (suc n) s) s) record { known = refl; matched = refl; readable = refl; counted = refl; arrays = refl; texts = refl },
        (met-node d false (EInteger (suc n) s) record { known = refl; matched = refl; readable = refl; counted = refl; arrays = refl; texts = refl }, tt),
      ),
    );
  }

  pub plain-fixed : (n : ℕ) (s : Span) → IsFixedAt d integer_kind (EInteger n s) (pos n)
  plain-fixed n s = record {
    static = record { kind = refl; static = refl; value = pos n; worth = refl };
    value = refl;
    met = (
      met-whole d (EInteger n s) refl,
      (met-node d false (EInteger n s) record { known = refl; matched = refl; readable = refl; counted = refl; arrays = refl; texts = refl }, tt),
    );
  }

  pub number-fixed : (z : ℤ) (s : Span) → is_integer_value z ≡ true → IsFixedAt d integer_kind (integer_literal s z) z
  number-fixed (pos n) s h = plain-fixed n s
  number-fixed (negsuc n) s h = by_test (n == 2147483647) refl
    where
      by_test : (b : Bool) → (n == 2147483647) ≡ b → IsFixedAt d integer_kind (if b then least s else EUnary unary.Minus (EInteger (suc n) s) s) (negsuc n)
      by_test true e = subst (λ m. IsFixedAt d integer_kind (least s) (negsuc m)) (sym (eqb-true n 2147483647 e)) (least-fixed s)
      by_test false e = negative-fixed n s h

-- ---- truth values

two-large : (n : ℕ) → int_le (pos (suc (suc n))) (pos 1) ≡ true → ⊥
two-large n h = grind (arith, ints)

truth-position : (k : ℕ) (z : ℤ) → position_of (value_in k (Some kind.Truth) z) ≡ z → (int_le (pos 0) z ≡ true) × (int_le z (pos 1) ≡ true)
truth-position k z e = by_test (int_eq z (pos 0)) e
  where
    by_test : (c : Bool) → position_of (Truth (not c)) ≡ z → (int_le (pos 0) z ≡ true) × (int_le z (pos 1) ≡ true)
    by_test true q = subst (λ y. (int_le (pos 0) y ≡ true) × (int_le y (pos 1) ≡ true)) q (refl, refl)
    by_test false q = subst (λ y. (int_le (pos 0) y ≡ true) × (int_le y (pos 1) ≡ true)) q (refl, refl)

at-least : (a c d : ℤ) → int_le a c ≡ true → int_le c d ≡ true → int_le a d ≡ true
at-least a c d e f = grind (arith, ints)

pub within-values : (f l z : ℤ) → is_integer_value f ≡ true → is_integer_value l ≡ true → int_le f z ≡ true → int_le z l ≡ true → is_integer_value z ≡ true
within-values f l z a c d e = grind (arith, ints)

-- ---- all kinds

module _ (T : TypeTable) (known : HasKnownKinds T) (d : Scope) (int : MeansInteger d)
    (falses : MeansLiteral d (record { 0 = false_name }) truth_kind (pos 0)) (trues : MeansLiteral d (record { 0 = true_name }) truth_kind (pos 1))
    (literals : (id : NameId) (k n : ℕ) → IsLiteralOf T id k n → MeansLiteral d id k (pos n)) where
  truth-fixed : (z : ℤ) (s : Span) → int_le (pos 0) z ≡ true → int_le z (pos 1) ≡ true → IsFixedAt d truth_kind (EName record { 0 = if int_eq z (pos 0) then false_name else true_name } s) z
  truth-fixed (pos zero) s low high = name-fixed d record { 0 = false_name } truth_kind (pos 0) s falses
  truth-fixed (pos (suc zero)) s low high = name-fixed d record { 0 = true_name } truth_kind (pos 1) s trues
  truth-fixed (pos (suc (suc n))) s low high = absurd (two-large n high)
  truth-fixed (negsuc n) s low high = absurd (true≢false (sym low))

  pub index-fixed : (r : PDrange) (h : HasLimits T r) → HasIndexLiterals T r → (s : Span) (z : ℤ) → lies_in h.limits z ≡ true → IsFixedAt d h.limits.kind (literal_in (kind_at T h.limits.kind) s z) z
  index-fixed r h indices s z here = by_kind (kind_at T k) refl
    where
      k : ℕ
      k = h.limits.kind

      f : ℤ
      f = h.limits.first

      l : ℤ
      l = h.limits.last

      low : int_le f z ≡ true
      low = (and_both (int_le f z) (int_le z l) here).0

      high : int_le z l ≡ true
      high = (and_both (int_le f z) (int_le z l) here).1

      position : (o : Option Kind) (y : ℤ) → kind_at T k ≡ o → HasPosition T k y → position_of (value_in k o y) ≡ y
      position o y e q = ap (λ x. position_of (value_in k x y)) (sym e) ∙ q.same

      at-literal : (ids : List NameId) → kind_at T k ≡ Some (kind.Enumeration ids) → HasLiteralAt T k ids z → IsFixedAt d k (EName (unwrap_or (slice_get ids (unsigned_abs z)) (record { 0 = 0 })) s) z
      at-literal ids e q =
          subst (λ y. IsFixedAt d k (EName (unwrap_or (slice_get ids (unsigned_abs y)) (record { 0 = 0 })) s) y) (sym q.position)
          (subst (λ o. IsFixedAt d k (EName (unwrap_or o (record { 0 = 0 })) s) (pos q.place)) (sym q.there)
          (name-fixed d q.id k (pos q.place) s (literals q.id k q.place record { ids = ids; there = e; at = q.there; value = q.stands.static })))

      never : (o : Option Kind) (x : Kind) → kind_at T k ≡ o → types.scalar_only o ≡ None → ⊥
      never o x e n = let q : types.scalar_only (kind_at T k) ≡ Some h.scalar.0 = h.scalar.1 in cc

      by_kind : (o : Option Kind) → kind_at T k ≡ o → IsFixedAt d k (literal_in o s z) z
      by_kind None e = absurd (never None kind.Integer e refl)
      by_kind (Some (kind.Array index first last part)) e = absurd (never (Some (kind.Array index first last part)) kind.Integer e refl)
      by_kind (Some kind.Integer) e =
          subst (λ n. IsFixedAt d n (integer_literal s z) z) (sym (known.integers k e)) (number-fixed d int z s (within-values f l z h.first.fits h.last.fits low high))
      by_kind (Some kind.Truth) e =
          let x = truth-position k f (position (Some kind.Truth) f e h.first) in
          let y = truth-position k l (position (Some kind.Truth) l e h.last) in
          subst (λ n. IsFixedAt d n (literal_in (Some kind.Truth) s z) z) (sym (known.truths k e)) (truth-fixed z s (at-least (pos 0) f z x.0 low) (at-least z l (pos 1) high y.1))
      by_kind (Some (kind.Enumeration ids)) e = at-literal ids e (indices h.limits h.range ids e z here)
