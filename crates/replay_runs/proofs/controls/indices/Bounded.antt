-- Whatever a legal program evaluates without variables is worth a value whose position is a number of INTEGER.
use Rattle.std.proofs.Common.{◌≡◌, ℕ, suc, ℤ, pos, negsuc, ◌<◌, ◌≤◌, ◌==◌, ◌+ℤ◌, ◌-ℤ◌, ◌*ℤ◌, int_le, int_lt, int_div, int_rem, nat_le, nat_lt, neg_ℤ, Bool, true, false, not, ◌&&◌, ◌||◌, cond, if◌then◌else◌, List, [], ◌∷◌, length, option_map, slice_get, Option, Some, None, unwrap_or, Result, Ok, Err, refl, sym, ◌∙◌, subst, arith}
use Rattle.std.specs.Ordering.{int_eq}
use Rattle.std.specs.List.{position_or_len}
use Rattle.std.proofs.lemmas.Bool.{le-leb, ltb-true}
use Rattle.std.proofs.lemmas.Int.{ints}
use Rattle.std.proofs.lemmas.Option.{none-some}
use Rattle.common_lemmas.proofs.Options.{some_same}
use Rattle.common_lemmas.proofs.Truth.{and_left, and_right, clash}
use Rattle.ada_tree.specs.declared.naming.NameId.{NameId}
use Rattle.ada_tree.specs.declared.expressions.UnaryOp.{UnaryOp}
use Rattle.ada_tree.specs.declared.expressions.UnaryOp.TheVariants as unary
use Rattle.ada_tree.specs.declared.expressions.BinaryOp.{BinaryOp}
use Rattle.ada_tree.specs.declared.expressions.BinaryOp.TheVariants.{And, Or, Xor, AndThen, OrElse, Equal, NotEqual, Less, LessEqual, Greater, GreaterEqual, Plus, Minus, Times, Divide, Mod, Rem}
use Rattle.ada_tree.specs.declared.static_types.Kind.{Kind}
use Rattle.ada_tree.specs.declared.static_types.Kind.TheVariants as kind
use Rattle.ada_tree.specs.declared.static_types.Mark.{Mark}
use Rattle.ada_tree.specs.declared.static_types.Constant.{Constant}
use Rattle.ada_tree.specs.TypeTable.{TypeTable}
use Rattle.ada_tree.specs.PlainExpr.{PExpr, EInteger, EName, EIndex, EAttribute, EAttributeOf, EParen, EUnary, EBinary, PBounds}
use Rattle.ada_tree.specs.Attributes.{Attribute, First, Last, Pos, Val, Succ, Pred, Image, NoAttribute, attribute_of, false_name, true_name}
use Rattle.ada_static_rules.specs.Scope.{mark_at}
use Rattle.ada_static_rules.specs.StaticValue.{is_integer_value, is_of_kind, is_named, mark_named, constant_named, position_in, first_of_two}
use Rattle.ada_value.specs.declared.values.Value.{Value}
use Rattle.ada_value.specs.declared.values.Value.TheVariants.{Number, Truth, Place}
use Rattle.ada_value.specs.declared.values.Raised.{Raised}
use Rattle.ada_value.specs.declared.values.Raised.TheVariants as raised
use Rattle.ada_value.specs.declared.values.Limits.{Limits}
use Rattle.ada_value.specs.Values.{and_then, position_of, is_true_value, value_in, value_at, based, fitted, word, limits_of, limits_or, limits_named}
use Rattle.ada_value.specs.Evaluating.{literal_value, constant_value, fixed_value, bound_value, attribute_value, signed_value, unless_zero, combined, operated, evaluated, bounds_of, narrowed}
use Rattle.common_lemmas.specs.division.Modulus.{modulus}
use Rattle.task_laws.specs.legal.rewritten_types.Agreement.{Keeps}
use Rattle.task_laws.proofs.legal.rewritten_types.Lookups.{find-all}
use Rattle.task_laws.specs.legal.types.Typed.{HasPosition, IsSmallKind, IsSmall}
use Rattle.task_laws.proofs.legal.types.TypedValues.{anybody, IsTyped}

-- its position is a number of INTEGER
abbrev pub InInteger : Value → Type 0
InInteger v = is_integer_value (position_of v) ≡ true

-- both bounds are numbers of INTEGER
abbrev pub AreInInteger : Limits → Type 0
AreInInteger l = (is_integer_value l.first ≡ true) × (is_integer_value l.last ≡ true)

-- what comes out has this
abbrev pub Gives : {A : Type 0} → (A → Type 0) → Result A Raised → Type 0
Gives P (Ok a) = P a
Gives P (Err x) = Unit {0}

pub gives-then : {A B : Type 0} (P : A → Type 0) (Q : B → Type 0) (r : Result A Raised) (f : A → Result B Raised) → Gives P r → ((a : A) → P a → Gives Q (f a)) → Gives Q (and_then r f)
gives-then P Q (Ok a) f h k = k a h
gives-then P Q (Err x) f h k = tt

gives-if : (b : Bool) (r q : Result Value Raised) → (b ≡ true → Gives InInteger r) → (b ≡ false → Gives InInteger q) → Gives InInteger (if b then r else q)
gives-if true r q f g = f refl
gives-if false r q f g = g refl

truth-in : (b : Bool) → InInteger (Truth b)
truth-in true = refl
truth-in false = refl

fitted-in : (z : ℤ) → Gives InInteger (fitted z)
fitted-in z = gives-if (is_integer_value z) (Ok (Number z)) (Err raised.Numeric) (λ e. e) (λ e. tt)

-- ---- values at positions

word-in : (n : ℕ) → is_integer_value (pos n) ≡ true → is_integer_value (pos (word n)) ≡ true
word-in n h = by_test (nat_le n 4294967295)
  where
    by_test : (b : Bool) → is_integer_value (pos (if b then n else 0)) ≡ true
    by_test true = h
    by_test false = refl

number-in : (z : ℤ) → is_integer_value z ≡ true → (b : Bool) → InInteger (if b then Number z else Number (pos 0))
number-in z h true = h
number-in z h false = refl

value-in : (k : ℕ) (o : Option Kind) (z : ℤ) → is_integer_value z ≡ true → InInteger (value_in k o z)
value-in k (Some kind.Integer) z h = number-in z h (is_integer_value z)
value-in k (Some kind.Truth) z h = truth-in (not (int_eq z (pos 0)))
value-in k (Some (kind.Enumeration names)) (pos n) h = word-in n h
value-in k (Some (kind.Enumeration names)) (negsuc n) h = refl
value-in k (Some (kind.Array index first last part)) z h = number-in z h (is_integer_value z)
value-in k None z h = number-in z h (is_integer_value z)

-- a position up to the last of a small enumeration
below-in : (z : ℤ) (n : ℕ) → n ≤ 2147483648 → int_le (pos 0) z ≡ true → int_lt z (pos n) ≡ true → is_integer_value z ≡ true
below-in z n l h k = grind (arith, ints)

base-in : (k : ℕ) (o : Option Kind) (z : ℤ) → ((x : Kind) → o ≡ Some x → IsSmallKind k x) → is_of_kind o z ≡ true → is_integer_value z ≡ true
base-in k (Some kind.Integer) z s h = h
base-in k (Some kind.Truth) z s h = truth-range (and_left (int_le (pos 0) z) (int_le z (pos 1)) h) (and_right (int_le (pos 0) z) (int_le z (pos 1)) h)
  where
    truth-range : int_le (pos 0) z ≡ true → int_le z (pos 1) ≡ true → is_integer_value z ≡ true
    truth-range a b = grind (arith, ints)
base-in k (Some (kind.Enumeration names)) z s h =
    below-in z (length names) (s (kind.Enumeration names) refl).0 (and_left (int_le (pos 0) z) (int_lt z (pos (length names))) h) (and_right (int_le (pos 0) z) (int_lt z (pos (length names))) h)
base-in k (Some (kind.Array index first last part)) z s h = clash h
base-in k None z s h = clash h

module _ (T R : TypeTable) (typed : IsTyped R) (keeps : Keeps anybody R T) (small : IsSmall T) where
  -- ---- names

  limits-of-mark : (o : Option Mark) → ((m : Mark) → o ≡ Some m → AreInInteger (limits_of m)) → AreInInteger (limits_or o)
  limits-of-mark None h = (refl, refl)
  limits-of-mark (Some m) h = h m refl

  pub limits-in : (id : NameId) → AreInInteger (limits_named T id)
  limits-in id = limits-of-mark (mark_named T id) of-mark
    where
      of-mark : (m : Mark) → mark_named T id ≡ Some m → AreInInteger (limits_of m)
      of-mark m e =
          let f = sym (keeps.marks id refl) ∙ e in (
            (find-all (λ m. HasPosition R m.kind m.first) (λ x. is_named id x.name) R.marks m typed.firsts f).fits,
            (find-all (λ m. HasPosition R m.kind m.last) (λ x. is_named id x.name) R.marks m typed.lasts f).fits,
          )

  -- the literal of a name among kinds from a place on
  literal-in : (kinds : List Kind) (k : ℕ) (id : NameId) → ((j : ℕ) (x : Kind) → slice_get kinds j ≡ Some x → (i : ℕ) × IsSmallKind i x) → (v : Value) → literal_value kinds k id ≡ Some v → InInteger v
  literal-in [] k id s v e = absurd (none-some v e)
  literal-in (x ∷ xs) k id s v e = by_kind x (s 0 x refl) e (λ f. literal-in xs (suc k) id (λ j y g. s (suc j) y g) v f)
    where
      by_place : (names : List NameId) → length names ≤ 2147483648 → (b : Bool) → nat_lt (position_or_len (λ n. n.0 == id.0) names) (length names) ≡ b →
          first_of_two (option_map (λ n. Place (word k) (word n)) (cond b (Some (position_or_len (λ n. n.0 == id.0) names)) None)) (literal_value xs (suc k) id) ≡ Some v → (literal_value xs (suc k) id ≡ Some v → InInteger v) → InInteger v
      by_place names l true t f later =
          let n : ℕ = position_or_len (λ n. n.0 == id.0) names in
          let m : n < length names = ltb-true n (length names) t in
          subst InInteger (some_same f) (word-in n (le-leb n 2147483647 (omega (arith, m, l))))
      by_place names l false t f later = later f

      by_kind : (y : Kind) → (i : ℕ) × IsSmallKind i y → first_of_two (option_map (λ n. Place (word k) (word n)) (position_in id y)) (literal_value xs (suc k) id) ≡ Some v → (literal_value xs (suc k) id ≡ Some v → InInteger v) → InInteger v
      by_kind (kind.Enumeration names) h f later = by_place names h.1.0 (nat_lt (position_or_len (λ n. n.0 == id.0) names) (length names)) refl f later
      by_kind kind.Integer h f later = later f
      by_kind kind.Truth h f later = later f
      by_kind (kind.Array index first last part) h f later = later f

  fixed-in : (id : NameId) → InInteger (fixed_value T id)
  fixed-in id = by_false (id.0 == false_name)
    where
      constant-in : (c : Constant) → constant_named T id ≡ Some c → InInteger (constant_value T c)
      constant-in c e =
          let f = sym (keeps.constants id refl) ∙ e in
          value-in (limits_or (mark_at T c.mark)).kind (slice_get T.kinds (limits_or (mark_at T c.mark)).kind) c.value
          (find-all (λ c. HasPosition R (limits_or (mark_at R c.mark)).kind c.value) (λ x. x.name.0 == id.0) R.constants c typed.constants f).fits

      by_literal : (o : Option Value) → literal_value T.kinds 0 id ≡ o → InInteger (unwrap_or o (Number (pos 0)))
      by_literal None e = refl
      by_literal (Some v) e = literal-in T.kinds 0 id (λ j x g. (j, small.kinds j x g)) v e

      by_constant : (o : Option Constant) → constant_named T id ≡ o → InInteger (unwrap_or (first_of_two (option_map (constant_value T) o) (literal_value T.kinds 0 id)) (Number (pos 0)))
      by_constant None e = by_literal (literal_value T.kinds 0 id) refl
      by_constant (Some c) e = constant-in c e

      by_true : (b : Bool) → InInteger (if b then Truth true else unwrap_or (first_of_two (option_map (constant_value T) (constant_named T id)) (literal_value T.kinds 0 id)) (Number (pos 0)))
      by_true true = refl
      by_true false = by_constant (constant_named T id) refl

      by_false : (b : Bool) → InInteger (if b then Truth false else if id.0 == true_name then Truth true else unwrap_or (first_of_two (option_map (constant_value T) (constant_named T id)) (literal_value T.kinds 0 id)) (Number (pos 0)))
      by_false true = refl
      by_false false = by_true (id.0 == true_name)

  -- ---- attributes and operators

  based-in : (k : ℕ) (z : ℤ) → Gives InInteger (based T k z)
  based-in k z =
      gives-if (is_of_kind (slice_get T.kinds k) z) (Ok (value_at T k z)) (Err raised.Constraint)
      (λ e. value-in k (slice_get T.kinds k) z (base-in k (slice_get T.kinds k) z (λ x g. small.kinds k x g) e)) (λ e. tt)

  bound-in : (l : Limits) (a : Attribute) → AreInInteger l → InInteger (bound_value T l a)
  bound-in l First h = value-in l.kind (slice_get T.kinds l.kind) l.first h.0
  bound-in l Last h = value-in l.kind (slice_get T.kinds l.kind) l.last h.1
  bound-in l Pos h = refl
  bound-in l Val h = refl
  bound-in l Succ h = refl
  bound-in l Pred h = refl
  bound-in l Image h = refl
  bound-in l NoAttribute h = refl

  attribute-in : (l : Limits) (a : Attribute) (v : Value) → Gives InInteger (attribute_value T l a v)
  attribute-in l Pos v = fitted-in (position_of v)
  attribute-in l Val v = based-in l.kind (position_of v)
  attribute-in l Succ v = based-in l.kind (position_of v +ℤ pos 1)
  attribute-in l Pred v = based-in l.kind (position_of v -ℤ pos 1)
  attribute-in l First v = refl
  attribute-in l Last v = refl
  attribute-in l Image v = refl
  attribute-in l NoAttribute v = refl

  signed-in : (op : UnaryOp) (v : Value) → Gives InInteger (signed_value op v)
  signed-in unary.Plus v = fitted-in (position_of v)
  signed-in unary.Minus v = fitted-in (neg_ℤ (position_of v))
  signed-in unary.Abs v = fitted-in (if int_lt (position_of v) (pos 0) then neg_ℤ (position_of v) else position_of v)
  signed-in unary.Not v = truth-in (not (is_true_value v))

  unless-in : (b z : ℤ) → Gives InInteger (unless_zero b (fitted z))
  unless-in b z = gives-if (int_eq b (pos 0)) (Err raised.Numeric) (fitted z) (λ e. tt) (λ e. fitted-in z)

  combined-in : (op : BinaryOp) (a b : Value) → Gives InInteger (combined op a b)
  combined-in And a b = truth-in (is_true_value a && is_true_value b)
  combined-in AndThen a b = truth-in (is_true_value a && is_true_value b)
  combined-in Or a b = truth-in (is_true_value a || is_true_value b)
  combined-in OrElse a b = truth-in (is_true_value a || is_true_value b)
  combined-in Xor a b = truth-in (not (int_eq (position_of a) (position_of b)))
  combined-in Equal a b = truth-in (int_eq (position_of a) (position_of b))
  combined-in NotEqual a b = truth-in (not (int_eq (position_of a) (position_of b)))
  combined-in Less a b = truth-in (int_lt (position_of a) (position_of b))
  combined-in LessEqual a b = truth-in (int_le (position_of a) (position_of b))
  combined-in Greater a b = truth-in (int_lt (position_of b) (position_of a))
  combined-in GreaterEqual a b = truth-in (int_le (position_of b) (position_of a))
  combined-in Plus a b = fitted-in (position_of a +ℤ position_of b)
  combined-in Minus a b = fitted-in (position_of a -ℤ position_of b)
  combined-in Times a b = fitted-in (position_of a *ℤ position_of b)
  combined-in Divide a b = unless-in (position_of b) (int_div (position_of a) (position_of b))
  combined-in Mod a b = unless-in (position_of b) (modulus (position_of a) (position_of b))
  combined-in Rem a b = unless-in (position_of b) (int_rem (position_of a) (position_of b))

  both-in : (op : BinaryOp) (l r : Result Value Raised) → Gives InInteger l → Gives InInteger r → Gives InInteger (and_then l (λ a. and_then r (λ b. combined op a b)))
  both-in op l r h k = gives-then InInteger InInteger l (λ a. and_then r (λ b. combined op a b)) h (λ a i. gives-then InInteger InInteger r (λ b. combined op a b) k (λ b j. combined-in op a b))

  operated-in : (op : BinaryOp) (l r : Result Value Raised) → Gives InInteger l → Gives InInteger r → Gives InInteger (operated op l r)
  operated-in AndThen l r h k = gives-then InInteger InInteger l (λ a. if is_true_value a then r else Ok (Truth false)) h (λ a i. gives-if (is_true_value a) r (Ok (Truth false)) (λ e. k) (λ e. refl))
  operated-in OrElse l r h k = gives-then InInteger InInteger l (λ a. if is_true_value a then Ok (Truth true) else r) h (λ a i. gives-if (is_true_value a) (Ok (Truth true)) r (λ e. refl) (λ e. k))
  operated-in And l r h k = both-in And l r h k
  operated-in Or l r h k = both-in Or l r h k
  operated-in Xor l r h k = both-in Xor l r h k
  operated-in Equal l r h k = both-in Equal l r h k
  operated-in NotEqual l r h k = both-in NotEqual l r h k
  operated-in Less l r h k = both-in Less l r h k
  operated-in LessEqual l r h k = both-in LessEqual l r h k
  operated-in Greater l r h k = both-in Greater l r h k
  operated-in GreaterEqual l r h k = both-in GreaterEqual l r h k
  operated-in Plus l r h k = both-in Plus l r h k
  operated-in Minus l r h k = both-in Minus l r h k
  operated-in Times l r h k = both-in Times l r h k
  operated-in Divide l r h k = both-in Divide l r h k
  operated-in Mod l r h k = both-in Mod l r h k
  operated-in Rem l r h k = both-in Rem l r h k

  -- ---- expressions and ranges

  pub worth-in : (e : PExpr) → Gives InInteger (evaluated T [] e)
  worth-in (EInteger n s) = fitted-in (pos n)
  worth-in (EName id s) = fixed-in id
  worth-in (EIndex w e s) = gives-then InInteger InInteger (evaluated T [] e) (λ v. Err raised.Constraint) (worth-in e) (λ v i. tt)
  worth-in (EAttribute m w s) = bound-in (limits_named T m.name) (attribute_of w.name) (limits-in m.name)
  worth-in (EAttributeOf m w e s) =
      gives-then InInteger InInteger (evaluated T [] e) (λ v. attribute_value T (limits_named T m.name) (attribute_of w.name) v) (worth-in e) (λ v i. attribute-in (limits_named T m.name) (attribute_of w.name) v)
  worth-in (EParen e s) = worth-in e
  worth-in (EUnary op e s) = gives-then InInteger InInteger (evaluated T [] e) (λ v. signed_value op v) (worth-in e) (λ v i. signed-in op v)
  worth-in (EBinary op l r s) = operated-in op (evaluated T [] l) (evaluated T [] r) (worth-in l) (worth-in r)

  bounds-in : (b : PBounds) → Gives AreInInteger (bounds_of T [] b)
  bounds-in b = gives-then InInteger AreInInteger (evaluated T [] b.first) _ (worth-in b.first) (λ x i. gives-then InInteger AreInInteger (evaluated T [] b.last) _ (worth-in b.last) (λ y j. (i, j)))

  pub narrowed-in : (l : Limits) (b : Option PBounds) → AreInInteger l → Gives AreInInteger (narrowed T [] l b)
  narrowed-in l None h = h
  narrowed-in l (Some b) h = gives-then AreInInteger AreInInteger (bounds_of T [] b) _ (bounds-in b) (λ r i. i)

  -- the lower bound of a subtype
  pub lower-in : (l : Limits) → AreInInteger l → InInteger (value_at T l.kind l.first)
  lower-in l h = value-in l.kind (slice_get T.kinds l.kind) l.first h.0
