-- Expressions, ranges and texts with old names alone are worth the same on both sides, and what they are worth is of a known kind.
use Rattle.std.proofs.Common.{◌≡◌, ℕ, zero, suc, ◌<◌, ◌≤◌, ℤ, pos, ◌+ℤ◌, ◌-ℤ◌, neg_ℤ, Bool, true, false, ◌==◌, if◌then◌else◌, List, [], ◌∷◌, ◌++◌, length, Option, Some, Result, Ok, Err, refl, sym, subst, slice_get, slice_index_or, slice_set, ◌⊎◌, ⊎_elim, arith}
use Rattle.std.specs.Prelude.{int_lt, int_div, int_rem, ◌*ℤ◌}
use Rattle.std.specs.Ordering.{int_eq}
use Rattle.std.proofs.lemmas.Bool.{eqb-true, eqb-false, cases_lt}
use Rattle.std.proofs.lemmas.List.{get_or-set_same, get_or-set_other, get_or_past}
use Rattle.std.proofs.Math.ListN.{length-set}
use Rattle.ada_tree.specs.declared.naming.NameId.{NameId}
use Rattle.ada_tree.specs.declared.expressions.UnaryOp.{UnaryOp}
use Rattle.ada_tree.specs.declared.expressions.UnaryOp.TheVariants as unary
use Rattle.ada_tree.specs.declared.expressions.BinaryOp.{BinaryOp}
use Rattle.ada_tree.specs.declared.expressions.BinaryOp.TheVariants.{And, Or, Xor, AndThen, OrElse, Equal as Equals, NotEqual, Less, LessEqual, Greater, GreaterEqual, Plus, Minus, Times, Divide, Mod, Rem}
use Rattle.ada_tree.specs.PlainExpr.{PExpr, PBounds}
use Rattle.ada_tree.specs.PlainStmt.{PPart}
use Rattle.ada_tree.specs.Attributes.{Attribute, First, Last, Pos, Val, Succ, Pred, attribute_of, is_image}
use Rattle.ada_static_rules.specs.StaticValue.{is_integer_value, is_of_kind}
use Rattle.common_lemmas.specs.division.Modulus.{modulus}
use Rattle.ada_value.specs.declared.values.Value.{Value}
use Rattle.ada_value.specs.declared.values.Value.TheVariants.{Number, Truth}
use Rattle.ada_value.specs.declared.values.Raised.{Raised}
use Rattle.ada_value.specs.declared.values.Raised.TheVariants as raised
use Rattle.ada_value.specs.Values.{and_then, position_of, is_true_value, value_at, based, fitted}
use Rattle.ada_value.specs.declared.values.Limits.{Limits}
use Rattle.ada_value.specs.Variables.{Object, Variables, with_value, value_there, component_place}
use Rattle.ada_value.specs.Evaluating.{name_value, component_value, bound_value, attribute_value, signed_value, combined, unless_zero, operated, evaluated, condition_of, range_between, bounds_of, narrowed}
use Rattle.ada_value.specs.Texts.{image, integer_text, expr_output, parts_output}
use Rattle.task_laws.specs.translation.Translations.{Programs, types_before, types_after, IsOld, IsFree, IsKnown}
use Rattle.task_laws.specs.translation.OldNames.{OldExpr, old_integer, old_name, old_index, old_attribute, old_attribute_of, old_paren, old_unary, old_binary, OldBounds, old_unbounded, old_bounded, OldParts, old_no_part, old_words, old_value}
use Rattle.task_laws.specs.translation.Scopes.{AgreeOnTypes, HasKnown, SameObject, no_object, same_object, SeeAlike}
use Rattle.task_laws.proofs.translation.Results.{Both, both_ok, both_err, Equal, equal, both_then, both_equal, both_map}

-- the same value, of a known kind
pub data KnownValue (x : Programs) : Value → Value → Type 0 where
  known_value : (v : Value) → IsKnown x v → KnownValue x v v

-- the same range, of a known kind
pub data KnownRange (x : Programs) : Limits → Limits → Type 0 where
  known_range : (r : Limits) → x.is_known r.kind ≡ true → KnownRange x r r

-- an object of one value
abbrev pub single : NameId → Limits → Option Limits → Value → Object
single name limits index v = record { name = name; limits = limits; index = index; values = v ∷ [] }

module _ (x : Programs) (types : AgreeOnTypes x) where
  -- a value that is the same on both sides comes out
  known_ok : (v w : Value) → v ≡ w → IsKnown x v → Both (KnownValue x) (Ok v) (Ok w)
  known_ok v w e h = subst (λ u. Both (KnownValue x) (Ok v) (Ok u)) e (both_ok v v (known_value v h))

  -- ---- objects

  -- a value of a known kind at one place of values of known kinds
  pub known-set : (vs : List Value) (k : ℕ) (v : Value) → IsKnown x v → ((j : ℕ) → IsKnown x (slice_index_or vs j (Number (pos 0)))) →
      (j : ℕ) → IsKnown x (slice_index_or (slice_set vs k v) j (Number (pos 0)))
  known-set vs k v h hs j = go (j == k) refl (cases_lt k (length vs))
    where
      past : j ≡ k → length vs ≤ k → IsKnown x (slice_index_or (slice_set vs k v) j (Number (pos 0)))
      past e l = subst (IsKnown x) (sym (get_or_past (slice_set vs k v) j (Number (pos 0)) (subst (λ n. n ≤ j) (sym (length-set vs k v)) (subst (λ n. length vs ≤ n) (sym e) l)))) types.integers

      there : j ≡ k → k < length vs → IsKnown x (slice_index_or (slice_set vs k v) j (Number (pos 0)))
      there e l = subst (λ i. IsKnown x (slice_index_or (slice_set vs k v) i (Number (pos 0)))) (sym e) (subst (IsKnown x) (sym (get_or-set_same vs k v (Number (pos 0)) l)) h)

      go : (b : Bool) → (j == k) ≡ b → (k < length vs) ⊎ (length vs ≤ k) → IsKnown x (slice_index_or (slice_set vs k v) j (Number (pos 0)))
      go false e c = subst (IsKnown x) (sym (get_or-set_other vs k j v (Number (pos 0)) (eqb-false j k e))) (hs j)
      go true e c = ⊎_elim (there (eqb-true j k e)) (past (eqb-true j k e)) c

  pub known-with : (b : Object) (k : ℕ) (v : Value) → IsKnown x v → HasKnown x b → HasKnown x (with_value b k v)
  known-with b k v h known = (known-set b.values k v h known.0, known.1)

  single-values : (name : NameId) (limits : Limits) (index : Option Limits) (v : Value) → IsKnown x v → (k : ℕ) → IsKnown x (value_there (single name limits index v) k)
  single-values name limits index v h zero = h
  single-values name limits index v h (suc j) = subst (IsKnown x) (sym (get_or_past (v ∷ []) (suc j) (Number (pos 0)) (omega arith))) types.integers

  pub single-known : (name : NameId) (limits : Limits) (index : Option Limits) (v : Value) → IsFree x name → IsKnown x v → HasKnown x (single name limits index v)
  single-known name limits index v free h = (single-values name limits index v h, free)

  -- ---- operators

  fitted-alike : (z : ℤ) → Both (KnownValue x) (fitted z) (fitted z)
  fitted-alike z = go (is_integer_value z)
    where
      go : (b : Bool) → Both (KnownValue x) (if b then Ok (Number z) else Err raised.Numeric) (if b then Ok (Number z) else Err raised.Numeric)
      go true = both_ok (Number z) (Number z) (known_value (Number z) types.integers)
      go false = both_err raised.Numeric

  truth-alike : (b : Bool) → Both (KnownValue x) (Ok (Truth b)) (Ok (Truth b))
  truth-alike b = both_ok (Truth b) (Truth b) (known_value (Truth b) types.truths)

  signed-alike : (op : UnaryOp) (v : Value) → Both (KnownValue x) (signed_value op v) (signed_value op v)
  signed-alike unary.Plus v = fitted-alike (position_of v)
  signed-alike unary.Minus v = fitted-alike (neg_ℤ (position_of v))
  signed-alike unary.Abs v = fitted-alike (if int_lt (position_of v) (pos 0) then neg_ℤ (position_of v) else position_of v)
  signed-alike unary.Not v = truth-alike _

  unless-alike : (b z : ℤ) → Both (KnownValue x) (unless_zero b (fitted z)) (unless_zero b (fitted z))
  unless-alike b z = go (int_eq b (pos 0))
    where
      go : (c : Bool) → Both (KnownValue x) (if c then Err raised.Numeric else fitted z) (if c then Err raised.Numeric else fitted z)
      go true = both_err raised.Numeric
      go false = fitted-alike z

  combined-alike : (op : BinaryOp) (a b : Value) → Both (KnownValue x) (combined op a b) (combined op a b)
  combined-alike And a b = truth-alike _
  combined-alike AndThen a b = truth-alike _
  combined-alike Or a b = truth-alike _
  combined-alike OrElse a b = truth-alike _
  combined-alike Xor a b = truth-alike _
  combined-alike Equals a b = truth-alike _
  combined-alike NotEqual a b = truth-alike _
  combined-alike Less a b = truth-alike _
  combined-alike LessEqual a b = truth-alike _
  combined-alike Greater a b = truth-alike _
  combined-alike GreaterEqual a b = truth-alike _
  combined-alike Plus a b = fitted-alike (position_of a +ℤ position_of b)
  combined-alike Minus a b = fitted-alike (position_of a -ℤ position_of b)
  combined-alike Times a b = fitted-alike (position_of a *ℤ position_of b)
  combined-alike Divide a b = unless-alike (position_of b) (int_div (position_of a) (position_of b))
  combined-alike Mod a b = unless-alike (position_of b) (modulus (position_of a) (position_of b))
  combined-alike Rem a b = unless-alike (position_of b) (int_rem (position_of a) (position_of b))

  -- an operator that evaluates both operands
  eager-alike : (op : BinaryOp) {l l' r r' : Result Value Raised} → Both (KnownValue x) l l' → Both (KnownValue x) r r' →
      Both (KnownValue x) (and_then l (λ a. and_then r (λ b. combined op a b))) (and_then l' (λ a. and_then r' (λ b. combined op a b)))
  eager-alike op {r = r} {r' = r'} h k = both_then h go
    where
      inner : (a a' : Value) → KnownValue x a a' → (b b' : Value) → KnownValue x b b' → Both (KnownValue x) (combined op a b) (combined op a' b')
      inner a a' (known_value v p) b b' (known_value w q) = combined-alike op v w

      go : (a a' : Value) → KnownValue x a a' → Both (KnownValue x) (and_then r (λ b. combined op a b)) (and_then r' (λ b. combined op a' b))
      go a a' p = both_then k (inner a a' p)

  -- a short-circuit form
  and-alike : {l l' r r' : Result Value Raised} → Both (KnownValue x) l l' → Both (KnownValue x) r r' → Both (KnownValue x) (operated AndThen l r) (operated AndThen l' r')
  and-alike {r = r} {r' = r'} h k = both_then h go
    where
      if-alike : (c : Bool) → Both (KnownValue x) (if c then r else Ok (Truth false)) (if c then r' else Ok (Truth false))
      if-alike true = k
      if-alike false = truth-alike false

      go : (a a' : Value) → KnownValue x a a' → Both (KnownValue x) (if is_true_value a then r else Ok (Truth false)) (if is_true_value a' then r' else Ok (Truth false))
      go a a' (known_value v p) = if-alike (is_true_value v)

  or-alike : {l l' r r' : Result Value Raised} → Both (KnownValue x) l l' → Both (KnownValue x) r r' → Both (KnownValue x) (operated OrElse l r) (operated OrElse l' r')
  or-alike {r = r} {r' = r'} h k = both_then h go
    where
      if-alike : (c : Bool) → Both (KnownValue x) (if c then Ok (Truth true) else r) (if c then Ok (Truth true) else r')
      if-alike true = truth-alike true
      if-alike false = k

      go : (a a' : Value) → KnownValue x a a' → Both (KnownValue x) (if is_true_value a then Ok (Truth true) else r) (if is_true_value a' then Ok (Truth true) else r')
      go a a' (known_value v p) = if-alike (is_true_value v)

  operated-alike : (op : BinaryOp) {l l' r r' : Result Value Raised} → Both (KnownValue x) l l' → Both (KnownValue x) r r' → Both (KnownValue x) (operated op l r) (operated op l' r')
  operated-alike AndThen h k = and-alike h k
  operated-alike OrElse h k = or-alike h k
  operated-alike And h k = eager-alike And h k
  operated-alike Or h k = eager-alike Or h k
  operated-alike Xor h k = eager-alike Xor h k
  operated-alike Equals h k = eager-alike Equals h k
  operated-alike NotEqual h k = eager-alike NotEqual h k
  operated-alike Less h k = eager-alike Less h k
  operated-alike LessEqual h k = eager-alike LessEqual h k
  operated-alike Greater h k = eager-alike Greater h k
  operated-alike GreaterEqual h k = eager-alike GreaterEqual h k
  operated-alike Plus h k = eager-alike Plus h k
  operated-alike Minus h k = eager-alike Minus h k
  operated-alike Times h k = eager-alike Times h k
  operated-alike Divide h k = eager-alike Divide h k
  operated-alike Mod h k = eager-alike Mod h k
  operated-alike Rem h k = eager-alike Rem h k

  -- ---- attributes

  based-alike : (k : ℕ) (z : ℤ) → Both (KnownValue x) (based (types_before x) k z) (based (types_after x) k z)
  based-alike k z = subst (λ b. Both (KnownValue x) (based (types_before x) k z) (if b then Ok (value_at (types_after x) k z) else Err raised.Constraint)) (types.bases k z)
      (go (is_of_kind (slice_get (types_before x).kinds k) z))
    where
      go : (b : Bool) → Both (KnownValue x) (if b then Ok (value_at (types_before x) k z) else Err raised.Constraint) (if b then Ok (value_at (types_after x) k z) else Err raised.Constraint)
      go true = known_ok _ _ (types.values k z) (types.values_known k z)
      go false = both_err raised.Constraint

  zero-alike : Both (KnownValue x) (Ok (Number (pos 0))) (Ok (Number (pos 0)))
  zero-alike = both_ok (Number (pos 0)) (Number (pos 0)) (known_value (Number (pos 0)) types.integers)

  bound-here : (limits : Limits) (a : Attribute) → Both (KnownValue x) (Ok (bound_value (types_before x) limits a)) (Ok (bound_value (types_after x) limits a))
  bound-here limits First = known_ok _ _ (types.values limits.kind limits.first) (types.values_known limits.kind limits.first)
  bound-here limits Last = known_ok _ _ (types.values limits.kind limits.last) (types.values_known limits.kind limits.last)
  bound-here limits _ = zero-alike

  bound-alike : (l l' : Limits) → l ≡ l' → (a : Attribute) → Both (KnownValue x) (Ok (bound_value (types_before x) l a)) (Ok (bound_value (types_after x) l' a))
  bound-alike l l' e a = subst (λ m. Both (KnownValue x) (Ok (bound_value (types_before x) l a)) (Ok (bound_value (types_after x) m a))) e (bound-here l a)

  attribute-here : (limits : Limits) (a : Attribute) (v : Value) → Both (KnownValue x) (attribute_value (types_before x) limits a v) (attribute_value (types_after x) limits a v)
  attribute-here limits Pos v = fitted-alike (position_of v)
  attribute-here limits Val v = based-alike limits.kind (position_of v)
  attribute-here limits Succ v = based-alike limits.kind (position_of v +ℤ pos 1)
  attribute-here limits Pred v = based-alike limits.kind (position_of v -ℤ pos 1)
  attribute-here limits _ v = zero-alike

  attribute-alike : (l l' : Limits) → l ≡ l' → (a : Attribute) (v v' : Value) → KnownValue x v v' → Both (KnownValue x) (attribute_value (types_before x) l a v) (attribute_value (types_after x) l' a v')
  attribute-alike l l' e a v v' (known_value w h) = subst (λ m. Both (KnownValue x) (attribute_value (types_before x) l a w) (attribute_value (types_after x) m a w)) e (attribute-here l a w)

  -- ---- names

  name-alike : (id : NameId) → IsOld x id → {o o' : Option Object} → SameObject x o o' → Both (KnownValue x) (Ok (name_value (types_before x) o id)) (Ok (name_value (types_after x) o' id))
  name-alike id old no_object = known_ok _ _ (types.fixed id old) (types.fixed_known id old)
  name-alike id old (same_object o h) = both_ok (value_there o 0) (value_there o 0) (known_value (value_there o 0) (h.0 0))

  place-alike : (r : Result ℕ Raised) (o : Object) → HasKnown x o → Both (KnownValue x) (and_then r (λ k. Ok (value_there o k))) (and_then r (λ k. Ok (value_there o k)))
  place-alike (Ok k) o h = both_ok (value_there o k) (value_there o k) (known_value (value_there o k) (h.0 k))
  place-alike (Err e) o h = both_err e

  component-alike : {o o' : Option Object} → SameObject x o o' → (v v' : Value) → KnownValue x v v' → Both (KnownValue x) (component_value o v) (component_value o' v')
  component-alike no_object v v' (known_value w h) = both_err raised.Constraint
  component-alike (same_object o k) v v' (known_value w h) = place-alike (component_place (Some o) w) o k

  -- ---- expressions

  pub value-alike : {V V' : Variables} → SeeAlike x V V' → {e : PExpr} → OldExpr x e → Both (KnownValue x) (evaluated (types_before x) V e) (evaluated (types_after x) V' e)
  value-alike see (old_integer n s) = fitted-alike (pos n)
  value-alike see (old_name id s old) = name-alike id old (see.named id old)
  value-alike see (old_index w e s old h) = both_then (value-alike see h) (component-alike (see.named w.name old))
  value-alike see (old_attribute m w s old) = bound-alike _ _ (types.marks m.name old) (attribute_of w.name)
  value-alike see (old_attribute_of m w e s old h) = both_then (value-alike see h) (attribute-alike _ _ (types.marks m.name old) (attribute_of w.name))
  value-alike see (old_paren e s h) = value-alike see h
  value-alike see (old_unary op e s h) = both_then (value-alike see h) (λ a b p. go a b p)
    where
      go : (a b : Value) → KnownValue x a b → Both (KnownValue x) (signed_value op a) (signed_value op b)
      go a b (known_value v p) = signed-alike op v
  value-alike see (old_binary op l r s h k) = operated-alike op (value-alike see h) (value-alike see k)

  pub condition-alike : {V V' : Variables} → SeeAlike x V V' → {e : PExpr} → OldExpr x e → Both Equal (condition_of (types_before x) V e) (condition_of (types_after x) V' e)
  condition-alike see h = both_then (value-alike see h) go
    where
      go : (a b : Value) → KnownValue x a b → Both Equal (Ok (is_true_value a)) (Ok (is_true_value b))
      go a b (known_value v p) = both_ok _ _ (equal (is_true_value v))

  -- ---- ranges

  between-alike : (a a' b b' : Value) → KnownValue x a a' → KnownValue x b b' → Both (KnownRange x) (Ok (range_between a b)) (Ok (range_between a' b'))
  between-alike a a' b b' (known_value v p) (known_value w q) = both_ok _ _ (known_range (range_between v w) p)

  pub bounds-alike : {V V' : Variables} → SeeAlike x V V' → (b : PBounds) → OldExpr x b.first → OldExpr x b.last → Both (KnownRange x) (bounds_of (types_before x) V b) (bounds_of (types_after x) V' b)
  bounds-alike see b h k = both_then (value-alike see h) (λ v v' p. both_then (value-alike see k) (λ w w' q. between-alike v v' w w' p q))

  narrowed-here : {V V' : Variables} → SeeAlike x V V' → (l : Limits) → x.is_known l.kind ≡ true → {b : Option PBounds} → OldBounds x b →
      Both (KnownRange x) (narrowed (types_before x) V l b) (narrowed (types_after x) V' l b)
  narrowed-here see l known old_unbounded = both_ok _ _ (known_range l known)
  narrowed-here see l known (old_bounded b h k) = both_then (bounds-alike see b h k) go
    where
      go : (r r' : Limits) → KnownRange x r r' → Both (KnownRange x) (Ok (record { kind = l.kind; first = r.first; last = r.last })) (Ok (record { kind = l.kind; first = r'.first; last = r'.last }))
      go r r' (known_range q p) = both_ok _ _ (known_range (record { kind = l.kind; first = q.first; last = q.last }) known)

  pub narrowed-alike : {V V' : Variables} → SeeAlike x V V' → (l l' : Limits) → l ≡ l' → x.is_known l.kind ≡ true → {b : Option PBounds} → OldBounds x b →
      Both (KnownRange x) (narrowed (types_before x) V l b) (narrowed (types_after x) V' l' b)
  narrowed-alike {V} {V'} see l l' e known {b} h = subst (λ m. Both (KnownRange x) (narrowed (types_before x) V l b) (narrowed (types_after x) V' m b)) e (narrowed-here see l known h)

  -- ---- texts

  image-alike : (v v' : Value) → KnownValue x v v' → Both Equal (Ok (image x.original.program.names (types_before x) v)) (Ok (image x.made.program.names (types_after x) v'))
  image-alike v v' (known_value w h) = subst (λ t. Both Equal (Ok (image x.original.program.names (types_before x) w)) (Ok t)) (types.texts w) (both_ok _ _ (equal _))

  number-alike : (v v' : Value) → KnownValue x v v' → Both Equal (Ok (integer_text (position_of v))) (Ok (integer_text (position_of v')))
  number-alike v v' (known_value w h) = both_ok _ _ (equal (integer_text (position_of w)))

  if-both : {A B : Type 0} {R : A → B → Type 0} (b : Bool) {r s : Result A Raised} {r' s' : Result B Raised} → Both R r r' → Both R s s' → Both R (if b then r else s) (if b then r' else s')
  if-both true h k = h
  if-both false h k = k

  pub text-alike : {V V' : Variables} → SeeAlike x V V' → {e : PExpr} → OldExpr x e →
      Both Equal (expr_output x.original.program.names (types_before x) V e) (expr_output x.made.program.names (types_after x) V' e)
  text-alike see (old_attribute_of m w e s old h) =
      if-both (is_image (attribute_of w.name)) (both_then (value-alike see h) image-alike) (both_then (value-alike see (old_attribute_of m w e s old h)) number-alike)
  text-alike see (old_integer n s) = both_then (value-alike see (old_integer n s)) number-alike
  text-alike see (old_name id s old) = both_then (value-alike see (old_name id s old)) number-alike
  text-alike see (old_index w e s old h) = both_then (value-alike see (old_index w e s old h)) number-alike
  text-alike see (old_attribute m w s old) = both_then (value-alike see (old_attribute m w s old)) number-alike
  text-alike see (old_paren e s h) = both_then (value-alike see (old_paren e s h)) number-alike
  text-alike see (old_unary op e s h) = both_then (value-alike see (old_unary op e s h)) number-alike
  text-alike see (old_binary op l r s h k) = both_then (value-alike see (old_binary op l r s h k)) number-alike

  behind-alike : (a a' : List ℕ) → Equal a a' → (b b' : List ℕ) → Equal b b' → Both Equal (Ok (a ++ b)) (Ok (a' ++ b'))
  behind-alike a a' (equal c) b b' (equal d) = both_ok _ _ (equal (c ++ d))

  pub parts-alike : {V V' : Variables} → SeeAlike x V V' → {ps : List PPart} → OldParts x ps →
      Both Equal (parts_output x.original.program.names (types_before x) V ps) (parts_output x.made.program.names (types_after x) V' ps)
  parts-alike see old_no_part = both_ok _ _ (equal [])
  parts-alike see (old_words text s rest h) = both_then (parts-alike see h) (behind-alike text text (equal text))
  parts-alike see (old_value e rest h k) = both_then (text-alike see h) (λ a a' p. both_then (parts-alike see k) (behind-alike a a' p))

  pub worth-same : {V V' : Variables} → SeeAlike x V V' → {e : PExpr} → OldExpr x e → evaluated (types_before x) V e ≡ evaluated (types_after x) V' e
  worth-same see h = both_equal (both_map (value-alike see h) go)
    where
      go : (v v' : Value) → KnownValue x v v' → Equal v v'
      go v v' (known_value w p) = equal w
