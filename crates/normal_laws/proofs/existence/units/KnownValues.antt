-- What the initial values of objects are worth is of a known kind.
use Rattle.std.proofs.Common.{◌≡◌, ℕ, zero, suc, ◌+◌, ℤ, pos, ◌+ℤ◌, ◌-ℤ◌, ◌*ℤ◌, neg_ℤ, int_lt, int_div, int_rem, Bool, true, false, if◌then◌else◌, List, [], ◌∷◌, map, replicate, slice_get, slice_index_or, Option, Some, None, Result, Ok, Err}
use Rattle.std.specs.List.{AllByRecursion}
use Rattle.std.specs.Ordering.{int_eq}
use Rattle.std.proofs.lemmas.List.Elements.{recursion_from_All}
use Rattle.ada_tree.specs.declared.expressions.UnaryOp.{UnaryOp}
use Rattle.ada_tree.specs.declared.expressions.UnaryOp.TheVariants as unary
use Rattle.ada_tree.specs.declared.expressions.BinaryOp.{BinaryOp}
use Rattle.ada_tree.specs.declared.expressions.BinaryOp.TheVariants.{And, Or, Xor, AndThen, OrElse, Equal, NotEqual, Less, LessEqual, Greater, GreaterEqual, Plus, Minus, Times, Divide, Mod, Rem}
use Rattle.ada_tree.specs.TypeTable.{TypeTable}
use Rattle.ada_tree.specs.PlainExpr.{PExpr, EInteger, EName, EIndex, EAttribute, EAttributeOf, EParen, EUnary, EBinary}
use Rattle.ada_tree.specs.PlainDecl.{PInit, IOne, IList, IOthers}
use Rattle.ada_tree.specs.Attributes.{Attribute, First, Last, Pos, Val, Succ, Pred, Image, NoAttribute, attribute_of}
use Rattle.ada_static_rules.specs.StaticValue.{is_integer_value, is_of_kind}
use Rattle.common_lemmas.specs.division.Modulus.{modulus}
use Rattle.ada_tree.specs.Every.{EveryExpr, EveryInit}
use Rattle.ada_value.specs.declared.values.Value.{Value}
use Rattle.ada_value.specs.declared.values.Value.TheVariants.{Number, Truth}
use Rattle.ada_value.specs.declared.values.Raised.{Raised}
use Rattle.ada_value.specs.declared.values.Raised.TheVariants as raised
use Rattle.ada_value.specs.declared.values.Form.{Form}
use Rattle.ada_value.specs.declared.values.Limits.{Limits}
use Rattle.ada_value.specs.Values.{and_then, position_of, kind_of_value, is_true_value, value_at, based, fitted, lies_in, lower_bound, limits_named}
use Rattle.ada_value.specs.Evaluating.{bound_value, attribute_value, signed_value, unless_zero, combined, operated, evaluated}
use Rattle.task_model.specs.Starting.{value_or_lower, initial, value_count, initials}
use Rattle.task_laws.specs.legal.rewritten_values.Values.{is_known, old_names, AgreeOnValues}

module _ (old : ℕ → Bool) (T U : TypeTable) (before after : List (List ℕ)) (agree : AgreeOnValues old T U before after) where
  abbrev Known : Value → Type 0
  Known v = is_known T (kind_of_value v) ≡ true

  -- what comes out is known
  abbrev Comes : Result Value Raised → Type 0
  Comes (Ok v) = Known v
  Comes (Err x) = Unit {0}

  then-comes : (r : Result Value Raised) (f : Value → Result Value Raised) → Comes r → ((v : Value) → Known v → Comes (f v)) → Comes (and_then r f)
  then-comes (Ok v) f h k = k v h
  then-comes (Err x) f h k = tt

  number-known : (z : ℤ) → Known (Number z)
  number-known z = agree.integers

  truth-known : (b : Bool) → Known (Truth b)
  truth-known b = agree.truths

  fitted-comes : (z : ℤ) → Comes (fitted z)
  fitted-comes z = by_test (is_integer_value z)
    where
      by_test : (b : Bool) → Comes (if b then Ok (Number z) else Err raised.Numeric)
      by_test true = number-known z
      by_test false = tt

  based-comes : (k : ℕ) (z : ℤ) → Comes (based T k z)
  based-comes k z = by_test (is_of_kind (slice_get T.kinds k) z)
    where
      by_test : (b : Bool) → Comes (if b then Ok (value_at T k z) else Err raised.Constraint)
      by_test true = agree.values_known k z
      by_test false = tt

  bound-known : (l : Limits) (a : Attribute) → Known (bound_value T l a)
  bound-known l First = agree.values_known l.kind l.first
  bound-known l Last = agree.values_known l.kind l.last
  bound-known l Pos = number-known (pos 0)
  bound-known l Val = number-known (pos 0)
  bound-known l Succ = number-known (pos 0)
  bound-known l Pred = number-known (pos 0)
  bound-known l Image = number-known (pos 0)
  bound-known l NoAttribute = number-known (pos 0)

  attribute-comes : (l : Limits) (a : Attribute) (v : Value) → Comes (attribute_value T l a v)
  attribute-comes l Pos v = fitted-comes (position_of v)
  attribute-comes l Val v = based-comes l.kind (position_of v)
  attribute-comes l Succ v = based-comes l.kind (position_of v +ℤ pos 1)
  attribute-comes l Pred v = based-comes l.kind (position_of v -ℤ pos 1)
  attribute-comes l First v = number-known (pos 0)
  attribute-comes l Last v = number-known (pos 0)
  attribute-comes l Image v = number-known (pos 0)
  attribute-comes l NoAttribute v = number-known (pos 0)

  signed-comes : (op : UnaryOp) (v : Value) → Comes (signed_value op v)
  signed-comes unary.Plus v = fitted-comes (position_of v)
  signed-comes unary.Minus v = fitted-comes (neg_ℤ (position_of v))
  signed-comes unary.Abs v = fitted-comes (if int_lt (position_of v) (pos 0) then neg_ℤ (position_of v) else position_of v)
  signed-comes unary.Not v = agree.truths

  zero-comes : (b : ℤ) (r : Result Value Raised) → Comes r → Comes (unless_zero b r)
  zero-comes b r h = by_test (int_eq b (pos 0))
    where
      by_test : (t : Bool) → Comes (if t then Err raised.Numeric else r)
      by_test true = tt
      by_test false = h

  combined-comes : (op : BinaryOp) (a b : Value) → Comes (combined op a b)
  combined-comes And a b = agree.truths
  combined-comes AndThen a b = agree.truths
  combined-comes Or a b = agree.truths
  combined-comes OrElse a b = agree.truths
  combined-comes Xor a b = agree.truths
  combined-comes Equal a b = agree.truths
  combined-comes NotEqual a b = agree.truths
  combined-comes Less a b = agree.truths
  combined-comes LessEqual a b = agree.truths
  combined-comes Greater a b = agree.truths
  combined-comes GreaterEqual a b = agree.truths
  combined-comes Plus a b = fitted-comes (position_of a +ℤ position_of b)
  combined-comes Minus a b = fitted-comes (position_of a -ℤ position_of b)
  combined-comes Times a b = fitted-comes (position_of a *ℤ position_of b)
  combined-comes Divide a b = zero-comes (position_of b) _ (fitted-comes (int_div (position_of a) (position_of b)))
  combined-comes Mod a b = zero-comes (position_of b) _ (fitted-comes (modulus (position_of a) (position_of b)))
  combined-comes Rem a b = zero-comes (position_of b) _ (fitted-comes (int_rem (position_of a) (position_of b)))

  plainly : (op : BinaryOp) (l r : Result Value Raised) → Comes l → Comes r → Comes (and_then l (λ a. and_then r (λ b. combined op a b)))
  plainly op l r h k = then-comes l _ h (λ a p. then-comes r _ k (λ b q. combined-comes op a b))

  short-and : (l r : Result Value Raised) → Comes l → Comes r → Comes (operated AndThen l r)
  short-and l r h k = then-comes l _ h (λ a p. by_test (is_true_value a))
    where
      by_test : (t : Bool) → Comes (if t then r else Ok (Truth false))
      by_test true = k
      by_test false = truth-known false

  short-or : (l r : Result Value Raised) → Comes l → Comes r → Comes (operated OrElse l r)
  short-or l r h k = then-comes l _ h (λ a p. by_test (is_true_value a))
    where
      by_test : (t : Bool) → Comes (if t then Ok (Truth true) else r)
      by_test true = truth-known true
      by_test false = k

  operated-comes : (op : BinaryOp) (l r : Result Value Raised) → Comes l → Comes r → Comes (operated op l r)
  operated-comes AndThen l r h k = short-and l r h k
  operated-comes OrElse l r h k = short-or l r h k
  operated-comes And l r h k = plainly And l r h k
  operated-comes Or l r h k = plainly Or l r h k
  operated-comes Xor l r h k = plainly Xor l r h k
  operated-comes Equal l r h k = plainly Equal l r h k
  operated-comes NotEqual l r h k = plainly NotEqual l r h k
  operated-comes Less l r h k = plainly Less l r h k
  operated-comes LessEqual l r h k = plainly LessEqual l r h k
  operated-comes Greater l r h k = plainly Greater l r h k
  operated-comes GreaterEqual l r h k = plainly GreaterEqual l r h k
  operated-comes Plus l r h k = plainly Plus l r h k
  operated-comes Minus l r h k = plainly Minus l r h k
  operated-comes Times l r h k = plainly Times l r h k
  operated-comes Divide l r h k = plainly Divide l r h k
  operated-comes Mod l r h k = plainly Mod l r h k
  operated-comes Rem l r h k = plainly Rem l r h k

  -- an expression in which all names are old, without variables
  expr-comes : (k : ℕ) (e : PExpr) → EveryExpr (old_names old) k e → Comes (evaluated T [] e)
  expr-comes k (EInteger n s) h = fitted-comes (pos n)
  expr-comes k (EName id s) h = agree.fixed_known id h.1
  expr-comes k (EIndex w e s) h = then-comes (evaluated T [] e) _ (expr-comes (k + 1) e h.2) (λ v p. tt)
  expr-comes k (EAttribute m w s) h = bound-known (limits_named T m.name) (attribute_of w.name)
  expr-comes k (EAttributeOf m w e s) h = then-comes (evaluated T [] e) _ (expr-comes (k + 1) e h.3) (λ v p. attribute-comes (limits_named T m.name) (attribute_of w.name) v)
  expr-comes k (EParen e s) h = expr-comes (k + 1) e h.1
  expr-comes k (EUnary op e s) h = then-comes (evaluated T [] e) _ (expr-comes (k + 1) e h.2) (λ v p. signed-comes op v)
  expr-comes k (EBinary op l r s) h = operated-comes op (evaluated T [] l) (evaluated T [] r) (expr-comes (k + 1) l h.2) (expr-comes (k + 1) r h.3)

  -- ---- initial values

  lower-known : (l : Limits) → Known (lower_bound T l)
  lower-known l = agree.values_known l.kind l.first

  initial-known : (l : Limits) (e : PExpr) → EveryExpr (old_names old) 2 e → Known (initial T l e)
  initial-known l e h = by_result (evaluated T [] e) (expr-comes 2 e h)
    where
      by_test : (b : Bool) (v : Value) → Known v → Known (if b then v else lower_bound T l)
      by_test true v k = k
      by_test false v k = lower-known l

      by_result : (r : Result Value Raised) → Comes r → Known (value_or_lower T l r)
      by_result (Ok v) k = by_test (lies_in l (position_of v)) v k
      by_result (Err x) k = lower-known l

  replicate-known : (n : ℕ) (v : Value) → Known v → AllByRecursion Known (replicate n v)
  replicate-known zero v h = tt
  replicate-known (suc n) v h = (h, replicate-known n v h)

  row-known : (l : Limits) (es : List PExpr) → AllByRecursion (EveryExpr (old_names old) 2) es → AllByRecursion Known (map (initial T l) es)
  row-known l [] h = tt
  row-known l (e ∷ es) h = (initial-known l e h.0, row-known l es h.1)

  abbrev pub InitOld : Option PInit → Type 0
  InitOld (Some i) = EveryInit (old_names old) i
  InitOld None = Unit {0}

  -- the values with which an object starts
  pub initials-known : (form : Form) (i : Option PInit) → InitOld i → AllByRecursion Known (initials T form i)
  initials-known form None h = replicate-known (value_count form.index) _ (lower-known form.limits)
  initials-known form (Some (IOne e)) h = replicate-known (value_count form.index) _ (initial-known form.limits e h)
  initials-known form (Some (IList es s)) h = row-known form.limits es (recursion_from_All (EveryExpr (old_names old) 2) es h.1)
  initials-known form (Some (IOthers e s)) h = replicate-known (value_count form.index) _ (initial-known form.limits e h)

  -- a value at a place, or 0 past the end
  pub there-known : (vs : List Value) (k : ℕ) → AllByRecursion Known vs → Known (slice_index_or vs k (Number (pos 0)))
  there-known [] k h = agree.integers
  there-known (v ∷ vs) zero h = h.0
  there-known (v ∷ vs) (suc k) h = there-known vs k h.1
