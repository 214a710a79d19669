-- What a static expression of a kind is worth is a value of that kind.
use Rattle.std.proofs.Common.{◌≡◌, ℕ, ℤ, zero, suc, pos, negsuc, ◌+ℤ◌, ◌-ℤ◌, Bool, true, false, ◌&&◌, ◌==◌, if◌then◌else◌, List, [], ◌∷◌, is_some, option_map, unwrap_or, IfSome, int_le, int_lt, int_div, int_rem, neg_ℤ, ◌*ℤ◌, length, slice_get, ◌<◌, arith, Option, Some, None, Result, Ok, Err, refl, sym, ap, ◌∙◌, subst, eqb-true}
use Rattle.std.specs.Ordering.{int_eq}
use Rattle.std.specs.List.{AllByRecursion}
use Rattle.std.proofs.lemmas.Int.{ints}
use Rattle.std.proofs.lemmas.Option.{none-some}
use Rattle.std.proofs.lemmas.List.Elements.{recursion_from_All}
use Rattle.ada_tree.specs.declared.naming.NameId.{NameId}
use Rattle.ada_tree.specs.declared.expressions.UnaryOp.{UnaryOp}
use Rattle.ada_tree.specs.declared.expressions.UnaryOp.TheVariants as unary
use Rattle.ada_tree.specs.declared.expressions.BinaryOp.{BinaryOp}
use Rattle.ada_tree.specs.declared.expressions.BinaryOp.TheVariants.{And, Or, Xor, AndThen, OrElse, Equal, NotEqual, Less, LessEqual, Greater, GreaterEqual, Plus, Minus, Times, Divide, Mod, Rem}
use Rattle.ada_tree.specs.declared.static_types.Kind.{Kind}
use Rattle.ada_tree.specs.declared.static_types.Kind.TheVariants as kind
use Rattle.ada_tree.specs.declared.static_types.Mark.{Mark}
use Rattle.ada_tree.specs.declared.static_types.Constant.{Constant}
use Rattle.ada_tree.specs.TypeTable.{TypeTable}
use Rattle.ada_tree.specs.PlainExpr.{PExpr, EInteger, EName, EIndex, EAttribute, EAttributeOf, EParen, EUnary, EBinary}
use Rattle.ada_tree.specs.Attributes.{Attribute, First, Last, Pos, Val, Succ, Pred, Image, NoAttribute, attribute_of, is_bound, false_name, true_name}
use Rattle.ada_static_rules.specs.Scope.{Scope, integer_kind, truth_kind, Thing, TypeMark, ConstantObject, Literal, kind_at, mark_at, and_then, TaskType, SingleTask, TaskObject, TaskArray, Variable, Parameter, LoopParameter, AnException, MainProcedure, AnotherUnit, Unclear, reading_of_kind, reading_of_mark, reading_of, reading, marking_of_kind, marking_of_mark, marking_of, marking, scalar_kind, meaning}
use Rattle.common_lemmas.specs.division.Modulus.{modulus}
use Rattle.ada_static_rules.specs.StaticValue as static
use Rattle.ada_static_rules.specs.StaticValue.{is_integer_value, is_of_kind, is_static, is_named, keeps_static, value_named, mark_named, constant_named, literal_position, position_in, first_of_two}
use Rattle.ada_static_rules.specs.ExprTypes.{Operand, of_kind, takes, takes_one, is_taken, given_by, unary_kind, binary_kind, argument_kind, function_kind, bound_kind, if_kind, name_kind, attribute_kind, kind_of}
use Rattle.ada_value.specs.declared.values.Value.{Value}
use Rattle.ada_value.specs.declared.values.Value.TheVariants.{Number, Truth}
use Rattle.ada_value.specs.declared.values.Raised.{Raised}
use Rattle.ada_value.specs.declared.values.Raised.TheVariants as raised
use Rattle.ada_value.specs.Values as values
use Rattle.ada_value.specs.Values.{position_of, kind_of_value, is_true_value, value_at, value_in, word, placed, based, limits_of, limits_or, limits_named}
use Rattle.ada_value.specs.Evaluating as evaluating
use Rattle.ada_value.specs.Evaluating.{evaluated, literal_value, constant_value, fixed_value, bound_value, attribute_value, signed_value, combined}
use Rattle.ada_value.specs.StaticLaw.{HasFewLiterals, IsSound}
use Rattle.task_laws.specs.legal.rewritten_types.Agreement.{scalar_only, HasMark, IsScalar, Keeps, Sound, WholeTable}
use Rattle.task_laws.proofs.legal.rewritten_types.Lookups.{find-all}
use Rattle.task_laws.specs.legal.types.Typed.{HasLiteral, HasPosition}
use Rattle.task_laws.proofs.legal.types.ExprKinds.{IsClear}
use Rattle.ada_value.proofs.StaticLaws.{small_word}
use Rattle.common_lemmas.proofs.Numbers.{int_le_is}
use Rattle.common_lemmas.proofs.Options.{some_same}
use Rattle.common_lemmas.proofs.Truth.{and_left, and_right, clash}

-- all names are old
abbrev pub anybody : ℕ → Bool
anybody n = true

-- ---- values of a kind

-- The value is of the kind that stands at that place, and the one at its position there; of an enumeration it is a literal.
pub record IsOf (T : TypeTable) (k : ℕ) (v : Value) : Type 0 where
  pub scalar : IsScalar T k
  pub kind : kind_of_value v ≡ k
  pub same : value_at T k (position_of v) ≡ v
  pub literal : HasLiteral (kind_at T k) (position_of v)

-- INTEGER and BOOLEAN stand first alone, and the place of an enumeration is a number of 32 bits
abbrev pub IsPlaced : ℕ → Kind → Type 0
IsPlaced k kind.Integer = k ≡ integer_kind
IsPlaced k kind.Truth = k ≡ truth_kind
IsPlaced k (kind.Enumeration names) = word k ≡ k
IsPlaced k (kind.Array index first last part) = Unit {0}

-- a table whose kinds are placed so, and whose bounds and constants are values of their kinds
pub record IsTyped (T : TypeTable) : Type 0 where
  pub whole : WholeTable T
  pub root : Sound T
  pub sound : IsSound T
  pub places : (k : ℕ) (x : Kind) → kind_at T k ≡ Some x → IsPlaced k x
  pub firsts : AllByRecursion (λ m. HasPosition T m.kind m.first) T.marks
  pub lasts : AllByRecursion (λ m. HasPosition T m.kind m.last) T.marks
  pub constants : AllByRecursion (λ c. HasPosition T (limits_or (mark_at T c.mark)).kind c.value) T.constants
  pub orders : AllByRecursion (λ m. int_le m.first m.last ≡ true) T.marks

-- the scope's names mean what the table says, which the scope's own table keeps
pub record IsOver (T : TypeTable) (s : Scope) : Type 0 where
  pub keeps : Keeps anybody T s.types
  pub clear : IsClear s
  pub marks : (id : NameId) (m : ℕ) → meaning s id ≡ Some (TypeMark m) → mark_named s.types id ≡ mark_at s.types m
  pub constants : (id : NameId) (c : Constant) → constant_named T id ≡ Some c → meaning s id ≡ Some (ConstantObject c.mark)
  pub literals : (id : NameId) (v : Value) → literal_value T.kinds 0 id ≡ Some v → (k : ℕ) × (meaning s id ≡ Some (Literal k)) × IsOf T k v
  pub falses : (id : NameId) → (id.0 == false_name) ≡ true → meaning s id ≡ Some (Literal truth_kind)
  pub trues : (id : NameId) → (id.0 == true_name) ≡ true → meaning s id ≡ Some (Literal truth_kind)

-- ---- results

-- each value that comes out has this
abbrev pub Gives : (Value → Type 0) → Result Value Raised → Type 0
Gives P (Ok v) = P v
Gives P (Err x) = Unit {0}

gives-then : (P : Value → Type 0) (r : Result Value Raised) (f : Value → Result Value Raised) → ((v : Value) → r ≡ Ok v → Gives P (f v)) → Gives P (values.and_then r f)
gives-then P (Ok v) f h = h v refl
gives-then P (Err x) f h = tt

gives-if : (P : Value → Type 0) (b : Bool) (r q : Result Value Raised) → (b ≡ true → Gives P r) → (b ≡ false → Gives P q) → Gives P (if b then r else q)
gives-if P true r q f g = f refl
gives-if P false r q f g = g refl

module _ (T : TypeTable) (typed : IsTyped T) where
  truth-scalar : IsScalar T truth_kind
  truth-scalar = (kind.Truth, ap scalar_only typed.whole.truths)

  truth-of : (b : Bool) → IsOf T truth_kind (Truth b)
  truth-of true = record { scalar = truth-scalar; kind = refl; same = ap (λ o. value_in truth_kind o (pos 1)) typed.whole.truths; literal = subst (λ o. HasLiteral o (pos 1)) (sym typed.whole.truths) tt }
  truth-of false = record { scalar = truth-scalar; kind = refl; same = ap (λ o. value_in truth_kind o (pos 0)) typed.whole.truths; literal = subst (λ o. HasLiteral o (pos 0)) (sym typed.whole.truths) tt }

  number-of : (z : ℤ) → is_integer_value z ≡ true → IsOf T integer_kind (Number z)
  number-of z e = record {
    scalar = (kind.Integer, ap scalar_only typed.whole.integers);
    kind = refl;
    same = ap (λ o. value_in integer_kind o z) typed.whole.integers ∙ ap (λ b. if b then Number z else Number (pos 0)) e;
    literal = subst (λ o. HasLiteral o z) (sym typed.whole.integers) tt;
  }

  fitted-of : (z : ℤ) → Gives (IsOf T integer_kind) (values.fitted z)
  fitted-of z = gives-if (IsOf T integer_kind) (is_integer_value z) (Ok (Number z)) (Err raised.Numeric) (number-of z) (λ e. tt)

  divided-of : (b : ℤ) (z : ℤ) → Gives (IsOf T integer_kind) (evaluating.unless_zero b (values.fitted z))
  divided-of b z = gives-if (IsOf T integer_kind) (int_eq b (pos 0)) (Err raised.Numeric) (values.fitted z) (λ e. tt) (λ e. fitted-of z)

  number-kind : (z : ℤ) → kind_of_value (values.number z) ≡ integer_kind
  number-kind z = by_test (is_integer_value z)
    where
      by_test : (b : Bool) → kind_of_value (if b then Number z else Number (pos 0)) ≡ integer_kind
      by_test true = refl
      by_test false = refl

  -- a value of a kind of values is of that kind
  place-kind : (k : ℕ) (o : Option Kind) (z : ℤ) (x : Kind) → scalar_only o ≡ Some x → kind_at T k ≡ o → kind_of_value (value_in k o z) ≡ k
  place-kind k (Some kind.Integer) z x e f = number-kind z ∙ sym (typed.places k kind.Integer f)
  place-kind k (Some kind.Truth) z x e f = sym (typed.places k kind.Truth f)
  place-kind k (Some (kind.Enumeration names)) (pos n) x e f = refl
  place-kind k (Some (kind.Enumeration names)) (negsuc n) x e f = refl
  place-kind k (Some (kind.Array index first last part)) z x e f = absurd (none-some x e)
  place-kind k None z x e f = absurd (none-some x e)

  pub value-of : (k : ℕ) (z : ℤ) → IsScalar T k → position_of (value_at T k z) ≡ z → HasLiteral (kind_at T k) z → IsOf T k (value_at T k z)
  value-of k z h e l = record {
    scalar = h;
    kind = place-kind k (kind_at T k) z h.0 h.1 refl;
    same = ap (value_at T k) e;
    literal = subst (HasLiteral (kind_at T k)) (sym e) l;
  }

-- ---- positions

-- a value of a kind at a position that the kind has is there
has-position : (k : ℕ) (o : Option Kind) (z : ℤ) → IfSome o HasFewLiterals → is_of_kind o z ≡ true → position_of (value_in k o z) ≡ z
has-position k (Some kind.Integer) z f e = ap (λ b. position_of (if b then Number z else Number (pos 0))) e
has-position k (Some kind.Truth) (pos zero) f e = refl
has-position k (Some kind.Truth) (pos (suc zero)) f e = refl
has-position k (Some kind.Truth) (pos (suc (suc n))) f e =
    let no = int_le_is (pos (suc (suc n))) (pos 1) (and_right (int_le (pos 0) (pos (suc (suc n)))) (int_le (pos (suc (suc n))) (pos 1)) e) in
    absurd (omega (arith, ints))
has-position k (Some kind.Truth) (negsuc n) f e =
    let no = int_le_is (pos 0) (negsuc n) (and_left (int_le (pos 0) (negsuc n)) (int_le (negsuc n) (pos 1)) e) in
    absurd (omega (arith, ints))
has-position k (Some (kind.Enumeration names)) (pos n) f e =
    let under : int_lt (pos n) (pos (length names)) ≡ true = and_right (int_le (pos 0) (pos n)) (int_lt (pos n) (pos (length names))) e in
    let less : n < length names = grind (arith, ints) in
    ap pos (small_word n (omega arith))
has-position k (Some (kind.Enumeration names)) (negsuc n) f e =
    let no = int_le_is (pos 0) (negsuc n) (and_left (int_le (pos 0) (negsuc n)) (int_lt (negsuc n) (pos (length names))) e) in
    absurd (omega (arith, ints))
has-position k (Some (kind.Array index first last part)) z f e = clash e
has-position k None z f e = clash e

-- of an enumeration a literal stands there
base-literal : (o : Option Kind) (z : ℤ) → is_of_kind o z ≡ true → HasLiteral o z
base-literal (Some (kind.Enumeration names)) z e = and_right (int_le (pos 0) z) (int_lt z (pos (length names))) e
base-literal (Some kind.Integer) z e = tt
base-literal (Some kind.Truth) z e = tt
base-literal (Some (kind.Array index first last part)) z e = tt
base-literal None z e = tt

few-at : (xs : List Kind) (k : ℕ) → AllByRecursion HasFewLiterals xs → IfSome (slice_get xs k) HasFewLiterals
few-at [] k h = tt
few-at (x ∷ xs) zero h = h.0
few-at (x ∷ xs) (suc k) h = few-at xs k h.1

-- ---- kinds of names and operators

-- a scalar reading of a mark
pub kind-read : (j : ℕ) (o : Option Kind) (k : ℕ) → name_kind (reading_of_kind j o) ≡ Some k → (j ≡ k) × ((x : Kind) × (scalar_only o ≡ Some x))
kind-read j (Some kind.Integer) k e = (some_same e, (_, refl))
kind-read j (Some kind.Truth) k e = (some_same e, (_, refl))
kind-read j (Some (kind.Enumeration names)) k e = (some_same e, (_, refl))
kind-read j (Some (kind.Array index first last part)) k e = absurd (none-some k e)
kind-read j None k e = absurd (none-some k e)

-- the mark of a name that is a scalar one
pub record IsMarkOf (T : TypeTable) (id : NameId) (k : ℕ) : Type 0 where
  pub mark : Mark
  pub named : mark_named T id ≡ Some mark
  pub kind : mark.kind ≡ k
  pub scalar : IsScalar T k

marked-kind : (m j : ℕ) (o : Option Kind) (k : ℕ) → scalar_kind (marking_of_kind m j o) ≡ Some k → (j ≡ k) × ((x : Kind) × (scalar_only o ≡ Some x))
marked-kind m j (Some kind.Integer) k e = (some_same e, (_, refl))
marked-kind m j (Some kind.Truth) k e = (some_same e, (_, refl))
marked-kind m j (Some (kind.Enumeration names)) k e = (some_same e, (_, refl))
marked-kind m j (Some (kind.Array index first last part)) k e = absurd (none-some k e)
marked-kind m j None k e = absurd (none-some k e)

pub unary-given : (o : Operand) (q : Option ℕ) (k : ℕ) → unary_kind o q ≡ Some k → given_by o ≡ k
unary-given o (Some j) k e = by_test (is_taken o j) e
  where
    by_test : (b : Bool) → (if b then Some (given_by o) else None) ≡ Some k → given_by o ≡ k
    by_test true f = some_same f
    by_test false f = absurd (none-some k f)
unary-given o None k e = absurd (none-some k e)

-- both operands fit
pub record AreTaken (o : Operand) (p q : Option ℕ) (k : ℕ) : Type 0 where
  pub left : ℕ
  pub right : ℕ
  pub first : p ≡ Some left
  pub second : q ≡ Some right
  pub taken : is_taken o left ≡ true
  pub same : (left == right) ≡ true
  pub given : given_by o ≡ k

pub are-taken : (o : Operand) (p q : Option ℕ) (k : ℕ) → binary_kind o p q ≡ Some k → AreTaken o p q k
are-taken o (Some i) (Some j) k e = by_tests (is_taken o i) (is_taken o j) (i == j) refl refl e
  where
    by_tests : (a b c : Bool) → is_taken o i ≡ a → (i == j) ≡ c → (if a && b && c then Some (given_by o) else None) ≡ Some k → AreTaken o (Some i) (Some j) k
    by_tests true true true p q f = record { left = i; right = j; first = refl; second = refl; taken = p; same = q; given = some_same f }
    by_tests true true false p q f = absurd (none-some k f)
    by_tests true false c p q f = absurd (none-some k f)
    by_tests false b c p q f = absurd (none-some k f)
are-taken o (Some i) None k e = absurd (none-some k e)
are-taken o None q k e = absurd (none-some k e)

-- the argument and the result of an attribute
pub if-same : (k : ℕ) (q o : Option ℕ) (j : ℕ) → if_kind k q o ≡ Some j → o ≡ Some j
if-same k (Some i) o j e = by_test (k == i) e
  where
    by_test : (b : Bool) → (if b then o else None) ≡ Some j → o ≡ Some j
    by_test true f = f
    by_test false f = absurd (none-some j f)
if-same k None o j e = absurd (none-some j e)

-- where no literal has a value none has a position
pub literal-none : (ks : List Kind) (k : ℕ) (id : NameId) → literal_value ks k id ≡ None → literal_position ks id ≡ None
literal-none [] k id e = refl
literal-none (x ∷ rest) k id e = by_place (position_in id x) e (literal-none rest (suc k) id)
  where
    by_place : (o : Option ℕ) → first_of_two (option_map (λ n. placed (word k) (pos n)) o) (literal_value rest (suc k) id) ≡ None →
        (literal_value rest (suc k) id ≡ None → literal_position rest id ≡ None) → first_of_two o (literal_position rest id) ≡ None
    by_place (Some n) f later = absurd (none-some _ (sym f))
    by_place None f later = later f

module _ (T : TypeTable) (s : Scope) (typed : IsTyped T) (over : IsOver T s) where
  -- ---- names

  pub scalar-kept : (k : ℕ) → ((x : Kind) × (scalar_only (kind_at s.types k) ≡ Some x)) → IsScalar T k
  scalar-kept k h = (h.0, sym (over.keeps.kinds k) ∙ h.1)

  pub mark-of : (id : NameId) (k : ℕ) → scalar_kind (marking s id) ≡ Some k → IsMarkOf T id k
  mark-of id k e = by_thing (meaning s id) refl e
    where
      by_kind : (m : ℕ) (x : Mark) → meaning s id ≡ Some (TypeMark m) → mark_at s.types m ≡ Some x → scalar_kind (marking_of_kind m x.kind (kind_at s.types x.kind)) ≡ Some k → IsMarkOf T id k
      by_kind m x p q f =
          let r = marked-kind m x.kind (kind_at s.types x.kind) k f in
          record {
            mark = x;
            named = sym (over.keeps.marks id refl) ∙ over.marks id m p ∙ q;
            kind = r.0;
            scalar = scalar-kept k (subst (λ j. (y : Kind) × (scalar_only (kind_at s.types j) ≡ Some y)) r.0 r.1);
          }

      by_mark : (m : ℕ) (o : Option Mark) → meaning s id ≡ Some (TypeMark m) → mark_at s.types m ≡ o → scalar_kind (marking_of_mark s.types m o) ≡ Some k → IsMarkOf T id k
      by_mark m (Some x) p q f = by_kind m x p q f
      by_mark m None p q f = absurd (none-some k f)

      by_thing : (o : Option Thing) → meaning s id ≡ o → scalar_kind (marking_of s.types o) ≡ Some k → IsMarkOf T id k
      by_thing (Some (TypeMark m)) p f = by_mark m (mark_at s.types m) p refl f
      by_thing (Some (TaskType entries)) p f = absurd (none-some k f)
      by_thing (Some (SingleTask entries)) p f = absurd (none-some k f)
      by_thing (Some (TaskObject entries)) p f = absurd (none-some k f)
      by_thing (Some (TaskArray range entries)) p f = absurd (none-some k f)
      by_thing (Some (Variable m)) p f = absurd (none-some k f)
      by_thing (Some (ConstantObject m)) p f = absurd (none-some k f)
      by_thing (Some (Parameter mode m)) p f = absurd (none-some k f)
      by_thing (Some (LoopParameter m)) p f = absurd (none-some k f)
      by_thing (Some (Literal j)) p f = absurd (none-some k f)
      by_thing (Some AnException) p f = absurd (none-some k f)
      by_thing (Some MainProcedure) p f = absurd (none-some k f)
      by_thing (Some AnotherUnit) p f = absurd (none-some k f)
      by_thing (Some Unclear) p f = absurd (none-some k f)
      by_thing None p f = absurd (none-some k f)

  -- what a reading tells where the name's meaning is known
  read-as : (id : NameId) (x : Thing) (k : ℕ) → meaning s id ≡ Some x → name_kind (reading s id) ≡ Some k → name_kind (reading_of s.types (Some x)) ≡ Some k
  read-as id x k e f = ap (λ o. name_kind (reading_of s.types o)) (sym e) ∙ f

  constant-of : (id : NameId) (c : Constant) (k : ℕ) → constant_named T id ≡ Some c → name_kind (reading s id) ≡ Some k → IsOf T k (constant_value T c)
  constant-of id c k e f =
      let x : HasMark T c.mark = find-all (λ (d : Constant). HasMark T d.mark) (λ d. d.name.0 == id.0) T.constants c typed.root.constants e in
      let h = find-all (λ (d : Constant). HasPosition T (limits_or (mark_at T d.mark)).kind d.value) (λ d. d.name.0 == id.0) T.constants c typed.constants e in
      let r = kind-read x.0.kind (kind_at s.types x.0.kind) k (ap (λ o. name_kind (reading_of_mark s.types o)) (sym (over.keeps.grows.mark c.mark x.0 x.1)) ∙ read-as id (ConstantObject c.mark) k (over.constants id c e) f) in
      let same : (limits_or (mark_at T c.mark)).kind ≡ x.0.kind = ap (λ o. (limits_or o).kind) x.1 in
      subst (λ j. IsOf T j (constant_value T c)) (same ∙ r.0)
      (value-of T typed (limits_or (mark_at T c.mark)).kind c.value (subst (IsScalar T) (sym same) (scalar-kept x.0.kind r.1)) h.same h.literal)

  name-of : (id : NameId) (k : ℕ) → is_some (value_named T id) ≡ true → name_kind (reading s id) ≡ Some k → IsOf T k (fixed_value T id)
  name-of id k st f = by_tests (id.0 == false_name) (id.0 == true_name) refl refl st
    where
      by_literal : (l : Option Value) → literal_value T.kinds 0 id ≡ l → is_some (option_map (λ n. pos n) (literal_position T.kinds id)) ≡ true → IsOf T k (unwrap_or l (Number (pos 0)))
      by_literal (Some v) q g =
          let x = over.literals id v q in
          subst (λ j. IsOf T j v) (some_same (read-as id (Literal x.0) k x.1 f)) x.2
      by_literal None q g = clash (ap (λ o. is_some (option_map (λ n. pos n) o)) (sym (literal-none T.kinds 0 id q)) ∙ g)

      by_constant : (c : Option Constant) → constant_named T id ≡ c → is_some (first_of_two (option_map (λ d. d.value) c) (option_map (λ n. pos n) (literal_position T.kinds id))) ≡ true →
          IsOf T k (unwrap_or (first_of_two (option_map (constant_value T) c) (literal_value T.kinds 0 id)) (Number (pos 0)))
      by_constant (Some c) q g = constant-of id c k q f
      by_constant None q g = by_literal (literal_value T.kinds 0 id) refl g

      by_tests : (a b : Bool) → (id.0 == false_name) ≡ a → (id.0 == true_name) ≡ b →
          is_some (if a then Some (pos 0) else if b then Some (pos 1) else first_of_two (option_map (λ d. d.value) (constant_named T id)) (option_map (λ n. pos n) (literal_position T.kinds id))) ≡ true →
          IsOf T k (if a then Truth false else if b then Truth true else unwrap_or (first_of_two (option_map (constant_value T) (constant_named T id)) (literal_value T.kinds 0 id)) (Number (pos 0)))
      by_tests true b p q g = subst (λ j. IsOf T j (Truth false)) (some_same (read-as id (Literal truth_kind) k (over.falses id p) f)) (truth-of T typed false)
      by_tests false true p q g = subst (λ j. IsOf T j (Truth true)) (some_same (read-as id (Literal truth_kind) k (over.trues id q) f)) (truth-of T typed true)
      by_tests false false p q g = by_constant (constant_named T id) refl g

  -- ---- attributes

  bound-of : (id : NameId) (a : Attribute) (k : ℕ) → is_bound a ≡ true → and_then (bound_kind a) (scalar_kind (marking s id)) ≡ Some k → IsOf T k (bound_value T (limits_named T id) a)
  bound-of id a k b e = by_kind (scalar_kind (marking s id)) refl e
    where
      by_mark : (h : IsMarkOf T id k) → IsOf T k (bound_value T (limits_of h.mark) a)
      by_mark h =
          let m = h.mark in
          let f = find-all (λ (x : Mark). HasPosition T x.kind x.first) (λ x. is_named id x.name) T.marks m typed.firsts h.named in
          let l = find-all (λ (x : Mark). HasPosition T x.kind x.last) (λ x. is_named id x.name) T.marks m typed.lasts h.named in
          let scalar : IsScalar T m.kind = subst (IsScalar T) (sym h.kind) h.scalar in
          subst (λ j. IsOf T j (bound_value T (limits_of m) a)) h.kind (by_attribute a b (value-of T typed m.kind m.first scalar f.same f.literal) (value-of T typed m.kind m.last scalar l.same l.literal))
        where
          by_attribute : (a : Attribute) → is_bound a ≡ true → IsOf T h.mark.kind (value_at T h.mark.kind h.mark.first) → IsOf T h.mark.kind (value_at T h.mark.kind h.mark.last) → IsOf T h.mark.kind (bound_value T (limits_of h.mark) a)
          by_attribute First b f l = f
          by_attribute Last b f l = l
          by_attribute Pos b f l = clash b
          by_attribute Val b f l = clash b
          by_attribute Succ b f l = clash b
          by_attribute Pred b f l = clash b
          by_attribute Image b f l = clash b
          by_attribute NoAttribute b f l = clash b

      bound-same : (a : Attribute) (j : ℕ) → is_bound a ≡ true → bound_kind a j ≡ Some k → j ≡ k
      bound-same First j b f = some_same f
      bound-same Last j b f = some_same f
      bound-same Pos j b f = clash b
      bound-same Val j b f = clash b
      bound-same Succ j b f = clash b
      bound-same Pred j b f = clash b
      bound-same Image j b f = clash b
      bound-same NoAttribute j b f = clash b

      by_kind : (o : Option ℕ) → scalar_kind (marking s id) ≡ o → and_then (bound_kind a) o ≡ Some k → IsOf T k (bound_value T (limits_named T id) a)
      by_kind (Some j) p f =
          let h = mark-of id k (p ∙ ap Some (bound-same a j b f)) in
          subst (λ o. IsOf T k (bound_value T (limits_or o) a)) (sym h.named) (by_mark h)
      by_kind None p f = absurd (none-some k f)

  based-of : (k : ℕ) (z : ℤ) → IsScalar T k → Gives (IsOf T k) (based T k z)
  based-of k z h =
      gives-if (IsOf T k) (is_of_kind (kind_at T k) z) (Ok (value_at T k z)) (Err raised.Constraint)
      (λ e. value-of T typed k z h (has-position k (kind_at T k) z (few-at T.kinds k (recursion_from_All _ T.kinds typed.sound.kinds)) e) (base-literal (kind_at T k) z e)) (λ e. tt)

  attribute-of : (id : NameId) (a : Attribute) (k : ℕ) (q : Option ℕ) (v : Value) → keeps_static a ≡ true → attribute_kind a (scalar_kind (marking s id)) q ≡ Some k → Gives (IsOf T k) (attribute_value T (limits_named T id) a v)
  attribute-of id a k q v st e = by_kind (scalar_kind (marking s id)) refl e
    where
      by_attribute : (j : ℕ) (h : IsMarkOf T id j) (a : Attribute) → keeps_static a ≡ true → function_kind a j ≡ Some k → Gives (IsOf T k) (attribute_value T (limits_of h.mark) a v)
      by_attribute j h Pos st f = subst (λ i. Gives (IsOf T i) (values.fitted (position_of v))) (some_same f) (fitted-of T typed (position_of v))
      by_attribute j h Val st f = subst (λ i. Gives (IsOf T i) (based T h.mark.kind (position_of v))) (h.kind ∙ some_same f) (based-of h.mark.kind _ (subst (IsScalar T) (sym h.kind) h.scalar))
      by_attribute j h Succ st f = subst (λ i. Gives (IsOf T i) (based T h.mark.kind (position_of v +ℤ pos 1))) (h.kind ∙ some_same f) (based-of h.mark.kind _ (subst (IsScalar T) (sym h.kind) h.scalar))
      by_attribute j h Pred st f = subst (λ i. Gives (IsOf T i) (based T h.mark.kind (position_of v -ℤ pos 1))) (h.kind ∙ some_same f) (based-of h.mark.kind _ (subst (IsScalar T) (sym h.kind) h.scalar))
      by_attribute j h First st f = clash st
      by_attribute j h Last st f = clash st
      by_attribute j h Image st f = clash st
      by_attribute j h NoAttribute st f = clash st

      by_kind : (o : Option ℕ) → scalar_kind (marking s id) ≡ o → attribute_kind a o q ≡ Some k → Gives (IsOf T k) (attribute_value T (limits_named T id) a v)
      by_kind (Some j) p f =
          let h = mark-of id j p in
          subst (λ o. Gives (IsOf T k) (attribute_value T (limits_or o) a v)) (sym h.named) (by_attribute j h a st (if-same (argument_kind a j) q (function_kind a j) k f))
      by_kind None p f = absurd (none-some k f)

  -- ---- operators

  signed-of : (op : UnaryOp) (v : Value) → Gives (IsOf T (given_by (takes_one op))) (signed_value op v)
  signed-of unary.Plus v = fitted-of T typed (position_of v)
  signed-of unary.Minus v = fitted-of T typed (neg_ℤ (position_of v))
  signed-of unary.Abs v = fitted-of T typed (if int_lt (position_of v) (pos 0) then neg_ℤ (position_of v) else position_of v)
  signed-of unary.Not v = truth-of T typed _

  combined-of : (op : BinaryOp) (a b : Value) → Gives (IsOf T (given_by (takes op))) (combined op a b)
  combined-of And a b = truth-of T typed _
  combined-of AndThen a b = truth-of T typed _
  combined-of Or a b = truth-of T typed _
  combined-of OrElse a b = truth-of T typed _
  combined-of Xor a b = truth-of T typed _
  combined-of Equal a b = truth-of T typed _
  combined-of NotEqual a b = truth-of T typed _
  combined-of Less a b = truth-of T typed _
  combined-of LessEqual a b = truth-of T typed _
  combined-of Greater a b = truth-of T typed _
  combined-of GreaterEqual a b = truth-of T typed _
  combined-of Plus a b = fitted-of T typed (position_of a +ℤ position_of b)
  combined-of Minus a b = fitted-of T typed (position_of a -ℤ position_of b)
  combined-of Times a b = fitted-of T typed (position_of a *ℤ position_of b)
  combined-of Divide a b = divided-of T typed (position_of b) (int_div (position_of a) (position_of b))
  combined-of Mod a b = divided-of T typed (position_of b) (modulus (position_of a) (position_of b))
  combined-of Rem a b = divided-of T typed (position_of b) (int_rem (position_of a) (position_of b))

  both-of : (op : BinaryOp) (l r : Result Value Raised) → Gives (IsOf T (given_by (takes op))) (values.and_then l (λ a. values.and_then r (λ b. combined op a b)))
  both-of op l r = gives-then _ l _ (λ a e. gives-then _ r _ (λ b f. combined-of op a b))

  -- the right one of a short-circuit form counts where the left one does not decide
  operated-of : (op : BinaryOp) (l r : Result Value Raised) → (takes op ≡ of_kind truth_kind → Gives (IsOf T truth_kind) r) → Gives (IsOf T (given_by (takes op))) (evaluating.operated op l r)
  operated-of AndThen l r h = gives-then (IsOf T truth_kind) l _ (λ a e. gives-if (IsOf T truth_kind) (is_true_value a) r (Ok (Truth false)) (λ t. h refl) (λ t. truth-of T typed false))
  operated-of OrElse l r h = gives-then (IsOf T truth_kind) l _ (λ a e. gives-if (IsOf T truth_kind) (is_true_value a) (Ok (Truth true)) r (λ t. truth-of T typed true) (λ t. h refl))
  operated-of And l r h = both-of And l r
  operated-of Or l r h = both-of Or l r
  operated-of Xor l r h = both-of Xor l r
  operated-of Equal l r h = both-of Equal l r
  operated-of NotEqual l r h = both-of NotEqual l r
  operated-of Less l r h = both-of Less l r
  operated-of LessEqual l r h = both-of LessEqual l r
  operated-of Greater l r h = both-of Greater l r
  operated-of GreaterEqual l r h = both-of GreaterEqual l r
  operated-of Plus l r h = both-of Plus l r
  operated-of Minus l r h = both-of Minus l r
  operated-of Times l r h = both-of Times l r
  operated-of Divide l r h = both-of Divide l r
  operated-of Mod l r h = both-of Mod l r
  operated-of Rem l r h = both-of Rem l r

  -- an operand of a logical operator is of BOOLEAN
  right-truth : (op : BinaryOp) (p q : Option ℕ) (k : ℕ) → AreTaken (takes op) p q k → takes op ≡ of_kind truth_kind → q ≡ Some truth_kind
  right-truth op p q k h e =
      let taken : (truth_kind == h.left) ≡ true = ap (λ o. is_taken o h.left) (sym e) ∙ h.taken in
      h.second ∙ ap Some (sym (eqb-true truth_kind h.left taken ∙ eqb-true h.left h.right h.same))

  -- ---- expressions

  -- What a static expression of a kind is worth without variables is a value of that kind.
  pub typed-gives : (e : PExpr) → is_static T e ≡ true → (k : ℕ) → kind_of s e ≡ Some k → Gives (IsOf T k) (evaluated T [] e)
  typed-gives (EInteger n sp) st k e = subst (λ j. Gives (IsOf T j) (values.fitted (pos n))) (some_same e) (fitted-of T typed (pos n))
  typed-gives (EName id sp) st k e = name-of id k st e
  typed-gives (EIndex w x sp) st k e = clash st
  typed-gives (EAttribute m w sp) st k e = bound-of m.name (attribute_of w.name) k (and_left (is_bound (attribute_of w.name)) _ st) e
  typed-gives (EAttributeOf m w x sp) st k e =
      gives-then (IsOf T k) (evaluated T [] x) _
      (λ v f. attribute-of m.name (attribute_of w.name) k (kind_of s x) v (and_left (keeps_static (attribute_of w.name)) _ (and_left _ (is_static T x) st)) e)
  typed-gives (EParen x sp) st k e = typed-gives x st k e
  typed-gives (EUnary op x sp) st k e =
      gives-then (IsOf T k) (evaluated T [] x) _
      (λ v f. subst (λ j. Gives (IsOf T j) (signed_value op v)) (unary-given (takes_one op) (kind_of s x) k e) (signed-of op v))
  typed-gives (EBinary op l r sp) st k e =
      let h = are-taken (takes op) (kind_of s l) (kind_of s r) k e in
      subst (λ j. Gives (IsOf T j) (evaluating.operated op (evaluated T [] l) (evaluated T [] r))) h.given
      (operated-of op (evaluated T [] l) (evaluated T [] r) (λ f. typed-gives r (and_right (is_static T l) (is_static T r) st) truth_kind (right-truth op (kind_of s l) (kind_of s r) k h f)))
