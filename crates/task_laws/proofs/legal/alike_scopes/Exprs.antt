-- Where old names mean the same, an expression of old names is of the same kind, static in both scopes, and of the same value; so are ranges, targets
-- and selectors of them.
use Rattle.std.proofs.Common.{◌≡◌, ℕ, ℤ, pos, ◌+ℤ◌, ◌-ℤ◌, Bool, true, false, ◌&&◌, ◌==◌, if◌then◌else◌, Option, Some, None, IfSome, is_some, Result, Ok, Err, refl, sym, ap, ap₂, ◌∙◌, subst}
use Rattle.ada_tree.specs.declared.naming.NameId.{NameId}
use Rattle.ada_tree.specs.declared.naming.Span.{Span}
use Rattle.ada_tree.specs.declared.expressions.UnaryOp.{UnaryOp}
use Rattle.ada_tree.specs.declared.expressions.UnaryOp.TheVariants as unary
use Rattle.ada_tree.specs.declared.expressions.BinaryOp.{BinaryOp}
use Rattle.ada_tree.specs.declared.expressions.BinaryOp.TheVariants.{And, Or, Xor, AndThen, OrElse, Equal, NotEqual, Less, LessEqual, Greater, GreaterEqual, Plus, Minus, Times, Divide, Mod, Rem}
use Rattle.ada_tree.specs.declared.static_types.Kind.TheVariants.{Integer, Truth}
use Rattle.ada_tree.specs.declared.static_types.Mark.{Mark}
use Rattle.ada_tree.specs.TypeTable.{TypeTable}
use Rattle.ada_tree.specs.Attributes.{Attribute, First, Last, Pos, Val, Succ, Pred, Image, NoAttribute, attribute_of, is_bound}
use Rattle.ada_tree.specs.PlainExpr.{PExpr, EInteger, EName, EIndex, EAttribute, EAttributeOf, EParen, EUnary, EBinary, PBounds, PDrange, RGiven, RMarked}
use Rattle.ada_static_rules.specs.Scope.{Scope, Reading, reading, Marking, ScalarMark, marking, scalar_kind, kind_at, kind_of_mark, meaning, integer_kind, truth_kind, and_then}
use Rattle.ada_static_rules.specs.StaticValue.{mark_named, keeps_static, is_static, is_of_kind, bound_of, of_base, attribute_at, then_do, signed, operated, named, value_of}
use Rattle.ada_static_rules.specs.ExprTypes.{Operand, takes, takes_one, is_taken, given_by, unary_kind, binary_kind, bound_kind, argument_kind, function_kind, if_kind, attribute_kind, name_kind, component_kind, kind_of, is_kind, ok_value, static_in, range_between, static_range}
use Rattle.ada_static_rules.specs.Declaring.{given_range, marked_range, drange_kind}
use Rattle.task_laws.specs.legal.rewritten_types.Agreement.{scalar_only, IsScalar}
use Rattle.task_laws.specs.legal.alike_scopes.Alike.{SameScalar, SameTypes, SameNames}
use Rattle.task_laws.specs.legal.alike_scopes.Old.{IsOldExpr, IsOldBounds, IsOldDrange}
use Rattle.task_laws.specs.legal.alike_scopes.Laws.{SameExpr, SameDrange, ExprsAreSame, DrangesAreSame}
use Rattle.task_laws.proofs.legal.alike_scopes.Marks.{kind-ranged}
use Rattle.task_laws.proofs.legal.alike_scopes.Readings.{IsNoMark, is_task_mark, is_no_mark, is_unknown_mark, SameReading, both_scalar, both_rows, both_nothing, both_unclear, SameMarking, both_scalars, both_arrays, both_no_marks, both_unclear_marks, reading-same, marking-same, name-same, component-same, scalar-same, nothing-kind, nothing-part, no-mark-kind}
use Rattle.task_laws.proofs.legal.rewritten_types.Lookups.{of-kind-only}

-- ---- static values

-- what comes after a value is the same where it is so for each value
then-same : (f g : ℤ → Result ℤ Span) → ((z : ℤ) → f z ≡ g z) → (r : Result ℤ Span) → then_do f r ≡ then_do g r
then-same f g h (Ok z) = h z
then-same f g h (Err s) = refl

module _ (old : ℕ → Bool) (T U : TypeTable) (same : SameTypes old T U) where
  -- a value is one of the type of an old name
  base-same : (id : NameId) → old id.0 ≡ true → (s : Span) (z : ℤ) → of_base T (mark_named T id) s z ≡ of_base U (mark_named U id) s z
  base-same id o s z = by_mark (mark_named T id) refl ∙ ap (λ m. of_base U m s z) (same.marks id o)
    where
      by_mark : (m : Option Mark) → mark_named T id ≡ m → of_base T m s z ≡ of_base U m s z
      by_mark (Some m) e =
          ap (λ b. if b then Ok z else Err s)
          (of-kind-only (kind_at T m.kind) z ∙ ap (λ k. is_of_kind k z) (same.mark_kinds id m o e) ∙ sym (of-kind-only (kind_at U m.kind) z))
      by_mark None e = refl

  attribute-same : (a : Attribute) (id : NameId) → old id.0 ≡ true → (s : Span) (z : ℤ) → attribute_at T (mark_named T id) a s z ≡ attribute_at U (mark_named U id) a s z
  attribute-same Pos id o s z = refl
  attribute-same Val id o s z = base-same id o s z
  attribute-same Succ id o s z = base-same id o s (z +ℤ pos 1)
  attribute-same Pred id o s z = base-same id o s (z -ℤ pos 1)
  attribute-same First id o s z = refl
  attribute-same Last id o s z = refl
  attribute-same Image id o s z = refl
  attribute-same NoAttribute id o s z = refl

  pub static-same : (e : PExpr) → IsOldExpr old e → is_static T e ≡ is_static U e
  static-same (EInteger n s) o = refl
  static-same (EName id s) o = ap is_some (same.values id o)
  static-same (EIndex w e s) o = refl
  static-same (EAttribute m w s) o = ap (λ x. is_bound (attribute_of w.name) && is_some x) (same.marks m.name o)
  static-same (EAttributeOf m w e s) o = ap₂ (λ x b. keeps_static (attribute_of w.name) && is_some x && b) (same.marks m.name o.0) (static-same e o.1)
  static-same (EParen e s) o = static-same e o
  static-same (EUnary op e s) o = static-same e o
  static-same (EBinary op l r s) o = ap₂ (λ a b. a && b) (static-same l o.0) (static-same r o.1)

  pub value-same : (e : PExpr) → IsOldExpr old e → value_of T e ≡ value_of U e
  value-same (EInteger n s) o = refl
  value-same (EName id s) o = ap named (same.values id o)
  value-same (EIndex w e s) o = refl
  value-same (EAttribute m w s) o = ap (λ x. Ok (bound_of (attribute_of w.name) x)) (same.marks m.name o)
  value-same (EAttributeOf m w e s) o =
      then-same _ _ (attribute-same (attribute_of w.name) m.name o.0 s) (value_of T e)
      ∙ ap (then_do (attribute_at U (mark_named U m.name) (attribute_of w.name) s)) (value-same e o.1)
  value-same (EParen e s) o = value-same e o
  value-same (EUnary op e s) o = ap (then_do (signed op s)) (value-same e o)
  value-same (EBinary op l r s) o = ap₂ (operated op s) (value-same l o.0) (value-same r o.1)

-- ---- kinds are kinds of values

-- what an option has, if anything
abbrev pub Each : (ℕ → Type 0) → Option ℕ → Type 0
Each P (Some k) = P k
Each P None = Unit {0}

pub each-some : (P : ℕ → Type 0) (o : Option ℕ) (k : ℕ) → Each P o → o ≡ Some k → P k
each-some P o k h e = subst (Each P) e h

if-each : (P : ℕ → Type 0) (k : ℕ) (a o : Option ℕ) → Each P o → Each P (if_kind k a o)
if-each P k (Some j) o h = by_test (k == j)
  where
    by_test : (b : Bool) → Each P (if b then o else None)
    by_test true = h
    by_test false = tt
if-each P k None o h = tt

bound-each : (P : ℕ → Type 0) (a : Attribute) (o : Option ℕ) → Each P o → Each P (and_then (bound_kind a) o)
bound-each P a None h = tt
bound-each P First (Some k) h = h
bound-each P Last (Some k) h = h
bound-each P Pos (Some k) h = tt
bound-each P Val (Some k) h = tt
bound-each P Succ (Some k) h = tt
bound-each P Pred (Some k) h = tt
bound-each P Image (Some k) h = tt
bound-each P NoAttribute (Some k) h = tt

function-each : (P : ℕ → Type 0) → P integer_kind → (a : Attribute) (k : ℕ) → P k → Each P (function_kind a k)
function-each P i Pos k h = i
function-each P i Val k h = h
function-each P i Succ k h = h
function-each P i Pred k h = h
function-each P i First k h = tt
function-each P i Last k h = tt
function-each P i Image k h = tt
function-each P i NoAttribute k h = tt

attribute-each : (P : ℕ → Type 0) → P integer_kind → (a : Attribute) (m o : Option ℕ) → Each P m → Each P (attribute_kind a m o)
attribute-each P i a (Some k) o h = if-each P (argument_kind a k) o (function_kind a k) (function-each P i a k h)
attribute-each P i a None o h = tt

given-each : (P : ℕ → Type 0) (b : Bool) (k : ℕ) → P k → Each P (if b then Some k else None)
given-each P true k h = h
given-each P false k h = tt

unary-each : (P : ℕ → Type 0) (x : Operand) (o : Option ℕ) → P (given_by x) → Each P (unary_kind x o)
unary-each P x (Some k) h = given-each P (is_taken x k) (given_by x) h
unary-each P x None h = tt

binary-each : (P : ℕ → Type 0) (x : Operand) (o p : Option ℕ) → P (given_by x) → Each P (binary_kind x o p)
binary-each P x (Some k) (Some l) h = given-each P (is_taken x k && is_taken x l && (k == l)) (given_by x) h
binary-each P x (Some k) None h = tt
binary-each P x None p h = tt

-- ---- two scopes

-- what a mark is not has no range
no-mark-range : (s : Scope) (p : Marking) (b : Option PBounds) → IsNoMark p → marked_range s p b ≡ None
no-mark-range s p b (is_task_mark entries e) = ap (λ m. marked_range s m b) e
no-mark-range s p b (is_no_mark e) = ap (λ m. marked_range s m b) e
no-mark-range s p b (is_unknown_mark e) = ap (λ m. marked_range s m b) e

module _ (old : ℕ → Bool) (s t : Scope) (n : SameNames old s t) where
  pub read-same : (id : NameId) → old id.0 ≡ true → SameReading s.types t.types (reading s id) (reading t id)
  read-same id o = reading-same s.types t.types n.types.kinds (meaning s id) (meaning t id) (n.things id o)

  pub mark-same : (id : NameId) → old id.0 ≡ true → SameMarking s.types t.types (marking s id) (marking t id)
  mark-same id o = marking-same s.types t.types n.types.kinds (meaning s id) (meaning t id) (n.things id o)

  pub mark-kind-same : (id : NameId) → old id.0 ≡ true → scalar_kind (marking s id) ≡ scalar_kind (marking t id)
  mark-kind-same id o = scalar-same s.types t.types (marking s id) (marking t id) (mark-same id o)

  -- the kind of an expression
  pub kind-same : (e : PExpr) → IsOldExpr old e → kind_of s e ≡ kind_of t e
  kind-same (EInteger z sp) o = refl
  kind-same (EName id sp) o = name-same s.types t.types (reading s id) (reading t id) (read-same id o)
  kind-same (EIndex w e sp) o =
      ap (component_kind s.types (reading s w.name)) (kind-same e o.1)
      ∙ component-same s.types t.types (reading s w.name) (reading t w.name) (kind_of t e) (read-same w.name o.0)
  kind-same (EAttribute m w sp) o = ap (and_then (bound_kind (attribute_of w.name))) (mark-kind-same m.name o)
  kind-same (EAttributeOf m w e sp) o = ap₂ (attribute_kind (attribute_of w.name)) (mark-kind-same m.name o.0) (kind-same e o.1)
  kind-same (EParen e sp) o = kind-same e o
  kind-same (EUnary op e sp) o = ap (unary_kind (takes_one op)) (kind-same e o)
  kind-same (EBinary op l r sp) o = ap₂ (binary_kind (takes op)) (kind-same l o.0) (kind-same r o.1)

  pub expr-same : (e : PExpr) → IsOldExpr old e → SameExpr s t e
  expr-same e o = record { kind = kind-same e o; static = static-same old s.types t.types n.types e o; value = value-same old s.types t.types n.types e o }

  -- ---- ranges

  pub static-in-same : (k : ℕ) (e : PExpr) → IsOldExpr old e → static_in s k e ≡ static_in t k e
  static-in-same k e o =
      let x = expr-same e o in
      ap (λ j. if is_kind k j && is_static s.types e then ok_value (value_of s.types e) else None) x.kind
      ∙ ap₂ (λ b v. if is_kind k (kind_of t e) && b then ok_value v else None) x.static x.value

  pub range-same : (k : ℕ) (b : PBounds) → IsOldBounds old b → static_range s k b ≡ static_range t k b
  range-same k b o = ap₂ (range_between k) (static-in-same k b.first o.0) (static-in-same k b.last o.1)

  given-same : (k : Option ℕ) (b : PBounds) → IsOldBounds old b → given_range s k b ≡ given_range t k b
  given-same (Some k) b o = range-same k b o
  given-same None b o = refl

  -- the range of a mark, with bounds of its own or without
  marked-values : (i j : ℕ) (x : SameScalar s.types t.types i j) (b : Option PBounds) → IfSome b (IsOldBounds old) →
      marked_range s (ScalarMark i x.range.kind) b ≡ marked_range t (ScalarMark j x.range.kind) b
  marked-values i j x None o = x.left ∙ sym x.right
  marked-values i j x (Some b) o = range-same x.range.kind b o

  marked-same : (p q : Marking) (b : Option PBounds) → IfSome b (IsOldBounds old) → SameMarking s.types t.types p q → marked_range s p b ≡ marked_range t q b
  marked-same p q b o (both_scalars i j x e f) = ap (λ m. marked_range s m b) e ∙ marked-values i j x b o ∙ sym (ap (λ m. marked_range t m b) f)
  marked-same p q b o (both_arrays i j x e f) = ap (λ m. marked_range s m b) e ∙ sym (ap (λ m. marked_range t m b) f)
  marked-same p q b o (both_no_marks x y) = no-mark-range s p b x ∙ sym (no-mark-range t q b y)
  marked-same p q b o (both_unclear_marks e f) = ap (λ m. marked_range s m b) e ∙ sym (ap (λ m. marked_range t m b) f)

  pub drange-same : (x : PDrange) → IsOldDrange old x → SameDrange s t x
  drange-same (RGiven b) o = record {
    kind = kind-same b.first o.0;
    range = ap (λ k. given_range s k b) (kind-same b.first o.0) ∙ given-same (kind_of t b.first) b o;
  }
  drange-same (RMarked x) o = record {
    kind = mark-kind-same x.mark.name o.0;
    range = marked-same (marking s x.mark.name) (marking t x.mark.name) x.bounds o.1 (mark-same x.mark.name o.0);
  }

  -- ---- kinds of expressions are kinds of values

  name-each : (r q : Reading) → SameReading s.types t.types r q → Each (IsScalar s.types) (name_kind r)
  name-each r q (both_scalar k h e f) = subst (λ x. Each (IsScalar s.types) (name_kind x)) (sym e) h
  name-each r q (both_rows index part part' h e f) = subst (λ x. Each (IsScalar s.types) (name_kind x)) (sym e) tt
  name-each r q (both_nothing x y) = subst (Each (IsScalar s.types)) (sym (nothing-kind r x)) tt
  name-each r q (both_unclear e f) = subst (λ x. Each (IsScalar s.types) (name_kind x)) (sym e) tt

  part-each : (r q : Reading) (o : Option ℕ) → SameReading s.types t.types r q → Each (IsScalar s.types) (component_kind s.types r o)
  part-each r q o (both_scalar k h e f) = subst (λ x. Each (IsScalar s.types) (component_kind s.types x o)) (sym e) tt
  part-each r q o (both_rows index part part' h e f) =
      subst (λ x. Each (IsScalar s.types) (component_kind s.types x o)) (sym e)
      (if-each (IsScalar s.types) index o (kind_of_mark s.types part) (subst (Each (IsScalar s.types)) (sym (kind-ranged s.types part h.range h.left)) h.kind))
  part-each r q o (both_nothing x y) = subst (Each (IsScalar s.types)) (sym (nothing-part s.types r o x)) tt
  part-each r q o (both_unclear e f) = subst (λ x. Each (IsScalar s.types) (component_kind s.types x o)) (sym e) tt

  mark-each : (p q : Marking) → SameMarking s.types t.types p q → Each (IsScalar s.types) (scalar_kind p)
  mark-each p q (both_scalars i j x e f) = subst (λ m. Each (IsScalar s.types) (scalar_kind m)) (sym e) x.kind
  mark-each p q (both_arrays i j x e f) = subst (λ m. Each (IsScalar s.types) (scalar_kind m)) (sym e) tt
  mark-each p q (both_no_marks x y) = subst (Each (IsScalar s.types)) (sym (no-mark-kind p x)) tt
  mark-each p q (both_unclear_marks e f) = subst (λ m. Each (IsScalar s.types) (scalar_kind m)) (sym e) tt

  integers : IsScalar s.types integer_kind
  integers = (Integer, ap scalar_only n.types.integers)

  truths : IsScalar s.types truth_kind
  truths = (Truth, ap scalar_only n.types.truths)

  one-given : (op : UnaryOp) → IsScalar s.types (given_by (takes_one op))
  one-given unary.Plus = integers
  one-given unary.Minus = integers
  one-given unary.Abs = integers
  one-given unary.Not = truths

  two-given : (op : BinaryOp) → IsScalar s.types (given_by (takes op))
  two-given And = truths
  two-given Or = truths
  two-given Xor = truths
  two-given AndThen = truths
  two-given OrElse = truths
  two-given Equal = truths
  two-given NotEqual = truths
  two-given Less = truths
  two-given LessEqual = truths
  two-given Greater = truths
  two-given GreaterEqual = truths
  two-given Plus = integers
  two-given Minus = integers
  two-given Times = integers
  two-given Divide = integers
  two-given Mod = integers
  two-given Rem = integers

  pub kind-each : (e : PExpr) → IsOldExpr old e → Each (IsScalar s.types) (kind_of s e)
  kind-each (EInteger z sp) o = integers
  kind-each (EName id sp) o = name-each (reading s id) (reading t id) (read-same id o)
  kind-each (EIndex w e sp) o = part-each (reading s w.name) (reading t w.name) (kind_of s e) (read-same w.name o.0)
  kind-each (EAttribute m w sp) o =
      bound-each (IsScalar s.types) (attribute_of w.name) (scalar_kind (marking s m.name)) (mark-each (marking s m.name) (marking t m.name) (mark-same m.name o))
  kind-each (EAttributeOf m w e sp) o =
      attribute-each (IsScalar s.types) integers (attribute_of w.name) (scalar_kind (marking s m.name)) (kind_of s e) (mark-each (marking s m.name) (marking t m.name) (mark-same m.name o.0))
  kind-each (EParen e sp) o = kind-each e o
  kind-each (EUnary op e sp) o = unary-each (IsScalar s.types) (takes_one op) (kind_of s e) (one-given op)
  kind-each (EBinary op l r sp) o = binary-each (IsScalar s.types) (takes op) (kind_of s l) (kind_of s r) (two-given op)

  -- an expression that has a kind has one of values
  pub kind-scalar : (e : PExpr) → IsOldExpr old e → (k : ℕ) → kind_of s e ≡ Some k → IsScalar s.types k
  kind-scalar e o k h = each-some (IsScalar s.types) (kind_of s e) k (kind-each e o) h

  -- so has a discrete range
  pub drange-scalar : (x : PDrange) → IsOldDrange old x → (k : ℕ) → drange_kind s x ≡ Some k → IsScalar s.types k
  drange-scalar (RGiven b) o k h = kind-scalar b.first o.0 k h
  drange-scalar (RMarked x) o k h =
      each-some (IsScalar s.types) (scalar_kind (marking s x.mark.name)) k (mark-each (marking s x.mark.name) (marking t x.mark.name) (mark-same x.mark.name o.0)) h

-- ---- the laws

pub exprs_are_same : ExprsAreSame
exprs_are_same old s t n e o = expr-same old s t n e o

pub dranges_are_same : DrangesAreSame
dranges_are_same old s t n x o = drange-same old s t n x o
