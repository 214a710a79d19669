-- What a renaming of ids does to static expressions: which they are, their kinds and their values (4.4, 4.9).
use Rattle.std.proofs.Common.{◌&&◌, ◌*ℤ◌, ◌+ℤ◌, ◌-ℤ◌, ◌==◌, ◌∙◌, ◌≡◌, Err, None, Ok, Option, Result, Some, ap, arith, find, if◌then◌else◌, int_div, int_eq, int_lt, is_some, neg_ℤ, option_map, pos, refl, slice_get, ℕ, ℤ}
use Rattle.ada_tree.specs.Attributes.{Attribute, First, Image, Last, NoAttribute, Pos, Pred, Succ, Val, attribute_of, false_name, is_bound, true_name}
use Rattle.ada_tree.specs.PlainExpr.{EAttribute, EAttributeOf, EBinary, EIndex, EInteger, EName, EParen, EUnary, PBounds, PExpr}
use Rattle.ada_tree.specs.TypeTable.{TypeTable}
use Rattle.ada_tree.specs.declared.expressions.BinaryOp.{BinaryOp}
use Rattle.ada_tree.specs.declared.expressions.UnaryOp.{UnaryOp}
use Rattle.ada_tree.specs.declared.naming.NameId.{NameId}
use Rattle.ada_tree.specs.declared.naming.Span.{Span}
use Rattle.ada_tree.specs.declared.static_types.Constant.{Constant}
use Rattle.ada_tree.specs.declared.static_types.Kind.{Kind}
use Rattle.ada_tree.specs.declared.static_types.Mark.{Mark}
use Rattle.ada_static_rules.specs.ExprTypes.{attribute_kind, binary_kind, bound_kind, component_kind, if_kind, is_kind, kind_of, name_kind, ok_value, range_between, static_in, static_range, takes, takes_one, unary_kind}
use Rattle.ada_static_rules.specs.Scope.{AnException, AnotherUnit, ArrayMark, AsArray, AsNoValue, AsScalar, AsUnclear, AsUnknown, ConstantObject, Literal, LoopParameter, MainProcedure, Marking, NameMeaning, NoMark, Parameter, Reading, ScalarMark, Scope, SingleTask, TaskArray, TaskMark, TaskObject, TaskType, Thing, TypeMark, Unclear, UnclearMark, UnknownMark, Variable, and_then, kind_at, kind_of_mark, mark_at, marking, marking_of, marking_of_kind, marking_of_mark, meaning, reading, reading_of, reading_of_kind, reading_of_mark, scalar_kind}
use Rattle.ada_static_rules.specs.StaticValue.{applied, attribute_at, bound_of, constant_named, first_of_two, fitted, is_integer_value, is_of_kind, is_static, is_true, keeps_static, mark_named, named, of_base, operated, signed, then_do, unless_zero, value_named, value_of}
use Rattle.replay_runs.proofs.same.Lists.{find_mapped, if_like, option_once, option_twice}
use Rattle.replay_runs.proofs.same.Names.{attribute_same, constant_named_same, is_of_kind_same, kind_at_same, literal_position_same, mark_at_same, mark_named_same, told}
use Rattle.replay_runs.specs.same.Renamed.{IsRenaming, no_span, renamed_bounds, renamed_constant, renamed_expr, renamed_id, renamed_kind, renamed_mark, renamed_types}
use Rattle.replay_runs.specs.same.inner.RenamedScopes.{renamed_marking, renamed_meaning, renamed_scope, renamed_thing}
use Rattle.ada_tree.specs.declared.static_types.Kind.TheVariants as kind
use Rattle.ada_tree.specs.declared.expressions.UnaryOp.TheVariants as unary
use Rattle.ada_tree.specs.declared.expressions.BinaryOp.TheVariants.{And, Or, Xor, AndThen, OrElse, Equal, NotEqual, Less, LessEqual, Greater, GreaterEqual, Plus, Minus, Times, Divide, Mod, Rem}

-- a value, or that an operation raises, at no place
abbrev pub spanless : Result ℤ Span → Result ℤ Span
spanless (Ok z) = Ok z
spanless (Err s) = Err no_span

pub ok_spanless : (x : Result ℤ Span) → ok_value (spanless x) ≡ ok_value x
ok_spanless (Ok z) = refl
ok_spanless (Err s) = refl

do_like : (g g' : ℤ → Result ℤ Span) (x x' : Result ℤ Span) → x' ≡ spanless x → ((z : ℤ) → g' z ≡ spanless (g z)) → then_do g' x' ≡ spanless (then_do g x)
do_like g g' x x' e each = ap (then_do g') e ∙ go x
  where
    go : (x : Result ℤ Span) → then_do g' (spanless x) ≡ spanless (then_do g x)
    go (Ok z) = each z
    go (Err s) = refl

fitted_like : (s : Span) (z : ℤ) → fitted no_span z ≡ spanless (fitted s z)
fitted_like s z = if_like spanless (is_integer_value z) (is_integer_value z) refl refl refl

unless_like : (s : Span) (b : ℤ) (x x' : Result ℤ Span) → x' ≡ spanless x → unless_zero no_span b x' ≡ spanless (unless_zero s b x)
unless_like s b x x' e = if_like spanless (int_eq b (pos 0)) (int_eq b (pos 0)) refl refl e

applied_like : (op : BinaryOp) (s : Span) (a b : ℤ) → applied op no_span a b ≡ spanless (applied op s a b)
applied_like And s a b = refl
applied_like AndThen s a b = refl
applied_like Or s a b = refl
applied_like OrElse s a b = refl
applied_like Xor s a b = refl
applied_like Equal s a b = refl
applied_like NotEqual s a b = refl
applied_like Less s a b = refl
applied_like LessEqual s a b = refl
applied_like Greater s a b = refl
applied_like GreaterEqual s a b = refl
applied_like Plus s a b = fitted_like s (a +ℤ b)
applied_like Minus s a b = fitted_like s (a -ℤ b)
applied_like Times s a b = fitted_like s (a *ℤ b)
applied_like Divide s a b = unless_like s b _ _ (fitted_like s (int_div a b))
applied_like Mod s a b = unless_like s b _ _ refl
applied_like Rem s a b = unless_like s b _ _ refl

signed_like : (op : UnaryOp) (s : Span) (a : ℤ) → signed op no_span a ≡ spanless (signed op s a)
signed_like unary.Plus s a = refl
signed_like unary.Minus s a = fitted_like s (neg_ℤ a)
signed_like unary.Abs s a = fitted_like s (if int_lt a (pos 0) then neg_ℤ a else a)
signed_like unary.Not s a = refl

both_like : (op : BinaryOp) (s : Span) (x x' y y' : Result ℤ Span) → x' ≡ spanless x → y' ≡ spanless y →
    then_do (λ a. then_do (λ b. applied op no_span a b) y') x' ≡ spanless (then_do (λ a. then_do (λ b. applied op s a b) y) x)
both_like op s x x' y y' h k = do_like _ _ x x' h (λ a. do_like _ _ y y' k (λ b. applied_like op s a b))

operated_like : (op : BinaryOp) (s : Span) (x x' y y' : Result ℤ Span) → x' ≡ spanless x → y' ≡ spanless y → operated op no_span x' y' ≡ spanless (operated op s x y)
operated_like AndThen s x x' y y' h k = do_like _ _ x x' h (λ a. if_like spanless (is_true a) (is_true a) refl k refl)
operated_like OrElse s x x' y y' h k = do_like _ _ x x' h (λ a. if_like spanless (is_true a) (is_true a) refl refl k)
operated_like And s x x' y y' h k = both_like And s x x' y y' h k
operated_like Or s x x' y y' h k = both_like Or s x x' y y' h k
operated_like Xor s x x' y y' h k = both_like Xor s x x' y y' h k
operated_like Equal s x x' y y' h k = both_like Equal s x x' y y' h k
operated_like NotEqual s x x' y y' h k = both_like NotEqual s x x' y y' h k
operated_like Less s x x' y y' h k = both_like Less s x x' y y' h k
operated_like LessEqual s x x' y y' h k = both_like LessEqual s x x' y y' h k
operated_like Greater s x x' y y' h k = both_like Greater s x x' y y' h k
operated_like GreaterEqual s x x' y y' h k = both_like GreaterEqual s x x' y y' h k
operated_like Plus s x x' y y' h k = both_like Plus s x x' y y' h k
operated_like Minus s x x' y y' h k = both_like Minus s x x' y y' h k
operated_like Times s x x' y y' h k = both_like Times s x x' y y' h k
operated_like Divide s x x' y y' h k = both_like Divide s x x' y y' h k
operated_like Mod s x x' y y' h k = both_like Mod s x x' y y' h k
operated_like Rem s x x' y y' h k = both_like Rem s x x' y y' h k

module _ (f : ℕ → ℕ) (r : IsRenaming f) where
  -- ---- which are static

  values_alike : (o : Option Constant) → option_map (λ (c : Constant). c.value) (option_map (renamed_constant f) o) ≡ option_map (λ (c : Constant). c.value) o
  values_alike None = refl
  values_alike (Some c) = refl

  value_named_same : (types : TypeTable) (id : NameId) → value_named (renamed_types f types) (renamed_id f id) ≡ value_named types id
  value_named_same types id = λ i.
      if told f r id.0 false_name (omega arith) i then Some (pos 0)
      else if told f r id.0 true_name (omega arith) i then Some (pos 1)
      else first_of_two (constant i) (option_map (λ k. pos k) (literal_position_same f r types.kinds id i))
    where
      constant : option_map (λ (c : Constant). c.value) (constant_named (renamed_types f types) (renamed_id f id)) ≡ option_map (λ (c : Constant). c.value) (constant_named types id)
      constant = ap (option_map (λ (c : Constant). c.value)) (constant_named_same f r types id) ∙ values_alike (constant_named types id)

  there_same : {A B : Type 0} (h : A → B) (o : Option A) → is_some (option_map h o) ≡ is_some o
  there_same h None = refl
  there_same h (Some x) = refl

  mark_there : (types : TypeTable) (id : NameId) → is_some (mark_named (renamed_types f types) (renamed_id f id)) ≡ is_some (mark_named types id)
  mark_there types id = ap is_some (mark_named_same f r types id) ∙ there_same (renamed_mark f) (mark_named types id)

  pub is_static_same : (types : TypeTable) (e : PExpr) → is_static (renamed_types f types) (renamed_expr f e) ≡ is_static types e
  is_static_same types (EInteger n s) = refl
  is_static_same types (EName id s) = ap is_some (value_named_same types id)
  is_static_same types (EIndex w e s) = refl
  is_static_same types (EAttribute m w s) = λ i. is_bound (attribute_same f r w.name i) && mark_there types m.name i
  is_static_same types (EAttributeOf m w e s) = λ i. (keeps_static (attribute_same f r w.name i) && mark_there types m.name i) && is_static_same types e i
  is_static_same types (EParen e s) = is_static_same types e
  is_static_same types (EUnary op e s) = is_static_same types e
  is_static_same types (EBinary op l q s) = λ i. is_static_same types l i && is_static_same types q i

  -- ---- values

  bound_by : (a : Attribute) (o : Option Mark) → bound_of a (option_map (renamed_mark f) o) ≡ bound_of a o
  bound_by First None = refl
  bound_by First (Some m) = refl
  bound_by Last None = refl
  bound_by Last (Some m) = refl
  bound_by Pos o = refl
  bound_by Val o = refl
  bound_by Succ o = refl
  bound_by Pred o = refl
  bound_by Image o = refl
  bound_by NoAttribute o = refl

  of_base_like : (types : TypeTable) (o : Option Mark) (s : Span) (z : ℤ) → of_base (renamed_types f types) (option_map (renamed_mark f) o) no_span z ≡ spanless (of_base types o s z)
  of_base_like types None s z = refl
  of_base_like types (Some m) s z = if_like spanless _ (is_of_kind (slice_get types.kinds m.kind) z) (is_of_kind_same f r types m.kind z) refl refl

  attribute_like : (types : TypeTable) (o : Option Mark) (a : Attribute) (s : Span) (z : ℤ) →
      attribute_at (renamed_types f types) (option_map (renamed_mark f) o) a no_span z ≡ spanless (attribute_at types o a s z)
  attribute_like types o Pos s z = refl
  attribute_like types o Val s z = of_base_like types o s z
  attribute_like types o Succ s z = of_base_like types o s (z +ℤ pos 1)
  attribute_like types o Pred s z = of_base_like types o s (z -ℤ pos 1)
  attribute_like types o First s z = refl
  attribute_like types o Last s z = refl
  attribute_like types o Image s z = refl
  attribute_like types o NoAttribute s z = refl

  named_like : (o : Option ℤ) → named o ≡ spanless (named o)
  named_like None = refl
  named_like (Some z) = refl

  pub value_same : (types : TypeTable) (e : PExpr) → value_of (renamed_types f types) (renamed_expr f e) ≡ spanless (value_of types e)
  value_same types (EInteger n s) = refl
  value_same types (EName id s) = ap named (value_named_same types id) ∙ named_like (value_named types id)
  value_same types (EIndex w e s) = refl
  value_same types (EAttribute m w s) = (λ i. Ok (bound_of (attribute_same f r w.name i) (mark_named_same f r types m.name i))) ∙ ap Ok (bound_by (attribute_of w.name) (mark_named types m.name))
  value_same types (EAttributeOf m w e s) = do_like _ _ (value_of types e) _ (value_same types e)
      (λ z. (λ i. attribute_at (renamed_types f types) (mark_named_same f r types m.name i) (attribute_same f r w.name i) no_span z)
      ∙ attribute_like types (mark_named types m.name) (attribute_of w.name) s z)
  value_same types (EParen e s) = value_same types e
  value_same types (EUnary op e s) = do_like _ _ (value_of types e) _ (value_same types e) (λ z. signed_like op s z)
  value_same types (EBinary op l q s) = operated_like op s _ _ _ _ (value_same types l) (value_same types q)

  -- ---- what names mean at a place

  pub meaning_same : (scope : Scope) (id : NameId) → meaning (renamed_scope f scope) (renamed_id f id) ≡ option_map (renamed_thing f) (meaning scope id)
  meaning_same scope id =
      ap (option_map (λ (m : NameMeaning). m.thing)) (find_mapped (renamed_meaning f) (λ m. m.name == f id.0) (λ m. m.name == id.0) (λ m. r.same m.name id.0) scope.names)
      ∙ option_twice (renamed_meaning f) (λ m. m.thing) (λ m. m.thing) (renamed_thing f) (λ m. refl) (find (λ m. m.name == id.0) scope.names)

  of_kind_reading : (k : ℕ) (o : Option Kind) → reading_of_kind k (option_map (renamed_kind f) o) ≡ reading_of_kind k o
  of_kind_reading k None = refl
  of_kind_reading k (Some kind.Integer) = refl
  of_kind_reading k (Some kind.Truth) = refl
  of_kind_reading k (Some (kind.Enumeration literals)) = refl
  of_kind_reading k (Some (kind.Array index first last part)) = refl

  of_mark_reading : (types : TypeTable) (o : Option Mark) → reading_of_mark (renamed_types f types) (option_map (renamed_mark f) o) ≡ reading_of_mark types o
  of_mark_reading types None = refl
  of_mark_reading types (Some m) = ap (reading_of_kind m.kind) (kind_at_same f r types m.kind) ∙ of_kind_reading m.kind (kind_at types m.kind)

  at_mark_reading : (types : TypeTable) (m : ℕ) → reading_of_mark (renamed_types f types) (mark_at (renamed_types f types) m) ≡ reading_of_mark types (mark_at types m)
  at_mark_reading types m = ap (reading_of_mark (renamed_types f types)) (mark_at_same f r types m) ∙ of_mark_reading types (mark_at types m)

  reading_by : (types : TypeTable) (o : Option Thing) → reading_of (renamed_types f types) (option_map (renamed_thing f) o) ≡ reading_of types o
  reading_by types None = refl
  reading_by types (Some (Variable m)) = at_mark_reading types m
  reading_by types (Some (ConstantObject m)) = at_mark_reading types m
  reading_by types (Some (Parameter mode m)) = at_mark_reading types m
  reading_by types (Some (LoopParameter m)) = at_mark_reading types m
  reading_by types (Some (Literal k)) = refl
  reading_by types (Some Unclear) = refl
  reading_by types (Some (TypeMark m)) = refl
  reading_by types (Some (TaskType entries)) = refl
  reading_by types (Some (SingleTask entries)) = refl
  reading_by types (Some (TaskObject entries)) = refl
  reading_by types (Some (TaskArray range entries)) = refl
  reading_by types (Some AnException) = refl
  reading_by types (Some MainProcedure) = refl
  reading_by types (Some AnotherUnit) = refl

  reading_same : (scope : Scope) (id : NameId) → reading (renamed_scope f scope) (renamed_id f id) ≡ reading scope id
  reading_same scope id = ap (reading_of (renamed_types f scope.types)) (meaning_same scope id) ∙ reading_by scope.types (meaning scope id)

  of_kind_marking : (m k : ℕ) (o : Option Kind) → marking_of_kind m k (option_map (renamed_kind f) o) ≡ renamed_marking f (marking_of_kind m k o)
  of_kind_marking m k None = refl
  of_kind_marking m k (Some kind.Integer) = refl
  of_kind_marking m k (Some kind.Truth) = refl
  of_kind_marking m k (Some (kind.Enumeration literals)) = refl
  of_kind_marking m k (Some (kind.Array index first last part)) = refl

  of_mark_marking : (types : TypeTable) (m : ℕ) (o : Option Mark) → marking_of_mark (renamed_types f types) m (option_map (renamed_mark f) o) ≡ renamed_marking f (marking_of_mark types m o)
  of_mark_marking types m None = refl
  of_mark_marking types m (Some x) = ap (marking_of_kind m x.kind) (kind_at_same f r types x.kind) ∙ of_kind_marking m x.kind (kind_at types x.kind)

  marking_by : (types : TypeTable) (o : Option Thing) → marking_of (renamed_types f types) (option_map (renamed_thing f) o) ≡ renamed_marking f (marking_of types o)
  marking_by types None = refl
  marking_by types (Some (TypeMark m)) = ap (marking_of_mark (renamed_types f types) m) (mark_at_same f r types m) ∙ of_mark_marking types m (mark_at types m)
  marking_by types (Some (TaskType entries)) = refl
  marking_by types (Some Unclear) = refl
  marking_by types (Some (Variable m)) = refl
  marking_by types (Some (ConstantObject m)) = refl
  marking_by types (Some (Parameter mode m)) = refl
  marking_by types (Some (LoopParameter m)) = refl
  marking_by types (Some (Literal k)) = refl
  marking_by types (Some (SingleTask entries)) = refl
  marking_by types (Some (TaskObject entries)) = refl
  marking_by types (Some (TaskArray range entries)) = refl
  marking_by types (Some AnException) = refl
  marking_by types (Some MainProcedure) = refl
  marking_by types (Some AnotherUnit) = refl

  pub marking_same : (scope : Scope) (id : NameId) → marking (renamed_scope f scope) (renamed_id f id) ≡ renamed_marking f (marking scope id)
  marking_same scope id = ap (marking_of (renamed_types f scope.types)) (meaning_same scope id) ∙ marking_by scope.types (meaning scope id)

  scalar_by : (m : Marking) → scalar_kind (renamed_marking f m) ≡ scalar_kind m
  scalar_by (ScalarMark m k) = refl
  scalar_by (ArrayMark m range part) = refl
  scalar_by (TaskMark entries) = refl
  scalar_by NoMark = refl
  scalar_by UnknownMark = refl
  scalar_by UnclearMark = refl

  pub scalar_same : (scope : Scope) (id : NameId) → scalar_kind (marking (renamed_scope f scope) (renamed_id f id)) ≡ scalar_kind (marking scope id)
  scalar_same scope id = ap scalar_kind (marking_same scope id) ∙ scalar_by (marking scope id)

  -- ---- kinds

  kind_of_mark_same : (types : TypeTable) (m : ℕ) → kind_of_mark (renamed_types f types) m ≡ kind_of_mark types m
  kind_of_mark_same types m = ap (option_map (λ (x : Mark). x.kind)) (mark_at_same f r types m) ∙ option_once (renamed_mark f) (λ x. x.kind) (λ x. x.kind) (λ x. refl) (mark_at types m)

  component_by : (types : TypeTable) (x : Reading) (o : Option ℕ) → component_kind (renamed_types f types) x o ≡ component_kind types x o
  component_by types (AsArray index part) o = ap (if_kind index o) (kind_of_mark_same types part)
  component_by types (AsScalar k) o = refl
  component_by types AsNoValue o = refl
  component_by types AsUnknown o = refl
  component_by types AsUnclear o = refl

  pub kind_same : (scope : Scope) (e : PExpr) → kind_of (renamed_scope f scope) (renamed_expr f e) ≡ kind_of scope e
  kind_same scope (EInteger n s) = refl
  kind_same scope (EName id s) = ap name_kind (reading_same scope id)
  kind_same scope (EIndex w e s) = (λ i. component_kind (renamed_types f scope.types) (reading_same scope w.name i) (kind_same scope e i))
      ∙ component_by scope.types (reading scope w.name) (kind_of scope e)
  kind_same scope (EAttribute m w s) = λ i. and_then (bound_kind (attribute_same f r w.name i)) (scalar_same scope m.name i)
  kind_same scope (EAttributeOf m w e s) = λ i. attribute_kind (attribute_same f r w.name i) (scalar_same scope m.name i) (kind_same scope e i)
  kind_same scope (EParen e s) = kind_same scope e
  kind_same scope (EUnary op e s) = ap (unary_kind (takes_one op)) (kind_same scope e)
  kind_same scope (EBinary op l q s) = λ i. binary_kind (takes op) (kind_same scope l i) (kind_same scope q i)

  pub static_same : (scope : Scope) (k : ℕ) (e : PExpr) → static_in (renamed_scope f scope) k (renamed_expr f e) ≡ static_in scope k e
  static_same scope k e = λ i. if is_kind k (kind_same scope e i) && is_static_same scope.types e i then known i else None
    where
      known : ok_value (value_of (renamed_types f scope.types) (renamed_expr f e)) ≡ ok_value (value_of scope.types e)
      known = ap ok_value (value_same scope.types e) ∙ ok_spanless (value_of scope.types e)

  pub static_range_same : (scope : Scope) (k : ℕ) (b : PBounds) → static_range (renamed_scope f scope) k (renamed_bounds f b) ≡ static_range scope k b
  static_range_same scope k b = λ i. range_between k (static_same scope k b.first i) (static_same scope k b.last i)
