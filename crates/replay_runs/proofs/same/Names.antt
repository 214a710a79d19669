-- What a renaming of ids does to the look-up of names in types and variables, and to what expressions are worth.
use Rattle.std.proofs.Common.{◌&&◌, ◌*ℤ◌, ◌+ℤ◌, ◌-ℤ◌, ◌<◌, ◌==◌, ◌∙◌, ◌∷◌, ◌≡◌, Bool, Err, List, None, Ok, Option, Result, Some, [], ap, arith, false, find, if◌then◌else◌, int_div, int_eq, int_le, int_lt, int_rem, map, neg_ℤ, option_map, pos, refl, slice_get, suc, sym, true, unwrap_or, ℕ, ℤ}
use Rattle.std.proofs.lemmas.List.{length-map}
use Rattle.std.proofs.lemmas.Option.{slice_get-map}
use Rattle.ada_tree.specs.Attributes.{Attribute, First, Image, Last, NoAttribute, Pos, Pred, Succ, Val, attribute_of, false_name, is_image, true_name}
use Rattle.ada_tree.specs.PlainExpr.{EAttribute, EAttributeOf, EBinary, EIndex, EInteger, EName, EParen, EUnary, PBounds, PDrange, PExpr, RGiven, RMarked}
use Rattle.ada_tree.specs.PlainStmt.{PPart, PValue, PWords}
use Rattle.ada_tree.specs.TypeTable.{TypeTable}
use Rattle.ada_tree.specs.declared.expressions.BinaryOp.{BinaryOp}
use Rattle.ada_tree.specs.declared.expressions.UnaryOp.{UnaryOp}
use Rattle.ada_tree.specs.declared.naming.NameId.{NameId}
use Rattle.ada_tree.specs.declared.static_types.Constant.{Constant}
use Rattle.ada_tree.specs.declared.static_types.Kind.{Kind}
use Rattle.ada_tree.specs.declared.static_types.Mark.{Mark}
use Rattle.ada_static_rules.specs.Scope.{mark_at}
use Rattle.ada_static_rules.specs.StaticValue.{constant_named, first_of_two, is_integer_value, is_named, is_of_kind, literal_position, mark_named, position_in}
use Rattle.common_lemmas.specs.division.Modulus.{modulus}
use Rattle.ada_value.specs.Evaluating.{attribute_value, bound_value, bounds_of, combined, component_value, condition_of, constant_value, evaluated, fixed_value, literal_value, name_value, narrowed, operated, range_of, signed_value, unless_zero}
use Rattle.ada_value.specs.Texts.{expr_output, image, integer_text, literal_text, name_text, part_output, parts_output}
use Rattle.ada_value.specs.Values.{and_then, based, checked, fitted, is_true_value, lies_in, limits_named, limits_of_kind, limits_or, lower_bound, place_in, placed, position_of, value_at, value_in, word}
use Rattle.ada_value.specs.Variables.{Object, Variables, checked_for, component_place, object_named, place_among, set_value}
use Rattle.ada_value.specs.declared.values.Limits.{Limits}
use Rattle.ada_value.specs.declared.values.Raised.{Raised}
use Rattle.ada_value.specs.declared.values.Value.{Value}
use Rattle.ada_value.specs.declared.values.Value.TheVariants.{Number, Place, Truth}
use Rattle.replay_runs.proofs.same.Lists.{find_mapped, if_like, option_once, position_mapped}
use Rattle.replay_runs.specs.same.Renamed.{IsRenaming, KeepsTexts, renamed_bounds, renamed_constant, renamed_drange, renamed_expr, renamed_id, renamed_kind, renamed_mark, renamed_part, renamed_types}
use Rattle.replay_runs.specs.same.inner.RenamedValues.{renamed_object, renamed_result, renamed_vars}
use Rattle.ada_tree.specs.declared.static_types.Kind.TheVariants as kind
use Rattle.ada_tree.specs.declared.expressions.UnaryOp.TheVariants as unary
use Rattle.ada_tree.specs.declared.expressions.BinaryOp.TheVariants.{And, Or, Xor, AndThen, OrElse, Equal, NotEqual, Less, LessEqual, Greater, GreaterEqual, Plus, Minus, Times, Divide, Mod, Rem}

module _ (f : ℕ → ℕ) (r : IsRenaming f) where
  -- a fixed id is told from all others as before
  pub told : (a k : ℕ) → k < 25 → (f a == k) ≡ (a == k)
  told a k l = ap (λ n. f a == n) (sym (r.fixed k l)) ∙ r.same a k

  pub attribute_same : (id : NameId) → attribute_of (renamed_id f id) ≡ attribute_of id
  attribute_same id = λ i.
      if told id.0 18 (omega arith) i then First
      else if told id.0 19 (omega arith) i then Last
      else if told id.0 20 (omega arith) i then Pos
      else if told id.0 21 (omega arith) i then Val
      else if told id.0 22 (omega arith) i then Succ
      else if told id.0 23 (omega arith) i then Pred
      else if told id.0 24 (omega arith) i then Image
      else NoAttribute

  -- ---- results

  -- what comes out is the same, an exception has another id
  abbrev pub kept : {A : Type 0} → Result A Raised → Result A Raised
  kept {A} x = renamed_result f {A = A} {B = A} (λ a. a) x

  pub then_like : {A B C D : Type 0} (h : A → C) (k : B → D) (x : Result A Raised) (x' : Result C Raised) (g : A → Result B Raised) (g' : C → Result D Raised) →
      x' ≡ renamed_result f h x → ((a : A) → g' (h a) ≡ renamed_result f k (g a)) → and_then x' g' ≡ renamed_result f k (and_then x g)
  then_like h k x x' g g' e each = ap (λ y. and_then y g') e ∙ go x
    where
      go : (x : _) → and_then (renamed_result f h x) g' ≡ renamed_result f k (and_then x g)
      go (Ok a) = each a
      go (Err y) = refl

  -- with values that stay
  pub then_kept : {A B D : Type 0} (k : B → D) (x x' : Result A Raised) (g : A → Result B Raised) (g' : A → Result D Raised) →
      x' ≡ kept x → ((a : A) → g' a ≡ renamed_result f k (g a)) → and_then x' g' ≡ renamed_result f k (and_then x g)
  then_kept {A} k x x' g g' e each = then_like (λ (a : A). a) k x x' g g' e each

  -- ---- types

  pub kind_at_same : (types : TypeTable) (k : ℕ) → slice_get (renamed_types f types).kinds k ≡ option_map (renamed_kind f) (slice_get types.kinds k)
  kind_at_same types k = slice_get-map (renamed_kind f) types.kinds k

  value_in_same : (k : ℕ) (o : Option Kind) (z : ℤ) → value_in k (option_map (renamed_kind f) o) z ≡ value_in k o z
  value_in_same k None z = refl
  value_in_same k (Some kind.Integer) z = refl
  value_in_same k (Some kind.Truth) z = refl
  value_in_same k (Some (kind.Enumeration names)) z = refl
  value_in_same k (Some (kind.Array index first last part)) z = refl

  pub value_at_same : (types : TypeTable) (k : ℕ) (z : ℤ) → value_at (renamed_types f types) k z ≡ value_at types k z
  value_at_same types k z = ap (λ o. value_in k o z) (kind_at_same types k) ∙ value_in_same k (slice_get types.kinds k) z

  pub lower_same : (types : TypeTable) (limits : Limits) → lower_bound (renamed_types f types) limits ≡ lower_bound types limits
  lower_same types limits = value_at_same types limits.kind limits.first

  of_kind_same : (o : Option Kind) (z : ℤ) → is_of_kind (option_map (renamed_kind f) o) z ≡ is_of_kind o z
  of_kind_same None z = refl
  of_kind_same (Some kind.Integer) z = refl
  of_kind_same (Some kind.Truth) z = refl
  of_kind_same (Some (kind.Enumeration names)) z = ap (λ n. int_le (pos 0) z && int_lt z (pos n)) (length-map names (renamed_id f))
  of_kind_same (Some (kind.Array index first last part)) z = refl

  pub is_of_kind_same : (types : TypeTable) (k : ℕ) (z : ℤ) → is_of_kind (slice_get (renamed_types f types).kinds k) z ≡ is_of_kind (slice_get types.kinds k) z
  is_of_kind_same types k z = ap (λ o. is_of_kind o z) (kind_at_same types k) ∙ of_kind_same (slice_get types.kinds k) z

  pub mark_at_same : (types : TypeTable) (m : ℕ) → mark_at (renamed_types f types) m ≡ option_map (renamed_mark f) (mark_at types m)
  mark_at_same types m = slice_get-map (renamed_mark f) types.marks m

  named_like : (id : NameId) (o : Option NameId) → is_named (renamed_id f id) (option_map (renamed_id f) o) ≡ is_named id o
  named_like id None = refl
  named_like id (Some other) = r.same other.0 id.0

  pub mark_named_same : (types : TypeTable) (id : NameId) → mark_named (renamed_types f types) (renamed_id f id) ≡ option_map (renamed_mark f) (mark_named types id)
  mark_named_same types id = find_mapped (renamed_mark f) (λ m. is_named (renamed_id f id) m.name) (λ m. is_named id m.name) (λ m. named_like id m.name) types.marks

  pub constant_named_same : (types : TypeTable) (id : NameId) → constant_named (renamed_types f types) (renamed_id f id) ≡ option_map (renamed_constant f) (constant_named types id)
  constant_named_same types id = find_mapped (renamed_constant f) (λ c. c.name.0 == f id.0) (λ c. c.name.0 == id.0) (λ c. r.same c.name.0 id.0) types.constants

  limits_or_same : (o : Option Mark) → limits_or (option_map (renamed_mark f) o) ≡ limits_or o
  limits_or_same None = refl
  limits_or_same (Some m) = refl

  pub limits_at_same : (types : TypeTable) (m : ℕ) → limits_or (mark_at (renamed_types f types) m) ≡ limits_or (mark_at types m)
  limits_at_same types m = ap limits_or (mark_at_same types m) ∙ limits_or_same (mark_at types m)

  pub limits_named_same : (types : TypeTable) (id : NameId) → limits_named (renamed_types f types) (renamed_id f id) ≡ limits_named types id
  limits_named_same types id = ap limits_or (mark_named_same types id) ∙ limits_or_same (mark_named types id)

  pub limits_of_kind_same : (types : TypeTable) (k : ℕ) → limits_of_kind (renamed_types f types) k ≡ limits_of_kind types k
  limits_of_kind_same types k = ap limits_or (find_mapped (renamed_mark f) (λ m. m.kind == k) (λ m. m.kind == k) (λ m. refl) types.marks) ∙ limits_or_same (find (λ m. m.kind == k) types.marks)

  position_in_same : (id : NameId) (k : Kind) → position_in (renamed_id f id) (renamed_kind f k) ≡ position_in id k
  position_in_same id kind.Integer = refl
  position_in_same id kind.Truth = refl
  position_in_same id (kind.Enumeration names) = position_mapped (renamed_id f) (λ n. n.0 == f id.0) (λ n. n.0 == id.0) (λ n. r.same n.0 id.0) names
  position_in_same id (kind.Array index first last part) = refl

  pub literal_position_same : (kinds : List Kind) (id : NameId) → literal_position (map (renamed_kind f) kinds) (renamed_id f id) ≡ literal_position kinds id
  literal_position_same [] id = refl
  literal_position_same (k ∷ rest) id = λ i. first_of_two (position_in_same id k i) (literal_position_same rest id i)

  -- ---- names

  literal_same : (kinds : List Kind) (k : ℕ) (id : NameId) → literal_value (map (renamed_kind f) kinds) k (renamed_id f id) ≡ literal_value kinds k id
  literal_same [] k id = refl
  literal_same (x ∷ rest) k id = λ i. first_of_two (option_map (λ n. placed (word k) (pos n)) (position_in_same id x i)) (literal_same rest (suc k) id i)

  constant_same : (types : TypeTable) (c : Constant) → constant_value (renamed_types f types) (renamed_constant f c) ≡ constant_value types c
  constant_same types c = value_at_same types (limits_or (mark_at (renamed_types f types) c.mark)).kind c.value ∙ ap (λ (l : Limits). value_at types l.kind c.value) (limits_at_same types c.mark)

  constants_same : (types : TypeTable) (o : Option Constant) → option_map (constant_value (renamed_types f types)) (option_map (renamed_constant f) o) ≡ option_map (constant_value types) o
  constants_same types o = option_once (renamed_constant f) (constant_value (renamed_types f types)) (constant_value types) (constant_same types) o

  fixed_same : (types : TypeTable) (id : NameId) → fixed_value (renamed_types f types) (renamed_id f id) ≡ fixed_value types id
  fixed_same types id = λ i.
      if told id.0 false_name (omega arith) i then Truth false
      else if told id.0 true_name (omega arith) i then Truth true
      else unwrap_or (first_of_two (named_constant i) (literal_same types.kinds 0 id i)) (Number (pos 0))
    where
      named_constant : option_map (constant_value (renamed_types f types)) (constant_named (renamed_types f types) (renamed_id f id)) ≡ option_map (constant_value types) (constant_named types id)
      named_constant = ap (option_map (constant_value (renamed_types f types))) (constant_named_same types id) ∙ constants_same types (constant_named types id)

  pub object_named_same : (vars : Variables) (id : NameId) → object_named (renamed_vars f vars) (renamed_id f id) ≡ option_map (renamed_object f) (object_named vars id)
  object_named_same vars id = find_mapped (renamed_object f) (λ o. o.name.0 == f id.0) (λ o. o.name.0 == id.0) (λ o. r.same o.name.0 id.0) vars

  name_like : (types : TypeTable) (o : Option Object) (id : NameId) → name_value (renamed_types f types) (option_map (renamed_object f) o) (renamed_id f id) ≡ name_value types o id
  name_like types (Some o) id = refl
  name_like types None id = fixed_same types id

  name_same : (types : TypeTable) (vars : Variables) (id : NameId) →
      name_value (renamed_types f types) (object_named (renamed_vars f vars) (renamed_id f id)) (renamed_id f id) ≡ name_value types (object_named vars id) id
  name_same types vars id = ap (λ o. name_value (renamed_types f types) o (renamed_id f id)) (object_named_same vars id) ∙ name_like types (object_named vars id) id

  -- ---- operators and attributes

  pub if_kept : {A : Type 0} (b : Bool) (x y : Result A Raised) → x ≡ kept x → y ≡ kept y → (if b then x else y) ≡ kept (if b then x else y)
  if_kept true x y h k = h
  if_kept false x y h k = k

  fitted_kept : (z : ℤ) → fitted z ≡ kept (fitted z)
  fitted_kept z = if_kept (is_integer_value z) _ _ refl refl

  unless_kept : (b z : ℤ) → unless_zero b (fitted z) ≡ kept (unless_zero b (fitted z))
  unless_kept b z = if_kept (int_eq b (pos 0)) _ _ refl (fitted_kept z)

  place_in_kept : (limits : Limits) (z : ℤ) → place_in limits z ≡ kept (place_in limits z)
  place_in_kept limits z = if_kept (lies_in limits z) _ _ refl refl

  pub checked_kept : (limits : Limits) (v : Value) → checked limits v ≡ kept (checked limits v)
  checked_kept limits v = if_kept (lies_in limits (position_of v)) _ _ refl refl

  among_kept : (o : Option Limits) (v : Value) → place_among o v ≡ kept (place_among o v)
  among_kept None v = refl
  among_kept (Some limits) v = place_in_kept limits (position_of v)

  component_like : (o : Option Object) (v : Value) → component_place (option_map (renamed_object f) o) v ≡ kept (component_place o v)
  component_like None v = refl
  component_like (Some o) v = among_kept o.index v

  pub component_place_same : (vars : Variables) (id : NameId) (v : Value) →
      component_place (object_named (renamed_vars f vars) (renamed_id f id)) v ≡ kept (component_place (object_named vars id) v)
  component_place_same vars id v = ap (λ o. component_place o v) (object_named_same vars id) ∙ component_like (object_named vars id) v

  value_like : (o : Option Object) (v : Value) → component_value (option_map (renamed_object f) o) v ≡ kept (component_value o v)
  value_like None v = refl
  value_like (Some o) v = then_kept (λ (a : Value). a) (component_place (Some o) v) (component_place (Some (renamed_object f o)) v) _ _ (component_like (Some o) v) (λ k. refl)

  checked_like : (o : Option Object) (v : Value) → checked_for (option_map (renamed_object f) o) v ≡ kept (checked_for o v)
  checked_like None v = refl
  checked_like (Some o) v = checked_kept o.limits v

  pub checked_for_same : (vars : Variables) (id : NameId) (v : Value) → checked_for (object_named (renamed_vars f vars) (renamed_id f id)) v ≡ kept (checked_for (object_named vars id) v)
  checked_for_same vars id v = ap (λ o. checked_for o v) (object_named_same vars id) ∙ checked_like (object_named vars id) v

  signed_kept : (op : UnaryOp) (v : Value) → signed_value op v ≡ kept (signed_value op v)
  signed_kept unary.Plus v = fitted_kept (position_of v)
  signed_kept unary.Minus v = fitted_kept (neg_ℤ (position_of v))
  signed_kept unary.Abs v = fitted_kept (if int_lt (position_of v) (pos 0) then neg_ℤ (position_of v) else position_of v)
  signed_kept unary.Not v = refl

  combined_kept : (op : BinaryOp) (a b : Value) → combined op a b ≡ kept (combined op a b)
  combined_kept And a b = refl
  combined_kept AndThen a b = refl
  combined_kept Or a b = refl
  combined_kept OrElse a b = refl
  combined_kept Xor a b = refl
  combined_kept Equal a b = refl
  combined_kept NotEqual a b = refl
  combined_kept Less a b = refl
  combined_kept LessEqual a b = refl
  combined_kept Greater a b = refl
  combined_kept GreaterEqual a b = refl
  combined_kept Plus a b = fitted_kept (position_of a +ℤ position_of b)
  combined_kept Minus a b = fitted_kept (position_of a -ℤ position_of b)
  combined_kept Times a b = fitted_kept (position_of a *ℤ position_of b)
  combined_kept Divide a b = unless_kept (position_of b) (int_div (position_of a) (position_of b))
  combined_kept Mod a b = unless_kept (position_of b) (modulus (position_of a) (position_of b))
  combined_kept Rem a b = unless_kept (position_of b) (int_rem (position_of a) (position_of b))

  both_like : (op : BinaryOp) (x x' y y' : Result Value Raised) → x' ≡ kept x → y' ≡ kept y →
      and_then x' (λ a. and_then y' (λ b. combined op a b)) ≡ kept (and_then x (λ a. and_then y (λ b. combined op a b)))
  both_like op x x' y y' h k = then_kept (λ (a : Value). a) x x' _ _ h (λ a. then_kept (λ (b : Value). b) y y' _ _ k (λ b. combined_kept op a b))

  operated_like : (op : BinaryOp) (x x' y y' : Result Value Raised) → x' ≡ kept x → y' ≡ kept y → operated op x' y' ≡ kept (operated op x y)
  operated_like AndThen x x' y y' h k = then_kept (λ (a : Value). a) x x' _ _ h (λ a. if_like kept (is_true_value a) (is_true_value a) refl k refl)
  operated_like OrElse x x' y y' h k = then_kept (λ (a : Value). a) x x' _ _ h (λ a. if_like kept (is_true_value a) (is_true_value a) refl refl k)
  operated_like And x x' y y' h k = both_like And x x' y y' h k
  operated_like Or x x' y y' h k = both_like Or x x' y y' h k
  operated_like Xor x x' y y' h k = both_like Xor x x' y y' h k
  operated_like Equal x x' y y' h k = both_like Equal x x' y y' h k
  operated_like NotEqual x x' y y' h k = both_like NotEqual x x' y y' h k
  operated_like Less x x' y y' h k = both_like Less x x' y y' h k
  operated_like LessEqual x x' y y' h k = both_like LessEqual x x' y y' h k
  operated_like Greater x x' y y' h k = both_like Greater x x' y y' h k
  operated_like GreaterEqual x x' y y' h k = both_like GreaterEqual x x' y y' h k
  operated_like Plus x x' y y' h k = both_like Plus x x' y y' h k
  operated_like Minus x x' y y' h k = both_like Minus x x' y y' h k
  operated_like Times x x' y y' h k = both_like Times x x' y y' h k
  operated_like Divide x x' y y' h k = both_like Divide x x' y y' h k
  operated_like Mod x x' y y' h k = both_like Mod x x' y y' h k
  operated_like Rem x x' y y' h k = both_like Rem x x' y y' h k

  based_like : (types : TypeTable) (k : ℕ) (z : ℤ) → based (renamed_types f types) k z ≡ kept (based types k z)
  based_like types k z = if_like kept _ (is_of_kind (slice_get types.kinds k) z) (is_of_kind_same types k z) (ap Ok (value_at_same types k z)) refl

  bound_like : (types : TypeTable) (limits : Limits) (a : Attribute) → bound_value (renamed_types f types) limits a ≡ bound_value types limits a
  bound_like types limits First = value_at_same types limits.kind limits.first
  bound_like types limits Last = value_at_same types limits.kind limits.last
  bound_like types limits _ = refl

  attribute_like : (types : TypeTable) (limits : Limits) (a : Attribute) (v : Value) → attribute_value (renamed_types f types) limits a v ≡ kept (attribute_value types limits a v)
  attribute_like types limits Pos v = fitted_kept (position_of v)
  attribute_like types limits Val v = based_like types limits.kind (position_of v)
  attribute_like types limits Succ v = based_like types limits.kind (position_of v +ℤ pos 1)
  attribute_like types limits Pred v = based_like types limits.kind (position_of v -ℤ pos 1)
  attribute_like types limits _ v = refl

  attribute_here : (types : TypeTable) (m w : NameId) (v : Value) →
      attribute_value (renamed_types f types) (limits_named (renamed_types f types) (renamed_id f m)) (attribute_of (renamed_id f w)) v
      ≡ kept (attribute_value types (limits_named types m) (attribute_of w) v)
  attribute_here types m w v = (λ i. attribute_value (renamed_types f types) (limits_named_same types m i) (attribute_same w i) v) ∙ attribute_like types (limits_named types m) (attribute_of w) v

  -- ---- expressions

  pub evaluated_same : (types : TypeTable) (vars : Variables) (e : PExpr) → evaluated (renamed_types f types) (renamed_vars f vars) (renamed_expr f e) ≡ kept (evaluated types vars e)
  evaluated_same types vars (EInteger n s) = fitted_kept (pos n)
  evaluated_same types vars (EName id s) = ap Ok (name_same types vars id)
  evaluated_same types vars (EIndex w e s) = then_kept (λ (a : Value). a) (evaluated types vars e) _ _ _ (evaluated_same types vars e)
      (λ v. ap (λ o. component_value o v) (object_named_same vars w.name) ∙ value_like (object_named vars w.name) v)
  evaluated_same types vars (EAttribute m w s) = ap Ok (
      (λ i. bound_value (renamed_types f types) (limits_named_same types m.name i) (attribute_same w.name i)) ∙ bound_like types (limits_named types m.name) (attribute_of w.name))
  evaluated_same types vars (EAttributeOf m w e s) = then_kept (λ (a : Value). a) (evaluated types vars e) _ _ _ (evaluated_same types vars e) (λ v. attribute_here types m.name w.name v)
  evaluated_same types vars (EParen e s) = evaluated_same types vars e
  evaluated_same types vars (EUnary op e s) = then_kept (λ (a : Value). a) (evaluated types vars e) _ _ _ (evaluated_same types vars e) (λ v. signed_kept op v)
  evaluated_same types vars (EBinary op l q s) = operated_like op _ _ _ _ (evaluated_same types vars l) (evaluated_same types vars q)

  pub condition_same : (types : TypeTable) (vars : Variables) (e : PExpr) → condition_of (renamed_types f types) (renamed_vars f vars) (renamed_expr f e) ≡ kept (condition_of types vars e)
  condition_same types vars e = then_kept (λ (b : Bool). b) (evaluated types vars e) _ _ _ (evaluated_same types vars e) (λ v. refl)

  -- ---- ranges

  bounds_same : (types : TypeTable) (vars : Variables) (b : PBounds) → bounds_of (renamed_types f types) (renamed_vars f vars) (renamed_bounds f b) ≡ kept (bounds_of types vars b)
  bounds_same types vars b = then_kept (λ (l : Limits). l) (evaluated types vars b.first) _ _ _ (evaluated_same types vars b.first)
      (λ x. then_kept (λ (l : Limits). l) (evaluated types vars b.last) _ _ _ (evaluated_same types vars b.last) (λ y. refl))

  pub narrowed_same : (types : TypeTable) (vars : Variables) (l : Limits) (o : Option PBounds) →
      narrowed (renamed_types f types) (renamed_vars f vars) l (option_map (renamed_bounds f) o) ≡ kept (narrowed types vars l o)
  narrowed_same types vars l None = refl
  narrowed_same types vars l (Some b) = then_kept (λ (x : Limits). x) (bounds_of types vars b) _ _ _ (bounds_same types vars b) (λ x. refl)

  pub range_same : (types : TypeTable) (vars : Variables) (x : PDrange) → range_of (renamed_types f types) (renamed_vars f vars) (renamed_drange f x) ≡ kept (range_of types vars x)
  range_same types vars (RGiven b) = bounds_same types vars b
  range_same types vars (RMarked x) =
      ap (λ l. narrowed (renamed_types f types) (renamed_vars f vars) l (option_map (renamed_bounds f) x.bounds)) (limits_named_same types x.mark.name)
      ∙ narrowed_same types vars (limits_named types x.mark.name) x.bounds

  -- ---- texts (14.3)

  name_text_same : (before after : List (List ℕ)) → KeepsTexts f before after → (o : Option NameId) → name_text after (option_map (renamed_id f) o) ≡ name_text before o
  name_text_same before after keeps None = refl
  name_text_same before after keeps (Some id) = ap (λ o. unwrap_or o []) (keeps id.0)

  literal_text_same : (before after : List (List ℕ)) → KeepsTexts f before after → (o : Option Kind) (n : ℕ) → literal_text after (option_map (renamed_kind f) o) n ≡ literal_text before o n
  literal_text_same before after keeps None n = refl
  literal_text_same before after keeps (Some kind.Integer) n = refl
  literal_text_same before after keeps (Some kind.Truth) n = refl
  literal_text_same before after keeps (Some (kind.Enumeration literals)) n =
      ap (name_text after) (slice_get-map (renamed_id f) literals n) ∙ name_text_same before after keeps (slice_get literals n)
  literal_text_same before after keeps (Some (kind.Array index first last part)) n = refl

  image_same : (before after : List (List ℕ)) → KeepsTexts f before after → (types : TypeTable) (v : Value) → image after (renamed_types f types) v ≡ image before types v
  image_same before after keeps types (Number z) = refl
  image_same before after keeps types (Truth b) = refl
  image_same before after keeps types (Place k n) = ap (λ o. literal_text after o n) (kind_at_same types k) ∙ literal_text_same before after keeps (slice_get types.kinds k) n

  number_like : (types : TypeTable) (vars : Variables) (e : PExpr) →
      and_then (evaluated (renamed_types f types) (renamed_vars f vars) (renamed_expr f e)) (λ v. Ok (integer_text (position_of v)))
      ≡ kept (and_then (evaluated types vars e) (λ v. Ok (integer_text (position_of v))))
  number_like types vars e = then_kept (λ (t : List ℕ). t) (evaluated types vars e) _ _ _ (evaluated_same types vars e) (λ v. refl)

  output_same : (before after : List (List ℕ)) → KeepsTexts f before after → (types : TypeTable) (vars : Variables) (e : PExpr) →
      expr_output after (renamed_types f types) (renamed_vars f vars) (renamed_expr f e) ≡ kept (expr_output before types vars e)
  output_same before after keeps types vars (EAttributeOf m w e s) = if_like kept _ (is_image (attribute_of w.name)) (ap is_image (attribute_same w.name))
      (then_kept (λ (t : List ℕ). t) (evaluated types vars e) _ _ _ (evaluated_same types vars e) (λ v. ap Ok (image_same before after keeps types v)))
      (number_like types vars (EAttributeOf m w e s))
  output_same before after keeps types vars (EInteger n s) = number_like types vars (EInteger n s)
  output_same before after keeps types vars (EName id s) = number_like types vars (EName id s)
  output_same before after keeps types vars (EIndex w e s) = number_like types vars (EIndex w e s)
  output_same before after keeps types vars (EAttribute m w s) = number_like types vars (EAttribute m w s)
  output_same before after keeps types vars (EParen e s) = number_like types vars (EParen e s)
  output_same before after keeps types vars (EUnary op e s) = number_like types vars (EUnary op e s)
  output_same before after keeps types vars (EBinary op l q s) = number_like types vars (EBinary op l q s)

  part_same : (before after : List (List ℕ)) → KeepsTexts f before after → (types : TypeTable) (vars : Variables) (x : PPart) →
      part_output after (renamed_types f types) (renamed_vars f vars) (renamed_part f x) ≡ kept (part_output before types vars x)
  part_same before after keeps types vars (PWords text s) = refl
  part_same before after keeps types vars (PValue e) = output_same before after keeps types vars e

  pub parts_same : (before after : List (List ℕ)) → KeepsTexts f before after → (types : TypeTable) (vars : Variables) (xs : List PPart) →
      parts_output after (renamed_types f types) (renamed_vars f vars) (map (renamed_part f) xs) ≡ kept (parts_output before types vars xs)
  parts_same before after keeps types vars [] = refl
  parts_same before after keeps types vars (x ∷ rest) = then_kept (λ (t : List ℕ). t) (part_output before types vars x) _ _ _ (part_same before after keeps types vars x)
      (λ a. then_kept (λ (t : List ℕ). t) (parts_output before types vars rest) _ _ _ (parts_same before after keeps types vars rest) (λ b. refl))

  -- ---- variables

  pub set_value_same : (vars : Variables) (id : NameId) (k : ℕ) (v : Value) → set_value (renamed_vars f vars) (renamed_id f id) k v ≡ renamed_vars f (set_value vars id k v)
  set_value_same [] id k v = refl
  set_value_same (o ∷ rest) id k v = if_like (renamed_vars f) _ (o.name.0 == id.0) (r.same o.name.0 id.0) refl (ap (λ vars. renamed_object f o ∷ vars) (set_value_same rest id k v))
