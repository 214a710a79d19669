-- A static expression is worth its static value where it is evaluated.
use Rattle.std.proofs.Common.{◌≡◌, ◌≤◌, ◌<◌, ℕ, zero, suc, ℤ, pos, negsuc, neg_ℤ, ◌+ℤ◌, ◌-ℤ◌, ◌*ℤ◌, ◌≤ℤ◌, int_le, int_lt, int_rem, int_div, unsigned_abs, Bool, true, false, ◌&&◌, ◌||◌, ◌==◌, if◌then◌else◌, List, [], ◌∷◌, length, All, IfSome, find, slice_get, is_some, nat_lt, Option, Some, None, Result, Ok, Err, option_map, refl, sym, ap, subst, arith, ⊎_elim, cond}
use Rattle.std.specs.Prelude.{⊤, unwrap_or}
use Rattle.std.specs.List.{position_or_len}
use Rattle.std.proofs.lemmas.Option.{slice_get_cases}
use Rattle.std.proofs.lemmas.Bool.Decides.{nat_tests}
use Rattle.std.specs.Ordering.{int_eq}
use Rattle.std.proofs.lemmas.Int.{ints, rem_below}
use Rattle.ada_tree.specs.declared.naming.NameId.{NameId}
use Rattle.ada_tree.specs.declared.naming.Span.{Span}
use Rattle.ada_tree.specs.declared.expressions.UnaryOp.{UnaryOp}
use Rattle.ada_tree.specs.declared.expressions.UnaryOp.TheVariants as unary
use Rattle.ada_tree.specs.declared.expressions.BinaryOp.{BinaryOp}
use Rattle.ada_tree.specs.declared.expressions.BinaryOp.TheVariants.{And, Or, Xor, AndThen, OrElse, Equal, NotEqual, Less, LessEqual, Greater, GreaterEqual, Plus, Minus, Times, Divide, Mod, Rem}
use Rattle.ada_tree.specs.declared.static_types.Kind.{Kind}
use Rattle.ada_tree.specs.declared.static_types.Kind.TheVariants as kind
use Rattle.ada_tree.specs.declared.static_types.Mark.{Mark}
use Rattle.ada_tree.specs.declared.static_types.Constant.{Constant}
use Rattle.ada_tree.specs.TypeTable.{TypeTable}
use Rattle.ada_tree.specs.PlainExpr.{PExpr, EInteger, EName, EIndex, EAttribute, EAttributeOf, EParen, EUnary, EBinary}
use Rattle.ada_tree.specs.Attributes.{Attribute, First, Last, Pos, Val, Succ, Pred, Image, NoAttribute, attribute_of, is_bound, false_name, true_name}
use Rattle.ada_static_rules.specs.Scope.{mark_at}
use Rattle.ada_static_rules.specs.StaticValue as static
use Rattle.common_lemmas.specs.division.Modulus.{have_one_sign, modulus}
use Rattle.ada_static_rules.specs.StaticValue.{is_integer_value, is_of_kind, is_static, keeps_static, value_of, mark_named, constant_named, literal_position, position_in, first_of_two, truth, then_do, named}
use Rattle.ada_value.specs.declared.values.Value.{Value}
use Rattle.ada_value.specs.declared.values.Value.TheVariants.{Number, Truth}
use Rattle.ada_value.specs.declared.values.Raised.{Raised}
use Rattle.ada_value.specs.declared.values.Raised.TheVariants as raised
use Rattle.ada_value.specs.Values as values
use Rattle.ada_value.specs.Values.{and_then, position_of, is_true_value, value_at, value_in, word, placed, based, limits_or}
use Rattle.ada_value.specs.Evaluating as evaluating
use Rattle.ada_value.specs.Evaluating.{evaluated, literal_value, constant_value, bound_value, attribute_value, signed_value, combined}
use Rattle.ada_value.specs.StaticLaw.{HasValueAt, HasFewLiterals, IsSound, HasSmallLiterals, Agree, StaticLaw}
use Rattle.common_lemmas.proofs.Numbers.{int_le_is, int_le_true}
use Rattle.common_lemmas.proofs.Truth.{and_left, and_right, both_true, clash}

-- ---- numbers of INTEGER

-- both have a value, of one position, which is a number of INTEGER; or both raise
abbrev Fits : Result ℤ Span → Result Value Raised → Type 0
Fits (Ok z) (Ok v) = (position_of v ≡ z) × (is_integer_value z ≡ true)
Fits (Ok z) (Err x) = ⊥
Fits (Err s) (Ok v) = ⊥
Fits (Err s) (Err x) = ⊤

agree_from : (r : Result ℤ Span) (q : Result Value Raised) → Fits r q → Agree r q
agree_from (Ok z) (Ok v) h = h.0
agree_from (Ok z) (Err x) h = h
agree_from (Err s) (Ok v) h = h
agree_from (Err s) (Err x) h = h

integer_between : (z : ℤ) → negsuc 2147483647 ≤ℤ z → z ≤ℤ pos 2147483647 → is_integer_value z ≡ true
integer_between z g h = both_true (int_le (negsuc 2147483647) z) (int_le z (pos 2147483647)) (int_le_true (negsuc 2147483647) z g) (int_le_true z (pos 2147483647) h)

not_under : (z : ℤ) → is_integer_value z ≡ true → negsuc 2147483647 ≤ℤ z
not_under z h = int_le_is (negsuc 2147483647) z (and_left (int_le (negsuc 2147483647) z) (int_le z (pos 2147483647)) h)

not_over : (z : ℤ) → is_integer_value z ≡ true → z ≤ℤ pos 2147483647
not_over z h = int_le_is z (pos 2147483647) (and_right (int_le (negsuc 2147483647) z) (int_le z (pos 2147483647)) h)

pub natural_integer : (n : ℕ) → n ≤ 2147483647 → is_integer_value (pos n) ≡ true
natural_integer n h = integer_between (pos n) (omega (arith, ints)) (omega (arith, ints))

-- ---- results

truth_fits : (b : Bool) → Fits (Ok (truth b)) (Ok (Truth b))
truth_fits true = (refl, refl)
truth_fits false = (refl, refl)

fitted_split : (s : Span) (z : ℤ) (t : Bool) → is_integer_value z ≡ t → Fits (if t then Ok z else Err s) (if t then Ok (Number z) else Err raised.Numeric)
fitted_split s z true e = (refl, e)
fitted_split s z false e = tt

fitted_fits : (s : Span) (z : ℤ) → Fits (static.fitted s z) (values.fitted z)
fitted_fits s z = fitted_split s z (is_integer_value z) refl

known_fits : (z : ℤ) → is_integer_value z ≡ true → Fits (Ok z) (values.fitted z)
known_fits z e = subst (λ t. Fits (Ok z) (if t then Ok (Number z) else Err raised.Numeric)) (sym e) (refl, e)

-- what both operands' results come to where both operators agree at values
then_fits : (r : Result ℤ Span) (q : Result Value Raised) (f : ℤ → Result ℤ Span) (g : Value → Result Value Raised) → Fits r q → ((v : Value) → is_integer_value (position_of v) ≡ true → Fits (f (position_of v)) (g v)) → Fits (then_do f r) (and_then q g)
then_fits (Ok z) (Ok v) f g h k = subst (λ x. Fits (f x) (g v)) h.0 (k v (subst (λ x. is_integer_value x ≡ true) (sym h.0) h.1))
then_fits (Ok z) (Err x) f g h k = absurd h
then_fits (Err s) (Ok v) f g h k = absurd h
then_fits (Err s) (Err x) f g h k = tt

-- ---- operators

zero_split : (s : Span) (b : ℤ) (t : Bool) → int_eq b (pos 0) ≡ t → (r : Result ℤ Span) (q : Result Value Raised) → (int_eq b (pos 0) ≡ false → Fits r q) → Fits (if t then Err s else r) (if t then Err raised.Numeric else q)
zero_split s b true e r q h = tt
zero_split s b false e r q h = h e

zero_fits : (s : Span) (b : ℤ) (r : Result ℤ Span) (q : Result Value Raised) → (int_eq b (pos 0) ≡ false → Fits r q) → Fits (static.unless_zero s b r) (evaluating.unless_zero b q)
zero_fits s b r q h = zero_split s b (int_eq b (pos 0)) refl r q h

some_size : (b : ℤ) → int_eq b (pos 0) ≡ false → 0 < unsigned_abs b
some_size (pos zero) h = clash (sym h)
some_size (pos (suc n)) h = omega arith
some_size (negsuc n) h = omega arith

smaller_integer : (z b : ℤ) → unsigned_abs z < unsigned_abs b → negsuc 2147483647 ≤ℤ b → b ≤ℤ pos 2147483647 → is_integer_value z ≡ true
smaller_integer (pos n) (pos m) l g h = integer_between (pos n) (omega (arith, ints)) (omega (arith, ints))
smaller_integer (pos n) (negsuc m) l g h = integer_between (pos n) (omega (arith, ints)) (omega (arith, ints))
smaller_integer (negsuc n) (pos m) l g h = integer_between (negsuc n) (omega (arith, ints)) (omega (arith, ints))
smaller_integer (negsuc n) (negsuc m) l g h = integer_between (negsuc n) (omega (arith, ints)) (omega (arith, ints))

rem_integer : (a b : ℤ) → is_integer_value b ≡ true → int_eq b (pos 0) ≡ false → is_integer_value (int_rem a b) ≡ true
rem_integer a b h e = smaller_integer (int_rem a b) b (rem_below a b (some_size b e)) (not_under b h) (not_over b h)

between_signs : (r b : ℤ) → is_integer_value r ≡ true → is_integer_value b ≡ true → have_one_sign r b ≡ false → is_integer_value (r +ℤ b) ≡ true
between_signs (pos n) (pos m) g h e = clash (sym e)
between_signs (negsuc n) (negsuc m) g h e = clash (sym e)
between_signs (pos n) (negsuc m) g h e =
    let low = not_under (negsuc m) h in
    let high = not_over (pos n) g in
    integer_between (pos n +ℤ negsuc m) (omega (arith, ints)) (omega (arith, ints))
between_signs (negsuc n) (pos m) g h e =
    let low = not_under (negsuc n) g in
    let high = not_over (pos m) h in
    integer_between (negsuc n +ℤ pos m) (omega (arith, ints)) (omega (arith, ints))

moved_split : (r b : ℤ) (t u : Bool) → have_one_sign r b ≡ u → is_integer_value r ≡ true → is_integer_value b ≡ true → is_integer_value (if t || u then r else r +ℤ b) ≡ true
moved_split r b true u e g h = g
moved_split r b false true e g h = g
moved_split r b false false e g h = between_signs r b g h e

modulus_integer : (a b : ℤ) → is_integer_value b ≡ true → int_eq b (pos 0) ≡ false → is_integer_value (modulus a b) ≡ true
modulus_integer a b h e = moved_split (int_rem a b) b (int_eq (int_rem a b) (pos 0)) (have_one_sign (int_rem a b) b) refl (rem_integer a b h e) h

combined_fits : (op : BinaryOp) (s : Span) (a b : Value) → is_integer_value (position_of b) ≡ true → Fits (static.applied op s (position_of a) (position_of b)) (combined op a b)
combined_fits And s a b h = truth_fits _
combined_fits AndThen s a b h = truth_fits _
combined_fits Or s a b h = truth_fits _
combined_fits OrElse s a b h = truth_fits _
combined_fits Xor s a b h = truth_fits _
combined_fits Equal s a b h = truth_fits _
combined_fits NotEqual s a b h = truth_fits _
combined_fits Less s a b h = truth_fits _
combined_fits LessEqual s a b h = truth_fits _
combined_fits Greater s a b h = truth_fits _
combined_fits GreaterEqual s a b h = truth_fits _
combined_fits Plus s a b h = fitted_fits s (position_of a +ℤ position_of b)
combined_fits Minus s a b h = fitted_fits s (position_of a -ℤ position_of b)
combined_fits Times s a b h = fitted_fits s (position_of a *ℤ position_of b)
combined_fits Divide s a b h = zero_fits s (position_of b) _ _ (λ e. fitted_fits s (int_div (position_of a) (position_of b)))
combined_fits Mod s a b h = zero_fits s (position_of b) _ _ (λ e. known_fits (modulus (position_of a) (position_of b)) (modulus_integer (position_of a) (position_of b) h e))
combined_fits Rem s a b h = zero_fits s (position_of b) _ _ (λ e. known_fits (int_rem (position_of a) (position_of b)) (rem_integer (position_of a) (position_of b) h e))

both_fit : (op : BinaryOp) (s : Span) (l r : Result ℤ Span) (x y : Result Value Raised) → Fits l x → Fits r y → Fits (then_do (λ a. then_do (λ b. static.applied op s a b) r) l) (and_then x (λ a. and_then y (λ b. combined op a b)))
both_fit op s l r x y g h = then_fits l x _ _ g (λ a i. then_fits r y _ _ h (λ b j. combined_fits op s a b j))

and_split : (r : Result ℤ Span) (y : Result Value Raised) (t : Bool) → Fits r y → Fits (if t then r else Ok (pos 0)) (if t then y else Ok (Truth false))
and_split r y true h = h
and_split r y false h = (refl, refl)

or_split : (r : Result ℤ Span) (y : Result Value Raised) (t : Bool) → Fits r y → Fits (if t then Ok (pos 1) else r) (if t then Ok (Truth true) else y)
or_split r y true h = (refl, refl)
or_split r y false h = h

operated_fits : (op : BinaryOp) (s : Span) (l r : Result ℤ Span) (x y : Result Value Raised) → Fits l x → Fits r y → Fits (static.operated op s l r) (evaluating.operated op x y)
operated_fits AndThen s l r x y g h = then_fits l x _ _ g (λ a i. and_split r y (is_true_value a) h)
operated_fits OrElse s l r x y g h = then_fits l x _ _ g (λ a i. or_split r y (is_true_value a) h)
operated_fits And s l r x y g h = both_fit And s l r x y g h
operated_fits Or s l r x y g h = both_fit Or s l r x y g h
operated_fits Xor s l r x y g h = both_fit Xor s l r x y g h
operated_fits Equal s l r x y g h = both_fit Equal s l r x y g h
operated_fits NotEqual s l r x y g h = both_fit NotEqual s l r x y g h
operated_fits Less s l r x y g h = both_fit Less s l r x y g h
operated_fits LessEqual s l r x y g h = both_fit LessEqual s l r x y g h
operated_fits Greater s l r x y g h = both_fit Greater s l r x y g h
operated_fits GreaterEqual s l r x y g h = both_fit GreaterEqual s l r x y g h
operated_fits Plus s l r x y g h = both_fit Plus s l r x y g h
operated_fits Minus s l r x y g h = both_fit Minus s l r x y g h
operated_fits Times s l r x y g h = both_fit Times s l r x y g h
operated_fits Divide s l r x y g h = both_fit Divide s l r x y g h
operated_fits Mod s l r x y g h = both_fit Mod s l r x y g h
operated_fits Rem s l r x y g h = both_fit Rem s l r x y g h

signed_fits : (op : UnaryOp) (s : Span) (v : Value) → is_integer_value (position_of v) ≡ true → Fits (static.signed op s (position_of v)) (signed_value op v)
signed_fits unary.Plus s v h = known_fits (position_of v) h
signed_fits unary.Minus s v h = fitted_fits s (neg_ℤ (position_of v))
signed_fits unary.Abs s v h = fitted_fits s (if int_lt (position_of v) (pos 0) then neg_ℤ (position_of v) else position_of v)
signed_fits unary.Not s v h = truth_fits _

-- ---- attributes

-- what a kind that may be none says of its literals
abbrev Few : Option Kind → Type 0
Few o = IfSome o HasFewLiterals

pub small_word : (n : ℕ) → n ≤ 2147483647 → word n ≡ n
small_word n h = grind arith

number_same : (z : ℤ) → is_integer_value z ≡ true → position_of (values.number z) ≡ z
number_same z e = subst (λ t. position_of (if t then Number z else Number (pos 0)) ≡ z) (sym e) refl

kind_has : (k : ℕ) (o : Option Kind) (z : ℤ) → Few o → is_of_kind o z ≡ true → (position_of (value_in k o z) ≡ z) × (is_integer_value z ≡ true)
kind_has k (Some kind.Integer) z f e = (number_same z e, e)
kind_has k (Some kind.Truth) (pos zero) f e = (refl, refl)
kind_has k (Some kind.Truth) (pos (suc zero)) f e = (refl, refl)
kind_has k (Some kind.Truth) (pos (suc (suc n))) f e =
    let no = int_le_is (pos (suc (suc n))) (pos 1) (and_right (int_le (pos 0) (pos (suc (suc n)))) (int_le (pos (suc (suc n))) (pos 1)) e) in
    absurd (omega (arith, ints))
kind_has k (Some kind.Truth) (negsuc n) f e =
    let no = int_le_is (pos 0) (negsuc n) (and_left (int_le (pos 0) (negsuc n)) (int_le (negsuc n) (pos 1)) e) in
    absurd (omega (arith, ints))
kind_has k (Some (kind.Enumeration names)) (pos n) f e =
    let under : int_lt (pos n) (pos (length names)) ≡ true = and_right (int_le (pos 0) (pos n)) (int_lt (pos n) (pos (length names))) e in
    let less : n < length names = grind (arith, ints) in
    let small : n ≤ 2147483647 = omega arith in
    (ap pos (small_word n small), natural_integer n small)
kind_has k (Some (kind.Enumeration names)) (negsuc n) f e =
    let no = int_le_is (pos 0) (negsuc n) (and_left (int_le (pos 0) (negsuc n)) (int_lt (negsuc n) (pos (length names))) e) in
    absurd (omega (arith, ints))
kind_has k (Some (kind.Array index first last part)) z f e = clash e
kind_has k None z f e = clash e

few_at : (kinds : List Kind) (k : ℕ) → All HasFewLiterals kinds → Few (slice_get kinds k)
few_at kinds k h =
    ⊎_elim (λ f. subst Few (sym f.2) (subst HasFewLiterals f.3 (h k f.0 f.1))) (λ f. subst Few (sym f.1) tt) ((slice_get_cases kinds k).1)

based_split : (types : TypeTable) (k : ℕ) (s : Span) (z : ℤ) (t : Bool) → Few (slice_get types.kinds k) → is_of_kind (slice_get types.kinds k) z ≡ t → Fits (if t then Ok z else Err s) (if t then Ok (value_at types k z) else Err raised.Constraint)
based_split types k s z true f e = kind_has k (slice_get types.kinds k) z f e
based_split types k s z false f e = tt

based_fits : (types : TypeTable) (m : Mark) (s : Span) (z : ℤ) → All HasFewLiterals types.kinds → Fits (static.of_base types (Some m) s z) (based types m.kind z)
based_fits types m s z f = based_split types m.kind s z (is_of_kind (slice_get types.kinds m.kind) z) (few_at types.kinds m.kind f) refl

attribute_fits : (types : TypeTable) (o : Option Mark) (a : Attribute) (s : Span) (v : Value) → All HasFewLiterals types.kinds → keeps_static a ≡ true → is_some o ≡ true → is_integer_value (position_of v) ≡ true → Fits (static.attribute_at types o a s (position_of v)) (attribute_value types (limits_or o) a v)
attribute_fits types None a s v f g h i = clash h
attribute_fits types (Some m) Pos s v f g h i = known_fits (position_of v) i
attribute_fits types (Some m) Val s v f g h i = based_fits types m s (position_of v) f
attribute_fits types (Some m) Succ s v f g h i = based_fits types m s (position_of v +ℤ pos 1) f
attribute_fits types (Some m) Pred s v f g h i = based_fits types m s (position_of v -ℤ pos 1) f
attribute_fits types (Some m) First s v f g h i = clash g
attribute_fits types (Some m) Last s v f g h i = clash g
attribute_fits types (Some m) Image s v f g h i = clash g
attribute_fits types (Some m) NoAttribute s v f g h i = clash g

-- what is said of each item is said of those behind the first
of_rest : {A : Type 0} (P : A → Type 0) (x : A) (xs : List A) → All P (x ∷ xs) → All P xs
of_rest P x xs h k d l = h (suc k) d (omega arith)

pick : {A : Type 0} (P : A → Type 0) (x : A) (t : Bool) (o : Option A) → P x → IfSome o P → IfSome (cond t (Some x) o) P
pick P x true o g h = g
pick P x false o g h = h

-- what is said of each item is said of the one that is found
found_has : {A : Type 0} (P : A → Type 0) (p : A → Bool) (xs : List A) → All P xs → IfSome (find p xs) P
found_has P p [] h = tt
found_has P p (x ∷ xs) h = pick P x (p x) (find p xs) (h 0 x (omega arith)) (found_has P p xs (of_rest P x xs h))

value_fits : (types : TypeTable) (k : ℕ) (z : ℤ) → HasValueAt types k z → Fits (Ok z) (Ok (value_at types k z))
value_fits types k z h = (h.same, h.fits)

bound_fits : (types : TypeTable) (o : Option Mark) (a : Attribute) → IfSome o (λ m. HasValueAt types m.kind m.first) → IfSome o (λ m. HasValueAt types m.kind m.last) → is_bound a ≡ true → is_some o ≡ true → Fits (Ok (static.bound_of a o)) (Ok (bound_value types (limits_or o) a))
bound_fits types None a f l g h = clash h
bound_fits types (Some m) First f l g h = value_fits types m.kind m.first f
bound_fits types (Some m) Last f l g h = value_fits types m.kind m.last l
bound_fits types (Some m) Pos f l g h = clash g
bound_fits types (Some m) Val f l g h = clash g
bound_fits types (Some m) Succ f l g h = clash g
bound_fits types (Some m) Pred f l g h = clash g
bound_fits types (Some m) Image f l g h = clash g
bound_fits types (Some m) NoAttribute f l g h = clash g

-- ---- names

-- a literal's position and its value
abbrev Literal : Option ℕ → Option Value → Type 0
Literal (Some n) (Some v) = (position_of v ≡ pos n) × (is_integer_value (pos n) ≡ true)
Literal None None = ⊤
Literal (Some n) None = ⊥
Literal None (Some v) = ⊥

small_split : (n count : ℕ) (t : Bool) → nat_lt n count ≡ t → count ≤ 2147483648 → IfSome (cond t (Some n) None) (λ k. k ≤ 2147483647)
small_split n count true e h = let less : n < count = grind (arith, nat_tests) in omega arith
small_split n count false e h = tt

small_position : (id : NameId) (x : Kind) → HasFewLiterals x → IfSome (position_in id x) (λ n. n ≤ 2147483647)
small_position id kind.Integer h = tt
small_position id kind.Truth h = tt
small_position id (kind.Enumeration names) h = small_split (position_or_len (λ n. n.0 == id.0) names) (length names) (nat_lt (position_or_len (λ n. n.0 == id.0) names) (length names)) refl h
small_position id (kind.Array index first last part) h = tt

one_literal : (k : ℕ) (o : Option ℕ) → IfSome o (λ n. n ≤ 2147483647) → Literal o (option_map (λ n. placed (word k) (pos n)) o)
one_literal k (Some n) h = (ap pos (small_word n h), natural_integer n h)
one_literal k None h = tt

sooner_literal : (o p : Option ℕ) (v w : Option Value) → Literal o v → Literal p w → Literal (first_of_two o p) (first_of_two v w)
sooner_literal (Some n) p (Some v) w g h = g
sooner_literal (Some n) p None w g h = absurd g
sooner_literal None p (Some v) w g h = absurd g
sooner_literal None p None w g h = h

literals_fit : (kinds : List Kind) (k : ℕ) (id : NameId) → All HasFewLiterals kinds → Literal (literal_position kinds id) (literal_value kinds k id)
literals_fit [] k id h = tt
literals_fit (x ∷ kinds) k id h = sooner_literal (position_in id x) (literal_position kinds id) _ _ (one_literal k (position_in id x) (small_position id x (h 0 x (omega arith)))) (literals_fit kinds (suc k) id (of_rest HasFewLiterals x kinds h))

name_fits : (types : TypeTable) (t u : Bool) (c : Option Constant) (o : Option ℕ) (v : Option Value) → IfSome c (λ d. HasValueAt types (limits_or (mark_at types d.mark)).kind d.value) → Literal o v → is_some (if t then Some (pos 0) else if u then Some (pos 1) else first_of_two (option_map (λ d. d.value) c) (option_map (λ n. pos n) o)) ≡ true → Fits (named (if t then Some (pos 0) else if u then Some (pos 1) else first_of_two (option_map (λ d. d.value) c) (option_map (λ n. pos n) o))) (Ok (if t then Truth false else if u then Truth true else unwrap_or (first_of_two (option_map (constant_value types) c) v) (Number (pos 0))))
name_fits types true u c o v g h i = (refl, refl)
name_fits types false true c o v g h i = (refl, refl)
name_fits types false false (Some d) o v g h i = value_fits types (limits_or (mark_at types d.mark)).kind d.value g
name_fits types false false None (Some n) (Some v) g h i = h
name_fits types false false None (Some n) None g h i = absurd h
name_fits types false false None None (Some v) g h i = absurd h
name_fits types false false None None None g h i = clash i

-- ---- expressions

static_fits : (types : TypeTable) (e : PExpr) → IsSound types → HasSmallLiterals e → is_static types e ≡ true → Fits (value_of types e) (evaluated types [] e)
static_fits types (EInteger n s) t l h = known_fits (pos n) (natural_integer n l)
static_fits types (EName id s) t l h = name_fits types (id.0 == false_name) (id.0 == true_name) (constant_named types id) (literal_position types.kinds id) (literal_value types.kinds 0 id) (found_has _ _ types.constants t.constants) (literals_fit types.kinds 0 id t.kinds) h
static_fits types (EIndex w e s) t l h = clash h
static_fits types (EAttribute m w s) t l h =
    bound_fits types (mark_named types m.name) (attribute_of w.name) (found_has _ _ types.marks t.firsts) (found_has _ _ types.marks t.lasts)
    (and_left (is_bound (attribute_of w.name)) (is_some (mark_named types m.name)) h) (and_right (is_bound (attribute_of w.name)) (is_some (mark_named types m.name)) h)
static_fits types (EAttributeOf m w e s) t l h =
    let outer : (keeps_static (attribute_of w.name) && is_some (mark_named types m.name)) ≡ true = and_left (keeps_static (attribute_of w.name) && is_some (mark_named types m.name)) (is_static types e) h in
    let inner : is_static types e ≡ true = and_right (keeps_static (attribute_of w.name) && is_some (mark_named types m.name)) (is_static types e) h in
    then_fits (value_of types e) (evaluated types [] e) _ _ (static_fits types e t l inner)
    (λ v i. attribute_fits types (mark_named types m.name) (attribute_of w.name) s v t.kinds
    (and_left (keeps_static (attribute_of w.name)) (is_some (mark_named types m.name)) outer) (and_right (keeps_static (attribute_of w.name)) (is_some (mark_named types m.name)) outer) i)
static_fits types (EParen e s) t l h = static_fits types e t l h
static_fits types (EUnary op e s) t l h = then_fits (value_of types e) (evaluated types [] e) _ _ (static_fits types e t l h) (λ v i. signed_fits op s v i)
static_fits types (EBinary op x y s) t l h =
    operated_fits op s (value_of types x) (value_of types y) (evaluated types [] x) (evaluated types [] y)
    (static_fits types x t l.0 (and_left (is_static types x) (is_static types y) h)) (static_fits types y t l.1 (and_right (is_static types x) (is_static types y) h))

pub static_law : StaticLaw
static_law types e t l h = agree_from (value_of types e) (evaluated types [] e) (static_fits types e t l h)
