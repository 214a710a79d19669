-- Tables that agree on old names say the same of values.
use Rattle.std.proofs.Common.{◌≡◌, ℕ, zero, suc, ◌+◌, ◌<◌, ℤ, pos, negsuc, Bool, true, false, ◌==◌, if◌then◌else◌, List, [], ◌∷◌, ◌++◌, length, slice_get, is_some, unwrap_or, option_map, Option, Some, None, refl, sym, ap, ap₂, ◌∙◌, subst, true≢false, arith}
use Rattle.std.specs.Prelude.{nat_le}
use Rattle.std.specs.List.{AllByRecursion}
use Rattle.std.proofs.lemmas.Option.{none-some}
use Rattle.ada_tree.specs.declared.naming.NameId.{NameId}
use Rattle.ada_tree.specs.declared.static_types.Kind.{Kind}
use Rattle.ada_tree.specs.declared.static_types.Kind.TheVariants as kind
use Rattle.ada_tree.specs.declared.static_types.Mark.{Mark}
use Rattle.ada_tree.specs.declared.static_types.Constant.{Constant}
use Rattle.ada_tree.specs.TypeTable.{TypeTable}
use Rattle.ada_tree.specs.Attributes.{false_name, true_name}
use Rattle.ada_static_rules.specs.Scope.{integer_kind, truth_kind, kind_at, mark_at}
use Rattle.ada_static_rules.specs.StaticValue.{is_of_kind, is_integer_value, constant_named, position_in, first_of_two}
use Rattle.ada_value.specs.declared.values.Value.{Value}
use Rattle.ada_value.specs.declared.values.Value.TheVariants.{Number, Truth, Place}
use Rattle.ada_value.specs.Values.{kind_of_value, number, word, placed, value_in, value_at, limits_or, limits_named, limits_of_kind}
use Rattle.ada_value.specs.Evaluating.{literal_value, constant_value, fixed_value}
use Rattle.ada_value.specs.Texts.{name_text, literal_text, image}
use Rattle.task_laws.specs.legal.rewritten_types.Agreement.{scalar_only, Literal, literal_among, Agrees}
use Rattle.task_laws.specs.legal.rewritten_values.Values.{is_known, LiteralsWithin}
use Rattle.task_laws.specs.legal.rewritten_values.Laws.{TablesAgreeOnValues}
use Rattle.common_lemmas.proofs.Options.{some_same}
use Rattle.task_laws.proofs.legal.rewritten_types.Lookups.{of-kind-only}

-- ---- what hangs on the kinds of values alone

value-scalar : (k : ℕ) (o : Option Kind) (z : ℤ) → value_in k o z ≡ value_in k (scalar_only o) z
value-scalar k (Some (kind.Array index first last part)) z = refl
value-scalar k (Some kind.Integer) z = refl
value-scalar k (Some kind.Truth) z = refl
value-scalar k (Some (kind.Enumeration names)) z = refl
value-scalar k None z = refl

text-scalar : (names : List (List ℕ)) (o : Option Kind) (n : ℕ) → literal_text names o n ≡ literal_text names (scalar_only o) n
text-scalar names (Some (kind.Array index first last part)) n = refl
text-scalar names (Some kind.Integer) n = refl
text-scalar names (Some kind.Truth) n = refl
text-scalar names (Some (kind.Enumeration ids)) n = refl
text-scalar names None n = refl

number-kind : (z : ℤ) → kind_of_value (number z) ≡ integer_kind
number-kind z = by_test (is_integer_value z)
  where
    by_test : (b : Bool) → kind_of_value (if b then Number z else Number (pos 0)) ≡ integer_kind
    by_test true = refl
    by_test false = refl

-- ---- literals

literal_as : Literal → Value
literal_as l = placed (word l.kind) (pos l.position)

value-first : (a b : Option Literal) → option_map literal_as (first_of_two a b) ≡ first_of_two (option_map literal_as a) (option_map literal_as b)
value-first (Some l) b = refl
value-first None b = refl

value-position : (k : ℕ) (o : Option ℕ) → option_map literal_as (option_map (λ n. record { kind = k; position = n }) o) ≡ option_map (λ n. placed (word k) (pos n)) o
unfolding literal_as
value-position k (Some n) = refl
value-position k None = refl

-- the value of a literal
literal-place : (ks : List Kind) (k : ℕ) (id : NameId) → literal_value ks k id ≡ option_map literal_as (literal_among ks k id)
literal-place [] k id = refl
literal-place (x ∷ rest) k id =
    ap₂ first_of_two (sym (value-position k (position_in id x))) (literal-place rest (suc k) id)
    ∙ sym (value-first (option_map (λ n. record { kind = k; position = n }) (position_in id x)) (literal_among rest (suc k) id))

-- where a literal is found an enumeration stands
record IsEnumerated (ks : List Kind) (k : ℕ) (l : Literal) : Type 0 where
  at : ℕ
  ids : List NameId
  place : l.kind ≡ at + k
  there : slice_get ks at ≡ Some (kind.Enumeration ids)

enumerated-here : (x : Kind) (rest : List Kind) (k : ℕ) (id : NameId) (n : ℕ) → position_in id x ≡ Some n → IsEnumerated (x ∷ rest) k record { kind = k; position = n }
enumerated-here (kind.Enumeration names) rest k id n e = record { at = 0; ids = names; place = omega arith; there = refl }
enumerated-here kind.Integer rest k id n e = absurd (none-some n e)
enumerated-here kind.Truth rest k id n e = absurd (none-some n e)
enumerated-here (kind.Array index first last part) rest k id n e = absurd (none-some n e)

enumerated-behind : (x : Kind) (rest : List Kind) (k : ℕ) (l : Literal) → IsEnumerated rest (suc k) l → IsEnumerated (x ∷ rest) k l
enumerated-behind x rest k l h = let e = h.place in record { at = suc h.at; ids = h.ids; place = omega arith; there = h.there }

enumerated : (ks : List Kind) (k : ℕ) (id : NameId) (l : Literal) → literal_among ks k id ≡ Some l → IsEnumerated ks k l
enumerated [] k id l e = absurd (none-some l e)
enumerated (x ∷ rest) k id l e = by_place (position_in id x) refl e (enumerated rest (suc k) id l)
  where
    by_place : (o : Option ℕ) → position_in id x ≡ o → first_of_two (option_map (λ n. record { kind = k; position = n }) o) (literal_among rest (suc k) id) ≡ Some l →
        (literal_among rest (suc k) id ≡ Some l → IsEnumerated rest (suc k) l) → IsEnumerated (x ∷ rest) k l
    by_place (Some n) f g later = subst (IsEnumerated (x ∷ rest) k) (some_same g) (enumerated-here x rest k id n f)
    by_place None f g later = enumerated-behind x rest k l (later g)

-- ---- texts

pub place-within : {A : Type 0} (xs ys : List A) (k : ℕ) → k < length xs → slice_get (xs ++ ys) k ≡ slice_get xs k
place-within [] ys k l = let y : ⊥ = omega arith in absurd y
place-within (x ∷ xs) ys zero l = refl
place-within (x ∷ xs) ys (suc k) l = place-within xs ys k (omega arith)

name-alike : (before more : List (List ℕ)) (ids : List NameId) (n : ℕ) → AllByRecursion (λ (id : NameId). id.0 < length before) ids →
    name_text before (slice_get ids n) ≡ name_text (before ++ more) (slice_get ids n)
name-alike before more [] n h = refl
name-alike before more (id ∷ ids) zero h = ap (λ o. unwrap_or o []) (sym (place-within before more id.0 h.0))
name-alike before more (id ∷ ids) (suc n) h = name-alike before more ids n h.1

text-alike : (before more : List (List ℕ)) (o : Option Kind) (n : ℕ) → ((ids : List NameId) → o ≡ Some (kind.Enumeration ids) → AllByRecursion (λ (id : NameId). id.0 < length before) ids) →
    literal_text before o n ≡ literal_text (before ++ more) o n
text-alike before more (Some (kind.Enumeration ids)) n h = name-alike before more ids n (h ids refl)
text-alike before more (Some kind.Integer) n h = refl
text-alike before more (Some kind.Truth) n h = refl
text-alike before more (Some (kind.Array index first last part)) n h = refl
text-alike before more None n h = refl

-- ---- the tables

pub known-scalar : (o : Option Kind) → is_some o ≡ true → (x : Kind) × (o ≡ Some x)
known-scalar (Some x) e = (x, refl)
known-scalar None e = absurd (true≢false (sym e))

module _ (old : ℕ → Bool) (T U : TypeTable) (h : Agrees old T U) where
  integer-known : is_known T integer_kind ≡ true
  integer-known = ap (λ o. is_some (scalar_only o)) h.integers

  truth-known : is_known T truth_kind ≡ true
  truth-known = ap (λ o. is_some (scalar_only o)) h.truths

  number-known : (z : ℤ) → is_known T (kind_of_value (number z)) ≡ true
  number-known z = ap (is_known T) (number-kind z) ∙ integer-known

  -- a value of a kind is of a known one
  value-known : (k : ℕ) (o : Option Kind) (z : ℤ) → kind_at T k ≡ o → is_known T (kind_of_value (value_in k o z)) ≡ true
  value-known k (Some kind.Integer) z e = number-known z
  value-known k (Some kind.Truth) z e = truth-known
  value-known k (Some (kind.Enumeration names)) (pos n) e = ap (λ o. is_some (scalar_only o)) e
  value-known k (Some (kind.Enumeration names)) (negsuc n) e = ap (λ o. is_some (scalar_only o)) e
  value-known k (Some (kind.Array index first last part)) z e = number-known z
  value-known k None z e = number-known z

  pub values-alike : (k : ℕ) (z : ℤ) → value_at T k z ≡ value_at U k z
  values-alike k z = value-scalar k (kind_at T k) z ∙ ap (λ o. value_in k o z) (h.kinds k) ∙ sym (value-scalar k (kind_at U k) z)

  pub bases-alike : (k : ℕ) (z : ℤ) → is_of_kind (slice_get T.kinds k) z ≡ is_of_kind (slice_get U.kinds k) z
  bases-alike k z = of-kind-only (kind_at T k) z ∙ ap (λ o. is_of_kind o z) (h.kinds k) ∙ sym (of-kind-only (kind_at U k) z)

  pub limits-alike : (id : NameId) → old id.0 ≡ true → limits_named T id ≡ limits_named U id
  limits-alike id o = ap limits_or (h.marks id o)

  kinds-alike : (k : ℕ) → is_known T k ≡ true → limits_of_kind T k ≡ limits_of_kind U k
  kinds-alike k e = ap limits_or (h.kind_marks k (known-scalar (scalar_only (kind_at T k)) e))

  -- constants
  constant-alike : (id : NameId) (o : Option Constant) → old id.0 ≡ true → constant_named T id ≡ o → option_map (constant_value T) o ≡ option_map (constant_value U) o
  constant-alike id (Some c) o e =
      ap Some (ap (λ (m : Option Mark). value_at T (limits_or m).kind c.value) (h.constant_marks id c o e) ∙ values-alike (limits_or (mark_at U c.mark)).kind c.value)
  constant-alike id None o e = refl

  literals-alike : (id : NameId) → literal_value T.kinds 0 id ≡ literal_value U.kinds 0 id
  literals-alike id = literal-place T.kinds 0 id ∙ ap (option_map literal_as) (h.literals id) ∙ sym (literal-place U.kinds 0 id)

  pub fixed-alike : (id : NameId) → old id.0 ≡ true → fixed_value T id ≡ fixed_value U id
  fixed-alike id o =
      ap₂ (λ (a b : Option Value). if id.0 == false_name then Truth false else if id.0 == true_name then Truth true else unwrap_or (first_of_two a b) (Number (pos 0)))
      (constant-alike id (constant_named T id) o refl ∙ ap (option_map (constant_value U)) (h.constants id o)) (literals-alike id)

  -- a literal is of a known kind
  word-known : (k : ℕ) → is_known T k ≡ true → is_known T (word k) ≡ true
  word-known k e = by_test (nat_le k 4294967295)
    where
      by_test : (b : Bool) → is_known T (if b then k else 0) ≡ true
      by_test true = e
      by_test false = integer-known

  literal-known : (id : NameId) (o : Option Literal) → literal_among T.kinds 0 id ≡ o → is_known T (kind_of_value (unwrap_or (option_map literal_as o) (Number (pos 0)))) ≡ true
  unfolding literal_as
  literal-known id (Some l) e =
      let at = enumerated T.kinds 0 id l e in
      let same : at.at ≡ l.kind = (let p = at.place in omega arith) in
      word-known l.kind (ap (λ k. is_some (scalar_only (kind_at T k))) (sym same) ∙ ap (λ o. is_some (scalar_only o)) at.there)
  literal-known id None e = integer-known

  fixed-known : (id : NameId) → is_known T (kind_of_value (fixed_value T id)) ≡ true
  fixed-known id = by_tests (id.0 == false_name) (id.0 == true_name)
    where
      by_constant : (c : Option Constant) → is_known T (kind_of_value (unwrap_or (first_of_two (option_map (constant_value T) c) (literal_value T.kinds 0 id)) (Number (pos 0)))) ≡ true
      by_constant (Some c) = value-known (limits_or (mark_at T c.mark)).kind (kind_at T (limits_or (mark_at T c.mark)).kind) c.value refl
      by_constant None = ap (λ o. is_known T (kind_of_value (unwrap_or o (Number (pos 0))))) (literal-place T.kinds 0 id) ∙ literal-known id (literal_among T.kinds 0 id) refl

      by_tests : (a b : Bool) → is_known T (kind_of_value
          (if a then Truth false else if b then Truth true else unwrap_or (first_of_two (option_map (constant_value T) (constant_named T id)) (literal_value T.kinds 0 id)) (Number (pos 0)))) ≡ true
      by_tests true b = truth-known
      by_tests false true = truth-known
      by_tests false false = by_constant (constant_named T id)

  images-alike : (before more : List (List ℕ)) → LiteralsWithin (length before) T → (v : Value) → image before T v ≡ image (before ++ more) U v
  images-alike before more within (Number z) = refl
  images-alike before more within (Truth b) = refl
  images-alike before more within (Place k n) =
      text-alike before more (kind_at T k) n (within k)
      ∙ text-scalar (before ++ more) (kind_at T k) n ∙ ap (λ o. literal_text (before ++ more) o n) (h.kinds k) ∙ sym (text-scalar (before ++ more) (kind_at U k) n)

pub tables_agree_on_values : TablesAgreeOnValues
tables_agree_on_values old T U before more h within = record {
  marks = limits-alike old T U h;
  fixed = fixed-alike old T U h;
  fixed_known = λ id o. fixed-known old T U h id;
  values = values-alike old T U h;
  values_known = λ k z. value-known old T U h k (kind_at T k) z refl;
  bases = bases-alike old T U h;
  kinds = kinds-alike old T U h;
  integers = integer-known old T U h;
  truths = truth-known old T U h;
  images = images-alike old T U h before more within;
}
