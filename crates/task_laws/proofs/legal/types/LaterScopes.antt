-- Behind each declaration of main names with a value keep it, and scopes behind the first body stand over the table before it.
use Rattle.std.proofs.Common.{◌≡◌, ℕ, suc, pos, Bool, true, false, ◌==◌, if◌then◌else◌, List, [], ◌∷◌, ◌++◌, is_some, option_map, unwrap_or, Option, Some, None, ◌⊎◌, ⊎_elim, refl, sym, ap, ap₂, ◌∙◌, subst, true≢false}
use Rattle.std.specs.List.{AllByRecursion}
use Rattle.std.proofs.lemmas.Bool.{eq-eqb}
use Rattle.std.proofs.lemmas.Option.{none-some}
use Rattle.ada_tree.specs.declared.naming.NameId.{NameId}
use Rattle.ada_tree.specs.declared.naming.Word.{Word}
use Rattle.ada_tree.specs.declared.static_types.Kind.{Kind}
use Rattle.ada_tree.specs.declared.static_types.Mark.{Mark}
use Rattle.ada_tree.specs.declared.static_types.Constant.{Constant}
use Rattle.ada_tree.specs.TypeTable.{TypeTable}
use Rattle.ada_tree.specs.Attributes.{false_name, true_name}
use Rattle.ada_tree.specs.PlainDecl.{PDecl, DNumber, DObject, DEnumeration, DArray, DSubtype, DException, DIntIo, DPragma, DTask, DTaskBody}
use Rattle.ada_static_rules.specs.Scope.{Scope, truth_kind, Thing, TypeMark, ConstantObject, Literal, meaning, kind_at, mark_at}
use Rattle.ada_static_rules.specs.StaticValue.{value_named, is_named, mark_named, constant_named, position_in, literal_position, first_of_two}
use Rattle.ada_static_rules.specs.Declaring.{with_name, with_types, add_mark, add_kind, after_decl}
use Rattle.ada_value.specs.declared.values.Value.{Value}
use Rattle.ada_value.specs.declared.values.Value.TheVariants.{Number, Truth}
use Rattle.ada_value.specs.Values.{word, placed, value_in, limits_or}
use Rattle.ada_value.specs.Evaluating.{literal_value, constant_value, fixed_value}
use Rattle.task_laws.specs.legal.rewritten_types.Agreement.{HasKind, HasMark, Grows, Keeps, Sound, WholeTable, Agrees}
use Rattle.task_laws.specs.legal.rewritten_types.Rewriting.{IsFirst, names_declared, IsUnused}
use Rattle.task_laws.proofs.legal.rewritten_types.Lookups.{find-grown, find-all, place-all}
use Rattle.task_laws.proofs.legal.rewritten_types.Keeping.{grows-on, grows-mark, grows-kind, keeps-self}
use Rattle.task_laws.proofs.legal.rewritten_types.Adding.{names-types, keeps-decl}
use Rattle.task_laws.proofs.legal.rewritten_types.Rooting.{rooted_agrees}
use Rattle.task_laws.proofs.legal.rewritten_values.Saying.{fixed-alike}
use Rattle.task_laws.proofs.legal.types.ExprKinds.{LeadsOn, IsClearThing}
use Rattle.task_laws.proofs.legal.types.TypedValues.{anybody, IsTyped, IsOver, literal-none}
use Rattle.task_laws.proofs.legal.types.StaticWorth.{named-alike, keeps-agrees}
use Rattle.task_laws.proofs.legal.types.GoodScopes.{News, thing-grown, unused-apart, IsGood}
use Rattle.task_laws.proofs.legal.types.LaterTables.{IsLaterTable}
use Rattle.common_lemmas.proofs.Options.{some_there}

-- ---- names with a value

-- where a literal has a value it has a position
literal-some : (ks : List Kind) (k : ℕ) (id : NameId) (v : Value) → literal_value ks k id ≡ Some v → is_some (literal_position ks id) ≡ true
literal-some [] k id v e = absurd (none-some v e)
literal-some (x ∷ rest) k id v e = by_place (position_in id x) e (literal-some rest (suc k) id v)
  where
    by_place : (o : Option ℕ) → first_of_two (option_map (λ n. placed (word k) (pos n)) o) (literal_value rest (suc k) id) ≡ Some v →
        (literal_value rest (suc k) id ≡ Some v → is_some (literal_position rest id) ≡ true) → is_some (first_of_two o (literal_position rest id)) ≡ true
    by_place (Some n) f later = refl
    by_place None f later = later f

module _ (T : TypeTable) (id : NameId) where
  false-valued : (id.0 == false_name) ≡ true → is_some (value_named T id) ≡ true
  false-valued e = ap (λ b. is_some (if b then Some (pos 0) else if id.0 == true_name then Some (pos 1) else first_of_two (option_map (λ (c : Constant). c.value) (constant_named T id)) (option_map (λ n. pos n) (literal_position T.kinds id)))) e

  others-valued : is_some (first_of_two (option_map (λ (c : Constant). c.value) (constant_named T id)) (option_map (λ n. pos n) (literal_position T.kinds id))) ≡ true → is_some (value_named T id) ≡ true
  others-valued e = by_tests (id.0 == false_name) (id.0 == true_name)
    where
      by_tests : (a b : Bool) → is_some (if a then Some (pos 0) else if b then Some (pos 1) else first_of_two (option_map (λ (c : Constant). c.value) (constant_named T id)) (option_map (λ n. pos n) (literal_position T.kinds id))) ≡ true
      by_tests true b = refl
      by_tests false true = refl
      by_tests false false = e

  true-valued : (id.0 == true_name) ≡ true → is_some (value_named T id) ≡ true
  true-valued e = by_test (id.0 == false_name)
    where
      by_test : (a : Bool) → is_some (if a then Some (pos 0) else if id.0 == true_name then Some (pos 1) else first_of_two (option_map (λ (c : Constant). c.value) (constant_named T id)) (option_map (λ n. pos n) (literal_position T.kinds id))) ≡ true
      by_test true = refl
      by_test false = ap (λ b. is_some (if b then Some (pos 1) else first_of_two (option_map (λ (c : Constant). c.value) (constant_named T id)) (option_map (λ n. pos n) (literal_position T.kinds id)))) e

  constant-valued : (c : Constant) → constant_named T id ≡ Some c → is_some (value_named T id) ≡ true
  constant-valued c e = others-valued (ap (λ o. is_some (first_of_two (option_map (λ (d : Constant). d.value) o) (option_map (λ n. pos n) (literal_position T.kinds id)))) e)

  literal-valued : (v : Value) → literal_value T.kinds 0 id ≡ Some v → is_some (value_named T id) ≡ true
  literal-valued v e = others-valued (by_constant (constant_named T id))
    where
      by_constant : (o : Option Constant) → is_some (first_of_two (option_map (λ (d : Constant). d.value) o) (option_map (λ n. pos n) (literal_position T.kinds id))) ≡ true
      by_constant (Some c) = refl
      by_constant None = let n = some_there (literal_position T.kinds id) (literal-some T.kinds 0 id v e) in ap (λ o. is_some (option_map (λ k. pos k) o)) n.1

-- what a name with a value is: FALSE, TRUE, a constant or a literal
pub data IsValued (T : TypeTable) (id : NameId) : Type 0 where
  is_false : (id.0 == false_name) ≡ true → IsValued T id
  is_true : (id.0 == true_name) ≡ true → IsValued T id
  is_constant : (c : Constant) → constant_named T id ≡ Some c → IsValued T id
  is_literal : (v : Value) → literal_value T.kinds 0 id ≡ Some v → IsValued T id

pub valued : (T : TypeTable) (id : NameId) → is_some (value_named T id) ≡ true → IsValued T id
valued T id h = by_tests (id.0 == false_name) (id.0 == true_name) refl refl h
  where
    by_literal : (o : Option Value) → literal_value T.kinds 0 id ≡ o → is_some (option_map (λ n. pos n) (literal_position T.kinds id)) ≡ true → IsValued T id
    by_literal (Some v) e g = is_literal v e
    by_literal None e g = absurd (true≢false (sym (ap (λ o. is_some (option_map (λ n. pos n) o)) (sym (literal-none T.kinds 0 id e)) ∙ g)))

    by_constant : (o : Option Constant) → constant_named T id ≡ o → is_some (first_of_two (option_map (λ (c : Constant). c.value) o) (option_map (λ n. pos n) (literal_position T.kinds id))) ≡ true → IsValued T id
    by_constant (Some c) e g = is_constant c e
    by_constant None e g = by_literal (literal_value T.kinds 0 id) refl g

    by_tests : (a b : Bool) → (id.0 == false_name) ≡ a → (id.0 == true_name) ≡ b →
        is_some (if a then Some (pos 0) else if b then Some (pos 1) else first_of_two (option_map (λ (c : Constant). c.value) (constant_named T id)) (option_map (λ n. pos n) (literal_position T.kinds id))) ≡ true → IsValued T id
    by_tests true b p q g = is_false p
    by_tests false true p q g = is_true q
    by_tests false false p q g = by_constant (constant_named T id) refl g

-- a name with a value means something where a scope stands over the table
pub valued-means : (T : TypeTable) (s : Scope) → IsOver T s → (id : NameId) → is_some (value_named T id) ≡ true → (x : Thing) × (meaning s id ≡ Some x)
valued-means T s over id h = by_form (valued T id h)
  where
    by_form : IsValued T id → (x : Thing) × (meaning s id ≡ Some x)
    by_form (is_false e) = (Literal truth_kind, over.falses id e)
    by_form (is_true e) = (Literal truth_kind, over.trues id e)
    by_form (is_constant c e) = (ConstantObject c.mark, over.constants id c e)
    by_form (is_literal v e) = let l = over.literals id v e in (Literal l.0, l.1)

-- ---- more names over one table

-- The second scope has names of which none had a value, and a table that has more: it stands over the table where the first does.
pub over-more : (New : News) (R : TypeTable) (s s' : Scope) → Keeps anybody R s'.types → Grows s.types s'.types → Sound s'.types → ((id : NameId) → is_some (value_named R id) ≡ true → meaning s' id ≡ meaning s id) →
    ((id : NameId) (x : Thing) → meaning s' id ≡ Some x → (meaning s id ≡ Some x) ⊎ New id x) → ((id : NameId) (x : Thing) → New id x → IsClearThing s'.types x) →
    ((id : NameId) (m : ℕ) → New id (TypeMark m) → mark_named s'.types id ≡ mark_at s'.types m) → IsOver R s → IsOver R s'
over-more New R s s' keeps grows sound kept told clear marks over = record {
  keeps = keeps;
  clear = record { sound = sound; things = λ id x e. ⊎_elim (λ old. thing-grown s.types s'.types grows x (over.clear.things id x old)) (λ new. clear id x new) (told id x e) };
  marks = λ id m e. ⊎_elim (λ old. old-mark id m old) (λ new. marks id m new) (told id (TypeMark m) e);
  constants = λ id c e. kept id (constant-valued R id c e) ∙ over.constants id c e;
  literals = λ id v e. let l = over.literals id v e in (l.0, kept id (literal-valued R id v e) ∙ l.1, l.2);
  falses = λ id e. kept id (false-valued R id e) ∙ over.falses id e;
  trues = λ id e. kept id (true-valued R id e) ∙ over.trues id e;
}
  where
    old-mark : (id : NameId) (m : ℕ) → meaning s id ≡ Some (TypeMark m) → mark_named s'.types id ≡ mark_at s'.types m
    old-mark id m e =
        let h : LeadsOn s.types m = over.clear.things id (TypeMark m) e in
        find-grown (λ x. is_named id x.name) s.types.marks s'.types.marks grows.mark h.mark (over.marks id m e ∙ h.there) ∙ sym (grows.mark m h.mark h.there)

-- ---- tables

-- a table that keeps another is a later one
pub keeps-later : (T U : TypeTable) → IsTyped T → Keeps anybody T U → IsLaterTable T U
keeps-later T U typed keeps =
    let h = keeps-agrees T U typed keeps in
    record { grows = keeps.grows; named = λ id v. sym (named-alike anybody T U h id refl); fixed = λ id v. sym (fixed-alike anybody T U h id refl) }

-- whatever is found among kinds is found among more
position-more : (ks ys : List Kind) (id : NameId) (n : ℕ) → literal_position ks id ≡ Some n → literal_position (ks ++ ys) id ≡ Some n
position-more [] ys id n e = absurd (none-some n e)
position-more (x ∷ ks) ys id n e = by_place (position_in id x) e (position-more ks ys id n)
  where
    by_place : (o : Option ℕ) → first_of_two o (literal_position ks id) ≡ Some n → (literal_position ks id ≡ Some n → literal_position (ks ++ ys) id ≡ Some n) → first_of_two o (literal_position (ks ++ ys) id) ≡ Some n
    by_place (Some m) f later = f
    by_place None f later = later f

value-more : (ks ys : List Kind) (k : ℕ) (id : NameId) (v : Value) → literal_value ks k id ≡ Some v → literal_value (ks ++ ys) k id ≡ Some v
value-more [] ys k id v e = absurd (none-some v e)
value-more (x ∷ ks) ys k id v e = by_place (option_map (λ n. placed (word k) (pos n)) (position_in id x)) e (value-more ks ys (suc k) id v)
  where
    by_place : (o : Option Value) → first_of_two o (literal_value ks (suc k) id) ≡ Some v → (literal_value ks (suc k) id ≡ Some v → literal_value (ks ++ ys) (suc k) id ≡ Some v) → first_of_two o (literal_value (ks ++ ys) (suc k) id) ≡ Some v
    by_place (Some m) f later = f
    by_place None f later = later f

-- an enumeration with its mark is a later table
enumeration-later : (T : TypeTable) (x : Kind) (m : Mark) → Sound T → IsLaterTable T (add_mark (add_kind T x) m)
enumeration-later T x m root = record { grows = grows; named = named; fixed = fixed }
  where
    U : TypeTable
    U = add_mark (add_kind T x) m

    grows : Grows T U
    grows = grows-on (grows-kind T x) (grows-mark (add_kind T x) m)

    position-same : (id : NameId) → constant_named T id ≡ None → is_some (value_named T id) ≡ true → (id.0 == false_name) ≡ false → (id.0 == true_name) ≡ false → literal_position U.kinds id ≡ literal_position T.kinds id
    position-same id c h p q = by_place (literal_position T.kinds id) refl (sym (ap₂ (λ (a b : Bool). is_some (if a then Some (pos 0) else if b then Some (pos 1) else first_of_two (option_map (λ (d : Constant). d.value) (constant_named T id)) (option_map (λ n. pos n) (literal_position T.kinds id)))) p q ∙ ap (λ o. is_some (first_of_two (option_map (λ (d : Constant). d.value) o) (option_map (λ n. pos n) (literal_position T.kinds id)))) c) ∙ h)
      where
        by_place : (o : Option ℕ) → literal_position T.kinds id ≡ o → is_some (option_map (λ n. pos n) (literal_position T.kinds id)) ≡ true → literal_position U.kinds id ≡ literal_position T.kinds id
        by_place (Some n) e g = position-more T.kinds (x ∷ []) id n e ∙ sym e
        by_place None e g = absurd (true≢false (sym (ap (λ o. is_some (option_map (λ n. pos n) o)) (sym e) ∙ g)))

    constant-same : (id : NameId) (c : Constant) → constant_named T id ≡ Some c → constant_value U c ≡ constant_value T c
    constant-same id c e =
        let y : HasMark T c.mark = find-all (λ (d : Constant). HasMark T d.mark) (λ d. d.name.0 == id.0) T.constants c root.constants e in
        let k : HasKind T y.0.kind = place-all (λ (z : Mark). HasKind T z.kind) T.marks c.mark y.0 root.marks y.1 in
        ap (λ o. value_in (limits_or o).kind (kind_at U (limits_or o).kind) c.value) (grows.mark c.mark y.0 y.1)
        ∙ ap (λ o. value_in y.0.kind o c.value) (grows.kind y.0.kind k.0 k.1 ∙ sym k.1)
        ∙ ap (λ o. value_in (limits_or o).kind (kind_at T (limits_or o).kind) c.value) (sym y.1)

    named : (id : NameId) → is_some (value_named T id) ≡ true → value_named U id ≡ value_named T id
    named id h = by_tests (id.0 == false_name) (id.0 == true_name) refl refl
      where
        by_constant : (o : Option Constant) → constant_named T id ≡ o → (id.0 == false_name) ≡ false → (id.0 == true_name) ≡ false →
            first_of_two (option_map (λ (d : Constant). d.value) o) (option_map (λ n. pos n) (literal_position U.kinds id)) ≡ first_of_two (option_map (λ (d : Constant). d.value) o) (option_map (λ n. pos n) (literal_position T.kinds id))
        by_constant (Some c) e p q = refl
        by_constant None e p q = ap (option_map (λ n. pos n)) (position-same id e h p q)

        by_tests : (a b : Bool) → (id.0 == false_name) ≡ a → (id.0 == true_name) ≡ b →
            (if a then Some (pos 0) else if b then Some (pos 1) else first_of_two (option_map (λ (d : Constant). d.value) (constant_named T id)) (option_map (λ n. pos n) (literal_position U.kinds id)))
            ≡ (if a then Some (pos 0) else if b then Some (pos 1) else first_of_two (option_map (λ (d : Constant). d.value) (constant_named T id)) (option_map (λ n. pos n) (literal_position T.kinds id)))
        by_tests true b p q = refl
        by_tests false true p q = refl
        by_tests false false p q = by_constant (constant_named T id) refl p q

    fixed : (id : NameId) → is_some (value_named T id) ≡ true → fixed_value U id ≡ fixed_value T id
    fixed id h = by_tests (id.0 == false_name) (id.0 == true_name) refl refl
      where
        by_literal : (o : Option Value) → literal_value T.kinds 0 id ≡ o → constant_named T id ≡ None → (id.0 == false_name) ≡ false → (id.0 == true_name) ≡ false →
            unwrap_or (literal_value U.kinds 0 id) (Number (pos 0)) ≡ unwrap_or (literal_value T.kinds 0 id) (Number (pos 0))
        by_literal (Some v) e c p q = ap (λ o. unwrap_or o (Number (pos 0))) (value-more T.kinds (x ∷ []) 0 id v e ∙ sym e)
        by_literal None e c p q = absurd (true≢false (sym (ap₂ (λ (a b : Bool). is_some (if a then Some (pos 0) else if b then Some (pos 1) else first_of_two None None)) (sym p) (sym q) ∙ ap₂ (λ o n. is_some (if id.0 == false_name then Some (pos 0) else if id.0 == true_name then Some (pos 1) else first_of_two (option_map (λ (d : Constant). d.value) o) (option_map (λ i. pos i) n))) (sym c) (sym (literal-none T.kinds 0 id e)) ∙ h)))

        by_constant : (o : Option Constant) → constant_named T id ≡ o → (id.0 == false_name) ≡ false → (id.0 == true_name) ≡ false →
            unwrap_or (first_of_two (option_map (constant_value U) o) (literal_value U.kinds 0 id)) (Number (pos 0)) ≡ unwrap_or (first_of_two (option_map (constant_value T) o) (literal_value T.kinds 0 id)) (Number (pos 0))
        by_constant (Some c) e p q = constant-same id c e
        by_constant None e p q = by_literal (literal_value T.kinds 0 id) refl e p q

        by_tests : (a b : Bool) → (id.0 == false_name) ≡ a → (id.0 == true_name) ≡ b →
            (if a then Truth false else if b then Truth true else unwrap_or (first_of_two (option_map (constant_value U) (constant_named T id)) (literal_value U.kinds 0 id)) (Number (pos 0)))
            ≡ (if a then Truth false else if b then Truth true else unwrap_or (first_of_two (option_map (constant_value T) (constant_named T id)) (literal_value T.kinds 0 id)) (Number (pos 0)))
        by_tests true b p q = refl
        by_tests false true p q = refl
        by_tests false false p q = by_constant (constant_named T id) refl p q

-- ---- declarations

-- the ids that are this one
abbrev only : NameId → ℕ → Bool
only id n = n == id.0

keeps-value : (T U : TypeTable) → Sound T → WholeTable T → Grows T U → ((id : NameId) → is_some (value_named T id) ≡ true → Keeps (only id) T U) → IsLaterTable T U
keeps-value T U root whole grows h = record {
  grows = grows;
  named = λ id v. sym (named-alike (only id) T U (agrees id (h id v)) id (eq-eqb id.0 id.0 refl));
  fixed = λ id v. sym (fixed-alike (only id) T U (agrees id (h id v)) id (eq-eqb id.0 id.0 refl));
}
  where
    agrees : (id : NameId) → Keeps (only id) T U → Agrees (only id) T U
    agrees id k = rooted_agrees (only id) T T U (record { sound = root; whole = whole; left = keeps-self T; right = k })

module _ (s : Scope) (good : IsGood s) where
  apart-names : (ws : List Word) → AllByRecursion (IsUnused s) ws → (id : NameId) → is_some (value_named s.types id) ≡ true → AllByRecursion (λ (w : Word). (w.name.0 == id.0) ≡ false) ws
  apart-names ws unused id v = let x = valued-means s.types s good.over id v in unused-apart s good.here ws unused id x.0 x.1

  -- the table behind a declaration of main that is no body is a later one
  pub later-decl : (d : PDecl) → IsFirst d → AllByRecursion (IsUnused s) (names_declared d) → Grows s.types (after_decl s d).types → IsLaterTable s.types (after_decl s d).types
  later-decl (DEnumeration name literals sp) first unused g =
      subst (IsLaterTable s.types) (sym (names-types _ literals (with_name _ (with_types _ s) name))) (enumeration-later s.types _ _ good.root)
  later-decl (DNumber name e sp) first unused g = keeps-value s.types _ good.root good.whole g (λ id v. keeps-decl {old = only id} (DNumber name e sp) s (apart-names (name ∷ []) unused id v).0)
  later-decl (DObject ws constant shape init sp) first unused g = keeps-value s.types _ good.root good.whole g (λ id v. keeps-decl {old = only id} (DObject ws constant shape init sp) s (apart-names ws unused id v))
  later-decl (DArray name index x sp) first unused g = keeps-value s.types _ good.root good.whole g (λ id v. keeps-decl {old = only id} (DArray name index x sp) s (apart-names (name ∷ []) unused id v).0)
  later-decl (DSubtype name x sp) first unused g = keeps-value s.types _ good.root good.whole g (λ id v. keeps-decl {old = only id} (DSubtype name x sp) s (apart-names (name ∷ []) unused id v).0)
  later-decl (DException ws sp) first unused g = keeps-value s.types _ good.root good.whole g (λ id v. keeps-decl {old = only id} (DException ws sp) s tt)
  later-decl (DIntIo name sp) first unused g = keeps-value s.types _ good.root good.whole g (λ id v. keeps-decl {old = only id} (DIntIo name sp) s tt)
  later-decl (DPragma e sp) first unused g = keeps-value s.types _ good.root good.whole g (λ id v. keeps-decl {old = only id} (DPragma e sp) s tt)
  later-decl (DTask t sp) first unused g = keeps-value s.types _ good.root good.whole g (λ id v. keeps-decl {old = only id} (DTask t sp) s tt)
  later-decl (DTaskBody w objects its sp) first unused g = absurd first
