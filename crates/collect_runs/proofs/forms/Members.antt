-- The member of an entry: what an index of the normal form is worth there and in the collecting text, and how a note tells it.
use Rattle.std.proofs.Common.{◌≡◌, ◌==◌, ◌≤◌, ◌<◌, arith, ℕ, ℤ, pos, Bool, true, false, cond, if◌then◌else◌, List, [], ◌∷◌, ◌++◌, length, map, Option, Some, None, Ok, Err, refl, sym, ap, ◌∙◌, true≢false}
use Rattle.std.specs.List.{AllByRecursion}
use Rattle.std.proofs.lemmas.Option.{slice_get_within}
use Rattle.common_lemmas.proofs.Lists.{all_weaker}
use Rattle.common_lemmas.proofs.Numbers.{unequal}
use Rattle.common_lemmas.proofs.Truth.{and_both}
use Rattle.ada_tree.specs.declared.naming.NameId.{NameId}
use Rattle.ada_tree.specs.declared.naming.Span.{Span}
use Rattle.ada_tree.specs.declared.naming.Word.{Word}
use Rattle.ada_tree.specs.declared.static_types.Kind.{Kind}
use Rattle.ada_tree.specs.declared.static_types.Kind.TheVariants as kind
use Rattle.ada_tree.specs.declared.statements.ParMode.{ParMode}
use Rattle.ada_tree.specs.TypeTable.{TypeTable}
use Rattle.ada_tree.specs.PlainExpr.{PExpr, EName, EAttributeOf, PDrange}
use Rattle.ada_tree.specs.PlainStmt.{PFormal}
use Rattle.ada_tree.specs.PlainProgram.{PProgram}
use Rattle.ada_static_rules.specs.StaticValue.{is_integer_value, is_static}
use Rattle.ada_value.specs.declared.values.Limits.{Limits}
use Rattle.ada_value.specs.declared.values.Raised.TheVariants as raised
use Rattle.ada_value.specs.declared.values.Value.{Value}
use Rattle.ada_value.specs.declared.values.Value.TheVariants.{Number}
use Rattle.ada_value.specs.Values.{and_then, fitted, position_of, limits_named}
use Rattle.ada_value.specs.Variables.{Object, Variables, object_named}
use Rattle.ada_value.specs.Evaluating.{name_value, evaluated}
use Rattle.task_model.specs.declared.parameters.FormalParameter.{FormalParameter}
use Rattle.task_model.specs.Setting.{Setting, parameters_of}
use Rattle.task_model.specs.Tasks.{Task, vars_of}
use Rattle.task_model.specs.Calls.{opened_objects}
use Rattle.task_laws.specs.statements.variables.Held.{AreInner}
use Rattle.task_laws.proofs.statements.variables.Kept.{formals-inner}
use Rattle.task_laws.specs.translation.Translations.{Programs, IsOld, types_before, types_after}
use Rattle.task_laws.specs.translation.Scopes.{SeeAlike, AgreeOnTypes}
use Rattle.task_laws.specs.translation.OldNames.{OldExpr, old_integer, old_name, old_index, old_attribute, old_attribute_of, old_paren, old_unary, old_binary, OldOption, old_none, old_some}
use Rattle.task_laws.specs.translation.OldTexts.{OldWords, old_no_word, old_word, OldFormals, old_no_formal, old_formal}
use Rattle.task_laws.specs.translation.Fixed.{IsFixed, FixedExpr, fixed_integer, fixed_name, fixed_attribute, fixed_attribute_of, fixed_paren, fixed_unary, fixed_binary}
use Rattle.task_laws.proofs.translation.Evaluating.{worth-same}
use Rattle.task_laws.proofs.translation.Fixed.{fixed-before, fixed-after, fixed-worth}
use Rattle.normal_model.specs.Names.{variable_name}
use Rattle.normal_model.specs.Ranges.{word_at, kind_name, kind_of_range, family_range}
use Rattle.normal_laws.specs.runs.forms.Normalisable.{setting_for, variables_of}
use Rattle.normal_laws.specs.existence.Laws.{IsLegalOriginal}
use Rattle.replay_model.specs.Asking.{as_number, number_in, member_number}
use Rattle.replay_model.specs.ReplayTree.{last_task}
use Rattle.replay_structure.specs.legal.names.form_units.Inner.{inner_name}
use Rattle.replay_runs.specs.starts.Laws.{form_in, start_before}
use Rattle.replay_runs.specs.controls.formed.Laws.{IsIndex, no_index, variable_index, static_index}
use Rattle.replay_runs.specs.controls.indices.Laws.{IsUnitVariable}
use Rattle.replay_runs.specs.controls.meanings.Pairs.{IsOfForm}
use Rattle.replay_runs.specs.controls.permits.Laws.{IndexIs, index_is}
use Rattle.replay_runs.specs.controls.permits.Laws as permits
use Rattle.replay_runs.proofs.controls.Offers.{as-many-numbers}
use Rattle.replay_runs.proofs.controls.indices.Joined.{legal_variables_are_added, legal_indices_evaluate}
use Rattle.collect_runs.specs.telling.Texts.{TellsMember}
use Rattle.collect_runs.proofs.telling.Noting.{zero-told}
use Rattle.replay_runs.proofs.controls.translated.OldBodies.{programs_with}
use Rattle.replay_runs.proofs.starts.Objects.{all-passed}

-- ---- how it is told

module _ (T : TypeTable) (V : Variables) where
  -- an index that is no number by its position
  place-told : (s : Span) (types : TypeTable) (k : ℕ) (e : PExpr) (v : Value) → evaluated T V e ≡ Ok v → is_integer_value (position_of v) ≡ true →
      TellsMember T V (EAttributeOf (word_at s (kind_name types k)) (word_at s record { 0 = 20 }) e s) (position_of v)
  place-told s types k e v worth fits = record {
    value = Number (position_of v);
    worth = ap (λ r. and_then r (λ a. fitted (position_of a))) worth ∙ ap (λ c. if c then Ok (Number (position_of v)) else Err raised.Numeric) fits;
    position = refl;
    fits = fits;
  }

  -- a number by itself
  index-told : (s : Span) (types : TypeTable) (k : ℕ) (o : Option Kind) (e : PExpr) (v : Value) → evaluated T V e ≡ Ok v → is_integer_value (position_of v) ≡ true →
      TellsMember T V (as_number types s k o e) (position_of v)
  index-told s types k (Some kind.Integer) e v worth fits = record { value = v; worth = worth; position = refl; fits = fits }
  index-told s types k (Some kind.Truth) e v worth fits = place-told s types k e v worth fits
  index-told s types k (Some (kind.Enumeration names)) e v worth fits = place-told s types k e v worth fits
  index-told s types k (Some (kind.Array index first last part)) e v worth fits = place-told s types k e v worth fits
  index-told s types k None e v worth fits = place-told s types k e v worth fits

  in-range : (s : Span) (types : TypeTable) (r : Option PDrange) (e : PExpr) (v : Value) → evaluated T V e ≡ Ok v → is_integer_value (position_of v) ≡ true →
      TellsMember T V (number_in types s r e) (position_of v)
  in-range s types None e v worth fits = record { value = v; worth = worth; position = refl; fits = fits }
  in-range s types (Some r) e v worth fits = index-told s types (kind_of_range types r) _ e v worth fits

  pub member-told : (g : Setting) (s : Span) (n : ℕ) (o : Option PExpr) (z : ℤ) → IndexIs T V o z → TellsMember T V (member_number g s n o) z
  member-told g s n None z permits.no_index = zero-told T V s
  member-told g s n (Some e) z (index_is _ v worth fits) = in-range s g.types (family_range g n) e v worth fits

-- ---- names behind formals

-- the formal has another name
abbrev IsOther : NameId → FormalParameter → Type 0
IsOther id f = (f.name.0 == id.0) ≡ false

-- so has its variable in an accept body
module _ (T : TypeTable) (id : NameId) where
  opened-other : (fs : List FormalParameter) (vs : List Value) → AllByRecursion (IsOther id) fs → AllByRecursion (λ (o : Object). (o.name.0 == id.0) ≡ false) (opened_objects T fs vs)
  opened-other [] vs h = tt
  opened-other (f ∷ fs) [] h = (h.0, opened-other fs [] h.1)
  opened-other (f ∷ fs) (v ∷ vs) h = (h.0, opened-other fs vs h.1)

module _ (b : Programs) (T : TypeTable) where
  abbrev Free : FormalParameter → Type 0
  Free f = b.is_fixed f.name.0 ≡ false

  words-free : (m : ParMode) (l : Limits) {ws : List Word} → OldWords b ws → (more : List FormalParameter) → AllByRecursion Free more →
      AllByRecursion Free (map (λ (w : Word). record { name = w.name; mode = m; limits = l }) ws ++ more)
  words-free m l old_no_word more h = h
  words-free m l (old_word w rest old free k) more h = (free, words-free m l k more h)

  -- no formal has a fixed name
  formals-free : {fs : List PFormal} → OldFormals b fs → AllByRecursion Free (parameters_of T fs)
  formals-free old_no_formal = tt
  formals-free (old_formal f rest h old k) = words-free f.mode (limits_named T f.mark.name) h (parameters_of T rest) (formals-free k)

-- two names of which one passes a test and the other does not
apart : (test : ℕ → Bool) (a c : NameId) → test a.0 ≡ true → test c.0 ≡ false → (a.0 == c.0) ≡ false
apart test a c passes fails = unequal a.0 c.0 (λ e. true≢false (sym passes ∙ ap test e ∙ fails))

apart-from : (test : ℕ → Bool) (a c : NameId) → test a.0 ≡ false → test c.0 ≡ true → (a.0 == c.0) ≡ false
apart-from test a c fails passes = unequal a.0 c.0 (λ e. true≢false (sym passes ∙ sym (ap test e) ∙ fails))

-- ---- what it is worth

module _ (p : PProgram) (made : Setting) (kept : ℕ → Bool) (h : IsLegalOriginal p) (caller : NameId) (types : AgreeOnTypes (programs_with p made kept))
    (caller_new : kept caller.0 ≡ false) where
  abbrev b : Programs
  b = programs_with p made kept

  static-fixed : {e : PExpr} → OldExpr b e → is_static (types_before b) e ≡ true → FixedExpr b e
  static-fixed (old_integer n s) k = fixed_integer n s
  static-fixed (old_name id s old) k = fixed_name id s old k
  static-fixed (old_index w e s old j) k = absurd (true≢false (sym k))
  static-fixed (old_attribute m w s old) k = fixed_attribute m w s
  static-fixed (old_attribute_of m w e s old j) k = fixed_attribute_of m w e s (static-fixed j (and_both _ (is_static (types_before b) e) k).1)
  static-fixed (old_paren e s j) k = fixed_paren e s (static-fixed j k)
  static-fixed (old_unary op e s j) k = fixed_unary op e s (static-fixed j k)
  static-fixed (old_binary op l r s j i) k =
      let both = and_both (is_static (types_before b) l) (is_static (types_before b) r) k in fixed_binary op l r s (static-fixed j both.0) (static-fixed i both.1)

  -- a variable that the normal form adds to the unit of a task
  added-there : (t : ℕ) → t ≤ last_task (form_in p).numbers → (k : ℕ) → k < length (variables_of p t) → IsUnitVariable p t (variable_name (setting_for p) k)
  added-there t there k less = let many = as-many-numbers p h in legal_variables_are_added p h t (omega (arith, many, there)) k less

  -- what a task's index is worth
  pub index-of : (t : ℕ) (σ : Task) → IsOfForm p t σ → {W : Variables} → SeeAlike b (vars_of σ) W → (e : ℕ) {o : Option PExpr} → OldOption b o → IsIndex p t e o →
      (z : ℤ) × IndexIs (types_before b) (vars_of σ) o z
  index-of t σ own see e old no_index = (pos 0, permits.no_index)
  index-of t σ own see e old (variable_index s k is) =
      legal_indices_evaluate p h t σ own.variables (types_before b) (variable_name (setting_for p) k) s (added-there t own.there k (slice_get_within (variables_of p t) k _ is))
  index-of t σ own see e (old_some _ old) (static_index x v static worth lies fits) =
      (position_of v, index_is x v (fixed-worth b (types_before b) (vars_of σ) (fixed-before b see) (static-fixed old static) ∙ worth) fits)

  -- the image's index is worth the same
  pub index-after : {V W : Variables} → SeeAlike b V W → {o : Option PExpr} → OldOption b o → {z : ℤ} → IndexIs (types_before b) V o z → IndexIs (types_after b) W o z
  index-after see old_none permits.no_index = permits.no_index
  index-after see (old_some x old) (index_is _ v worth fits) = index_is x v (sym (worth-same b types see old) ∙ worth) fits

  -- so it is in an accept body, with the formals of the text in front
  module _ (t : ℕ) (there : t ≤ last_task (form_in p).numbers) {V W : Variables} (see : SeeAlike b V W) (formals : List PFormal) (old : OldFormals b formals)
      (inner : AreInner (inner_name p) formals) (own : Object) (named : own.name ≡ caller) (vs : List Value) where
    abbrev U : TypeTable
    U = types_after b

    abbrev fs : List FormalParameter
    fs = parameters_of (types_after b) formals

    abbrev Z : Variables
    Z = own ∷ (opened_objects (types_after b) (parameters_of (types_after b) formals) vs ++ W)

    passed : (id : NameId) → IsOld b id → AllByRecursion (IsOther id) fs → object_named Z id ≡ object_named W id
    passed id is_old others =
        ap (λ c. cond c (Some own) (object_named (opened_objects U fs vs ++ W) id))
        (ap (λ (n : NameId). n.0 == id.0) named ∙ apart-from b.is_old caller id caller_new is_old)
        ∙ all-passed (opened_objects U fs vs) W id (opened-other U id fs vs others)

    variable-passed : (id : NameId) → IsOld b id → inner_name p id.0 ≡ false → object_named Z id ≡ object_named W id
    variable-passed id is_old outer =
        passed id is_old
        (all_weaker (λ (f : FormalParameter). inner_name p f.name.0 ≡ true) (IsOther id) fs (λ f passes. apart (inner_name p) f.name id passes outer)
        (formals-inner (inner_name p) (start_before p t) U formals inner))

    fixed-passed : (id : NameId) → IsOld b id → IsFixed b id → object_named Z id ≡ None
    fixed-passed id is_old fixed =
        passed id is_old (all_weaker (Free b U) (IsOther id) fs (λ f fails. apart-from b.is_fixed f.name id fails fixed) (formals-free b U old))
        ∙ fixed-after b see id is_old fixed

    pub index-inside : (e : ℕ) {o : Option PExpr} → OldOption b o → IsIndex p t e o → {z : ℤ} → IndexIs (types_before b) V o z → IndexIs U Z o z
    index-inside e old no_index permits.no_index = permits.no_index
    index-inside e (old_some _ (old_name id s is_old)) (variable_index _ k is) (index_is _ v worth fits) =
        let added = added-there t there k (slice_get_within (variables_of p t) k _ is) in
        index_is (EName id s) v
        (ap (λ o. Ok (name_value U o id)) (variable-passed id is_old added.outer) ∙ sym (worth-same b types see (old_name id s is_old)) ∙ worth) fits
    index-inside e (old_some _ old) (static_index x a static at lies within) (index_is _ v worth fits) =
        index_is x v
        (fixed-worth b U Z fixed-passed (static-fixed old static)
        ∙ sym (fixed-worth b U W (fixed-after b see) (static-fixed old static))
        ∙ sym (worth-same b types see old)
        ∙ worth) fits
