-- The objects of a body, with DED_G and DED_W among them: the scopes behind them in both texts, and their places.
use Rattle.std.proofs.Common.{◌≡◌, ℕ, ◌==◌, Bool, true, false, if◌then◌else◌, List, [], ◌∷◌, ◌++◌, Some, None, Option, refl, sym, ap, subst, ◌∙◌, true≢false, inl}
use Rattle.std.specs.List.{AllByRecursion}
use Rattle.common_lemmas.proofs.Lists.{all_back, all_front, all_joined, all_weaker}
use Rattle.common_lemmas.proofs.Numbers.{equal_self}
use Rattle.ada_tree.specs.declared.naming.NameId.{NameId}
use Rattle.ada_tree.specs.declared.naming.Span.{Span}
use Rattle.ada_tree.specs.declared.naming.Word.{Word}
use Rattle.ada_tree.specs.PlainDecl.{PInit, PDecl, DNumber, DObject, DEnumeration, DArray, DSubtype, DException, DIntIo, DPragma, DTask, DTaskBody, no_decl, decl_then, decls_of}
use Rattle.ada_tree.specs.PlainProgram.{PProgram}
use Rattle.ada_static_rules.specs.Scope.{Scope, Variable, SingleTask, meaning}
use Rattle.ada_static_rules.specs.StaticValue.{value_named}
use Rattle.ada_static_rules.specs.Declaring.{with_name, add_constants, constant_mark, constant_value, with_constants, Declared, declared_object, after_own_object, after_objects, after_decl}
use Rattle.ada_static_rules.specs.Sites.{own_object_sites, own_sites}
use Rattle.task_model.specs.Setting.{Setting}
use Rattle.task_laws.specs.legal.rewritten_types.Agreement.{Keeps}
use Rattle.task_laws.proofs.legal.rewritten_types.Keeping.{keeps-self, grows-self}
use Rattle.task_laws.proofs.legal.rewritten_types.Adding.{keeps-shape, keeps-objects}
use Rattle.task_laws.specs.legal.alike_scopes.Alike.{SameTypes}
use Rattle.task_laws.specs.legal.alike_scopes.Laws.{IsMetBut}
use Rattle.task_laws.proofs.legal.alike_scopes.Inner.{own-object-main}
use Rattle.task_laws.proofs.legal.alike_scopes.Naming.{tables-kept}
use Rattle.task_laws.proofs.legal.alike_scopes.Objects.{declared-same}
use Rattle.task_laws.proofs.legal.alike_scopes.Tables.{value-kept}
use Rattle.normal_model.specs.Ranges.{word_at}
use Rattle.collect_model.specs.declared.AddedNames.{AddedNames}
use Rattle.normal_laws.proofs.structure.typed.Declared.{thing-init}
use Rattle.normal_laws.proofs.structure.typed.Scopes.{differ}
use Rattle.normal_laws.proofs.structure.typed.Variables.{AllMetBut}
use Rattle.replay_model.specs.ReplayTree.{is_added_object}
use Rattle.replay_structure.specs.scopes.Form.{IsOwnObject, HasOldInit}
use Rattle.replay_structure.proofs.scopes.Permit.{only}
use Rattle.collect_model.specs.Names.{answer_text, part_text, recorder_text, collect_names, added_in}
use Rattle.collect_model.specs.CollectTree.{answer_declared, part_declared, unit_declared, behind_own}
use Rattle.collect_structure.specs.Names.{added_id}
use Rattle.collect_structure.specs.scopes.Language.{KnowsLanguage, note_entry}
use Rattle.collect_structure.specs.scopes.Text.{UnitIsMet}
use Rattle.collect_structure.specs.scopes.Grown.{IsGrown}
use Rattle.collect_structure.specs.scopes.Form.{AreNamesNew, DeclaresNew}
use Rattle.collect_structure.proofs.declares_once.Ids.{texts-apart}
use Rattle.collect_structure.proofs.scopes.Language.{IsOther, IsApart, name-kept, own-means, language-on, language-own}
use Rattle.collect_structure.proofs.scopes.Grown.{grown-right, grown-object}
use Rattle.collect_structure.proofs.scopes.Objects.{object-stays}
use Rattle.collect_structure.proofs.scopes.Unit.{truth-step, HasUnit, unit-step}
use Rattle.collect_structure.proofs.scopes.Language.{predefined-known}
use Rattle.collect_structure.proofs.typed.Added.{answer-behind, part-behind, answer-truth, part-number}

module _ (g : Setting) (old : ℕ → Bool) (new : AreNamesNew g old) where
  abbrev q : PProgram
  q = g.program

  abbrev answer_id : NameId
  answer_id = added_id q answer_text

  abbrev part_id : NameId
  part_id = added_id q part_text

  abbrev recorder_id : NameId
  recorder_id = added_id q recorder_text

  -- ---- names

  -- an old name is none that the text adds
  pub old-other : (id : NameId) → old id.0 ≡ false → (w : Word) → old w.name.0 ≡ true → IsOther id w
  old-other id n w o = differ old w.name.0 id.0 true false o n (λ e. true≢false e)

  pub new-other : (id : NameId) → old id.0 ≡ true → (w : Word) → old w.name.0 ≡ false → IsOther id w
  new-other id o w n = differ old w.name.0 id.0 false true n o (λ e. true≢false (sym e))

  pub own-apart : (id : NameId) → old id.0 ≡ false → (x : PDecl) → IsOwnObject old x → IsApart id x
  own-apart id n (DObject ws constant shape init s) o = all_weaker (λ (w : Word). old w.name.0 ≡ true) (IsOther id) ws (old-other id n) o.0
  own-apart id n (DNumber w e s) o = absurd o
  own-apart id n (DEnumeration w ws s) o = absurd o
  own-apart id n (DArray w r x s) o = absurd o
  own-apart id n (DSubtype w x s) o = absurd o
  own-apart id n (DException ws s) o = absurd o
  own-apart id n (DIntIo w s) o = absurd o
  own-apart id n (DPragma e s) o = absurd o
  own-apart id n (DTask t s) o = absurd o
  own-apart id n (DTaskBody w objects its s) o = absurd o

  -- ---- what is known between the objects

  -- In front of DED_G: the language is known, the recorder is seen, and neither DED_G nor DED_W has a value.
  pub record IsInner (c d : Scope) : Type 0 where
    pub left : c.in_main ≡ false
    pub right : d.in_main ≡ false
    pub grown : IsGrown q old c d
    pub language : KnowsLanguage d
    pub recorder : meaning d recorder_id ≡ Some (SingleTask (note_entry q ∷ []))
    pub answer : value_named d.types answer_id ≡ None
    pub part : value_named d.types part_id ≡ None

  no-values : (s : Scope) (names : List Word) (init : Option PInit) (x : Declared) → s.in_main ≡ false → with_constants s names init x ≡ x.types
  no-values s names init x e = ap (λ b. if b then add_constants names (constant_mark x.thing) (constant_value s x.types (constant_mark x.thing) init) x.types else x.types) e

  object-grown : (x : PDecl) (c d : Scope) → c.in_main ≡ false → d.in_main ≡ false → IsOwnObject old x → IsGrown q old c d → IsGrown q old (after_own_object c x) (after_own_object d x)
  object-grown (DObject ws constant shape init s) c d left right o r =
      grown-object q old c d ws constant shape init (no-values c ws init (declared_object c constant shape) left) (no-values d ws init (declared_object d constant shape) right)
      (declared-same old c d r.names left right constant shape o.1) r
  object-grown (DNumber w e s) c d left right o r = absurd o
  object-grown (DEnumeration w ws s) c d left right o r = absurd o
  object-grown (DArray w i x s) c d left right o r = absurd o
  object-grown (DSubtype w x s) c d left right o r = absurd o
  object-grown (DException ws s) c d left right o r = absurd o
  object-grown (DIntIo w s) c d left right o r = absurd o
  object-grown (DPragma e s) c d left right o r = absurd o
  object-grown (DTask t s) c d left right o r = absurd o
  object-grown (DTaskBody w objects its s) c d left right o r = absurd o

  value-behind : (id : NameId) (x : PDecl) (d : Scope) → d.in_main ≡ false → value_named d.types id ≡ None → value_named (after_own_object d x).types id ≡ None
  value-behind id x d main e = value-kept (only id) d.types (after_own_object d x).types (keeps-objects (decl_then x no_decl) d main) id (equal_self id.0) ∙ e

  -- an object keeps it so
  pub inner-step : (x : PDecl) (c d : Scope) → IsOwnObject old x → DeclaresNew x → IsInner c d → IsInner (after_own_object c x) (after_own_object d x)
  inner-step x c d o n i = record {
    left = own-object-main old x c ∙ i.left;
    right = own-object-main old x d ∙ i.right;
    grown = object-grown x c d i.left i.right o i.grown;
    language = language-own x d n i.language;
    recorder = own-means recorder_id x d (own-apart recorder_id (new.added recorder_text refl refl) x o) ∙ i.recorder;
    answer = value-behind answer_id x d i.right i.answer;
    part = value-behind part_id x d i.right i.part;
  }

  -- Behind DED_W the two variables are seen too.
  pub record IsUnit (c d : Scope) : Type 0 where
    pub left : c.in_main ≡ false
    pub right : d.in_main ≡ false
    pub grown : IsGrown q old c d
    pub language : KnowsLanguage d
    pub recorder : meaning d recorder_id ≡ Some (SingleTask (note_entry q ∷ []))
    pub variables : HasUnit q d

  pub unit-kept : (x : PDecl) (c d : Scope) → IsOwnObject old x → DeclaresNew x → IsUnit c d → IsUnit (after_own_object c x) (after_own_object d x)
  unit-kept x c d o n i =
      let keeps : (id : NameId) → Keeps (only id) d.types (after_own_object d x).types = λ id. keeps-objects (decl_then x no_decl) d i.right in
      record {
        left = own-object-main old x c ∙ i.left;
        right = own-object-main old x d ∙ i.right;
        grown = object-grown x c d i.left i.right o i.grown;
        language = language-own x d n i.language;
        recorder = own-means recorder_id x d (own-apart recorder_id (new.added recorder_text refl refl) x o) ∙ i.recorder;
        variables = unit-step q d (after_own_object d x) (own-means answer_id x d (own-apart answer_id (new.added answer_text refl refl) x o))
            (own-means part_id x d (own-apart part_id (new.added part_text refl refl) x o)) (keeps answer_id) (keeps part_id) i.variables;
      }

  -- ---- DED_G and DED_W

  abbrev pub n : AddedNames
  n = added_in (collect_names q)

  module _ (d : Scope) (language : KnowsLanguage d) (s : Span) where
    abbrev aw : Word
    aw = word_at s answer_id

    abbrev pw : Word
    pw = word_at s part_id

    -- behind DED_G, and behind both
    abbrev behind_answer : Scope
    behind_answer = with_name (Variable 3) d aw

    abbrev behind_both : Scope
    behind_both = with_name (Variable 0) behind_answer pw

    language-answer : KnowsLanguage behind_answer
    language-answer =
        language-on d behind_answer (grows-self d.types)
        (λ k l. name-kept (Variable 3) d aw (record { 0 = k }) (new-other (record { 0 = k }) (new.language k l) aw (new.added answer_text refl refl))) language

    language-both : KnowsLanguage behind_both
    language-both =
        language-on behind_answer behind_both (grows-self d.types)
        (λ k l. name-kept (Variable 0) behind_answer pw (record { 0 = k }) (new-other (record { 0 = k }) (new.language k l) pw (new.added part_text refl refl)))
        language-answer

    -- other names mean the same
    both-means : (id : NameId) → (answer_id.0 == id.0) ≡ false → (part_id.0 == id.0) ≡ false → meaning behind_both id ≡ meaning d id
    both-means id a b = name-kept (Variable 0) behind_answer pw id b ∙ name-kept (Variable 3) d aw id a

    both-unit : value_named d.types answer_id ≡ None → value_named d.types part_id ≡ None → HasUnit q behind_both
    both-unit a b = record {
      answer =
          truth-step behind_answer behind_both answer_id (name-kept (Variable 0) behind_answer pw answer_id (texts-apart q part_text answer_text refl refl refl refl))
          (keeps-self d.types) (answer-truth n d (predefined-known d language) s a);
      part = part-number n behind_answer (predefined-known behind_answer language-answer) s b;
    }

    both-is : after_decl (after_decl d (answer_declared n s)) (part_declared n s) ≡ behind_both
    both-is = ap (λ x. after_decl x (part_declared n s)) (answer-behind n d (predefined-known d language) s) ∙ part-behind n behind_answer (predefined-known behind_answer language-answer) s

    -- What is known behind both, in main too.
    pub both-grown : (c : Scope) → IsGrown q old c d → IsGrown q old c (after_decl (after_decl d (answer_declared n s)) (part_declared n s))
    both-grown c r =
        subst (IsGrown q old c) (sym both-is)
        (grown-right q old c d behind_both (keeps-self d.types)
        (λ id o. both-means id (new-other id o aw (new.added answer_text refl refl)) (new-other id o pw (new.added part_text refl refl))) refl r)

    pub both-language : KnowsLanguage (after_decl (after_decl d (answer_declared n s)) (part_declared n s))
    both-language = subst KnowsLanguage (sym both-is) language-both

    pub both-variables : value_named d.types answer_id ≡ None → value_named d.types part_id ≡ None → HasUnit q (after_decl (after_decl d (answer_declared n s)) (part_declared n s))
    both-variables a b = subst (HasUnit q) (sym both-is) (both-unit a b)

    both-recorder : meaning (after_decl (after_decl d (answer_declared n s)) (part_declared n s)) recorder_id ≡ meaning d recorder_id
    both-recorder =
        ap (λ x. meaning x recorder_id) both-is ∙ both-means recorder_id (texts-apart q answer_text recorder_text refl refl refl refl)
        (texts-apart q part_text recorder_text refl refl refl refl)

    both-main : (after_decl (after_decl d (answer_declared n s)) (part_declared n s)).in_main ≡ d.in_main
    both-main = ap (λ x. x.in_main) both-is

  unit-there : (c d : Scope) (s : Span) → IsInner c d → IsUnit c (after_own_object (after_own_object d (answer_declared n s)) (part_declared n s))
  unit-there c d s i = record {
    left = i.left;
    right = both-main d i.language s ∙ i.right;
    grown = both-grown d i.language s c i.grown;
    language = both-language d i.language s;
    recorder = both-recorder d i.language s ∙ i.recorder;
    variables = both-variables d i.language s i.answer i.part;
  }

  -- ---- the scope behind all objects

  objects-kept : (xs : List PDecl) (c d : Scope) → AllByRecursion (IsOwnObject old) xs → AllByRecursion DeclaresNew xs → IsUnit c d →
      IsUnit (after_objects c (decls_of xs)) (after_objects d (decls_of xs))
  objects-kept [] c d o m i = i
  objects-kept (x ∷ xs) c d o m i = objects-kept xs (after_own_object c x) (after_own_object d x) o.1 m.1 (unit-kept x c d o.0 m.0 i)

  pub objects-told : (s : Span) (xs : List PDecl) (c d : Scope) → AllByRecursion (IsOwnObject old) xs → AllByRecursion DeclaresNew xs → IsInner c d →
      IsUnit (after_objects c (decls_of xs)) (after_objects d (decls_of (behind_own q.names (unit_declared n s) xs)))
  objects-told s [] c d o m i = unit-there c d s i
  objects-told s (x ∷ xs) c d o m i = by_test (is_added_object q.names x) (objects-told s xs (after_own_object c x) (after_own_object d x) o.1 m.1 (inner-step x c d o.0 m.0 i))
    where
      by_test : (b : Bool) → IsUnit (after_objects (after_own_object c x) (decls_of xs)) (after_objects (after_own_object d x) (decls_of (behind_own q.names (unit_declared n s) xs))) →
          IsUnit (after_objects c (decls_of (x ∷ xs))) (after_objects d (decls_of (if b then unit_declared n s ++ x ∷ xs else x ∷ behind_own q.names (unit_declared n s) xs)))
      by_test true later = objects-kept (x ∷ xs) c (after_own_object (after_own_object d (answer_declared n s)) (part_declared n s)) o m (unit-there c d s i)
      by_test false later = later

  -- ---- places

  pub object-site : (x : PDecl) (c d : Scope) → c.in_main ≡ false → d.in_main ≡ false → IsGrown q old c d → IsOwnObject old x → HasOldInit old x →
      AllMetBut (own_object_sites c x) → AllMetBut (own_object_sites d x)
  object-site (DObject ws constant shape init s) c d left right r o i m =
      let x : Declared = declared_object c constant shape in
      let y : Declared = declared_object d constant shape in
      let types : SameTypes old x.types y.types = (tables-kept old c d x.types y.types r.names (keeps-shape c constant shape) (keeps-shape d constant shape)).types in
      object-stays old c d r.names r.main ws constant shape init x y
      (thing-init x.types y.types (λ k h. (h.0, types.kinds k h.0 h.1)) x.thing y.thing (declared-same old c d r.names left right constant shape o.1)) o.1 i (inl left) m
  object-site (DNumber w e s) c d left right r o i m = absurd o
  object-site (DEnumeration w ws s) c d left right r o i m = absurd o
  object-site (DArray w q x s) c d left right r o i m = absurd o
  object-site (DSubtype w x s) c d left right r o i m = absurd o
  object-site (DException ws s) c d left right r o i m = absurd o
  object-site (DIntIo w s) c d left right r o i m = absurd o
  object-site (DPragma e s) c d left right r o i m = absurd o
  object-site (DTask t s) c d left right r o i m = absurd o
  object-site (DTaskBody w objects its s) c d left right r o i m = absurd o

  objects-stay : (xs : List PDecl) (c d : Scope) → AllByRecursion (IsOwnObject old) xs → AllByRecursion (HasOldInit old) xs → AllByRecursion DeclaresNew xs →
      IsUnit c d → AllMetBut (own_sites c (decls_of xs)) → AllMetBut (own_sites d (decls_of xs))
  objects-stay [] c d o i m u h = tt
  objects-stay (x ∷ xs) c d o i m u h =
      all_joined IsMetBut (own_object_sites d x) _ (object-site x c d u.left u.right u.grown o.0 i.0 (all_front IsMetBut (own_object_sites c x) (own_sites (after_own_object c x) (decls_of xs)) h))
      (objects-stay xs (after_own_object c x) (after_own_object d x) o.1 i.1 m.1 (unit-kept x c d o.0 m.0 u)
      (all_back IsMetBut (own_object_sites c x) (own_sites (after_own_object c x) (decls_of xs)) h))

  module _ (unit_met : UnitIsMet n) where
    -- DED_G and DED_W, and what stands behind them
    unit-sites : (s : Span) (xs : List PDecl) (c d : Scope) → IsInner c d →
        AllMetBut (own_sites (after_own_object (after_own_object d (answer_declared n s)) (part_declared n s)) (decls_of xs)) → AllMetBut (own_sites d (decls_of (unit_declared n s ++ xs)))
    unit-sites s xs c d i h =
        let d1 : Scope = after_own_object d (answer_declared n s) in
        let l1 : KnowsLanguage d1 = subst KnowsLanguage (sym (answer-behind n d (predefined-known d i.language) s)) (language-answer d i.language s) in
        all_joined IsMetBut (own_object_sites d (answer_declared n s)) _ (unit_met d s i.language).0
        (all_joined IsMetBut (own_object_sites d1 (part_declared n s)) _ (unit_met d1 s l1).1 h)

    pub objects-met : (s : Span) (xs : List PDecl) (c d : Scope) → AllByRecursion (IsOwnObject old) xs → AllByRecursion (HasOldInit old) xs → AllByRecursion DeclaresNew xs → IsInner c d →
        AllMetBut (own_sites c (decls_of xs)) → AllMetBut (own_sites d (decls_of (behind_own q.names (unit_declared n s) xs)))
    objects-met s [] c d o i m u h = unit-sites s [] c d u tt
    objects-met s (x ∷ xs) c d o i m u h =
        by_test (is_added_object q.names x)
        (all_joined IsMetBut (own_object_sites d x) _ (object-site x c d u.left u.right u.grown o.0 i.0 (all_front IsMetBut (own_object_sites c x) (own_sites (after_own_object c x) (decls_of xs)) h))
        (objects-met s xs (after_own_object c x) (after_own_object d x) o.1 i.1 m.1 (inner-step x c d o.0 m.0 u)
        (all_back IsMetBut (own_object_sites c x) (own_sites (after_own_object c x) (decls_of xs)) h)))
      where
        by_test : (b : Bool) → AllMetBut (own_sites d (decls_of (x ∷ behind_own q.names (unit_declared n s) xs))) →
            AllMetBut (own_sites d (decls_of (if b then unit_declared n s ++ x ∷ xs else x ∷ behind_own q.names (unit_declared n s) xs)))
        by_test true later = unit-sites s (x ∷ xs) c d u (objects-stay (x ∷ xs) c (after_own_object (after_own_object d (answer_declared n s)) (part_declared n s)) o i m (unit-there c d s u) h)
        by_test false later = later
