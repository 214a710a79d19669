-- What main declares in a collecting text of a program with abort statements, one behind the other: what is added, the variables of its places, its variables, the tasks, and the recorder. It is what main declares in a text without, but for the variables of its places.
use Rattle.std.proofs.Common.{Bool, List, None, [], ap₂, codes, false, map, refl, subst, sym, true, true≢false, ℕ, ◌++◌, ◌==◌, ◌∙◌, ◌∷◌, ◌≡◌, ◌≤◌}
use Rattle.std.specs.List.{AllByRecursion}
use Rattle.std.specs.Fmt.{decimal}
use Rattle.std.specs.Str.{bytes_eq}
use Rattle.std.proofs.lemmas.Slice.Eq.{bytes_eq-Decides}
use Rattle.common_lemmas.proofs.Numbers.{unequal_turned}
use Rattle.ada_tree.specs.PlainDecl.{DObject, DTask, OPlain, PDecl, decls_of}
use Rattle.ada_tree.specs.PlainProgram.{PProgram}
use Rattle.ada_tree.specs.declared.naming.NameId.{NameId}
use Rattle.ada_tree.specs.declared.naming.Span.{Span}
use Rattle.ada_static_rules.specs.Declaring.{after_decl, after_decls}
use Rattle.ada_static_rules.specs.Scope.{Scope, meaning}
use Rattle.task_model.specs.Setting.{Setting}
use Rattle.task_laws.proofs.legal.rewritten_types.Keeping.{keeps-self}
use Rattle.task_laws.specs.legal.rewritten_types.Agreement.{Keeps}
use Rattle.normal_model.specs.NormalTree.{main_unit}
use Rattle.normal_laws.proofs.structure.numbers.Named.{Has}
use Rattle.normal_laws.proofs.structure.typed.Scopes.{differ}
use Rattle.normal_laws.specs.structure.numbers.Single.{IsSingle}
use Rattle.replay_structure.proofs.scopes.Permit.{only}
use Rattle.collect_model.specs.CollectTree.{collect_decl, main_declared, recorder_told}
use Rattle.collect_model.specs.Names.{added_texts, answer_text, flags_text, int_io_text, part_text, recorder_text}
use Rattle.collect_model.specs.Teller.{Teller, teller_in}
use Rattle.collect_structure.proofs.scopes.Grown.{grown-right}
use Rattle.collect_structure.proofs.scopes.Language.{IsApart, decls-means}
use Rattle.collect_structure.proofs.scopes.Main.{IsMain, tasks-apart, variables-apart}
use Rattle.collect_structure.proofs.scopes.Types.{decls-no-type}
use Rattle.collect_structure.proofs.scopes.Unit.{HasUnit, unit-step}
use Rattle.collect_structure.specs.Names as collect
use Rattle.collect_structure.specs.scopes.Form.{AreNamesNew, IsTaskTold, IsVariableTold}
use Rattle.collect_structure.specs.scopes.Grown.{IsGrown}
use Rattle.collect_structure.specs.scopes.Language.{KnowsLanguage}
use Rattle.collect_structure.specs.typed.Told.{AreOuter}
use Rattle.collect_model.specs.aborts.AbortTeller.{AbortTeller}
use Rattle.collect_model.specs.aborts.AbortTree.{abort_decl, places_declared}
use Rattle.collect_model.specs.aborts.Names.{refused_text, taken_text}
use Rattle.collect_model.specs.aborts.Places.{most_places}
use Rattle.collect_structure.proofs.aborts.placed.Texts.{decimal-digits}
use Rattle.collect_structure.proofs.aborts.scopes.Places.{AreValueless, EachPlace, HasPlaces, IsBeside, each-place}
use Rattle.collect_structure.proofs.aborts.texts.Listed.{all-places}
use Rattle.collect_structure.proofs.aborts.texts.Named.{abort-has, abort-has-places}
use Rattle.collect_structure.proofs.aborts.typed.Declared.{behind-language, places-seen, places-types}
use Rattle.collect_structure.proofs.aborts.typed.Names.{same-added, two-apart}
use Rattle.collect_structure.specs.aborts.scopes.Text.{main_told}
use Rattle.collect_structure.specs.aborts.typed.Told.{AreNewPlaces}
use Rattle.normal_laws.proofs.structure.placed.Texts.{AllDigits}

-- ---- the texts of places

-- the text is that of no variable of a place
abbrev pub IsNoPlace : List ℕ → Type 0
IsNoPlace t = (p : ℕ) → (bytes_eq t (taken_text p) ≡ false) × (bytes_eq t (refused_text p) ≡ false)

behind-five : (us vs : List ℕ) → codes "DED_R" ++ us ≡ codes "DED_R" ++ vs → us ≡ vs
behind-five us vs h = cc

-- no number is written with an E
recorder-no-place : IsNoPlace recorder_text
recorder-no-place p = (refl, by_test (bytes_eq recorder_text (refused_text p)) refl)
  where
    by_test : (b : Bool) → bytes_eq recorder_text (refused_text p) ≡ b → b ≡ false
    by_test false e = refl
    by_test true e =
        let digits : AllDigits (codes "ECORD") = subst AllDigits (sym (behind-five (codes "ECORD") (decimal p) ((bytes_eq-Decides recorder_text (refused_text p)).0 e))) (decimal-digits p).0 in
        absurd (true≢false (sym digits.0))

module _ (g : Setting) where
  abbrev q : PProgram
  q = g.program

  abbrev x : AbortTeller
  x = main_told g

  abbrev most : ℕ
  most = most_places q

  -- the name of such a text is that of no variable of a place
  pub text-beside : (t : List ℕ) → Has added_texts t → IsNoPlace t → EachPlace g (λ id. ((collect.added_id q t).0 == id.0) ≡ false)
  text-beside t h n p i =
      let there = abort-has-places q p i.0 i.1 in (
        subst (λ (id : NameId). (id.0 == (x.taken p).0) ≡ false) (same-added q t h) (two-apart q t (taken_text p) (abort-has q t h) there.0 (n p).0),
        subst (λ (id : NameId). (id.0 == (x.refused p).0) ≡ false) (same-added q t h) (two-apart q t (refused_text p) (abort-has q t h) there.1 (n p).1),
      )

  pub text-apart : (t : List ℕ) → Has added_texts t → IsNoPlace t → EachPlace g (λ id. (id.0 == (collect.added_id q t).0) ≡ false)
  text-apart t h n =
      each-place g (λ id. ((collect.added_id q t).0 == id.0) ≡ false) (λ id. (id.0 == (collect.added_id q t).0) ≡ false)
      (λ id e. unequal_turned (collect.added_id q t).0 id.0 e) (text-beside t h n)

  pub recorder-beside : EachPlace g (λ id. ((collect.added_id q recorder_text).0 == id.0) ≡ false)
  recorder-beside = text-beside recorder_text refl recorder-no-place

  pub answer-apart : EachPlace g (λ id. (id.0 == (collect.added_id q answer_text).0) ≡ false)
  answer-apart = text-apart answer_text refl (λ p. (refl, refl))

  pub part-apart : EachPlace g (λ id. (id.0 == (collect.added_id q part_text).0) ≡ false)
  part-apart = text-apart part_text refl (λ p. (refl, refl))

  pub recorder-apart : EachPlace g (λ id. (id.0 == (collect.added_id q recorder_text).0) ≡ false)
  recorder-apart = text-apart recorder_text refl recorder-no-place

  pub flags-apart : EachPlace g (λ id. (id.0 == (collect.added_id q flags_text).0) ≡ false)
  flags-apart = text-apart flags_text refl (λ p. (refl, refl))

  -- what a text without aborts adds to main
  pub added-beside : (s : Span) (b : Bool) (last : ℕ) → AllByRecursion (λ y. EachPlace g (IsBeside g y)) (main_declared x.teller.added s b last)
  added-beside s b last = by_test b
    where
      flags : EachPlace g (λ id. ((collect.added_id q flags_text).0 == id.0) ≡ false)
      flags = text-beside flags_text refl (λ p. (refl, refl))

      answer : EachPlace g (λ id. ((collect.added_id q answer_text).0 == id.0) ≡ false)
      answer = text-beside answer_text refl (λ p. (refl, refl))

      part : EachPlace g (λ id. ((collect.added_id q part_text).0 == id.0) ≡ false)
      part = text-beside part_text refl (λ p. (refl, refl))

      int_io : EachPlace g (λ id. ((collect.added_id q int_io_text).0 == id.0) ≡ false)
      int_io = text-beside int_io_text refl (λ p. (refl, refl))

      rest : AllByRecursion (λ y. EachPlace g (IsBeside g y)) (main_declared x.teller.added s true last)
      rest = (
        (λ p i. let e = flags p i in (((e.0, tt), e.0), ((e.1, tt), e.1))),
        (
          (λ p i. let e = answer p i in (((e.0, tt), (e.0, tt)), ((e.1, tt), (e.1, tt)))),
          ((λ p i. let e = part p i in (((e.0, tt), (e.0, tt)), ((e.1, tt), (e.1, tt)))), tt),
        ),
      )

      by_test : (c : Bool) → AllByRecursion (λ y. EachPlace g (IsBeside g y)) (main_declared x.teller.added s c last)
      by_test true = rest
      by_test false = ((λ p i. let e = int_io p i in (((e.0, tt), tt), ((e.1, tt), tt))), rest)

  pub recorder-declared-beside : EachPlace g (IsBeside g (recorder_told x.teller q))
  recorder-declared-beside p i = let e = recorder-beside p i in (((e.0, tt), tt), ((e.1, tt), tt))

  -- ---- behind the variables of the first places

  module _ (s : Span) (n : ℕ) (le : n ≤ most) (d : Scope) (language : KnowsLanguage d) (apart : AreNewPlaces x most d.types) where
    abbrev pub behind : Scope
    behind = after_decls d (decls_of (places_declared x s n))

    -- other names mean the same
    pub behind-means : (id : NameId) → EachPlace g (λ other. (other.0 == id.0) ≡ false) → meaning behind id ≡ meaning d id
    behind-means id e = decls-means id (places_declared x s n) d (all-places (IsApart id) x s most n le (λ p i j. (((e p (i, j)).0, tt), ((e p (i, j)).1, tt))))

    pub behind-types : behind.types ≡ d.types
    behind-types = places-types x most s d language apart n le

    pub behind-keeps : (some : ℕ → Bool) → Keeps some d.types behind.types
    behind-keeps some = subst (Keeps some d.types) (sym behind-types) (keeps-self d.types)

    pub behind-main : behind.in_main ≡ d.in_main
    behind-main = mains (places_declared x s n) (all-places (λ y. (e : Scope) → (after_decl e y).in_main ≡ e.in_main) x s most n le (λ p i j. ((λ e. refl), (λ e. refl)))) d
      where
        mains : (ys : List PDecl) → AllByRecursion (λ y. (e : Scope) → (after_decl e y).in_main ≡ e.in_main) ys → (e : Scope) → (after_decls e (decls_of ys)).in_main ≡ e.in_main
        mains [] h e = refl
        mains (y ∷ ys) h e = mains ys h.1 (after_decl e y) ∙ h.0 e

    pub behind-knows : KnowsLanguage behind
    behind-knows = behind-language x most s d language apart n le

    pub behind-has : AreValueless g d.types → HasPlaces g n behind
    behind-has v = record { valueless = subst (AreValueless g) (sym behind-types) v; seen = places-seen x most s d language apart n le }

    pub behind-unit : HasUnit q d → HasUnit q behind
    behind-unit u =
        unit-step q d behind (behind-means (collect.added_id q answer_text) answer-apart) (behind-means (collect.added_id q part_text) part-apart)
        (behind-keeps (only (collect.added_id q answer_text))) (behind-keeps (only (collect.added_id q part_text))) u

    module _ (old : ℕ → Bool) (fresh : EachPlace g (λ id. old id.0 ≡ false)) where
      pub behind-grown : (c : Scope) → IsGrown q old c d → IsGrown q old c behind
      behind-grown c r = grown-right q old c d behind (behind-keeps old) (λ id o. behind-means id (other id o)) behind-main r
        where
          other : (id : NameId) → old id.0 ≡ true → EachPlace g (λ y. (y.0 == id.0) ≡ false)
          other id o = each-place g (λ y. old y.0 ≡ false) (λ y. (y.0 == id.0) ≡ false) (λ y e. differ old y.0 id.0 false true e o (λ f. true≢false (sym f))) fresh

  -- ---- main

  module _ (old inner : ℕ → Bool) (new : AreNamesNew g old) (outer : AreOuter q inner) (fresh : EachPlace g (λ id. old id.0 ≡ false)) where
    abbrev plain : Teller
    plain = teller_in (main_unit g)

    pub main-places : (s : Span) (n : ℕ) → n ≤ most → (c d : Scope) → IsMain g old inner new outer c d → AreNewPlaces x most d.types →
        IsMain g old inner new outer c (after_decls d (decls_of (places_declared x s n)))
    main-places s n le c d i apart = record {
      grown = behind-grown s n le d i.language apart old fresh c i.grown;
      language = behind-knows s n le d i.language apart;
      left = i.left;
      right = decls-no-type (places_declared x s n) d (all-places IsSingle x s most n le (λ p a b. (tt, tt))) i.right;
      variables = behind-unit s n le d i.language apart i.variables;
    }

    -- ---- the variables of main and its tasks

    variable-beside : (y : PDecl) → IsVariableTold old q.names y → EachPlace g (IsBeside g y)
    variable-beside y v = each-place g (λ id. old id.0 ≡ false) (IsBeside g y) (one y v) fresh
      where
        one : (z : PDecl) → IsVariableTold old q.names z → (id : NameId) → old id.0 ≡ false → IsBeside g z id
        one (DObject ws false (OPlain k) None s) w id e = let a = (variables-apart g old inner new outer id e (DObject ws false (OPlain k) None s ∷ []) (w, tt)).0 in (a, a)
        one z w id e = absurd w.variable

    pub variables-beside : (ys : List PDecl) → AllByRecursion (IsVariableTold old q.names) ys → AllByRecursion (λ y. EachPlace g (IsBeside g y)) ys
    variables-beside [] h = tt
    variables-beside (y ∷ ys) h = (variable-beside y h.0, variables-beside ys h.1)

    task-beside : (y : PDecl) → IsTaskTold old y → EachPlace g (IsBeside g (abort_decl x q.names y))
    task-beside (DTask t s) o =
        each-place g (λ id. old id.0 ≡ false) (IsBeside g (abort_decl x q.names (DTask t s)))
        (λ id e. ((tasks-apart g old inner new outer id e (DTask t s ∷ []) (o, tt)).0, tt)) fresh
    task-beside y o = absurd o

    pub tasks-beside : (ys : List PDecl) → AllByRecursion (IsTaskTold old) ys → AllByRecursion (λ y. EachPlace g (IsBeside g y)) (map (abort_decl x q.names) ys)
    tasks-beside [] h = tt
    tasks-beside (y ∷ ys) h = (task-beside y h.0, tasks-beside ys h.1)

    -- the tasks are those of a text without aborts
    task-same : (y : PDecl) → IsTaskTold old y → abort_decl x q.names y ≡ collect_decl plain q.names y
    task-same (DTask t s) o = refl
    task-same y o = absurd o

    pub tasks-same : (ys : List PDecl) → AllByRecursion (IsTaskTold old) ys → map (abort_decl x q.names) ys ≡ map (collect_decl plain q.names) ys
    tasks-same [] h = refl
    tasks-same (y ∷ ys) h = ap₂ (λ (a : PDecl) (l : List PDecl). a ∷ l) (task-same y h.0) (tasks-same ys h.1)
