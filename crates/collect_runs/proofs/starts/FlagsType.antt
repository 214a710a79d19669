-- DED_FLAGS in the table of types of a legal program's collecting text.
use Rattle.std.proofs.Common.{◌≡◌, ℕ, pos, Bool, true, false, if◌then◌else◌, List, [], ◌∷◌, ◌++◌, length, map, Option, Some, None, refl, sym, ap, ◌∙◌, subst, true≢false}
use Rattle.std.specs.List.{AllByRecursion}
use Rattle.common_lemmas.proofs.Lists.{last_at}
use Rattle.common_lemmas.proofs.Numbers.{equal_self, unequal}
use Rattle.ada_tree.specs.declared.naming.Span.{Span}
use Rattle.ada_tree.specs.declared.naming.Word.{Word}
use Rattle.ada_tree.specs.declared.static_types.Kind.TheVariants.{Truth, Array}
use Rattle.ada_tree.specs.declared.static_types.Mark.{Mark}
use Rattle.ada_tree.specs.TypeTable.{TypeTable}
use Rattle.ada_tree.specs.PlainExpr.{PDrange, RGiven}
use Rattle.ada_tree.specs.PlainDecl.{OPlain, PDecl, decls_of}
use Rattle.ada_tree.specs.PlainProgram.{PProgram}
use Rattle.ada_static_rules.specs.Scope.{Scope, TypeMark, Marking, ScalarMark, marking_of_kind, marking_of_mark, marking_of, marking, meaning, kind_at, mark_at, integer_kind}
use Rattle.ada_static_rules.specs.StaticValue.{is_named, mark_named}
use Rattle.ada_static_rules.specs.RuleDuplicate.{is_predefined}
use Rattle.ada_static_rules.specs.Refusals.{types_in}
use Rattle.ada_static_rules.specs.Declaring.{first_mark, predefined_types, before_all, first_scope, subind_made, drange_range, made_array, after_decl, after_decls}
use Rattle.ada_value.specs.Values.{limits_or, truth_limits}
use Rattle.ada_value.specs.declared.values.Form.{Form}
use Rattle.ada_value.specs.Variables.{form_of_kind, form_of_mark}
use Rattle.task_model.specs.Starting.{marked_form, plain_form, form_of}
use Rattle.task_laws.specs.legal.rewritten_types.Agreement.{Grows}
use Rattle.task_laws.specs.legal.rewritten_types.Rewriting.{names_declared, IsUnused, DeclareOnce, NamesOnce}
use Rattle.task_laws.proofs.legal.rewritten_types.Fresh.{InHere, first-here, here-decl, unused-free}
use Rattle.task_laws.proofs.legal.rewritten_types.Keeping.{grows-self, grows-on}
use Rattle.task_laws.proofs.legal.rewritten_types.Lookups.{place-more, find-grown, find-only}
use Rattle.task_laws.proofs.legal.rewritten_types.Unmarked.{AreUnmarked, decl-before, decl-marks, first-unmarked}
use Rattle.task_laws.proofs.legal.types.GoodDeclarations.{grows-decl}
use Rattle.task_laws.proofs.legal.types.GoodScopes.{names-kept}
use Rattle.task_laws.proofs.legal.types.MainScopes.{grows-decls}
use Rattle.normal_model.specs.Ranges.{word_at, marked}
use Rattle.normal_laws.specs.structure.asked.Pieces.{IsAmong, first_among, later_among}
use Rattle.normal_laws.specs.runs.forms.Normalisable.{numbers_of}
use Rattle.normal_laws.specs.existence.Laws.{IsLegalOriginal}
use Rattle.normal_laws.proofs.structure.numbers.Listed.{firsts, vars, tasks, bodies}
use Rattle.normal_laws.proofs.legality.scopes.Later.{decl-kept}
use Rattle.normal_laws.proofs.legality.checks.Tasks.{among-front, among-back}
use Rattle.replay_model.specs.ReplayTree.{is_added_object, last_task}
use Rattle.collect_model.specs.declared.AddedNames.{AddedNames}
use Rattle.collect_model.specs.Noting.{number}
use Rattle.collect_model.specs.CollectTree.{flags_type, main_declared, behind_own, collect_decl, recorder_told, recorder_body_told}
use Rattle.collect_structure.proofs.texts.Rooted.{normal, form, told, more, added_of, collect-list}
use Rattle.collect_structure.proofs.declares_once.Legal.{legal_collect_declares_once}
use Rattle.collect_runs.specs.starts.Texts.{text_for, names_added}
use Rattle.collect_runs.specs.starts.Laws.{LegalHasFlags}
use Rattle.collect_runs.proofs.starts.Once.{places-once}
use Rattle.replay_runs.proofs.controls.replayed.Originals.{own}

-- ---- the type, where its declaration stands

module _ (n : AddedNames) (sp : Span) (last : ℕ) where
  abbrev w : Word
  w = word_at sp n.flags

  abbrev d : PDecl
  d = flags_type n sp last

  abbrev index : PDrange
  index = RGiven (record { first = number sp 0; last = number sp last })

  -- the mark of the type, whose kind stands at that place
  abbrev own_mark : ℕ → Mark
  own_mark place = record { name = Some n.flags; kind = place; first = pos 0; last = pos last }

  abbrev truth_mark : Mark
  truth_mark = first_mark 3 1 (pos 0) (pos 1)

  abbrev array_of_flags : Form
  array_of_flags = record { limits = truth_limits; index = Some record { kind = integer_kind; first = pos 0; last = pos last } }

  -- the table has the type, its kind, and the mark of its components
  pub record HasType (T : TypeTable) : Type 0 where
    pub place : ℕ
    pub named : mark_named T n.flags ≡ Some (own_mark place)
    pub there : kind_at T place ≡ Some (Array 0 (pos 0) (pos last) 3)
    pub part : mark_at T 3 ≡ Some truth_mark

  pub type-stays : (T U : TypeTable) → Grows T U → HasType T → HasType U
  type-stays T U g h = record {
    place = h.place;
    named = find-grown (λ (x : Mark). is_named n.flags x.name) T.marks U.marks g.mark (own_mark h.place) h.named;
    there = g.kind h.place _ h.there;
    part = g.mark 3 truth_mark h.part;
  }

  -- so an object of it is an array of BOOLEAN
  pub type-form : (T : TypeTable) → HasType T → form_of T (OPlain (marked w)) ≡ Some array_of_flags
  type-form T h =
      let m : Mark = own_mark h.place in
      let same : form_of_mark T m ≡ array_of_flags =
      ap (form_of_kind T m) h.there
      ∙ ap (λ (o : Option Mark). let f : Form = record { limits = limits_or o; index = Some record { kind = integer_kind; first = pos 0; last = pos last } } in f) h.part in
      ap (plain_form T (marked w)) h.named ∙ ap (λ (y : Form). Some (marked_form T (marked w) m y.index)) same ∙ ap (λ (y : Form). Some y) same

  -- what is known of a scope of main: each predefined type is there, and BOOLEAN means it
  pub record IsReady (s : Scope) : Type 0 where
    pub here : InHere s
    pub unmarked : AreUnmarked s
    pub truth : meaning s (record { 0 = 3 }) ≡ Some (TypeMark 3)
    pub grows : Grows predefined_types s.types

  pub ready-next : (x : PDecl) (s : Scope) → AllByRecursion (IsUnused s) (names_declared x) → IsReady s → IsReady (after_decl s x)
  ready-next x s u h = record {
    here = here-decl x s h.here;
    unmarked = λ id f. decl-marks x s id f ∙ h.unmarked id (decl-before s h.here x u id f);
    truth = decl-kept x s h.here u (record { 0 = 3 }) (TypeMark 3) h.truth;
    grows = grows-on h.grows (grows-decl x s);
  }

  pub truth-marking : (s : Scope) → IsReady s → marking s (record { 0 = 3 }) ≡ ScalarMark 3 1
  truth-marking s h =
      ap (marking_of s.types) h.truth ∙ ap (marking_of_mark s.types 3) (h.grows.mark 3 truth_mark refl) ∙ ap (marking_of_kind 3 1) (h.grows.kind 1 Truth refl)

  pub type-there : (s : Scope) → IsReady s → IsUnused s w → HasType (after_decl s d).types
  type-there s h u =
      subst HasType
      (sym (ap (λ (m : Marking). (made_array (Some n.flags) (subind_made s m None).types (drange_range s index) (subind_made s m None).mark).types) (truth-marking s h)))
      record {
        place = length s.types.kinds;
        named = find-only (λ (x : Mark). is_named n.flags x.name) s.types.marks (own_mark (length s.types.kinds)) (h.unmarked n.flags (unused-free s w h.here u)) (equal_self n.flags.0);
        there = last_at s.types.kinds (Array 0 (pos 0) (pos last) 3);
        part = place-more s.types.marks (own_mark (length s.types.kinds) ∷ []) 3 truth_mark (h.grows.mark 3 truth_mark refl);
      }

  -- behind all declarations it is still there
  pub type-among : (l : List PDecl) (s : Scope) → IsAmong d l → IsReady s → DeclareOnce s (decls_of l) → HasType (after_decls s (decls_of l)).types
  type-among l s (first_among xs) h once = type-stays (after_decl s d).types _ (grows-decls (decls_of xs) (after_decl s d)) (type-there s h once.0.0)
  type-among l s (later_among y xs i) h once = type-among xs (after_decl s y) i (ready-next y s once.0 h) once.1

  pub ready-first : (name : Word) → is_predefined name.name.0 ≡ false → IsReady (first_scope name)
  ready-first name new = record {
    here = first-here name;
    unmarked = first-unmarked name new;
    truth = names-kept _ (name ∷ []) before_all (record { 0 = 3 }) (unequal name.name.0 3 (λ q. true≢false (ap is_predefined (sym q) ∙ new)), tt);
    grows = grows-self predefined_types;
  }

  -- ---- its declaration among those of the text

  pub main-has : (instance : Bool) → IsAmong d (main_declared n sp instance last)
  main-has true = first_among _
  main-has false = later_among _ _ (first_among _)

pub behind-has : (names : List (List ℕ)) (d : PDecl) (ds xs : List PDecl) → IsAmong d ds → IsAmong d (behind_own names ds xs)
behind-has names d ds [] i = i
behind-has names d ds (x ∷ xs) i = by_test (is_added_object names x) (behind-has names d ds xs i)
  where
    by_test : (b : Bool) → IsAmong d (behind_own names ds xs) → IsAmong d (if b then ds ++ x ∷ xs else x ∷ behind_own names ds xs)
    by_test true k = among-front d ds (x ∷ xs) i
    by_test false k = later_among x (behind_own names ds xs) k

module _ (p : PProgram) (h : IsLegalOriginal p) where
  abbrev T : TypeTable
  T = types_in p

  abbrev last : ℕ
  last = last_task (form p T (numbers_of p) (own p h)).numbers

  abbrev flags : PDecl
  flags = flags_type (names_added p) p.name.span last

  abbrev all : List PDecl
  all = firsts p T (numbers_of p) ++ added_of p T (numbers_of p) (own p h)

  flags-there : IsAmong flags all
  flags-there =
      let x = told p T (numbers_of p) (own p h) in
      let q : PProgram = normal p T (numbers_of p) (own p h) in
      let first : List PDecl = behind_own q.names (more p T (numbers_of p) (own p h)) (vars p T (numbers_of p)) in
      let middle : List PDecl = map (collect_decl x q.names) (tasks p T (numbers_of p)) in
      let copies : List PDecl = map (collect_decl x q.names) (bodies p T (numbers_of p)) in
      among-back flags (firsts p T (numbers_of p)) _
      (among-front flags (first ++ middle ++ (recorder_told x q ∷ []) ++ copies) (recorder_body_told x q ∷ [])
      (among-front flags (first ++ middle ++ (recorder_told x q ∷ [])) copies
      (among-front flags (first ++ middle) (recorder_told x q ∷ [])
      (among-front flags first middle
      (behind-has q.names flags (more p T (numbers_of p) (own p h)) (vars p T (numbers_of p)) (main-has (names_added p) p.name.span last _))))))

  once : NamesOnce p.name (text_for p).decls
  once = places-once (text_for p) (legal_collect_declares_once p h)

  listed : (text_for p).decls ≡ decls_of all
  listed = ap decls_of (collect-list p T (numbers_of p) (own p h))

  has-flags-there :
      form_of (types_in (text_for p)) (OPlain (marked (word_at p.name.span (names_added p).flags))) ≡ Some (array_of_flags (names_added p) p.name.span last)
  has-flags-there =
      type-form (names_added p) p.name.span last (types_in (text_for p))
      (subst (λ ds. HasType (names_added p) p.name.span last (after_decls (first_scope p.name) ds).types) (sym listed)
      (type-among (names_added p) p.name.span last all (first_scope p.name) flags-there (ready-first (names_added p) p.name.span last p.name once.0.0) (subst (DeclareOnce (first_scope p.name)) listed once.1)))

pub legal_has_flags : LegalHasFlags
legal_has_flags p h = has-flags-there p h
