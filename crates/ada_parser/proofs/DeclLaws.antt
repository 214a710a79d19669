-- The laws of task bodies and of all declarations, when those of statements hold (3.9, 9.1).
use Rattle.std.proofs.Common.{◌≡◌, ℕ, suc, Bool, true, false, true≢false, List, [], ◌∷◌, Some, None, refl, sym, ap}
use Rattle.std.specs.Prelude.{is_some, ◌||◌}
use Rattle.ada_expr_parser.specs.readers.Readers.{refuse, on}
use Rattle.ada_expr_parser.specs.readers.Grammars.{Texts, Never, One, Then, Or, Many, first_of, Opens}
use Rattle.ada_expr_parser.specs.readers.Lawful.{Lawful, IsPassed, Anything}
use Rattle.ada_expr_parser.proofs.readers.Binding.{law_then}
use Rattle.ada_expr_parser.proofs.readers.Choosing.{law_on, careful_refuse}
use Rattle.ada_expr_parser.proofs.readers.Listing.{law_items}
use Rattle.ada_expr_parser.proofs.readers.Deepening.{law_raised}
use Rattle.ada_expr_parser.proofs.readers.Fitting.{starts_or, starts_never, starts_token, law_fit}
use Rattle.ada_tree.specs.declared.naming.Span.{Span}
use Rattle.ada_tree.specs.declared.naming.Word.{Word}
use Rattle.ada_tree.specs.PlainExpr.{PExpr}
use Rattle.ada_tree.specs.PlainStmt.{PBody}
use Rattle.ada_tree.specs.PlainDecl.{PDecl, DNumber, DObject, DEnumeration, DArray, DSubtype, DException, DIntIo, DPragma, DTask, DTaskBody, PDecls, no_decl, decl_then, decls_of}
use Rattle.ada_tree.specs.WellPlaced.{AreObjects}
use Rattle.ada_lexer.specs.declared.symbols.Symbol.{Symbol}
use Rattle.ada_lexer.specs.declared.symbols.Symbol.TheVariants as key
use Rattle.ada_expr_parser.specs.declared.items.Item.{Item}
use Rattle.ada_expr_parser.specs.Tests.{same, symbol, word}
use Rattle.ada_expr_parser.specs.Trees.{from_to}
use Rattle.ada_expr_parser.specs.Grammar.{symbol_item, word_item}
use Rattle.ada_parser.proofs.expression_laws.Tokens.{symbol_is, symbol_takes, word_is}
use Rattle.ada_parser.proofs.expression_laws.Primaries.{no_place, some_word}
use Rattle.ada_phrase_parser.specs.Spelling.{Source, Spelling, ◌▷◌, Where, Key, Named}
use Rattle.ada_stmt_parser.specs.Statements.{IsBody}
use Rattle.ada_parser.specs.Declarations.{UnitEnd, Decls}
use Rattle.ada_phrase_parser.specs.Reading.{is_symbol}
use Rattle.ada_stmt_parser.specs.inner.ReadingStatements.{readers}
use Rattle.ada_task_parser.specs.inner.ReadingTasks as tasks
use Rattle.ada_decl_parser.specs.inner.ReadingDeclarations as reading
use Rattle.ada_parser.specs.inner.ReadingDeclarativeParts as declarative
use Rattle.ada_parser.proofs.KitPieces.{Closing, closing_then, closing_same, Same, same_self, same_behind, same_then, same_through, same_grouped}
use Rattle.ada_parser.proofs.KitReading.{Made, Both, made_key, made_bind, made_then, made_pure, law_word, starts_key}
use Rattle.ada_parser.proofs.KitLeading.{among, symbol_at, Led, led_refuse, led_on}
use Rattle.ada_parser.proofs.KitDeeper.{NameEnd, law_end_of, closing_end}
use Rattle.ada_parser.proofs.StmtLevels.{LevelLaws}
use Rattle.ada_parser.proofs.StmtBodies.{BodyTexts, law_body, begun_same, end_body}
use Rattle.ada_parser.proofs.DeclNames.{WordDecls, law_word_decl, IsObjectDecl, ObjectDecls, object_name, law_object}
use Rattle.ada_parser.proofs.DeclTypes.{NameIs, law_name_is, TypeTexts, law_type, SubtypeTexts, law_subtype, InstanceTexts, law_instance, PriorityShut, law_priority}
use Rattle.ada_parser.proofs.DeclTasks.{RestTexts, law_rest}

-- ---- bodies

module _ (source : Source) where
  -- the end of a unit as it is read
  abbrev pub UnitTexts : {A : Type 0} → Word → (PBody → Span → A) → Texts Item A
  UnitTexts w tree = Made {V = PBody × Span} (λ v. tree v.0 v.1) (λ d v. Key key.Begin ▷ BodyTexts source d v.0 ▷ Key key.End ▷ NameEnd w v.1)

  pub law_unit_end : {A : Type 0} (d : ℕ) (w : Word) (tree : PBody → Span → A) (S : Item → Type 0) → LevelLaws source d (readers source d) (readers source (suc d)) →
      Lawful d (declarative.unit_end source d w tree) (declarative.unit_end source (suc d) w tree) (UnitTexts w tree) S
  law_unit_end d w tree S laws = made_key key.Begin (λ v. tree v.0 v.1) (Both (BodyTexts source) (λ b d close. Key key.End ▷ NameEnd w close))
      (made_bind tree (λ b d close. Key key.End ▷ NameEnd w close) (law_body source d laws) (λ b. law_end_of d w (tree b) S)
      (λ b. starts_key key.End (tree b) (λ d close. NameEnd w close) end_body))

  pub unit_same : (d : ℕ) (b : PBody) (E : Spelling) → Same (Key key.Begin ▷ BodyTexts source d b ▷ E) (IsBody source d b ▷ E)
  unit_same d b E = same_through (same_grouped (Key key.Begin) (BodyTexts source d b) E) (same_then (begun_same source d b) (same_self E))

  -- ---- objects

  objects_first : (x : PDecl) (l : PDecls) → AreObjects (decl_then x l) → IsObjectDecl x × AreObjects l
  objects_first (DObject ws c x i s) l are = (tt, are)
  objects_first (DNumber w e s) l never = absurd never
  objects_first (DEnumeration w ws s) l never = absurd never
  objects_first (DArray w r x s) l never = absurd never
  objects_first (DSubtype w x s) l never = absurd never
  objects_first (DException ws s) l never = absurd never
  objects_first (DIntIo w s) l never = absurd never
  objects_first (DPragma e s) l never = absurd never
  objects_first (DTask t s) l never = absurd never
  objects_first (DTaskBody w ds b s) l never = absurd never

  first_objects : (x : PDecl) (l : PDecls) → IsObjectDecl x → AreObjects l → AreObjects (decl_then x l)
  first_objects (DObject ws c x i s) l one are = are
  first_objects (DNumber w e s) l never are = absurd never
  first_objects (DEnumeration w ws s) l never are = absurd never
  first_objects (DArray w r x s) l never are = absurd never
  first_objects (DSubtype w x s) l never are = absurd never
  first_objects (DException ws s) l never are = absurd never
  first_objects (DIntIo w s) l never are = absurd never
  first_objects (DPragma e s) l never are = absurd never
  first_objects (DTask t s) l never are = absurd never
  first_objects (DTaskBody w ds b s) l never are = absurd never

  abbrev pub ObjectsTexts : Texts Item PDecls
  ObjectsTexts d ds text = AreObjects ds × Decls source d ds text

  many_objects : (d : ℕ) (l : List PDecl) (text : List Item) → Many (ObjectDecls source) d l text → ObjectsTexts d (decls_of l) text
  many_objects d [] text none = (tt, none)
  many_objects d (x ∷ l) text (front, back, from, (one, is), rest) =
      let (are, more) = many_objects d l back rest in (first_objects x (decls_of l) one are, (front, back, from, is, more))

  objects_many : (d : ℕ) (ds : PDecls) (text : List Item) → ObjectsTexts d ds text → Made decls_of (Many (ObjectDecls source)) d ds text
  objects_many d no_decl text (are, none) = ([], refl, none)
  objects_many d (decl_then x ds) text (are, (front, back, from, is, rest)) =
      let (one, others) = objects_first x ds are in
      let (l, same, many) = objects_many d ds back (others, rest) in
      (x ∷ l, ap (decl_then x) same, (front, back, from, (one, is), many))

  object_opens : (d : ℕ) → Opens d (ObjectDecls source) (λ x. is_some (word x))
  object_opens d = record { opens_with = opens } where
    opens : (a : PDecl) (text : List Item) → ObjectDecls source d a text → (k : Item) × (more : List Item) × (text ≡ k ∷ more) × (is_some (word k) ≡ true)
    opens (DObject ws c x i s) text (one, is) = let (w, back, from) = object_name source d ws c x i s text is in (word_item w, back, from, refl)
    opens (DNumber w e s) text (never, is) = absurd never
    opens (DEnumeration w ws s) text (never, is) = absurd never
    opens (DArray w r x s) text (never, is) = absurd never
    opens (DSubtype w x s) text (never, is) = absurd never
    opens (DException ws s) text (never, is) = absurd never
    opens (DIntIo w s) text (never, is) = absurd never
    opens (DPragma e s) text (never, is) = absurd never
    opens (DTask t s) text (never, is) = absurd never
    opens (DTaskBody w ds b s) text (never, is) = absurd never

  law_objects : (d : ℕ) → Lawful d (declarative.objects d) (declarative.objects (suc d)) ObjectsTexts (IsPassed word)
  law_objects d = law_fit (λ e deep ds text (l, same, many). rw same (many_objects e l text many)) (objects_many d)
      (made_pure decls_of (law_items (law_object source d Anything) (object_opens d) (λ k is. tt) (λ x stop. tt) (λ x stop. ap is_some stop)))

  -- ---- task bodies

  abbrev pub BodyDecls : Span → Texts Item PDecl
  BodyDecls lead = Made {V = Word × (PDecls × (PBody × Span))} (λ v. DTaskBody v.0 v.1.0 v.1.1.0 (from_to lead v.1.1.1))
      (λ d v. Named v.0 ▷ Key key.Is ▷ ObjectsTexts d v.1.0 ▷ Key key.Begin ▷ BodyTexts source (suc d) v.1.1.0 ▷ Key key.End ▷ NameEnd v.0 v.1.1.1)

  abbrev pub BodyShut : ℕ → Word → PDecls → PBody → Span → Spelling
  BodyShut d w ds b close = Key key.Body ▷ Named w ▷ Key key.Is ▷ ObjectsTexts d ds ▷ Key key.Begin ▷ BodyTexts source (suc d) b ▷ Key key.End ▷ NameEnd w close

  pub body_closing : (d : ℕ) (w : Word) (ds : PDecls) (b : PBody) → Closing (BodyShut d w ds b) (Key key.Body ▷ Named w ▷ Key key.Is ▷ Where (AreObjects ds) (Decls source d ds) ▷ UnitEnd source (suc d) w b)
  body_closing d w ds b = closing_same
      (λ close. same_behind (Key key.Body) (same_behind (Named w) (same_behind (Key key.Is) (same_behind (ObjectsTexts d ds) (unit_same (suc d) b (Key key.End ▷ NameEnd w close))))))
      (same_self (Key key.Body ▷ Named w ▷ Key key.Is ▷ Where (AreObjects ds) (Decls source d ds) ▷ UnitEnd source (suc d) w b))
      (closing_then (Key key.Body) (closing_then (Named w) (closing_then (Key key.Is) (closing_then (ObjectsTexts d ds) (closing_then (IsBody source (suc d) b) (closing_end w))))))

  abbrev pub TaskTexts : Span → Texts Item PDecl
  TaskTexts lead = Or (Then (One (symbol key.Body)) (λ at. BodyDecls lead))
      (Or (Then (One (symbol key.«Type»)) (λ at. Then (λ d w. Named w) (RestTexts source lead true))) (Or (Then (One word) (RestTexts source lead false)) Never))

  type_no_body : (at : Span) → symbol key.Body (symbol_item key.«Type» at) ≡ None
  unfolding same
  type_no_body at = refl

  word_no_symbol : (s : Symbol) (k : Item) (w : Word) → word k ≡ Some w → symbol s k ≡ None
  word_no_symbol s k w some = rw (word_is k w some) refl

  abbrev pub PragmaTexts : Span → Texts Item PDecl
  PragmaTexts lead = Made {V = PExpr × Span} (λ v. DPragma v.0 (from_to lead v.1)) (λ d v. PriorityShut source d v.0 v.1)

  abbrev pub DeclTexts : Texts Item PDecl
  DeclTexts = Or (Then (One word) (WordDecls source)) (Or (Then (One (symbol key.«Type»)) (λ lead. NameIs (TypeTexts lead))) (Or (Then (One (symbol key.Subtype)) (λ lead. NameIs (SubtypeTexts lead)))
      (Or (Then (One (symbol key.Package)) (λ lead. NameIs (InstanceTexts lead))) (Or (Then (One (symbol key.Pragma)) PragmaTexts) (Or (Then (One (symbol key.Task)) TaskTexts) Never)))))

  abbrev leads : List Symbol
  leads = key.«Type» ∷ key.Subtype ∷ key.Package ∷ key.Pragma ∷ key.Task ∷ []

  no_word : (list : List Symbol) (k : Item) → among false list k ≡ true → word k ≡ None
  no_word [] k e = absurd (true≢false (sym e))
  no_word (s ∷ more) k e = by (is_symbol s k) refl e (no_word more k) where
    by : (b : Bool) → is_symbol s k ≡ b → (b || among false more k) ≡ true → (among false more k ≡ true → word k ≡ None) → word k ≡ None
    by true is e others = let (at, from) = symbol_at s k is in rw from refl
    by false is e others = others e

  module _ (laws : (d : ℕ) → LevelLaws source d (readers source d) (readers source (suc d))) where
    law_task_body : (d : ℕ) (lead : Span) (S : Item → Type 0) → Lawful d (declarative.task_body source d lead) (declarative.task_body source (suc d) lead) (BodyDecls lead) S
    law_task_body d lead S = made_then (λ w v. DTaskBody w v.0 v.1.0 (from_to lead v.1.1)) (λ w d v. Key key.Is ▷ ObjectsTexts d v.0 ▷ Key key.Begin ▷ BodyTexts source (suc d) v.1.0 ▷ Key key.End ▷ NameEnd w v.1.1)
        (law_word d Anything)
        (λ w. made_key key.Is (λ v. DTaskBody w v.0 v.1.0 (from_to lead v.1.1)) (λ d v. ObjectsTexts d v.0 ▷ Key key.Begin ▷ BodyTexts source (suc d) v.1.0 ▷ Key key.End ▷ NameEnd w v.1.1)
        (made_bind (λ ds v. DTaskBody w ds v.0 (from_to lead v.1)) (λ ds d v. Key key.Begin ▷ BodyTexts source (suc d) v.0 ▷ Key key.End ▷ NameEnd w v.1) (law_objects d)
        (λ ds. law_raised (law_unit_end (suc d) w (λ b close. DTaskBody w ds b (from_to lead close)) S (laws (suc d))))
        (λ ds. starts_key key.Begin (λ v. DTaskBody w ds v.0 (from_to lead v.1)) (λ d v. BodyTexts source (suc d) v.0 ▷ Key key.End ▷ NameEnd w v.1) (λ at. refl))))

    -- ---- behind `task`

    law_task_at : (d : ℕ) (lead : Span) (S : Item → Type 0) → Lawful d (declarative.task_at source d lead) (declarative.task_at source (suc d) lead) (TaskTexts lead) S
    law_task_at d lead S = law_on {test = symbol key.Body} (λ at. law_task_body d lead S)
        (law_on {test = symbol key.«Type»} (λ at. law_then (law_word d Anything) (λ w. law_rest source d lead true w S))
        (law_on {test = word} (λ w. law_rest source d lead false w S) (careful_refuse d S) starts_never (word_item some_word) some_word refl).careful
        (starts_or (starts_token (word_no_symbol key.«Type»)) starts_never) (symbol_item key.«Type» no_place) no_place (symbol_takes key.«Type» no_place)).careful
        (starts_or (starts_token (λ k at some. rw (symbol_is key.«Type» k at some) (type_no_body at))) (starts_or (starts_token (word_no_symbol key.Body)) starts_never))
        (symbol_item key.Body no_place) no_place (symbol_takes key.Body no_place)

    -- ---- all declarations

    led_decl : (d : ℕ) (S : Item → Type 0) → Led false leads d
        (on (symbol key.«Type») (λ lead. declarative.name_is (reading.type_rest d lead)) (on (symbol key.Subtype) (λ lead. declarative.name_is (reading.subtype_rest d lead)) (on (symbol key.Package) (λ lead. declarative.name_is (reading.instance lead))
        (on (symbol key.Pragma) (λ lead. tasks.priority source d (λ e close. DPragma e (from_to lead close))) (on (symbol key.Task) (declarative.task_at source d) refuse)))))
        (on (symbol key.«Type») (λ lead. declarative.name_is (reading.type_rest (suc d) lead)) (on (symbol key.Subtype) (λ lead. declarative.name_is (reading.subtype_rest (suc d) lead)) (on (symbol key.Package) (λ lead. declarative.name_is (reading.instance lead))
        (on (symbol key.Pragma) (λ lead. tasks.priority source (suc d) (λ e close. DPragma e (from_to lead close))) (on (symbol key.Task) (declarative.task_at source (suc d)) refuse)))))
        (Or (Then (One (symbol key.«Type»)) (λ lead. NameIs (TypeTexts lead))) (Or (Then (One (symbol key.Subtype)) (λ lead. NameIs (SubtypeTexts lead)))
        (Or (Then (One (symbol key.Package)) (λ lead. NameIs (InstanceTexts lead))) (Or (Then (One (symbol key.Pragma)) PragmaTexts) (Or (Then (One (symbol key.Task)) TaskTexts) Never))))) S
    unfolding same
    led_decl d S = led_on (led_on (led_on (led_on (led_on (led_refuse d S)
        key.Task refl (λ lead. law_task_at d lead S))
        key.Pragma refl (λ lead. law_priority source d (λ e close. DPragma e (from_to lead close)) S))
        key.Package refl (λ lead. law_name_is d (InstanceTexts lead) S (λ w. law_instance d lead w S)))
        key.Subtype refl (λ lead. law_name_is d (SubtypeTexts lead) S (λ w. law_subtype d lead w S)))
        key.«Type» refl (λ lead. law_name_is d (TypeTexts lead) S (λ w. law_type d lead w S))

    pub law_either_decl : (d : ℕ) (S : Item → Type 0) → Lawful d (declarative.decl source d) (declarative.decl source (suc d)) DeclTexts S
    law_either_decl d S = law_on {test = word} (λ w. law_word_decl source d w S) (led_decl d S).careful
        (record { begins_with = λ a text x is stop. no_word leads (first_of x text) ((led_decl d S).starts.begins_with a text x is stop) })
        (word_item some_word) some_word refl
