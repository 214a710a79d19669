-- The laws of lists of declarations and of units, when those of statements hold (3.9, 6.3, 10.1).
use Rattle.std.proofs.Common.{◌≡◌, ℕ, suc, Bool, true, false, true≢false, inl, inr, List, [], ◌∷◌, ◌++◌, None, codes, refl, sym, ap, ◌∙◌, subst}
use Rattle.ada_expr_parser.specs.readers.Readers.{Reader}
use Rattle.ada_expr_parser.specs.readers.Grammars.{Texts, One, Then, Or, Many}
use Rattle.ada_expr_parser.specs.readers.Lawful.{Lawful, Shortens, Anything}
use Rattle.ada_expr_parser.proofs.readers.Choosing.{law_on}
use Rattle.ada_expr_parser.proofs.readers.Deepening.{law_raised}
use Rattle.ada_expr_parser.proofs.readers.Fitting.{law_fit}
use Rattle.ada_tree.specs.NameList.{predefined}
use Rattle.ada_tree.specs.declared.naming.Span.{Span}
use Rattle.ada_tree.specs.declared.naming.Word.{Word}
use Rattle.ada_tree.specs.PlainStmt.{PBody}
use Rattle.ada_tree.specs.PlainDecl.{PDecl, DNumber, DObject, DEnumeration, DArray, DSubtype, DException, DIntIo, DPragma, DTask, DTaskBody, PDecls, no_decl, decl_then, decls_of}
use Rattle.ada_tree.specs.WellPlaced.{IsLater, AreLater, BodiesLast}
use Rattle.ada_lexer.specs.declared.symbols.Symbol.TheVariants as key
use Rattle.ada_expr_parser.specs.declared.items.Item.{Item}
use Rattle.ada_expr_parser.specs.Tests.{same, symbol}
use Rattle.ada_expr_parser.specs.Grammar.{symbol_item, word_item}
use Rattle.ada_parser.proofs.expression_laws.Tokens.{symbol_takes}
use Rattle.ada_parser.proofs.expression_laws.Primaries.{no_place}
use Rattle.ada_phrase_parser.specs.Spelling.{Source, Spelling, ◌▷◌, Where, Key, Named, Predefined, id_of}
use Rattle.ada_stmt_parser.specs.Statements.{IsBody}
use Rattle.ada_task_parser.specs.Tasks.{TaskWord, TaskRest}
use Rattle.ada_parser.specs.Declarations.{UnitEnd, Decls}
use Rattle.ada_parser.specs.Units.{PUnit, Context, Units}
use Rattle.ada_stmt_parser.specs.inner.ReadingStatements.{readers}
use Rattle.ada_parser.specs.inner.ReadingDeclarativeParts as declarative
use Rattle.ada_parser.specs.inner.ReadingDeclarativeParts.{begins_later, begins_decl, begins_behind, is_body}
use Rattle.ada_parser.specs.inner.ReadingUnits as units
use Rattle.ada_parser.proofs.KitPieces.{Closing, closing_then, closing_same, Same, same_self, same_behind, after_key}
use Rattle.ada_parser.proofs.KitReading.{Made, made_key, made_bind, made_then, made_pure, law_word, law_key, starts_key, key_taken, taken_key}
use Rattle.ada_parser.proofs.KitDeeper.{NameEnd, closing_end}
use Rattle.ada_parser.proofs.Rows.{Fits, RowTexts, SaysWhere, part_shortens, law_row}
use Rattle.ada_parser.proofs.StmtLevels.{LevelLaws}
use Rattle.ada_parser.proofs.StmtBodies.{BodyTexts}
use Rattle.ada_parser.proofs.DeclNames.{object_name}
use Rattle.ada_parser.proofs.DeclTypes.{law_with_id, pushed}
use Rattle.ada_parser.proofs.DeclLaws.{law_unit_end, unit_same}
use Rattle.ada_parser.proofs.DeclGrammar.{Decl, law_decl}

-- ---- which declaration may stand behind a body

abbrev Allowed : Bool → PDecl → Type 0
Allowed false a = Unit {0}
Allowed true a = IsLater a

-- those that may not
only_early : (a : PDecl) (k : Item) → begins_later k ≡ false → (behind : Bool) → begins_behind behind k ≡ true → Allowed behind a
only_early a k off false is = tt
only_early a k off true is = absurd (true≢false (sym is ∙ off))

all_early : (a : PDecl) (k : Item) → begins_decl k ≡ true → (IsLater a → ⊥) → (behind : Bool) → Allowed behind a → begins_behind behind k ≡ true
all_early a k is early false may = is
all_early a k is early true may = absurd (early may)

-- those that may
only_later : (a : PDecl) (k : Item) → IsLater a → (behind : Bool) → begins_behind behind k ≡ true → Allowed behind a
only_later a k later false is = tt
only_later a k later true is = later

all_later : (a : PDecl) (k : Item) → begins_decl k ≡ true → begins_later k ≡ true → (behind : Bool) → Allowed behind a → begins_behind behind k ≡ true
all_later a k is later false may = is
all_later a k is later true may = later

type_early : (at : Span) → (begins_decl (symbol_item key.«Type» at) ≡ true) × (begins_later (symbol_item key.«Type» at) ≡ false)
unfolding same
type_early at = (refl, refl)

subtype_early : (at : Span) → (begins_decl (symbol_item key.Subtype at) ≡ true) × (begins_later (symbol_item key.Subtype at) ≡ false)
unfolding same
subtype_early at = (refl, refl)

pragma_early : (at : Span) → (begins_decl (symbol_item key.Pragma at) ≡ true) × (begins_later (symbol_item key.Pragma at) ≡ false)
unfolding same
pragma_early at = (refl, refl)

package_later : (at : Span) → (begins_decl (symbol_item key.Package at) ≡ true) × (begins_later (symbol_item key.Package at) ≡ true)
unfolding same
package_later at = (refl, refl)

task_later : (at : Span) → (begins_decl (symbol_item key.Task at) ≡ true) × (begins_later (symbol_item key.Task at) ≡ true)
unfolding same
task_later at = (refl, refl)

abbrev EndsDecls : Item → Type 0
EndsDecls x = (begins_decl x ≡ false) × (begins_later x ≡ false)

begin_ends : (at : Span) → EndsDecls (symbol_item key.Begin at)
unfolding same
begin_ends at = (refl, refl)

ends_each : (behind : Bool) (x : Item) → EndsDecls x → begins_behind behind x ≡ false
ends_each false x stop = stop.0
ends_each true x stop = stop.1

module _ (source : Source) where
  abbrev Says : ℕ → PDecl → List Item → Type 0
  Says d a text = SaysWhere begins_behind Allowed (Decl source) d a text

  early : (d : ℕ) (a : PDecl) (k : Item) (more text : List Item) → text ≡ k ∷ more → (begins_decl k ≡ true) × (begins_later k ≡ false) → (IsLater a → ⊥) → Says d a text
  early d a k more text from is never = record { k = k; more = more; text_is = from; only = only_early a k is.1; all = all_early a k is.0 never }

  later : (d : ℕ) (a : PDecl) (k : Item) (more text : List Item) → text ≡ k ∷ more → (begins_decl k ≡ true) × (begins_later k ≡ true) → IsLater a → Says d a text
  later d a k more text from is may = record { k = k; more = more; text_is = from; only = only_later a k may; all = all_later a k is.0 is.1 }

  -- a task begins with its word
  task_word : (d : ℕ) (k : Bool) (Q : Spelling) (text : List Item) → (TaskWord k ▷ Q) text → (lead : Span) × (back : List Item) × (text ≡ symbol_item key.Task lead ∷ back)
  task_word d true Q text (front, back, from, (f, b, split, (at, one), rest), more) = (at, b ++ back, from ∙ ap (λ l. l ++ back) (split ∙ ap (λ l. l ++ b) one))
  task_word d false Q text (front, back, from, (at, one), more) = (at, back, from ∙ ap (λ l. l ++ back) one)

  says : (d : ℕ) (a : PDecl) (text : List Item) → Decl source d a text → Says d a text
  says d (DNumber w e s) text is = let (front, back, from, one, rest) = is.0 in early d (DNumber w e s) (word_item w) back text (from ∙ ap (λ l. l ++ back) one) (refl, refl) (λ x. x)
  says d (DObject ws c x i s) text is = let (w, back, from) = object_name source d ws c x i s text is in early d (DObject ws c x i s) (word_item w) back text from (refl, refl) (λ x. x)
  says d (DException [] s) text ((front, back, from, never, rest), place) = absurd never
  says d (DException (w ∷ ws) s) text is =
      let (front, back, from, (f, b, split, one, behind), rest) = is.0 in
      early d (DException (w ∷ ws) s) (word_item w) (b ++ back) text (from ∙ ap (λ l. l ++ back) (split ∙ ap (λ l. l ++ b) one)) (refl, refl) (λ x. x)
  says d (DEnumeration w ws s) text is = let (lead, back, from, rest) = after_key key.«Type» _ text is.0 in early d (DEnumeration w ws s) (symbol_item key.«Type» lead) back text from (type_early lead) (λ x. x)
  says d (DArray w r x s) text is = let (lead, back, from, rest) = after_key key.«Type» _ text is.0 in early d (DArray w r x s) (symbol_item key.«Type» lead) back text from (type_early lead) (λ x. x)
  says d (DSubtype w x s) text is = let (lead, back, from, rest) = after_key key.Subtype _ text is.0 in early d (DSubtype w x s) (symbol_item key.Subtype lead) back text from (subtype_early lead) (λ x. x)
  says d (DPragma e s) text is = let (lead, back, from, rest) = after_key key.Pragma _ text is.0 in early d (DPragma e s) (symbol_item key.Pragma lead) back text from (pragma_early lead) (λ x. x)
  says d (DIntIo w s) text is = let (lead, back, from, rest) = after_key key.Package _ text is.0 in later d (DIntIo w s) (symbol_item key.Package lead) back text from (package_later lead) tt
  says d (DTask t s) text ((ms, are, spelled), place) =
      let (lead, back, from) = task_word d t.of_kind (Named t.name ▷ TaskRest source d t.name ms) text spelled in later d (DTask t s) (symbol_item key.Task lead) back text from (task_later lead) tt
  says d (DTaskBody w ds content s) text is = let (lead, back, from, rest) = after_key key.Task _ text is.0 in later d (DTaskBody w ds content s) (symbol_item key.Task lead) back text from (task_later lead) tt

  -- ---- lists of declarations

  abbrev pub DeclsTexts : Texts Item PDecls
  DeclsTexts d ds text = BodiesLast ds × Decls source d ds text

  later_fits : (l : List PDecl) → Fits is_body Allowed true l → AreLater (decls_of l)
  later_fits [] fit = tt
  later_fits (a ∷ l) (may, fit) = (may, later_fits l fit)

  fits_later : (l : List PDecl) → AreLater (decls_of l) → Fits is_body Allowed true l
  fits_later [] are = tt
  fits_later (a ∷ l) (may, are) = (may, fits_later l are)

  last_fits : (l : List PDecl) → Fits is_body Allowed false l → BodiesLast (decls_of l)
  last_fits [] fit = tt
  last_fits (DTaskBody w ds content s ∷ l) (may, fit) = later_fits l fit
  last_fits (DNumber w e s ∷ l) (may, fit) = last_fits l fit
  last_fits (DObject ws c x i s ∷ l) (may, fit) = last_fits l fit
  last_fits (DEnumeration w ws s ∷ l) (may, fit) = last_fits l fit
  last_fits (DArray w r x s ∷ l) (may, fit) = last_fits l fit
  last_fits (DSubtype w x s ∷ l) (may, fit) = last_fits l fit
  last_fits (DException ws s ∷ l) (may, fit) = last_fits l fit
  last_fits (DIntIo w s ∷ l) (may, fit) = last_fits l fit
  last_fits (DPragma e s ∷ l) (may, fit) = last_fits l fit
  last_fits (DTask t s ∷ l) (may, fit) = last_fits l fit

  fits_last : (l : List PDecl) → BodiesLast (decls_of l) → Fits is_body Allowed false l
  fits_last [] are = tt
  fits_last (DTaskBody w ds content s ∷ l) are = (tt, fits_later l are)
  fits_last (DNumber w e s ∷ l) are = (tt, fits_last l are)
  fits_last (DObject ws c x i s ∷ l) are = (tt, fits_last l are)
  fits_last (DEnumeration w ws s ∷ l) are = (tt, fits_last l are)
  fits_last (DArray w r x s ∷ l) are = (tt, fits_last l are)
  fits_last (DSubtype w x s ∷ l) are = (tt, fits_last l are)
  fits_last (DException ws s ∷ l) are = (tt, fits_last l are)
  fits_last (DIntIo w s ∷ l) are = (tt, fits_last l are)
  fits_last (DPragma e s ∷ l) are = (tt, fits_last l are)
  fits_last (DTask t s ∷ l) are = (tt, fits_last l are)

  many_decls : (d : ℕ) (l : List PDecl) (text : List Item) → Many (Decl source) d l text → Decls source d (decls_of l) text
  many_decls d [] text none = none
  many_decls d (a ∷ l) text (front, back, from, is, rest) = (front, back, from, is, many_decls d l back rest)

  decls_many : (d : ℕ) (ds : PDecls) (text : List Item) → Decls source d ds text → (l : List PDecl) × (ds ≡ decls_of l) × Many (Decl source) d l text
  decls_many d no_decl text none = ([], refl, none)
  decls_many d (decl_then a ds) text (front, back, from, is, rest) =
      let (l, same, many) = decls_many d ds back rest in (a ∷ l, ap (decl_then a) same, (front, back, from, is, many))

  row_is : (d : ℕ) (ds : PDecls) (text : List Item) → Made decls_of (RowTexts is_body Allowed (Decl source) false) d ds text → DeclsTexts d ds text
  row_is d ds text (l, same, (many, fit)) = rw same (last_fits l fit, many_decls d l text many)

  is_row : (d : ℕ) (ds : PDecls) (text : List Item) → DeclsTexts d ds text → Made decls_of (RowTexts is_body Allowed (Decl source) false) d ds text
  is_row d ds text (last, is) =
      let (l, same, many) = decls_many d ds text is in (l, same, (many, fits_last l (subst BodiesLast same last)))

  -- ---- units

  abbrev ProcedureShut : ℕ → Word → PDecls → PBody → Span → Spelling
  ProcedureShut d w ds b close = Key key.Procedure ▷ Named w ▷ Key key.Is ▷ DeclsTexts d ds ▷ Key key.Begin ▷ BodyTexts source (suc d) b ▷ Key key.End ▷ NameEnd w close

  abbrev ProcedureIs : ℕ → Word → PDecls → PBody → Spelling
  ProcedureIs d w ds b = Key key.Procedure ▷ Named w ▷ Key key.Is ▷ Where (BodiesLast ds) (Decls source d ds) ▷ UnitEnd source (suc d) w b

  procedure_closing : (d : ℕ) (w : Word) (ds : PDecls) (b : PBody) → Closing (ProcedureShut d w ds b) (ProcedureIs d w ds b)
  procedure_closing d w ds b = closing_same
      (λ close. same_behind (Key key.Procedure) (same_behind (Named w) (same_behind (Key key.Is) (same_behind (DeclsTexts d ds) (unit_same source (suc d) b (Key key.End ▷ NameEnd w close))))))
      (same_self (ProcedureIs d w ds b))
      (closing_then (Key key.Procedure) (closing_then (Named w) (closing_then (Key key.Is) (closing_then (DeclsTexts d ds) (closing_then (IsBody source (suc d) b) (closing_end w))))))

  abbrev a_unit : Bool → Word → PDecls → PBody → PUnit
  a_unit text_io w ds b = record { text_io = text_io; name = w; decls = ds; body = b }

  abbrev ProcedureTexts : Bool → Texts Item PUnit
  ProcedureTexts text_io = Made {V = Word × (PDecls × (PBody × Span))} (λ v. a_unit text_io v.0 v.1.0 v.1.1.0) (λ d v. ProcedureShut d v.0 v.1.0 v.1.1.0 v.1.1.1)

  abbrev TextIo : Spelling
  TextIo = Predefined (codes "TEXT_IO")

  abbrev ContextThen : (ℕ → PUnit → Spelling) → Texts Item PUnit
  ContextThen Next d p = TextIo ▷ Key key.Semicolon ▷ Key key.Use ▷ TextIo ▷ Key key.Semicolon ▷ Next d p

  -- the context in front of what follows it
  context_grouped : (Q : Spelling) → Same (Key key.With ▷ TextIo ▷ Key key.Semicolon ▷ Key key.Use ▷ TextIo ▷ Key key.Semicolon ▷ Q) (Context true ▷ Q)
  context_grouped Q = pushed (Key key.With) (pushed TextIo (pushed (Key key.Semicolon) (pushed (Key key.Use) (pushed TextIo (same_self (Key key.Semicolon ▷ Q))))))

  abbrev UnitEither : Texts Item PUnit
  UnitEither = Or (Then (One (symbol key.With)) (λ at. ContextThen (ProcedureTexts true))) (ProcedureTexts false)

  procedure_is : (d : ℕ) (text_io : Bool) (p : PUnit) (text : List Item) → ProcedureTexts text_io d p text →
      (p.text_io ≡ text_io) × (Key key.Procedure ▷ Named p.name ▷ Key key.Is ▷ Where (BodiesLast p.decls) (Decls source d p.decls) ▷ UnitEnd source (suc d) p.name p.body) text
  procedure_is d text_io p text ((w, (ds, (b, close))), same, is) = rw same (refl, (procedure_closing d w ds b).plain close text is)

  is_procedure : (d : ℕ) (text_io : Bool) (w : Word) (ds : PDecls) (b : PBody) (text : List Item) → ProcedureIs d w ds b text → ProcedureTexts text_io d (a_unit text_io w ds b) text
  is_procedure d text_io w ds b text is = let (close, shut) = (procedure_closing d w ds b).some_place text is in ((w, (ds, (b, close))), refl, shut)

  context_is : (d : ℕ) (p : PUnit) (text : List Item) → (Key key.With ▷ ContextThen (ProcedureTexts true) d p) text → Units source d p text
  context_is d p text is =
      let (front, back, from, context, rest) = (context_grouped (ProcedureTexts true d p)).to text is in
      let (io, spelled) = procedure_is d true p back rest in
      (front, back, from, subst (λ b. Context b front) (sym io) context, spelled)

  unit_is : (d : ℕ) (p : PUnit) (text : List Item) → UnitEither d p text → Units source d p text
  unit_is d p text (inl taken) = context_is d p text (key_taken key.With (ContextThen (ProcedureTexts true)) d p text taken)
  unit_is d p text (inr is) = let (io, spelled) = procedure_is d false p text is in ([], text, refl, subst (λ b. Context b []) (sym io) refl, spelled)

  is_unit_of : (d : ℕ) (text_io : Bool) (w : Word) (ds : PDecls) (b : PBody) (text : List Item) → Units source d (a_unit text_io w ds b) text → UnitEither d (a_unit text_io w ds b) text
  is_unit_of d false w ds b text (front, back, from, none, rest) = inr (subst (ProcedureTexts false d (a_unit false w ds b)) (sym (from ∙ ap (λ l. l ++ back) none)) (is_procedure d false w ds b back rest))
  is_unit_of d true w ds b text (front, back, from, context, rest) =
      inl (taken_key key.With (ContextThen (ProcedureTexts true)) d (a_unit true w ds b) text
      ((context_grouped (ProcedureTexts true d (a_unit true w ds b))).back text (front, back, from, context, is_procedure d true w ds b back rest)))

  is_unit : (d : ℕ) (p : PUnit) (text : List Item) → Units source d p text → UnitEither d p text
  is_unit d p text is = is_unit_of d p.text_io p.name p.decls p.body text is

  with_no_procedure : (at : Span) → symbol key.With (symbol_item key.Procedure at) ≡ None
  unfolding same
  with_no_procedure at = refl

  module _ (laws : (d : ℕ) → LevelLaws source d (readers source d) (readers source (suc d))) where
    pub law_decls : (d : ℕ) → Lawful d (declarative.decls source d) (declarative.decls source (suc d)) DeclsTexts EndsDecls
    law_decls d = law_fit (λ e deep ds text is. row_is e ds text is) (is_row d)
        (made_pure decls_of (law_row is_body (law_decl source laws d Anything) says (λ behind k is. tt) (λ x stop. tt) ends_each false))

    -- a declaration takes a token
    pub decl_shortens : (d : ℕ) → Shortens (declarative.decl source d)
    decl_shortens d = part_shortens is_body {S = EndsDecls} (law_decl source laws d Anything) says (λ behind k is. tt) (λ x stop. tt) ends_each

    law_procedure : (d : ℕ) (text_io : Bool) (S : Item → Type 0) → Lawful d (units.procedure source d text_io) (units.procedure source (suc d) text_io) (ProcedureTexts text_io) S
    law_procedure d text_io S = made_key key.Procedure (λ v. a_unit text_io v.0 v.1.0 v.1.1.0) (λ d v. Named v.0 ▷ Key key.Is ▷ DeclsTexts d v.1.0 ▷ Key key.Begin ▷ BodyTexts source (suc d) v.1.1.0 ▷ Key key.End ▷ NameEnd v.0 v.1.1.1)
        (made_then (λ w v. a_unit text_io w v.0 v.1.0) (λ w d v. Key key.Is ▷ DeclsTexts d v.0 ▷ Key key.Begin ▷ BodyTexts source (suc d) v.1.0 ▷ Key key.End ▷ NameEnd w v.1.1) (law_word d Anything)
        (λ w. made_key key.Is (λ v. a_unit text_io w v.0 v.1.0) (λ d v. DeclsTexts d v.0 ▷ Key key.Begin ▷ BodyTexts source (suc d) v.1.0 ▷ Key key.End ▷ NameEnd w v.1.1)
        (made_bind (λ ds v. a_unit text_io w ds v.0) (λ ds d v. Key key.Begin ▷ BodyTexts source (suc d) v.0 ▷ Key key.End ▷ NameEnd w v.1) (law_decls d)
        (λ ds. law_raised (law_unit_end source (suc d) w (λ b close. a_unit text_io w ds b) S (laws (suc d))))
        (λ ds. starts_key key.Begin (λ v. a_unit text_io w ds v.0) (λ d v. BodyTexts source (suc d) v.0 ▷ Key key.End ▷ NameEnd w v.1) begin_ends))))

    law_context : (d : ℕ) {next next' : Reader Item PUnit} {D : Texts Item PUnit} {S : Item → Type 0} → Lawful d next next' D S → Lawful d (units.context_rest next) (units.context_rest next') (ContextThen D) S
    law_context d law = law_with_id (id_of predefined (codes "TEXT_IO")) (law_key key.Semicolon (law_key key.Use (law_with_id (id_of predefined (codes "TEXT_IO")) (law_key key.Semicolon law))))

    -- A unit is read by the laws, if statements are; it ends with a semicolon, so that any item may stand behind it.
    pub law_unit : (d : ℕ) (S : Item → Type 0) → Lawful d (units.unit source d) (units.unit source (suc d)) (Units source) S
    law_unit d S = law_fit (λ e deep p text is. unit_is e p text is) (is_unit d)
        (law_on {test = symbol key.With} (λ at. law_context d (law_procedure d true S)) (law_procedure d false S).careful
        (starts_key key.Procedure (λ v. a_unit false v.0 v.1.0 v.1.1.0) (λ d v. Named v.0 ▷ Key key.Is ▷ DeclsTexts d v.1.0 ▷ Key key.Begin ▷ BodyTexts source (suc d) v.1.1.0 ▷ Key key.End ▷ NameEnd v.0 v.1.1.1) with_no_procedure)
        (symbol_item key.With no_place) no_place (symbol_takes key.With no_place))
