-- The laws of declarations that begin with names: numbers, objects and exceptions (3.2, 11.1).
use Rattle.std.proofs.Common.{◌≡◌, ℕ, suc, Bool, true, false, inl, inr, List, [], ◌∷◌, ◌++◌, Option, Some, None, refl, sym, ap, ◌∙◌, subst}
use Rattle.ada_expr_parser.specs.readers.Readers.{Reader, bind, on}
use Rattle.ada_expr_parser.specs.readers.Grammars.{Texts, One, Then, Or, first_of, Starts}
use Rattle.ada_expr_parser.specs.readers.Lawful.{Lawful, IsPassed, Anything}
use Rattle.ada_expr_parser.proofs.readers.Binding.{law_bind, law_then}
use Rattle.ada_expr_parser.proofs.readers.Choosing.{law_on}
use Rattle.ada_expr_parser.proofs.readers.Fitting.{starts_or, starts_token, first_append, law_fit}
use Rattle.ada_tree.specs.declared.naming.Span.{Span}
use Rattle.ada_tree.specs.declared.naming.Word.{Word}
use Rattle.ada_tree.specs.PlainExpr.{PExpr}
use Rattle.ada_tree.specs.PlainDecl.{PShape, OPlain, OArray, PInit, PDecl, DNumber, DObject, DEnumeration, DArray, DSubtype, DException, DIntIo, DPragma, DTask, DTaskBody}
use Rattle.ada_lexer.specs.declared.symbols.Symbol.{Symbol}
use Rattle.ada_lexer.specs.declared.symbols.Symbol.TheVariants as key
use Rattle.ada_expr_parser.specs.declared.items.Item.{Item}
use Rattle.ada_expr_parser.specs.Tests.{same, symbol, word}
use Rattle.ada_expr_parser.specs.Trees.{from_to}
use Rattle.ada_expr_parser.specs.Grammar.{symbol_item, word_item}
use Rattle.ada_expr_parser.specs.Parts.{expression}
use Rattle.ada_parser.specs.expression_laws.Stopping.{EndsMark}
use Rattle.ada_parser.proofs.expression_laws.Tokens.{symbol_is, symbol_takes, none_is}
use Rattle.ada_parser.proofs.expression_laws.Primaries.{no_place}
use Rattle.ada_phrase_parser.specs.Spelling.{Source, Spelling, ◌▷◌, IfThere, Key, Named, Behind}
use Rattle.ada_phrase_parser.specs.Phrases.{Expression}
use Rattle.ada_parser.specs.Declarations.{IsShape, IsInit, IsObject, IsDecl}
use Rattle.ada_task_parser.specs.Tasks.{TaskWord, TaskRest}
use Rattle.ada_phrase_parser.specs.Reading.{closed}
use Rattle.ada_decl_parser.specs.inner.ReadingDeclarations as reading
use Rattle.ada_parser.proofs.KitPieces.{KeyAt, Closing, closing_key, closing_then, placed_word, word_placed, Same, same_grouped, same_through, same_behind}
use Rattle.ada_parser.proofs.KitReading.{Made, made_key, made_bind, law_word, law_key, law_closed, law_more, starts_key, starts_last, key_taken, taken_key}
use Rattle.ada_parser.proofs.KitDeeper.{law_expression}
use Rattle.ada_parser.proofs.Formals.{word_same, colon_names}
use Rattle.ada_parser.proofs.DeclInits.{law_shape, law_init}
use Rattle.ada_parser.proofs.StmtSimple.{semicolon_ends}
use Rattle.ada_parser.proofs.WordRest.{no_first}

-- ---- what ends what

pub semicolon_mark : (at : Span) → EndsMark (symbol_item key.Semicolon at)
unfolding same
semicolon_mark at = ((((refl, refl), refl), refl), refl)

becomes_mark : (at : Span) → EndsMark (symbol_item key.Becomes at)
unfolding same
becomes_mark at = ((((refl, refl), refl), refl), refl)

pub no_becomes : (at : Span) → symbol key.Becomes (symbol_item key.Semicolon at) ≡ None
unfolding same
no_becomes at = refl

array_no_becomes : (at : Span) → symbol key.Becomes (symbol_item key.Array at) ≡ None
unfolding same
array_no_becomes at = refl

array_no_constant : (at : Span) → symbol key.Constant (symbol_item key.Array at) ≡ None
unfolding same
array_no_constant at = refl

array_no_exception : (at : Span) → symbol key.Exception (symbol_item key.Array at) ≡ None
unfolding same
array_no_exception at = refl

constant_no_exception : (at : Span) → symbol key.Exception (symbol_item key.Constant at) ≡ None
unfolding same
constant_no_exception at = refl

-- a shape begins with `array` or a name
shape_first : (R : Item → Type 0) (d : ℕ) (x : PShape) (text : List Item) (y : Item) → ((at : Span) → R (symbol_item key.Array at)) → ((w : Word) → R (word_item w)) → IsShape d x text → R (first_of y text)
shape_first R d (OPlain x) text y row name is = rw is.text_is (name x.mark)
shape_first R d (OArray r x) text y row name (front, back, from, (at, one), rest) = rw from (rw one (row at))

-- ---- behind `NAME {, NAME} :`

-- `[:= init] ;`
abbrev ValueTexts : List Word → Span → PShape → Texts Item PDecl
ValueTexts ws first x = Made {V = Option PInit × Span} (λ v. DObject ws false x v.0 (from_to first v.1)) (λ d v. IfThere v.0 (λ i. Key key.Becomes ▷ IsInit d i) ▷ KeyAt key.Semicolon v.1)

abbrev GivenTexts : List Word → Span → Bool → PShape → Texts Item PDecl
GivenTexts ws first c x = Made {V = PInit × Span} (λ v. DObject ws c x (Some v.0) (from_to first v.1)) (λ d v. IsInit d v.0 ▷ KeyAt key.Semicolon v.1)

law_given : (d : ℕ) (ws : List Word) (first : Span) (c : Bool) (x : PShape) (S : Item → Type 0) →
    Lawful d (bind (reading.init d) (λ i. closed (λ close. DObject ws c x (Some i) (from_to first close)))) (bind (reading.init (suc d)) (λ i. closed (λ close. DObject ws c x (Some i) (from_to first close)))) (GivenTexts ws first c x) S
law_given d ws first c x S = made_bind (λ i close. DObject ws c x (Some i) (from_to first close)) (λ i d close. KeyAt key.Semicolon close) (law_init d)
    (λ i. law_closed d (λ close. DObject ws c x (Some i) (from_to first close)) S)
    (λ i. starts_last key.Semicolon (λ close. DObject ws c x (Some i) (from_to first close)) semicolon_ends)

abbrev EitherValue : List Word → Span → PShape → Texts Item PDecl
EitherValue ws first x = Or (Then (One (symbol key.Becomes)) (λ at. GivenTexts ws first false x)) (Made (λ close. DObject ws false x None (from_to first close)) (λ d close. KeyAt key.Semicolon close))

value_is : (ws : List Word) (first : Span) (x : PShape) (d : ℕ) (a : PDecl) (text : List Item) → EitherValue ws first x d a text → ValueTexts ws first x d a text
value_is ws first x d a text (inl is) =
    let (front, back, from, mark, ((i, close), same, rest)) = key_taken key.Becomes (GivenTexts ws first false x) d a text is in
    ((Some i, close), same, (same_grouped (Key key.Becomes) (IsInit d i) (KeyAt key.Semicolon close)).to text (front, back, from, mark, rest))
value_is ws first x d a text (inr (close, same, is)) = ((None, close), same, ([], text, refl, refl, is))

is_value : (ws : List Word) (first : Span) (x : PShape) (d : ℕ) (a : PDecl) (text : List Item) → ValueTexts ws first x d a text → EitherValue ws first x d a text
is_value ws first x d a text ((Some i, close), same, is) =
    let (front, back, from, mark, rest) = (same_grouped (Key key.Becomes) (IsInit d i) (KeyAt key.Semicolon close)).back text is in
    inl (taken_key key.Becomes (GivenTexts ws first false x) d a text (front, back, from, mark, ((i, close), same, rest)))
is_value ws first x d a text ((None, close), same, (front, back, from, none, is)) = inr (close, same, from ∙ ap (λ l. l ++ back) none ∙ is)

law_value : (d : ℕ) (ws : List Word) (first : Span) (x : PShape) (S : Item → Type 0) → Lawful d
    (on (symbol key.Becomes) (λ at. bind (reading.init d) (λ i. closed (λ close. DObject ws false x (Some i) (from_to first close)))) (closed (λ close. DObject ws false x None (from_to first close))))
    (on (symbol key.Becomes) (λ at. bind (reading.init (suc d)) (λ i. closed (λ close. DObject ws false x (Some i) (from_to first close)))) (closed (λ close. DObject ws false x None (from_to first close)))) (ValueTexts ws first x) S
law_value d ws first x S = law_fit (λ e deep a text is. value_is ws first x e a text is) (λ a text is. is_value ws first x d a text is)
    (law_on {test = symbol key.Becomes} (λ at. law_given d ws first false x S) (law_closed d (λ close. DObject ws false x None (from_to first close)) S).careful
    (starts_last key.Semicolon (λ close. DObject ws false x None (from_to first close)) no_becomes)
    (symbol_item key.Becomes no_place) no_place (symbol_takes key.Becomes no_place))

value_starts : (d : ℕ) (ws : List Word) (first : Span) (x : PShape) (S : Item → Type 0) → Starts d (ValueTexts ws first x) S EndsMark
value_starts d ws first x S = record { begins_with = begins } where
  begins : (a : PDecl) (text : List Item) (y : Item) → ValueTexts ws first x d a text → S y → EndsMark (first_of y text)
  begins a text y ((Some i, close), same, (front, back, from, (f, b, split, (at, one), rest), last)) stop = rw from (rw split (rw one (becomes_mark at)))
  begins a text y ((None, close), same, (front, back, from, none, last)) stop = rw from (rw none (rw last (semicolon_mark close)))

-- a variable
abbrev VariableTexts : List Word → Span → Texts Item PDecl
VariableTexts ws first = Made {V = PShape × (Option PInit × Span)} (λ v. DObject ws false v.0 v.1.0 (from_to first v.1.1)) (λ d v. IsShape d v.0 ▷ IfThere v.1.0 (λ i. Key key.Becomes ▷ IsInit d i) ▷ KeyAt key.Semicolon v.1.1)

law_variable : (d : ℕ) (w : Word) (more : List Word) (S : Item → Type 0) → Lawful d (reading.variable_rest d w more) (reading.variable_rest (suc d) w more) (VariableTexts (w ∷ more) w.span) S
law_variable d w more S = made_bind (λ x v. DObject (w ∷ more) false x v.0 (from_to w.span v.1)) (λ x d v. IfThere v.0 (λ i. Key key.Becomes ▷ IsInit d i) ▷ KeyAt key.Semicolon v.1)
    (law_shape d) (λ x. law_value d (w ∷ more) w.span x S) (λ x. value_starts d (w ∷ more) w.span x S)

-- a constant, behind `constant`
abbrev ConstantTexts : List Word → Span → Texts Item PDecl
ConstantTexts ws first = Made {V = PShape × (PInit × Span)} (λ v. DObject ws true v.0 (Some v.1.0) (from_to first v.1.1)) (λ d v. IsShape d v.0 ▷ Key key.Becomes ▷ IsInit d v.1.0 ▷ KeyAt key.Semicolon v.1.1)

law_constant : (d : ℕ) (w : Word) (more : List Word) (S : Item → Type 0) → Lawful d (reading.constant_rest d w more) (reading.constant_rest (suc d) w more) (ConstantTexts (w ∷ more) w.span) S
law_constant d w more S = made_bind (λ x v. DObject (w ∷ more) true x (Some v.0) (from_to w.span v.1)) (λ x d v. Key key.Becomes ▷ IsInit d v.0 ▷ KeyAt key.Semicolon v.1)
    (law_shape d)
    (λ x. made_key key.Becomes (λ v. DObject (w ∷ more) true x (Some v.0) (from_to w.span v.1)) (λ d v. IsInit d v.0 ▷ KeyAt key.Semicolon v.1) (law_given d (w ∷ more) w.span true x S))
    (λ x. starts_key key.Becomes (λ v. DObject (w ∷ more) true x (Some v.0) (from_to w.span v.1)) (λ d v. IsInit d v.0 ▷ KeyAt key.Semicolon v.1) becomes_mark)

-- an object
abbrev ObjectTexts : Word → List Word → Texts Item PDecl
ObjectTexts w more = Made {V = (Bool × PShape) × (Option PInit × Span)} (λ v. DObject (w ∷ more) v.0.0 v.0.1 v.1.0 (from_to w.span v.1.1)) (λ d v. IsObject d v.0.0 v.0.1 v.1.0 ▷ KeyAt key.Semicolon v.1.1)

abbrev EitherObject : Word → List Word → Texts Item PDecl
EitherObject w more = Or (Then (One (symbol key.Constant)) (λ at. ConstantTexts (w ∷ more) w.span)) (VariableTexts (w ∷ more) w.span)

variable_is : (w : Word) (more : List Word) (d : ℕ) (a : PDecl) (text : List Item) → VariableTexts (w ∷ more) w.span d a text → ObjectTexts w more d a text
variable_is w more d a text ((x, (i, close)), same, is) =
    (((false, x), (i, close)), same, (same_grouped (IsShape d x) (IfThere i (λ y. Key key.Becomes ▷ IsInit d y)) (KeyAt key.Semicolon close)).to text is)

constant_grouped : (d : ℕ) (x : PShape) (i : PInit) (close : Span) → Same (Key key.Constant ▷ IsShape d x ▷ Key key.Becomes ▷ IsInit d i ▷ KeyAt key.Semicolon close) ((Key key.Constant ▷ IsShape d x ▷ Key key.Becomes ▷ IsInit d i) ▷ KeyAt key.Semicolon close)
constant_grouped d x i close = same_through
    (same_behind (Key key.Constant) (same_through
    (same_behind (IsShape d x) (same_grouped (Key key.Becomes) (IsInit d i) (KeyAt key.Semicolon close)))
    (same_grouped (IsShape d x) (Key key.Becomes ▷ IsInit d i) (KeyAt key.Semicolon close))))
    (same_grouped (Key key.Constant) (IsShape d x ▷ Key key.Becomes ▷ IsInit d i) (KeyAt key.Semicolon close))

constant_is : (w : Word) (more : List Word) (d : ℕ) (a : PDecl) (text : List Item) → (Key key.Constant ▷ ConstantTexts (w ∷ more) w.span d a) text → ObjectTexts w more d a text
constant_is w more d a text (front, back, from, mark, ((x, (i, close)), same, is)) =
    (((true, x), (Some i, close)), same, (constant_grouped d x i close).to text (front, back, from, mark, is))

object_is : (w : Word) (more : List Word) (d : ℕ) (a : PDecl) (text : List Item) → EitherObject w more d a text → ObjectTexts w more d a text
object_is w more d a text (inl is) = constant_is w more d a text (key_taken key.Constant (ConstantTexts (w ∷ more) w.span) d a text is)
object_is w more d a text (inr is) = variable_is w more d a text is

is_object : (w : Word) (more : List Word) (d : ℕ) (a : PDecl) (text : List Item) → ObjectTexts w more d a text → EitherObject w more d a text
is_object w more d a text (((false, x), (i, close)), same, is) =
    inr ((x, (i, close)), same, (same_grouped (IsShape d x) (IfThere i (λ y. Key key.Becomes ▷ IsInit d y)) (KeyAt key.Semicolon close)).back text is)
is_object w more d a text (((true, x), (None, close)), same, (front, back, from, never, is)) = absurd never
is_object w more d a text (((true, x), (Some i, close)), same, is) =
    let (front, back, from, mark, rest) = (constant_grouped d x i close).back text is in
    inl (taken_key key.Constant (ConstantTexts (w ∷ more) w.span) d a text (front, back, from, mark, ((x, (i, close)), same, rest)))

variable_starts : {R : Item → Type 0} (d : ℕ) (ws : List Word) (first : Span) (S : Item → Type 0) → ((at : Span) → R (symbol_item key.Array at)) → ((w : Word) → R (word_item w)) → Starts d (VariableTexts ws first) S R
variable_starts {R} d ws first S row name = record { begins_with = λ a text y (v, same, (front, back, from, is, rest)) stop. rw from (rw (first_append y front back) (shape_first R d v.0 front (first_of y back) row name is)) }

pub law_object_rest : (d : ℕ) (w : Word) (more : List Word) (S : Item → Type 0) → Lawful d (reading.object_rest d w more) (reading.object_rest (suc d) w more) (ObjectTexts w more) S
law_object_rest d w more S = law_fit (λ e deep a text is. object_is w more e a text is) (λ a text is. is_object w more d a text is)
    (law_on {test = symbol key.Constant} (λ at. law_constant d w more S) (law_variable d w more S).careful
    (variable_starts d (w ∷ more) w.span S array_no_constant (λ v. refl))
    (symbol_item key.Constant no_place) no_place (symbol_takes key.Constant no_place))

-- ---- numbers and exceptions

abbrev NumberTexts : Word → Texts Item PDecl
NumberTexts w = Made {V = PExpr × Span} (λ v. DNumber w v.0 (from_to w.span v.1)) (λ d v. Expression d v.0 ▷ KeyAt key.Semicolon v.1)

law_number : (d : ℕ) (w : Word) (S : Item → Type 0) →
    Lawful d (bind (expression d) (λ e. closed (λ close. DNumber w e (from_to w.span close)))) (bind (expression (suc d)) (λ e. closed (λ close. DNumber w e (from_to w.span close)))) (NumberTexts w) S
law_number d w S = made_bind (λ e close. DNumber w e (from_to w.span close)) (λ e d close. KeyAt key.Semicolon close) (law_expression d)
    (λ e. law_closed d (λ close. DNumber w e (from_to w.span close)) S) (λ e. starts_last key.Semicolon (λ close. DNumber w e (from_to w.span close)) semicolon_ends)

-- behind `constant`: a number where there is one name
abbrev ValuedTexts : Word → List Word → Texts Item PDecl
ValuedTexts w [] = Or (Then (One (symbol key.Becomes)) (λ at. NumberTexts w)) (ConstantTexts (w ∷ []) w.span)
ValuedTexts w (v ∷ more) = ConstantTexts (w ∷ v ∷ more) w.span

constant_starts : {R : Item → Type 0} (d : ℕ) (ws : List Word) (first : Span) (S : Item → Type 0) → ((at : Span) → R (symbol_item key.Array at)) → ((w : Word) → R (word_item w)) → Starts d (ConstantTexts ws first) S R
constant_starts {R} d ws first S row name = record { begins_with = λ a text y (v, same, (front, back, from, is, rest)) stop. rw from (rw (first_append y front back) (shape_first R d v.0 front (first_of y back) row name is)) }

law_valued : (d : ℕ) (w : Word) (more : List Word) (S : Item → Type 0) → Lawful d (reading.number_or_constant d w more) (reading.number_or_constant (suc d) w more) (ValuedTexts w more) S
law_valued d w [] S = law_on {test = symbol key.Becomes} (λ at. law_number d w S) (law_constant d w [] S).careful
    (constant_starts d (w ∷ []) w.span S array_no_becomes (λ v. refl)) (symbol_item key.Becomes no_place) no_place (symbol_takes key.Becomes no_place)
law_valued d w (v ∷ more) S = law_constant d w (v ∷ more) S

-- all that may stand behind `NAME {, NAME} :`
abbrev NamedTexts : Word → List Word → Texts Item PDecl
NamedTexts w more =
    Or (Then (One (symbol key.Exception)) (λ at. Made (λ close. DException (w ∷ more) (from_to w.span close)) (λ d close. KeyAt key.Semicolon close)))
    (Or (Then (One (symbol key.Constant)) (λ at. ValuedTexts w more)) (VariableTexts (w ∷ more) w.span))

law_named_rest : (d : ℕ) (w : Word) (more : List Word) (S : Item → Type 0) → Lawful d (reading.named_rest d w more) (reading.named_rest (suc d) w more) (NamedTexts w more) S
law_named_rest d w more S = law_on {test = symbol key.Exception} (λ at. law_closed d (λ close. DException (w ∷ more) (from_to w.span close)) S)
    (law_on {test = symbol key.Constant} (λ at. law_valued d w more S) (law_variable d w more S).careful (variable_starts d (w ∷ more) w.span S array_no_constant (λ v. refl))
    (symbol_item key.Constant no_place) no_place (symbol_takes key.Constant no_place)).careful
    (starts_or (starts_token (λ k at some. rw (symbol_is key.Constant k at some) (constant_no_exception at))) (variable_starts d (w ∷ more) w.span S array_no_exception (λ v. refl)))
    (symbol_item key.Exception no_place) no_place (symbol_takes key.Exception no_place)

-- ---- names with commas between, and a colon

abbrev BehindName : (Word → List Word → Texts Item PDecl) → Word → Texts Item PDecl
BehindName Rest w = Then (λ d ws. Behind (Key key.Comma) Named ws) (λ more d a. Key key.Colon ▷ Rest w more d a)

law_names_behind : (d : ℕ) (next next' : Word → List Word → Reader Item PDecl) (Rest : Word → List Word → Texts Item PDecl) (w : Word) (S : Item → Type 0) →
    ((more : List Word) → Lawful d (next w more) (next' w more) (Rest w more) S) → Lawful d (reading.names_behind next w) (reading.names_behind next' w) (BehindName Rest w) S
law_names_behind d next next' Rest w S law = law_bind {R = IsPassed (symbol key.Comma)}
    (law_more key.Comma {U = Anything} (law_word d Anything) (λ at. tt) (λ x stop. tt) (λ x stop. stop))
    (λ more. law_key key.Colon (law more))
    (λ more. record { begins_with = λ a text x (front, back, from, (at, one), rest) stop. rw from (rw one (colon_names at)) })

abbrev pub IsObjectDecl : PDecl → Type 0
IsObjectDecl (DObject ws c x i s) = Unit {0}
IsObjectDecl _ = ⊥

module _ (source : Source) where
  -- a declaration behind its first name
  abbrev pub WordDecls : Word → Texts Item PDecl
  WordDecls w d a text = IsDecl source d a (word_item w ∷ text)

  abbrev ObjectShut : ℕ → List Word → Bool → PShape → Option PInit → Span → Spelling
  ObjectShut d more c x i close = Behind (Key key.Comma) Named more ▷ Key key.Colon ▷ IsObject d c x i ▷ KeyAt key.Semicolon close

  abbrev ObjectTail : ℕ → List Word → Bool → PShape → Option PInit → Spelling
  ObjectTail d more c x i = Behind (Key key.Comma) Named more ▷ Key key.Colon ▷ IsObject d c x i ▷ Key key.Semicolon

  object_closing : (d : ℕ) (more : List Word) (c : Bool) (x : PShape) (i : Option PInit) → Closing (ObjectShut d more c x i) (ObjectTail d more c x i)
  object_closing d more c x i = closing_then (Behind (Key key.Comma) Named more) (closing_then (Key key.Colon) (closing_then (IsObject d c x i) (closing_key key.Semicolon)))

  object_decl : (d : ℕ) (w : Word) (more : List Word) (c : Bool) (x : PShape) (i : Option PInit) (close : Span) (text : List Item) → ObjectShut d more c x i close text →
      IsDecl source d (DObject (w ∷ more) c x i (from_to w.span close)) (word_item w ∷ text)
  object_decl d w more c x i close text is =
      let (spelled, place) = placed_word w (object_closing d more c x i) close text is in
      ((same_grouped (Named w) (Behind (Key key.Comma) Named more) (Key key.Colon ▷ IsObject d c x i ▷ Key key.Semicolon)).to (word_item w ∷ text) spelled, place)

  decl_object : (d : ℕ) (w : Word) (ws : List Word) (c : Bool) (x : PShape) (i : Option PInit) (s : Span) (text : List Item) → IsDecl source d (DObject ws c x i s) (word_item w ∷ text) →
      (more : List Word) × (close : Span) × (ws ≡ w ∷ more) × (s ≡ from_to w.span close) × ObjectShut d more c x i close text
  decl_object d w [] c x i s text ((front, back, from, never, rest), place) = absurd never
  decl_object d w (v ∷ more) c x i s text (spelled, place) =
      let grouped = (same_grouped (Named v) (Behind (Key key.Comma) Named more) (Key key.Colon ▷ IsObject d c x i ▷ Key key.Semicolon)).back (word_item w ∷ text) spelled in
      let (front, back, from, one, rest) = grouped in
      let same : v ≡ w = word_same v w back text (from ∙ ap (λ l. l ++ back) one) in
      let (close, there, shut) = word_placed w (object_closing d more c x i) s text (subst (λ u. (Named u ▷ ObjectTail d more c x i) (word_item w ∷ text)) same grouped, place) in
      (more, close, ap (λ u. u ∷ more) same, there, shut)

  abbrev ExceptionShut : List Word → Span → Spelling
  ExceptionShut more close = Behind (Key key.Comma) Named more ▷ Key key.Colon ▷ Key key.Exception ▷ KeyAt key.Semicolon close

  abbrev ExceptionTail : List Word → Spelling
  ExceptionTail more = Behind (Key key.Comma) Named more ▷ Key key.Colon ▷ Key key.Exception ▷ Key key.Semicolon

  exception_closing : (more : List Word) → Closing (ExceptionShut more) (ExceptionTail more)
  exception_closing more = closing_then (Behind (Key key.Comma) Named more) (closing_then (Key key.Colon) (closing_then (Key key.Exception) (closing_key key.Semicolon)))

  exception_decl : (d : ℕ) (w : Word) (more : List Word) (close : Span) (text : List Item) → ExceptionShut more close text → IsDecl source d (DException (w ∷ more) (from_to w.span close)) (word_item w ∷ text)
  exception_decl d w more close text is =
      let (spelled, place) = placed_word w (exception_closing more) close text is in
      ((same_grouped (Named w) (Behind (Key key.Comma) Named more) (Key key.Colon ▷ Key key.Exception ▷ Key key.Semicolon)).to (word_item w ∷ text) spelled, place)

  decl_exception : (d : ℕ) (w : Word) (ws : List Word) (s : Span) (text : List Item) → IsDecl source d (DException ws s) (word_item w ∷ text) →
      (more : List Word) × (close : Span) × (ws ≡ w ∷ more) × (s ≡ from_to w.span close) × ExceptionShut more close text
  decl_exception d w [] s text ((front, back, from, never, rest), place) = absurd never
  decl_exception d w (v ∷ more) s text (spelled, place) =
      let grouped = (same_grouped (Named v) (Behind (Key key.Comma) Named more) (Key key.Colon ▷ Key key.Exception ▷ Key key.Semicolon)).back (word_item w ∷ text) spelled in
      let (front, back, from, one, rest) = grouped in
      let same : v ≡ w = word_same v w back text (from ∙ ap (λ l. l ++ back) one) in
      let (close, there, shut) = word_placed w (exception_closing more) s text (subst (λ u. (Named u ▷ ExceptionTail more) (word_item w ∷ text)) same grouped, place) in
      (more, close, ap (λ u. u ∷ more) same, there, shut)

  abbrev NumberShut : ℕ → PExpr → Span → Spelling
  NumberShut d e close = Key key.Colon ▷ Key key.Constant ▷ Key key.Becomes ▷ Expression d e ▷ KeyAt key.Semicolon close

  number_closing : (d : ℕ) (e : PExpr) → Closing (NumberShut d e) (Key key.Colon ▷ Key key.Constant ▷ Key key.Becomes ▷ Expression d e ▷ Key key.Semicolon)
  number_closing d e = closing_then (Key key.Colon) (closing_then (Key key.Constant) (closing_then (Key key.Becomes) (closing_then (Expression d e) (closing_key key.Semicolon))))

  -- ---- all that begins with a name

  named_of : (w : Word) (more : List Word) (d : ℕ) (a : PDecl) (text front back f b : List Item) → text ≡ front ++ back → Behind (Key key.Comma) Named more front → back ≡ f ++ b → Key key.Colon f →
      ObjectTexts w more d a b → WordDecls w d a text
  named_of w more d a text front back f b from behind split colon (((c, x), (i, close)), same, is) = rw same (object_decl d w more c x i close text (front, back, from, behind, (f, b, split, colon, is)))

  valued_is : (w : Word) (more : List Word) (d : ℕ) (a : PDecl) (text front back f b : List Item) → text ≡ front ++ back → Behind (Key key.Comma) Named more front → back ≡ f ++ b → Key key.Colon f →
      (Key key.Constant ▷ ValuedTexts w more d a) b → WordDecls w d a text
  valued_is w [] d a text front back f b from none split colon (f2, b2, from2, mark, inl is) =
      let (f3, b3, from3, becomes, ((e, close), same, rest)) = key_taken key.Becomes (NumberTexts w) d a b2 is in
      rw same (placed_word w (number_closing d e) close text (f, b, from ∙ ap (λ l. l ++ back) none ∙ split, colon, (f2, b2, from2, mark, (f3, b3, from3, becomes, rest))))
  valued_is w [] d a text front back f b from behind split colon (f2, b2, from2, mark, inr is) = named_of w [] d a text front back f b from behind split colon (constant_is w [] d a b (f2, b2, from2, mark, is))
  valued_is w (v ∷ more) d a text front back f b from behind split colon is = named_of w (v ∷ more) d a text front back f b from behind split colon (constant_is w (v ∷ more) d a b is)

  named_is : (w : Word) (d : ℕ) (a : PDecl) (text : List Item) → BehindName NamedTexts w d a text → WordDecls w d a text
  named_is w d a text (more, front, back, from, behind, (f, b, split, colon, inl is)) =
      let (f2, b2, from2, mark, (close, same, rest)) = key_taken key.Exception (Made (λ close. DException (w ∷ more) (from_to w.span close)) (λ d close. KeyAt key.Semicolon close)) d a b is in
      rw same (exception_decl d w more close text (front, back, from, behind, (f, b, split, colon, (f2, b2, from2, mark, rest))))
  named_is w d a text (more, front, back, from, behind, (f, b, split, colon, inr (inl is))) = valued_is w more d a text front back f b from behind split colon (key_taken key.Constant (ValuedTexts w more) d a b is)
  named_is w d a text (more, front, back, from, behind, (f, b, split, colon, inr (inr is))) = named_of w more d a text front back f b from behind split colon (variable_is w more d a b is)

  valued_constant : (w : Word) (more : List Word) (d : ℕ) (a : PDecl) (text : List Item) → ConstantTexts (w ∷ more) w.span d a text → ValuedTexts w more d a text
  valued_constant w [] d a text is = inr is
  valued_constant w (v ∷ more) d a text is = is

  object_named : (w : Word) (more : List Word) (d : ℕ) (a : PDecl) (text : List Item) → EitherObject w more d a text → NamedTexts w more d a text
  object_named w more d a text (inl is) =
      let (front, back, from, mark, rest) = key_taken key.Constant (ConstantTexts (w ∷ more) w.span) d a text is in
      inr (inl (taken_key key.Constant (ValuedTexts w more) d a text (front, back, from, mark, valued_constant w more d a back rest)))
  object_named w more d a text (inr is) = inr (inr is)

  is_named : (w : Word) (d : ℕ) (a : PDecl) (text : List Item) → WordDecls w d a text → BehindName NamedTexts w d a text
  is_named w d (DNumber v e s) text (spelled, place) =
      let (front, back, from, one, rest) = spelled in
      let same : v ≡ w = word_same v w back text (from ∙ ap (λ l. l ++ back) one) in
      let (close, there, (f, b, split, colon, (f2, b2, from2, mark, (f3, b3, from3, becomes, last)))) =
      word_placed w (number_closing d e) s text (subst (λ u. (Named u ▷ Key key.Colon ▷ Key key.Constant ▷ Key key.Becomes ▷ Expression d e ▷ Key key.Semicolon) (word_item w ∷ text)) same spelled, place) in (
        [],
        [],
        text,
        refl,
        refl,
        (
          f,
          b,
          split,
          colon,
          inr (inl (taken_key key.Constant (ValuedTexts w []) d (DNumber v e s) b
              (f2, b2, from2, mark, inl (taken_key key.Becomes (NumberTexts w) d (DNumber v e s) b2 (f3, b3, from3, becomes, ((e, close), ap (λ u. DNumber u e s) same ∙ ap (DNumber w e) there, last)))))),
        ),
      )
  is_named w d (DObject ws c x i s) text is =
      let (more, close, names, place, (front, back, from, behind, (f, b, split, colon, rest))) = decl_object d w ws c x i s text is in (
        more,
        front,
        back,
        from,
        behind,
        (
          f,
          b,
          split,
          colon,
          object_named w more d (DObject ws c x i s) b (is_object w more d (DObject ws c x i s) b
              (((c, x), (i, close)), ap (λ l. DObject l c x i s) names ∙ ap (DObject (w ∷ more) c x i) place, rest)),
        ),
      )
  is_named w d (DException ws s) text is =
      let (more, close, names, place, (front, back, from, behind, (f, b, split, colon, (f2, b2, from2, mark, rest)))) = decl_exception d w ws s text is in (
        more,
        front,
        back,
        from,
        behind,
        (
          f,
          b,
          split,
          colon,
          inl (taken_key key.Exception (Made (λ close. DException (w ∷ more) (from_to w.span close)) (λ d close. KeyAt key.Semicolon close)) d (DException ws s) b
              (f2, b2, from2, mark, (close, ap (λ l. DException l s) names ∙ ap (DException (w ∷ more)) place, rest))),
        ),
      )
  is_named w d (DEnumeration v ws s) text (spelled, place) = absurd (no_first key.«Type» _ w text spelled)
  is_named w d (DArray v r x s) text (spelled, place) = absurd (no_first key.«Type» _ w text spelled)
  is_named w d (DSubtype v x s) text (spelled, place) = absurd (no_first key.Subtype _ w text spelled)
  is_named w d (DIntIo v s) text (spelled, place) = absurd (no_first key.Package _ w text spelled)
  is_named w d (DPragma e s) text (spelled, place) = absurd (no_first key.Pragma _ w text spelled)
  is_named w d (DTask t s) text ((members, are, spelled), place) = absurd (no_task t.of_kind spelled) where
    no_task : (b : Bool) → (TaskWord b ▷ Named t.name ▷ TaskRest source d t.name members) (word_item w ∷ text) → ⊥
    no_task true (front, back, from, (f, b, split, (at, one), rest), more) = none_is (sym (ap word (ap (first_of (word_item w)) (from ∙ ap (λ l. l ++ back) (split ∙ ap (λ l. l ++ b) one)))))
    no_task false is = no_first key.Task _ w text is
  is_named w d (DTaskBody v ds b s) text (spelled, place) = absurd (no_first key.Task _ w text spelled)

  pub law_word_decl : (d : ℕ) (w : Word) (S : Item → Type 0) → Lawful d (reading.names_behind (reading.named_rest d) w) (reading.names_behind (reading.named_rest (suc d)) w) (WordDecls w) S
  law_word_decl d w S = law_fit (λ e deep a text is. named_is w e a text is) (λ a text is. is_named w d a text is)
      (law_names_behind d (reading.named_rest d) (reading.named_rest (suc d)) NamedTexts w S (λ more. law_named_rest d w more S))

  -- ---- objects alone

  abbrev pub ObjectDecls : Texts Item PDecl
  ObjectDecls d a text = IsObjectDecl a × IsDecl source d a text

  objects_is : (d : ℕ) (a : PDecl) (text : List Item) → Then (λ d w. Named w) (BehindName ObjectTexts) d a text → ObjectDecls d a text
  objects_is d a text (w, one, rest, whole, named, (more, front, back, from, behind, (f, b, split, colon, (((c, x), (i, close)), same, is)))) =
      rw same (
        tt,
        subst (IsDecl source d (DObject (w ∷ more) c x i (from_to w.span close))) (sym (whole ∙ ap (λ l. l ++ rest) named))
            (object_decl d w more c x i close rest (front, back, from, behind, (f, b, split, colon, is))),
      )

  -- an object begins with a name
  pub object_name : (d : ℕ) (ws : List Word) (c : Bool) (x : PShape) (i : Option PInit) (s : Span) (text : List Item) → IsDecl source d (DObject ws c x i s) text → (w : Word) × (back : List Item) × (text ≡ word_item w ∷ back)
  object_name d [] c x i s text ((front, back, from, never, rest), place) = absurd never
  object_name d (w ∷ more) c x i s text ((front, back, from, (f, b, split, one, behind), rest), place) = (w, b ++ back, from ∙ ap (λ l. l ++ back) (split ∙ ap (λ l. l ++ b) one))

  is_objects : (d : ℕ) (a : PDecl) (text : List Item) → ObjectDecls d a text → Then (λ d w. Named w) (BehindName ObjectTexts) d a text
  is_objects d (DObject ws c x i s) text (one, is) =
      let (w, rest, from) = object_name d ws c x i s text is in
      let (more, close, names, place, (front, back, from', behind, (f, b, split, colon, last))) = decl_object d w ws c x i s rest (subst (IsDecl source d (DObject ws c x i s)) from is) in
      (w, word_item w ∷ [], rest, from, refl, (more, front, back, from', behind, (f, b, split, colon, (((c, x), (i, close)), ap (λ l. DObject l c x i s) names ∙ ap (DObject (w ∷ more) c x i) place, last))))
  is_objects d (DNumber v e s) text (never, is) = absurd never
  is_objects d (DException ws s) text (never, is) = absurd never
  is_objects d (DEnumeration v ws s) text (never, is) = absurd never
  is_objects d (DArray v r x s) text (never, is) = absurd never
  is_objects d (DSubtype v x s) text (never, is) = absurd never
  is_objects d (DIntIo v s) text (never, is) = absurd never
  is_objects d (DPragma e s) text (never, is) = absurd never
  is_objects d (DTask t s) text (never, is) = absurd never
  is_objects d (DTaskBody v ds b s) text (never, is) = absurd never

  pub law_object : (d : ℕ) (S : Item → Type 0) → Lawful d (reading.object d) (reading.object (suc d)) ObjectDecls S
  law_object d S = law_fit (λ e deep a text is. objects_is e a text is) (is_objects d)
      (law_then (law_word d Anything) (λ w. law_names_behind d (reading.object_rest d) (reading.object_rest (suc d)) ObjectTexts w S (λ more. law_object_rest d w more S)))
