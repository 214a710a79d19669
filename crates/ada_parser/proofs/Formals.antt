-- The laws of formal parts (6.1).
use Rattle.std.proofs.Common.{◌≡◌, ℕ, inl, inr, List, [], ◌∷◌, ◌++◌, None, refl, sym, ap, ◌∙◌, subst}
use Rattle.std.proofs.lemmas.List.{append-nil, append_assoc}
use Rattle.ada_expr_parser.specs.readers.Readers.{pure, bind, on, token}
use Rattle.ada_expr_parser.specs.readers.Grammars.{Texts, Is, One, Then, Or, first_of, Starts}
use Rattle.ada_expr_parser.specs.readers.Lawful.{Lawful, IsPassed, Anything}
use Rattle.ada_expr_parser.proofs.readers.Basics.{not_empty}
use Rattle.ada_expr_parser.proofs.readers.Binding.{law_pure, law_then}
use Rattle.ada_expr_parser.proofs.readers.Choosing.{law_on}
use Rattle.ada_expr_parser.proofs.readers.Fitting.{starts_is, starts_or, starts_token, law_fit}
use Rattle.ada_tree.specs.declared.naming.Span.{Span}
use Rattle.ada_tree.specs.declared.naming.Word.{Word}
use Rattle.ada_tree.specs.declared.statements.ParMode.{ParMode}
use Rattle.ada_tree.specs.declared.statements.ParMode.TheVariants as modes
use Rattle.ada_tree.specs.PlainStmt.{PFormal}
use Rattle.ada_lexer.specs.declared.symbols.Symbol.TheVariants as key
use Rattle.ada_expr_parser.specs.declared.items.Item.{Item}
use Rattle.ada_expr_parser.specs.Tests.{same, symbol, word}
use Rattle.ada_expr_parser.specs.Grammar.{symbol_item, word_item}
use Rattle.ada_parser.proofs.expression_laws.Tokens.{symbol_is, symbol_takes}
use Rattle.ada_parser.proofs.expression_laws.Primaries.{no_place}
use Rattle.ada_phrase_parser.specs.Spelling.{Spelling, ◌▷◌, Key, Named, Behind, Separated}
use Rattle.ada_phrase_parser.specs.Phrases.{Names, Mode, IsFormal, Formals}
use Rattle.ada_phrase_parser.specs.Reading as reading
use Rattle.ada_parser.proofs.KitPieces.{KeyAt, same_grouped}
use Rattle.ada_parser.proofs.KitReading.{Made, made_key, made_bind, made_then, made_pure, law_word, law_last, law_more, starts_key, starts_last, key_taken, taken_key}
use Rattle.common_lemmas.proofs.Options.{some_same}

-- ---- modes

abbrev EndsMode : Item → Type 0
EndsMode x = (symbol key.In x ≡ None) × (symbol key.Out x ≡ None)

abbrev OutOr : ParMode → Texts Item ParMode
OutOr m = Or (Then (One (symbol key.Out)) (λ at. Is m)) (Is modes.Take)

law_out_or : (d : ℕ) (m : ParMode) → Lawful d (on (symbol key.Out) (λ at. pure m) (pure modes.Take)) (on (symbol key.Out) (λ at. pure m) (pure modes.Take)) (OutOr m) EndsMode
law_out_or d m = law_on {test = symbol key.Out} (λ at. law_pure d m EndsMode) (law_pure d modes.Take EndsMode).careful (starts_is (λ x stop. stop.1))
    (symbol_item key.Out no_place) no_place (symbol_takes key.Out no_place)

out_no_in : (at : Span) → symbol key.In (symbol_item key.Out at) ≡ None
unfolding same
out_no_in at = refl

abbrev ModeTexts : Texts Item ParMode
ModeTexts = Or (Then (One (symbol key.In)) (λ at. OutOr modes.Both)) (OutOr modes.Give)

one_key : (d : ℕ) (m n : ParMode) (text : List Item) → Then (One (symbol key.Out)) (λ at. Is m) d n text → (n ≡ m) × Key key.Out text
one_key d m n text is =
    let (front, back, from, (at, one), (same, none)) = key_taken key.Out (Is m) d n text is in
    (same, (at, from ∙ ap (λ l. front ++ l) none ∙ append-nil front ∙ one))

key_one : (d : ℕ) (m : ParMode) (text : List Item) → Key key.Out text → Then (One (symbol key.Out)) (λ at. Is m) d m text
key_one d m text is = taken_key key.Out (Is m) d m text (text, [], sym (append-nil text), is, (refl, refl))

mode_is : (d : ℕ) (m : ParMode) (text : List Item) → ModeTexts d m text → Mode m text
mode_is d m text (inl is) = by (key_taken key.In (OutOr modes.Both) d m text is) where
  by : (Key key.In ▷ OutOr modes.Both d m) text → Mode m text
  by (front, back, from, mark, inl out) = let (same, one) = one_key d modes.Both m back out in rw same (front, back, from, mark, one)
  by (front, back, from, (at, one), inr (same, none)) = rw same (inr (at, from ∙ ap (λ l. front ++ l) none ∙ append-nil front ∙ one))
mode_is d m text (inr (inl out)) = let (same, one) = one_key d modes.Give m text out in rw same one
mode_is d m text (inr (inr (same, none))) = rw same (inl none)

is_mode : (d : ℕ) (m : ParMode) (text : List Item) → Mode m text → ModeTexts d m text
is_mode d modes.Take text (inl none) = inr (inr (refl, none))
is_mode d modes.Take text (inr is) = inl (taken_key key.In (OutOr modes.Both) d modes.Take text (text, [], sym (append-nil text), is, inr (refl, refl)))
is_mode d modes.Give text is = inr (inl (key_one d modes.Give text is))
is_mode d modes.Both text (front, back, from, mark, one) = inl (taken_key key.In (OutOr modes.Both) d modes.Both text (front, back, from, mark, inl (key_one d modes.Both back one)))

abbrev Modes : Texts Item ParMode
Modes d m text = Mode m text

law_mode : (d : ℕ) → Lawful d reading.mode reading.mode Modes EndsMode
law_mode d = law_fit (λ e deep m text is. mode_is e m text is) (is_mode d)
    (law_on {test = symbol key.In} (λ at. law_out_or d modes.Both) (law_out_or d modes.Give).careful
    (starts_or (starts_token (λ k at some. rw (symbol_is key.Out k at some) (out_no_in at))) (starts_is (λ x stop. stop.0)))
    (symbol_item key.In no_place) no_place (symbol_takes key.In no_place))

-- ---- formals

abbrev formal_of : Word → List Word → ParMode → Word → PFormal
formal_of w more m mark = record { names = w ∷ more; mode = m; mark = mark }

abbrev MarkTexts : Word → List Word → Texts Item PFormal
MarkTexts w more = Made {V = ParMode × Word} (λ v. formal_of w more v.0 v.1) (λ d v. Mode v.0 ▷ Named v.1)

abbrev FromTexts : Word → Texts Item PFormal
FromTexts w = Made {V = List Word × (ParMode × Word)} (λ v. formal_of w v.0 v.1.0 v.1.1) (λ d v. Behind (Key key.Comma) Named v.0 ▷ Key key.Colon ▷ Mode v.1.0 ▷ Named v.1.1)

pub colon_names : (at : Span) → IsPassed (symbol key.Comma) (symbol_item key.Colon at)
unfolding same
colon_names at = refl

-- a formal behind its first name
abbrev pub FormalBehind : Word → Texts Item PFormal
FormalBehind w d x text = IsFormal x (word_item w ∷ text)

formal_is : (w : Word) (d : ℕ) (x : PFormal) (text : List Item) → FromTexts w d x text → FormalBehind w d x text
formal_is w d x text ((more, (m, mark)), same, (front, back, from, names, rest)) =
    rw same (word_item w ∷ front, back, ap (λ l. word_item w ∷ l) from, (word_item w ∷ [], front, refl, refl, names), rest)

abbrev tail_of : List Item → List Item
tail_of [] = []
tail_of (x ∷ list) = list

-- the same first name
pub word_same : (v w : Word) (back text : List Item) → word_item w ∷ text ≡ word_item v ∷ back → v ≡ w
word_same v w back text from = some_same (sym (ap word (ap (first_of (word_item w)) from)))

names_formal : (w : Word) (d : ℕ) (ws : List Word) (m : ParMode) (mark : Word) (text : List Item) → (Names ws ▷ Key key.Colon ▷ Mode m ▷ Named mark) (word_item w ∷ text) → FromTexts w d (record { names = ws; mode = m; mark = mark }) text
names_formal w d [] m mark text (front, back, from, never, rest) = absurd never
names_formal w d (v ∷ more) m mark text (front, back, from, (f, b, split, one, names), rest) =
    let whole : word_item w ∷ text ≡ word_item v ∷ (b ++ back) = from ∙ ap (λ l. l ++ back) (split ∙ ap (λ l. l ++ b) one) in
    ((more, (m, mark)), ap (λ u. record { names = u ∷ more; mode = m; mark = mark }) (word_same v w (b ++ back) text whole), (b, back, ap tail_of whole, names, rest))

law_formal_from : (d : ℕ) (w : Word) (S : Item → Type 0) → Lawful d (reading.formal_from w) (reading.formal_from w) (FormalBehind w) S
law_formal_from d w S = law_fit (λ e deep x text is. formal_is w e x text is) (λ x text is. names_formal w d x.names x.mode x.mark text is)
    (made_bind {R = IsPassed (symbol key.Comma)} (λ more v. formal_of w more v.0 v.1) (λ more d v. Key key.Colon ▷ Mode v.0 ▷ Named v.1)
    (law_more key.Comma {U = Anything} (law_word d Anything) (λ at. tt) (λ x stop. tt) (λ x stop. stop))
    (λ more. made_key key.Colon (λ v. formal_of w more v.0 v.1) (λ d v. Mode v.0 ▷ Named v.1)
    (made_bind (λ m mark. formal_of w more m mark) (λ m d mark. Named mark) (law_mode d)
    (λ m. made_pure (λ mark. formal_of w more m mark) (law_word d S))
    (λ m. record { begins_with = λ a text x (mark, same, one) stop. rw one (refl, refl) })))
    (λ more. starts_key key.Colon (λ v. formal_of w more v.0 v.1) (λ d v. Mode v.0 ▷ Named v.1) colon_names))

abbrev pub FormalTexts : Texts Item PFormal
FormalTexts d x text = IsFormal x text

formals_behind : (d : ℕ) (x : PFormal) (text : List Item) → Then (λ d w. Named w) FormalBehind d x text → IsFormal x text
formals_behind d x text (w, front, back, from, one, is) = subst (IsFormal x) (sym (from ∙ ap (λ l. l ++ back) one)) is

-- a formal begins with a name
formal_name : (ws : List Word) (Q : Spelling) (text : List Item) → (Names ws ▷ Q) text → (w : Word) × (back : List Item) × (text ≡ word_item w ∷ back)
formal_name [] Q text (front, back, from, never, rest) = absurd never
formal_name (w ∷ more) Q text (front, back, from, (f, b, split, one, names), rest) = (w, b ++ back, from ∙ ap (λ l. l ++ back) (split ∙ ap (λ l. l ++ b) one))

behind_formals : (d : ℕ) (x : PFormal) (text : List Item) → IsFormal x text → Then (λ d w. Named w) FormalBehind d x text
behind_formals d x text is =
    let (w, back, from) = formal_name x.names (Key key.Colon ▷ Mode x.mode ▷ Named x.mark) text is in
    (w, word_item w ∷ [], back, from, refl, subst (IsFormal x) from is)

pub law_formal : (d : ℕ) (S : Item → Type 0) → Lawful d reading.formal reading.formal FormalTexts S
law_formal d S = law_fit (λ e deep x text is. formals_behind e x text is) (behind_formals d) (law_then (law_word d Anything) (λ w. law_formal_from d w S))

-- ---- formals in parentheses

-- formals behind their first name, with the closing parenthesis
abbrev pub FormalsBehind : Word → Texts Item (List PFormal)
FormalsBehind w d fs text = (Separated (Key key.Semicolon) IsFormal fs ▷ Key key.RightParen) (word_item w ∷ text)

abbrev ListTexts : Word → Texts Item (List PFormal)
ListTexts w = Made {V = PFormal × (List PFormal × Span)} (λ v. v.0 ∷ v.1.0) (λ d v. FormalBehind w d v.0 ▷ Behind (Key key.Semicolon) IsFormal v.1.0 ▷ KeyAt key.RightParen v.1.1)

list_is : (w : Word) (d : ℕ) (fs : List PFormal) (text : List Item) → ListTexts w d fs text → FormalsBehind w d fs text
list_is w d fs text ((x, (more, close)), same, (front, back, from, is, (f, b, split, many, one))) =
    rw same ((same_grouped (IsFormal x) (Behind (Key key.Semicolon) IsFormal more) (Key key.RightParen)).to (word_item w ∷ text)
    (word_item w ∷ front, back, ap (λ l. word_item w ∷ l) from, is, (f, b, split, many, (close, one))))

is_list : (w : Word) (d : ℕ) (fs : List PFormal) (text : List Item) → FormalsBehind w d fs text → ListTexts w d fs text
is_list w d [] text (front, back, from, never, one) = absurd never
is_list w d (x ∷ more) text is = by ((same_grouped (IsFormal x) (Behind (Key key.Semicolon) IsFormal more) (Key key.RightParen)).back (word_item w ∷ text) is) where
  by : (IsFormal x ▷ Behind (Key key.Semicolon) IsFormal more ▷ Key key.RightParen) (word_item w ∷ text) → ListTexts w d (x ∷ more) text
  by ([], back, from, first, rest) = let (v, b, none) = formal_name x.names (Key key.Colon ▷ Mode x.mode ▷ Named x.mark) [] first in absurd (not_empty [] (word_item v) b none)
  by (y ∷ front, back, from, first, (f, b, split, many, (close, one))) =
      ((x, (more, close)), refl, (front, back, ap tail_of from, subst (λ k. IsFormal x (k ∷ front)) (sym (ap (first_of y) from)) first, (f, b, split, many, one)))

semicolon_ends : (at : Span) → symbol key.Semicolon (symbol_item key.RightParen at) ≡ None
unfolding same
semicolon_ends at = refl

pub law_formals_from : (d : ℕ) (w : Word) (S : Item → Type 0) → Lawful d (reading.formals_from w) (reading.formals_from w) (FormalsBehind w) S
law_formals_from d w S = law_fit (λ e deep fs text is. list_is w e fs text is) (is_list w d)
    (made_then (λ x v. x ∷ v.0) (λ x d v. Behind (Key key.Semicolon) IsFormal v.0 ▷ KeyAt key.RightParen v.1) (law_formal_from d w Anything)
    (λ x. made_bind {R = IsPassed (symbol key.Semicolon)} (λ more close. x ∷ more) (λ more d close. KeyAt key.RightParen close)
    (law_more key.Semicolon {U = Anything} (law_formal d Anything) (λ at. tt) (λ y stop. tt) (λ y stop. stop))
    (λ more. law_last d key.RightParen (λ close. x ∷ more) S)
    (λ more. starts_last key.RightParen (λ close. x ∷ more) semicolon_ends)))

-- formals behind their opening parenthesis
abbrev pub FormalsIn : Span → Texts Item (List PFormal)
FormalsIn lead d fs text = Formals fs (symbol_item key.LeftParen lead ∷ text)

abbrev pub SomeFormals : Texts Item (List PFormal)
SomeFormals d fs text = (Separated (Key key.Semicolon) IsFormal fs ▷ Key key.RightParen) text

pub first_name : (d : ℕ) (fs : List PFormal) (text : List Item) → SomeFormals d fs text → (w : Word) × (back : List Item) × (text ≡ word_item w ∷ back)
first_name d [] text (front, back, from, never, one) = absurd never
first_name d (x ∷ more) text (front, back, from, (f, b, split, is, many), one) =
    let (w, rest, first) = formal_name x.names (Key key.Colon ▷ Mode x.mode ▷ Named x.mark) f is in
    (w, (rest ++ b) ++ back, from ∙ ap (λ l. l ++ back) (split ∙ ap (λ l. l ++ b) first))

some_is_behind : (d : ℕ) (fs : List PFormal) (text : List Item) → Then (λ d w. Named w) FormalsBehind d fs text → SomeFormals d fs text
some_is_behind d fs text (w, front, back, from, one, is) = subst (SomeFormals d fs) (sym (from ∙ ap (λ l. l ++ back) one)) is

behind_is_some : (d : ℕ) (fs : List PFormal) (text : List Item) → SomeFormals d fs text → Then (λ d w. Named w) FormalsBehind d fs text
behind_is_some d fs text is = let (w, back, from) = first_name d fs text is in (w, word_item w ∷ [], back, from, refl, subst (SomeFormals d fs) from is)

law_some_formals : (d : ℕ) (S : Item → Type 0) → Lawful d (bind (token word) reading.formals_from) (bind (token word) reading.formals_from) SomeFormals S
law_some_formals d S = law_fit (λ e deep fs text is. some_is_behind e fs text is) (behind_is_some d) (law_then (law_word d Anything) (λ w. law_formals_from d w S))

abbrev pub FormalsTexts : Texts Item (List PFormal)
FormalsTexts d fs text = Formals fs text

pub whole_formals : (d : ℕ) (fs : List PFormal) (text : List Item) → (Key key.LeftParen ▷ SomeFormals d fs) text → Formals fs text
whole_formals d [] text (front, back, from, mark, (f, b, split, never, one)) = absurd never
whole_formals d (x ∷ more) text is = is

formals_are : (d : ℕ) (fs : List PFormal) (text : List Item) → Or (Then (One (symbol key.LeftParen)) (λ lead. SomeFormals)) (Is []) d fs text → Formals fs text
formals_are d fs text (inl is) = whole_formals d fs text (key_taken key.LeftParen SomeFormals d fs text is)
formals_are d fs text (inr (same, none)) = rw same none

are_formals : (d : ℕ) (fs : List PFormal) (text : List Item) → Formals fs text → Or (Then (One (symbol key.LeftParen)) (λ lead. SomeFormals)) (Is []) d fs text
are_formals d [] text none = inr (refl, none)
are_formals d (x ∷ more) text is = inl (taken_key key.LeftParen SomeFormals d (x ∷ more) text is)

-- what ends formals, where there may be none
abbrev pub EndsFormals : Item → Type 0
EndsFormals x = symbol key.LeftParen x ≡ None

pub law_formals : (d : ℕ) → Lawful d reading.formals reading.formals FormalsTexts EndsFormals
law_formals d = law_fit (λ e deep fs text is. formals_are e fs text is) (are_formals d)
    (law_on {test = symbol key.LeftParen} (λ lead. law_some_formals d EndsFormals) (law_pure d [] EndsFormals).careful (starts_is (λ x stop. stop))
    (symbol_item key.LeftParen no_place) no_place (symbol_takes key.LeftParen no_place))

-- which item begins what stands behind the first name of formals
pub formals_start : (d : ℕ) (w : Word) (S R : Item → Type 0) → ((at : Span) → R (symbol_item key.Comma at)) → ((at : Span) → R (symbol_item key.Colon at)) → Starts d (FormalsBehind w) S R
formals_start d w S R comma colon = record { begins_with = begins } where
  names : (more : List Word) (front back rest : List Item) (y : Item) → Behind (Key key.Comma) Named more front → (Key key.Colon ▷ (λ text. Unit {0})) back → R (first_of y (front ++ (back ++ rest)))
  names [] front back rest y none (f, b, from, (at, one), more) = rw none (rw from (rw one (colon at)))
  names (v ∷ more) front back rest y (f, b, from, (at, one), more') is = rw from (rw one (comma at))

  begins : (fs : List PFormal) (text : List Item) (y : Item) → FormalsBehind w d fs text → S y → R (first_of y text)
  begins fs text y is stop = by (is_list w d fs text is) where
    by : ListTexts w d fs text → R (first_of y text)
    by ((x, v), same, (front, back, from, first, rest)) =
        let (n, eq, (f, b, split, more, (f2, b2, from2, mark, last))) = names_formal w d x.names x.mode x.mark front first in
        rw from (rw split (rw (append_assoc f b back) (names n.0 f b back y more (f2, b2, from2, mark, tt))))
