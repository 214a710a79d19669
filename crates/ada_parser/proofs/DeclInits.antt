-- The laws of shapes and of initial values (3.2.1, 3.6, 4.3.2).
use Rattle.std.proofs.Common.{◌≡◌, ℕ, suc, ◌+◌, ◌≤◌, true, false, true≢false, ◌⊎◌, inl, inr, List, [], ◌∷◌, ◌++◌, length, Some, None, refl, sym, ap, ◌∙◌, subst, arith}
use Rattle.std.specs.Prelude.{is_some, not}
use Rattle.std.proofs.lemmas.List.{append_assoc}
use Rattle.ada_expr_parser.specs.readers.Readers.{Reader, Fault, pure, bind, on, token}
use Rattle.ada_expr_parser.specs.readers.Grammars.{Texts, One, Then, Or, Begins, first_of, Starts}
use Rattle.ada_expr_parser.specs.readers.Lawful.{Careful, Lawful, IsNo, Anything}
use Rattle.ada_expr_parser.proofs.readers.Basics.{not_both, not_empty, tested}
use Rattle.ada_expr_parser.proofs.readers.Binding.{careful_bind}
use Rattle.ada_expr_parser.proofs.readers.Choosing.{law_on}
use Rattle.ada_expr_parser.proofs.readers.Looking.{careful_look}
use Rattle.ada_expr_parser.proofs.readers.Fitting.{law_fit}
use Rattle.ada_tree.specs.declared.naming.Span.{Span}
use Rattle.ada_tree.specs.PlainExpr.{PExpr, EInteger, EName, EIndex, EAttribute, EAttributeOf, EParen, EUnary, EBinary, PSubind, PDrange}
use Rattle.ada_tree.specs.PlainDecl.{PShape, OPlain, OArray, PInit, IOne, IList, IOthers}
use Rattle.ada_tree.specs.declared.expressions.UnaryOp.{UnaryOp}
use Rattle.ada_tree.specs.declared.expressions.UnaryOp.TheVariants as unary
use Rattle.ada_lexer.specs.declared.symbols.Symbol.TheVariants as key
use Rattle.ada_expr_parser.specs.declared.items.ItemKind.TheVariants as item
use Rattle.ada_expr_parser.specs.declared.items.Item.{Item}
use Rattle.ada_expr_parser.specs.declared.levels.Level.TheVariants.{Logical}
use Rattle.ada_expr_parser.specs.Tests.{same, symbol}
use Rattle.ada_expr_parser.specs.Trees.{levels, from_to, in_parens}
use Rattle.ada_expr_parser.specs.Grammar.{symbol_item, word_item, number_item, prefix_symbol, Spells, AreMore}
use Rattle.ada_expr_parser.specs.Parts.{expression, expr_behind, subind}
use Rattle.ada_parser.specs.expression_laws.Stopping.{Ends, EndsMark, EndsRange}
use Rattle.ada_parser.specs.expression_laws.Laws.{first_operand}
use Rattle.ada_parser.proofs.expression_laws.Tokens.{symbol_is, symbol_takes}
use Rattle.ada_parser.proofs.expression_laws.Primaries.{no_place, close_ends}
use Rattle.ada_parser.proofs.expression_laws.Building.{law_subind, law_drange}
use Rattle.ada_parser.proofs.expression_laws.Calling.{comma_ends, a_number}
use Rattle.ada_parser.proofs.expression_laws.Behinds.{Behind, BehindAt, law_levels, behind_spells, spells_behind}
use Rattle.ada_phrase_parser.specs.Spelling.{Spelling, ◌▷◌, Key, IsPlaceOf, last_place}
use Rattle.ada_phrase_parser.specs.Spelling as spelling
use Rattle.ada_phrase_parser.specs.Phrases.{Expression, Drange}
use Rattle.ada_parser.specs.Declarations.{Subind, IsShape, IsInit}
use Rattle.ada_phrase_parser.specs.Reading.{is_symbol, last_key, more_behind}
use Rattle.ada_parser.proofs.KitLeading.{symbol_at, is_itself}
use Rattle.ada_decl_parser.specs.inner.ReadingDeclarations as reading
use Rattle.ada_parser.proofs.KitPieces.{KeyAt, Closing, closing_key, closing_then, placed_key, key_placed, last_append, last_is}
use Rattle.ada_parser.proofs.KitReading.{Made, Both, made_key, made_bind, made_then, made_pure, law_symbol, law_last, law_more, starts_key, starts_last, key_taken, taken_key}
use Rattle.ada_parser.proofs.KitDeeper.{Expressions, law_expression}
use Rattle.ada_parser.proofs.Narrowing.{Narrow, narrow_where, narrow_starts, passed_by, law_either, Room, careful_room}
use Rattle.ada_parser.proofs.expression_laws.Entries.{close_list}
use Rattle.common_lemmas.proofs.Options.{none_there}

abbrev pub Subinds : Texts Item PSubind
Subinds d x text = Subind d x text

abbrev pub Dranges : Texts Item PDrange
Dranges d x text = Drange d x text

-- ---- shapes

pub close_range : (at : Span) → EndsRange (symbol_item key.RightParen at)
unfolding same
close_range at = (((((refl, refl), refl), refl), refl), refl)

-- behind `array`
pub law_array_then : {V A : Type 0} {d : ℕ} {next next' : PDrange → PSubind → Reader Item A} {S : Item → Type 0} (g : PDrange → V → A) (T : PDrange → ℕ → V → Spelling) →
    ((r : PDrange) → Lawful d (bind (subind d) (next r)) (bind (subind (suc d)) (next' r)) (Made (g r) (T r)) S) →
    Lawful d (reading.array_then d next) (reading.array_then (suc d) next') (Made {V = PDrange × V} (λ v. g v.0 v.1) (λ e v. Key key.LeftParen ▷ Drange e v.0 ▷ Key key.RightParen ▷ Key key.Of ▷ T v.0 e v.1)) S
law_array_then {d = d} g T law =
    made_key key.LeftParen (λ v. g v.0 v.1) (Both Dranges (λ r e v. Key key.RightParen ▷ Key key.Of ▷ T r e v))
    (made_bind g (λ r e v. Key key.RightParen ▷ Key key.Of ▷ T r e v) (law_drange d)
    (λ r. made_key key.RightParen (g r) (λ e v. Key key.Of ▷ T r e v) (made_key key.Of (g r) (T r) (law r)))
    (λ r. starts_key key.RightParen (g r) (λ e v. Key key.Of ▷ T r e v) close_range))

abbrev RowTexts : ℕ → PDrange × PSubind → Spelling
RowTexts e v = Key key.LeftParen ▷ Drange e v.0 ▷ Key key.RightParen ▷ Key key.Of ▷ Subind e v.1

abbrev pub Shapes : Texts Item PShape
Shapes d x text = IsShape d x text

shape_is : (d : ℕ) (x : PShape) (text : List Item) → Or (Then (One (symbol key.Array)) (λ at. Made {V = PDrange × PSubind} (λ v. OArray v.0 v.1) RowTexts)) (Made OPlain Subinds) d x text → IsShape d x text
shape_is d x text (inl is) =
    let (front, back, from, mark, (v, same, rest)) = key_taken key.Array (Made {V = PDrange × PSubind} (λ v. OArray v.0 v.1) RowTexts) d x text is in rw same (front, back, from, mark, rest)
shape_is d x text (inr (y, same, is)) = rw same is

is_shape : (d : ℕ) (x : PShape) (text : List Item) → IsShape d x text → Or (Then (One (symbol key.Array)) (λ at. Made {V = PDrange × PSubind} (λ v. OArray v.0 v.1) RowTexts)) (Made OPlain Subinds) d x text
is_shape d (OPlain y) text is = inr (y, refl, is)
is_shape d (OArray r y) text (front, back, from, mark, rest) = inl (taken_key key.Array (Made {V = PDrange × PSubind} (λ v. OArray v.0 v.1) RowTexts) d (OArray r y) text (front, back, from, mark, ((r, y), refl, rest)))

pub law_shape : (d : ℕ) → Lawful d (reading.shape d) (reading.shape (suc d)) Shapes EndsMark
law_shape d = law_fit (λ e deep x text is. shape_is e x text is) (is_shape d)
    (law_on {test = symbol key.Array}
    (λ at. law_array_then OArray (λ r e x. Subind e x) (λ r. made_pure (OArray r) (law_subind d)))
    (made_pure OPlain (law_subind d)).careful
    (record { begins_with = λ a text x (y, same, is) stop. rw is.text_is refl })
    (symbol_item key.Array no_place) no_place (symbol_takes key.Array no_place))

-- ---- behind `( expr`

-- further expressions of a list, and its end
abbrev ListTexts : Span → PExpr → Texts Item PInit
ListTexts lead e = Made {V = List PExpr × Span} (λ v. IList (e ∷ v.0) (from_to lead v.1)) (λ d v. spelling.Behind (Key key.Comma) (Expression d) v.0 ▷ KeyAt key.RightParen v.1)

-- a closing parenthesis, and how the expression goes on
abbrev ParensTexts : Span → PExpr → Texts Item PInit
ParensTexts lead e = Made {V = Span × PExpr} (λ v. IOne v.1) (λ d v. KeyAt key.RightParen v.0 ▷ (λ text. BehindAt Logical (in_parens lead e v.0) v.1 text × (levels v.1 ≤ d)))

abbrev EndsList : Item → Type 0
EndsList x = Ends Logical x × (symbol key.Comma x ≡ None)

abbrev list_reader : ℕ → Span → PExpr → Reader Item PInit
list_reader d lead e = bind (more_behind key.Comma (expression d)) (λ more. last_key key.RightParen (λ close. IList (e ∷ more) (from_to lead close)))

abbrev parens_reader : Span → PExpr → ℕ → Reader Item PInit
parens_reader lead e d = bind (token (symbol key.RightParen)) (λ close. bind (expr_behind d (in_parens lead e close)) (λ whole. pure (IOne whole)))

law_list : (d : ℕ) (lead : Span) (e : PExpr) (S : Item → Type 0) → Lawful d (list_reader d lead e) (list_reader (suc d) lead e) (ListTexts lead e) S
law_list d lead e S = made_bind {R = EndsList} (λ more close. IList (e ∷ more) (from_to lead close)) (λ more d close. KeyAt key.RightParen close)
    (law_more key.Comma (law_expression d) comma_ends (λ x stop. stop.0) (λ x stop. stop.1))
    (λ more. law_last d key.RightParen (λ close. IList (e ∷ more) (from_to lead close)) S)
    (λ more. starts_last key.RightParen (λ close. IList (e ∷ more) (from_to lead close)) close_list)

law_parens : (d : ℕ) (lead : Span) (e : PExpr) → levels e + 1 ≤ d → Lawful d (parens_reader lead e d) (parens_reader lead e (suc d)) (ParensTexts lead e) (Ends Logical)
law_parens d lead e low = made_then (λ close whole. IOne whole) (λ close d whole text. BehindAt Logical (in_parens lead e close) whole text × (levels whole ≤ d))
    (law_symbol d key.RightParen Anything)
    (λ close. made_pure IOne (law_levels (in_parens lead e close) (omega arith) d low))

parens_pass : (lead : Span) (e : PExpr) (n : ℕ) (k : Item) (ts : List Item) → is_symbol key.RightParen k ≡ false → parens_reader lead e n (k ∷ ts) ≡ Fault false (k ∷ ts)
parens_pass lead e n k ts off = rw (none_there (symbol key.RightParen k) off) refl

parens_begin : (lead : Span) (e : PExpr) (k : Item) → is_symbol key.RightParen k ≡ true → Begins (ParensTexts lead e (levels e + 1)) (k ∷ [])
parens_begin lead e k is =
    let (close, from) = symbol_at key.RightParen k is in
    subst (λ l. Begins (ParensTexts lead e (levels e + 1)) (l ∷ [])) (sym from)
    (IOne (in_parens lead e close), [], ((close, in_parens lead e close), refl, (symbol_item key.RightParen close ∷ [], [], refl, refl, (((refl, refl), omega arith), omega arith))))

-- ---- behind `(` and an expression

abbrev BothTexts : Span → PExpr → Texts Item PInit
BothTexts lead e = Or (Narrow (is_symbol key.Comma) (ListTexts lead e)) (Room (levels e + 1) (ParensTexts lead e))

nothing_closes : (lead : Span) (e : PExpr) (d : ℕ) (a : PInit) → ListTexts lead e d a [] → ⊥
nothing_closes lead e d a (v, same, (front, back, from, left, right)) = not_empty front (symbol_item key.RightParen v.1) [] (from ∙ ap (λ l. front ++ l) right)

comma_off : (at : Span) → is_symbol key.Comma (symbol_item key.RightParen at) ≡ false
unfolding same
comma_off at = refl

parens_off : (lead : Span) (e : PExpr) (d : ℕ) → Starts d (Room (levels e + 1) (ParensTexts lead e)) (Ends Logical) (IsNo (is_symbol key.Comma))
parens_off lead e d = record { begins_with = λ a text x (low, (v, same, (front, back, from, one, rest))) stop. rw from (rw one (comma_off v.0)) }

careful_both : (d : ℕ) (lead : Span) (e : PExpr) → levels e ≤ d → Careful d (reading.list_or_parens d lead e) (reading.list_or_parens (suc d) lead e) (BothTexts lead e) (Ends Logical)
careful_both d lead e low = careful_look
    (narrow_where (is_symbol key.Comma) (law_list d lead e (Ends Logical)).careful (nothing_closes lead e d))
    (careful_room (levels e + 1) (parens_reader lead e) (λ n enough. (law_parens n lead e enough).careful) (parens_begin lead e) (parens_pass lead e (levels e + 1)) refl d (omega (arith, low)))
    narrow_starts (parens_off lead e d)

abbrev a_zero : Item
a_zero = number_item 0 no_place

some_list : (d : ℕ) (lead : Span) (e : PExpr) → (a : PInit) × (text : List Item) × BothTexts lead e d a text
some_list d lead e = (
  IList (e ∷ EInteger 0 no_place ∷ []) (from_to lead no_place),
  symbol_item key.Comma no_place ∷ a_zero ∷ symbol_item key.RightParen no_place ∷ [],
  inl (record {
    k = symbol_item key.Comma no_place;
    more = a_zero ∷ symbol_item key.RightParen no_place ∷ [];
    text_is = refl;
    passes = is_itself key.Comma no_place;
    spells = (
      (EInteger 0 no_place ∷ [], no_place),
      refl,
      (
        symbol_item key.Comma no_place ∷ a_zero ∷ [],
        symbol_item key.RightParen no_place ∷ [],
        refl,
        (symbol_item key.Comma no_place ∷ [], a_zero ∷ [], refl, (no_place, refl), (a_zero ∷ [], [], refl, a_number d, refl)),
        refl,
      ),
    );
  }),
)

both_start : (lead : Span) (e : PExpr) (d : ℕ) → Starts d (BothTexts lead e) (Ends Logical) (Ends Logical)
both_start lead e d = record { begins_with = begins } where
  begins : (a : PInit) (text : List Item) (x : Item) → BothTexts lead e d a text → Ends Logical x → Ends Logical (first_of x text)
  begins a text x (inl is) stop = let (at, from) = symbol_at key.Comma is.k is.passes in rw is.text_is (subst (Ends Logical) (sym from) (comma_ends at))
  begins a text x (inr (low, (v, same, (front, back, from, one, rest)))) stop = rw from (rw one (close_ends v.0))

-- `others => expr )` behind `(`
abbrev OthersTexts : Span → Texts Item PInit
OthersTexts lead = Made {V = PExpr × Span} (λ v. IOthers v.0 (from_to lead v.1)) (λ d v. Key key.Arrow ▷ Expression d v.0 ▷ KeyAt key.RightParen v.1)

law_others : (d : ℕ) (lead : Span) (S : Item → Type 0) → Lawful d (reading.others_init d lead) (reading.others_init (suc d) lead) (OthersTexts lead) S
law_others d lead S = made_key key.Arrow (λ v. IOthers v.0 (from_to lead v.1)) (Both Expressions (λ e d close. KeyAt key.RightParen close))
    (made_bind {R = Ends Logical} (λ e close. IOthers e (from_to lead close)) (λ e d close. KeyAt key.RightParen close) (law_expression d)
    (λ e. law_last d key.RightParen (λ close. IOthers e (from_to lead close)) S)
    (λ e. starts_last key.RightParen (λ close. IOthers e (from_to lead close)) close_ends))

abbrev OpenTexts : Span → Texts Item PInit
OpenTexts lead = Or (Then (One (symbol key.Others)) (λ at. OthersTexts lead)) (Then Expressions (BothTexts lead))

-- no expression is empty
abbrev pub an_end : Item
an_end = record { kind = item.End; span = no_place }

end_ends : Ends Logical an_end
end_ends = (((((refl, refl), refl), refl), refl), refl)

end_fault : (d : ℕ) → expression d (an_end ∷ []) ≡ Fault false (an_end ∷ [])
end_fault d = refl

no_empty : (e : PExpr) (d : ℕ) → Expression d e [] → ⊥
no_empty e d is = not_both (sym ((law_expression d).careful.complete an_end [] is end_ends) ∙ end_fault d)

-- an expression begins with no `others`
others_fault : (d : ℕ) (at : Span) (ts : List Item) → expression d (symbol_item key.Others at ∷ ts) ≡ Fault false (symbol_item key.Others at ∷ ts)
unfolding same
others_fault d at ts = refl

first_no_others : (k : Item) (more : List Item) (d : ℕ) (e : PExpr) → Expression d e (k ∷ more) → symbol key.Others k ≡ None
first_no_others k more d e is = by (tested (symbol key.Others k)) where
  by : (symbol key.Others k ≡ None) ⊎ ((at : Span) × (symbol key.Others k ≡ Some at)) → symbol key.Others k ≡ None
  by (inl none) = none
  by (inr (at, some)) = absurd (refused (symbol_is key.Others k at some)) where
    refused : k ≡ symbol_item key.Others at → ⊥
    refused from = not_both (sym ((law_expression d).careful.complete an_end [] is end_ends) ∙ ap (λ l. expression d (l ∷ (more ++ an_end ∷ []))) from ∙ others_fault d at (more ++ an_end ∷ []))

law_open : (d : ℕ) (lead : Span) → Lawful d
    (on (symbol key.Others) (λ at. reading.others_init d lead) (bind (expression d) (reading.list_or_parens d lead)))
    (on (symbol key.Others) (λ at. reading.others_init (suc d) lead) (bind (expression (suc d)) (reading.list_or_parens (suc d) lead))) (OpenTexts lead) (Ends Logical)
law_open d lead = law_on {test = symbol key.Others} (λ at. law_others d lead (Ends Logical))
    (careful_bind {R = Ends Logical} (law_expression d).careful (λ e f is. careful_both d lead e is.nested) (λ n deep e f is. some_list n lead e) (λ e f is. both_start lead e d))
    (record { begins_with = begins })
    (symbol_item key.Others no_place) no_place (symbol_takes key.Others no_place) where
      begins : (a : PInit) (text : List Item) (x : Item) → Then Expressions (BothTexts lead) d a text → Ends Logical x → symbol key.Others (first_of x text) ≡ None
      begins a text x (e, [], back, from, is, rest) stop = absurd (no_empty e d is)
      begins a text x (e, k ∷ front, back, from, is, rest) stop = rw from (first_no_others k front d e is)

-- ---- an initial value, in the grammar's words

-- the expressions of a list behind its first
more_is : (d : ℕ) (es : List PExpr) (text : List Item) → spelling.Behind (Key key.Comma) (Expression d) es text → AreMore (suc d) es text
more_is d [] text none = none
more_is d (e ∷ es) text (f, rest, from, (at, one), (front, back, split, is, many)) =
    (at, front, back, is.spells, (let low = is.nested in omega (arith, low)), more_is d es back many, from ∙ ap (λ l. l ++ rest) one ∙ ap (λ l. symbol_item key.Comma at ∷ l) split)

is_more : (d : ℕ) (es : List PExpr) (text : List Item) → AreMore (suc d) es text → spelling.Behind (Key key.Comma) (Expression d) es text
is_more d [] text none = none
is_more d (e ∷ es) text (at, front, back, spells, low, many, from) =
    (symbol_item key.Comma at ∷ [], front ++ back, from, (at, refl), (front, back, refl, record { spells = spells; fits = omega arith; nested = omega (arith, low) }, is_more d es back many))

abbrev OthersShut : ℕ → PExpr → Span → Spelling
OthersShut d e close = Key key.Others ▷ Key key.Arrow ▷ Expression d e ▷ KeyAt key.RightParen close

others_closing : (d : ℕ) (e : PExpr) → Closing (OthersShut d e) (Key key.Others ▷ Key key.Arrow ▷ Expression d e ▷ Key key.RightParen)
others_closing d e = closing_then (Key key.Others) (closing_then (Key key.Arrow) (closing_then (Expression d e) (closing_key key.RightParen)))

-- the items of a list in parentheses
list_text : (lead close : Span) (f m : List Item) → List Item
list_text lead close f m = symbol_item key.LeftParen lead ∷ (f ++ (m ++ symbol_item key.RightParen close ∷ []))

list_stands : (lead close : Span) (f m : List Item) (s : Span) → s ≡ from_to lead close → IsPlaceOf s (list_text lead close f m)
unfolding list_text
list_stands lead close f m s place = place ∙ ap (from_to lead) (sym (last_append lead f (m ++ symbol_item key.RightParen close ∷ []) ∙ last_is (last_place lead f) m (symbol_item key.RightParen close)))

stands_list : (lead close : Span) (f m : List Item) (s : Span) → IsPlaceOf s (list_text lead close f m) → s ≡ from_to lead close
unfolding list_text
stands_list lead close f m s place = place ∙ ap (from_to lead) (last_append lead f (m ++ symbol_item key.RightParen close ∷ []) ∙ last_is (last_place lead f) m (symbol_item key.RightParen close))

some_more : (d : ℕ) (es : List PExpr) (f b : List Item) (close : Span) (k : Item) (more : List Item) → k ∷ more ≡ f ++ b → spelling.Behind (Key key.Comma) (Expression d) es f → b ≡ symbol_item key.RightParen close ∷ [] →
    is_symbol key.Comma k ≡ true → 1 ≤ length es
some_more d [] f b close k more from none one passes =
    absurd (true≢false (sym passes ∙ ap (is_symbol key.Comma) (ap (first_of k) (from ∙ ap (λ l. l ++ b) none ∙ one)) ∙ comma_off close))
some_more d (e ∷ es) f b close k more from many one passes = omega arith

abbrev tail_of : List Item → List Item
tail_of [] = []
tail_of (x ∷ list) = list

abbrev place_in : Span → List Item → Span
place_in at [] = at
place_in at (x ∷ list) = x.span

-- the items of an initial value that begins with this parenthesis
abbrev ParenInits : Span → Texts Item PInit
ParenInits lead d i text = IsInit d i (symbol_item key.LeftParen lead ∷ text)

list_is : (d : ℕ) (lead close : Span) (e : PExpr) (es : List PExpr) (front f : List Item) → Expression d e front → spelling.Behind (Key key.Comma) (Expression d) es f → 1 ≤ length es →
    IsInit d (IList (e ∷ es) (from_to lead close)) (list_text lead close front f)
unfolding list_text
list_is d lead close e es front f is many some =
    ((omega (arith, some), (lead, front, f, close, is.spells, (let low = is.nested in omega (arith, low)), more_is d es f many, refl)), list_stands lead close front f (from_to lead close) refl)

parens_is : (d : ℕ) (lead close : Span) (e whole : PExpr) (front back : List Item) → Spells e front → BehindAt Logical (in_parens lead e close) whole back → levels whole ≤ d →
    IsInit d (IOne whole) (symbol_item key.LeftParen lead ∷ (front ++ (symbol_item key.RightParen close ∷ back)))
parens_is d lead close e whole front back spelled (behind, high) fits =
    record {
      spells = subst (λ l. Spells whole (symbol_item key.LeftParen lead ∷ l)) (append_assoc front (symbol_item key.RightParen close ∷ []) back)
          (behind_spells (in_parens lead e close) whole (symbol_item key.LeftParen lead ∷ (front ++ symbol_item key.RightParen close ∷ [])) back (front, lead, close, spelled, refl, refl) behind);
      fits = high;
      nested = fits;
    }

text_list : (lead close : Span) (front f text back b : List Item) → text ≡ front ++ back → back ≡ f ++ b → b ≡ symbol_item key.RightParen close ∷ [] → symbol_item key.LeftParen lead ∷ text ≡ list_text lead close front f
unfolding list_text
text_list lead close front f text back b from split one = ap (λ l. symbol_item key.LeftParen lead ∷ l) (from ∙ ap (λ l. front ++ l) (split ∙ ap (λ l. f ++ l) one))

open_is : (d : ℕ) (lead : Span) (i : PInit) (text : List Item) → OpenTexts lead d i text → ParenInits lead d i text
open_is d lead i text (inl others) =
    let (front, back, from, mark, (v, same, rest)) = key_taken key.Others (OthersTexts lead) d i text others in
    rw same (placed_key key.LeftParen (others_closing d v.0) lead v.1 text (front, back, from, mark, rest))
open_is d lead i text (inr (e, front, back, from, is, inl narrow)) = by narrow.spells where
  by : ListTexts lead e d i back → ParenInits lead d i text
  by ((es, close), same, (f, b, split, many, one)) =
      rw same (subst (λ l. IsInit d (IList (e ∷ es) (from_to lead close)) l) (sym (text_list lead close front f text back b from split one))
      (list_is d lead close e es front f is many (some_more d es f b close narrow.k narrow.more (sym narrow.text_is ∙ split) many one narrow.passes)))
open_is d lead i text (inr (e, front, back, from, is, inr (low, ((close, whole), same, (f, b, split, one, (behind, fits)))))) =
    rw same (subst (λ l. IsInit d (IOne whole) (symbol_item key.LeftParen lead ∷ l)) (sym (from ∙ ap (λ l. front ++ l) (split ∙ ap (λ l. l ++ b) one)))
    (parens_is d lead close e whole front b is.spells behind fits))

-- the first operand of an expression is no chain, and no higher than the whole
abbrev IsSingle : PExpr → Type 0
IsSingle (EBinary op l r s) = ⊥
IsSingle e = Unit {0}

first_single : (e : PExpr) → IsSingle (first_operand e)
first_single (EBinary op l r s) = first_single l
first_single e = tt

pub first_levels : (e : PExpr) → levels (first_operand e) ≤ levels e
first_levels (EBinary op l r s) = let low = first_levels l in omega (arith, low)
first_levels e = omega arith

open_off : (k : Item) (rest items : List Item) (lead : Span) (text : List Item) → items ≡ k ∷ rest → is_symbol key.LeftParen k ≡ false → (more : List Item) → symbol_item key.LeftParen lead ∷ text ≡ items ++ more → ⊥
open_off k rest items lead text from off more is =
    true≢false (sym (is_itself key.LeftParen lead) ∙ ap (is_symbol key.LeftParen) (ap (first_of k) (is ∙ ap (λ l. l ++ more) from)) ∙ off)

prefix_off : (op : UnaryOp) (at : Span) → is_symbol key.LeftParen (symbol_item (prefix_symbol op) at) ≡ false
unfolding same
prefix_off unary.Plus at = refl
prefix_off unary.Minus at = refl
prefix_off unary.Abs at = refl
prefix_off unary.Not at = refl

paren_first : (p : PExpr) (items more : List Item) (lead : Span) (text : List Item) → IsSingle p → Spells p items → symbol_item key.LeftParen lead ∷ text ≡ items ++ more →
    (e : PExpr) × (close : Span) × (front : List Item) × (p ≡ in_parens lead e close) × Spells e front × (items ≡ symbol_item key.LeftParen lead ∷ (front ++ symbol_item key.RightParen close ∷ []))
paren_first (EInteger n s) items more lead text one spelled is = absurd (open_off (number_item n s) [] items lead text spelled refl more is)
paren_first (EName a s) items more lead text one spelled is = absurd (open_off (word_item (record { name = a; span = s })) [] items lead text spelled refl more is)
paren_first (EIndex w e s) items more lead text one (part, lead', close, spelled, from, place) is = absurd (open_off (word_item w) (symbol_item key.LeftParen lead' ∷ (part ++ symbol_item key.RightParen close ∷ [])) items lead text from refl more is)
paren_first (EAttribute m w s) items more lead text one (tick, from, place) is = absurd (open_off (word_item m) (symbol_item key.Tick tick ∷ word_item w ∷ []) items lead text from refl more is)
paren_first (EAttributeOf m w e s) items more lead text one (part, tick, lead', close, spelled, from, place) is =
    absurd (open_off (word_item m) (symbol_item key.Tick tick ∷ word_item w ∷ symbol_item key.LeftParen lead' ∷ (part ++ symbol_item key.RightParen close ∷ [])) items lead text from refl more is)
paren_first (EParen e s) items more lead text one (part, lead', close, spelled, from, place) is =
    let leads : lead ≡ lead' = ap (place_in lead) (is ∙ ap (λ l. l ++ more) from) in
    (e, close, part, ap (EParen e) (place ∙ ap (λ a. from_to a close) (sym leads)), spelled, from ∙ ap (λ a. symbol_item key.LeftParen a ∷ (part ++ symbol_item key.RightParen close ∷ [])) (sym leads))
paren_first (EUnary op e s) items more lead text one (part, at, spelled, fits, from, place) is = absurd (open_off (symbol_item (prefix_symbol op) at) part items lead text from (prefix_off op at) more is)
paren_first (EBinary op l r s) items more lead text one spelled is = absurd one

at_list : (lead lead' close : Span) (front back : List Item) (s : Span) (text : List Item) → lead ≡ lead' → symbol_item key.LeftParen lead ∷ text ≡ symbol_item key.LeftParen lead' ∷ (front ++ (back ++ symbol_item key.RightParen close ∷ [])) →
    IsPlaceOf s (symbol_item key.LeftParen lead ∷ text) → s ≡ from_to lead close
unfolding list_text
at_list lead lead' close front back s text leads from place =
    stands_list lead' close front back s (subst (IsPlaceOf s) from place) ∙ ap (λ a. from_to a close) (sym leads)

is_list : (d : ℕ) (lead : Span) (es : List PExpr) (s : Span) (text : List Item) → ParenInits lead d (IList es s) text → OpenTexts lead d (IList es s) text
is_list d lead [] s text ((two, never), place) = absurd never
is_list d lead (e ∷ []) s text ((two, enclosed), place) = absurd (omega (arith, two))
is_list d lead (e ∷ x ∷ es) s text ((two, (lead', front, back, close, spells, low, (at, f, b, spells', low', many, split), from)), place) =
    let leads : lead ≡ lead' = ap (place_in lead) from in
    let here : s ≡ from_to lead close = at_list lead lead' close front back s text leads from place in
    inr (
      e,
      front,
      back ++ symbol_item key.RightParen close ∷ [],
      ap tail_of from,
      record { spells = spells; fits = omega arith; nested = omega (arith, low) },
      inl (record {
        k = symbol_item key.Comma at;
        more = (f ++ b) ++ symbol_item key.RightParen close ∷ [];
        text_is = ap (λ l. l ++ symbol_item key.RightParen close ∷ []) split;
        passes = is_itself key.Comma at;
        spells = ((x ∷ es, close), ap (IList (e ∷ x ∷ es)) here, (back, symbol_item key.RightParen close ∷ [], refl, is_more d (x ∷ es) back (at, f, b, spells', low', many, split), refl));
      }),
    )

is_open : (d : ℕ) (lead : Span) (i : PInit) (text : List Item) → ParenInits lead d i text → OpenTexts lead d i text
is_open d lead (IList es s) text is = is_list d lead es s text is
is_open d lead (IOthers e s) text is =
    let (close, place, rest) = key_placed key.LeftParen (others_closing d e) s lead text is in
    let (front, back, from, mark, more) = rest in
    inl (taken_key key.Others (OthersTexts lead) d (IOthers e s) text (front, back, from, mark, ((e, close), ap (IOthers e) place, more)))
is_open d lead (IOne whole) text is =
    let (items, rest, split, spelled, behind) = spells_behind whole (symbol_item key.LeftParen lead ∷ text) is.spells in
    let (e, close, front, first, inner, from) = paren_first (first_operand whole) items rest lead text (first_single whole) spelled split in
    let under : levels e + 1 ≤ levels whole = subst (λ n. n ≤ levels whole) (ap levels first) (first_levels whole) in
    let fits : levels whole ≤ d = is.nested in
    inr (
      e,
      front,
      symbol_item key.RightParen close ∷ rest,
      ap tail_of (split ∙ ap (λ l. l ++ rest) from) ∙ append_assoc front (symbol_item key.RightParen close ∷ []) rest,
      record { spells = inner; fits = omega arith; nested = omega (arith, under, fits) },
      inr (omega (arith, under, fits), ((close, whole), refl, (symbol_item key.RightParen close ∷ [], rest, refl, refl, ((subst (λ p. Behind p whole rest) first behind, is.fits), fits)))),
    )

law_paren_init : (d : ℕ) (lead : Span) → Lawful d
    (on (symbol key.Others) (λ at. reading.others_init d lead) (bind (expression d) (reading.list_or_parens d lead)))
    (on (symbol key.Others) (λ at. reading.others_init (suc d) lead) (bind (expression (suc d)) (reading.list_or_parens (suc d) lead))) (ParenInits lead) (Ends Logical)
law_paren_init d lead = law_fit (λ e deep i text is. open_is e lead i text is) (is_open d lead) (law_open d lead)

-- ---- initial values

abbrev InitTexts : Texts Item PInit
InitTexts = Or (Narrow (passed_by (symbol key.LeftParen)) (Made IOne Expressions)) (Then (One (symbol key.LeftParen)) ParenInits)

abbrev pub Inits : Texts Item PInit
Inits d i text = IsInit d i text

init_is : (d : ℕ) (i : PInit) (text : List Item) → InitTexts d i text → IsInit d i text
init_is d i text (inl narrow) = by narrow.spells where
  by : Made IOne Expressions d i text → IsInit d i text
  by (e, same, is) = rw same is
init_is d i text (inr (lead, one, back, from, (k, one_is, some), rest)) =
    subst (IsInit d i) (sym (from ∙ ap (λ l. l ++ back) one_is ∙ ap (λ t. t ∷ back) (symbol_is key.LeftParen k lead some))) rest

led_by : (k : Item) (more rest : List Item) (lead : Span) → symbol key.LeftParen k ≡ None → k ∷ more ≡ symbol_item key.LeftParen lead ∷ rest → ⊥
led_by k more rest lead none from = true≢false (sym (is_itself key.LeftParen lead) ∙ ap (is_symbol key.LeftParen) (sym (ap (first_of k) from)) ∙ ap is_some none)

passed_init : (d : ℕ) (i : PInit) (k : Item) (more : List Item) → symbol key.LeftParen k ≡ None → IsInit d i (k ∷ more) → Narrow (passed_by (symbol key.LeftParen)) (Made IOne Expressions) d i (k ∷ more)
passed_init d (IOne e) k more none is = record { k = k; more = more; text_is = refl; passes = ap (λ m. not (is_some m)) none; spells = (e, refl, is) }
passed_init d (IList [] s) k more none ((two, never), place) = absurd never
passed_init d (IList (e ∷ es) s) k more none ((two, (lead', front, back, close, spells, low, many, from)), place) = absurd (led_by k more (front ++ (back ++ symbol_item key.RightParen close ∷ [])) lead' none from)
passed_init d (IOthers e s) k more none ((front, back, from, (at, one), rest), place) = absurd (led_by k more back at none (from ∙ ap (λ l. l ++ back) one))

is_init : (d : ℕ) (i : PInit) (text : List Item) → IsInit d i text → InitTexts d i text
is_init d (IOne e) [] is = absurd (no_empty e d is)
is_init d (IList es s) [] (is, never) = absurd never
is_init d (IOthers e s) [] (is, never) = absurd never
is_init d i (k ∷ more) is = by (tested (symbol key.LeftParen k)) where
  by : (symbol key.LeftParen k ≡ None) ⊎ ((lead : Span) × (symbol key.LeftParen k ≡ Some lead)) → InitTexts d i (k ∷ more)
  by (inl none) = inl (passed_init d i k more none is)
  by (inr (lead, some)) = inr (lead, k ∷ [], more, refl, (k, refl, some), subst (λ l. IsInit d i (l ∷ more)) (symbol_is key.LeftParen k lead some) is)

pub law_init : (d : ℕ) → Lawful d (reading.init d) (reading.init (suc d)) Inits (Ends Logical)
law_init d = law_fit (λ e deep i text is. init_is e i text is) (is_init d)
    (law_either (symbol key.LeftParen) (law_paren_init d)
    (narrow_where (passed_by (symbol key.LeftParen)) (made_pure IOne (law_expression d)).careful (λ a (e, same, is). no_empty e d is))
    narrow_starts (symbol_item key.LeftParen no_place) no_place (symbol_takes key.LeftParen no_place))
