-- What may stand behind `PUT (`: parts up to the end of the statement, or the index of a variable or a task (5.2, 9.5, this project's PUT, after 14.3.6).
use Rattle.std.proofs.Common.{◌≡◌, ℕ, zero, suc, Bool, true, false, true≢false, ◌⊎◌, inl, inr, List, [], ◌∷◌, ◌++◌, Some, None, refl, sym, ap, ◌∙◌, subst, arith}
use Rattle.std.specs.Prelude.{if◌then◌else◌}
use Rattle.std.proofs.lemmas.List.{append_assoc, append-nil}
use Rattle.ada_tree.specs.declared.naming.Span.{Span}
use Rattle.ada_tree.specs.declared.naming.Word.{Word}
use Rattle.ada_tree.specs.declared.expressions.UnaryOp.{UnaryOp}
use Rattle.ada_tree.specs.declared.expressions.UnaryOp.TheVariants as unary
use Rattle.ada_tree.specs.PlainExpr.{PExpr, EInteger, EName, EIndex, EAttribute, EAttributeOf, EParen, EUnary, EBinary}
use Rattle.ada_tree.specs.PlainStmt.{PPart, PWords, PValue, PStmt}
use Rattle.ada_lexer.specs.declared.symbols.Symbol.TheVariants as key
use Rattle.ada_expr_parser.specs.declared.items.ItemKind.{ItemKind}
use Rattle.ada_expr_parser.specs.declared.items.ItemKind.TheVariants as item
use Rattle.ada_expr_parser.specs.declared.items.Item.{Item}
use Rattle.ada_expr_parser.specs.declared.levels.Level.TheVariants.{Logical}
use Rattle.ada_expr_parser.specs.Tests.{same, symbol, begins_in, begins_expr}
use Rattle.ada_expr_parser.specs.Trees.{from_to}
use Rattle.ada_expr_parser.specs.Grammar.{symbol_item, word_item, number_item, prefix_symbol, Spells, IsEnclosed}
use Rattle.ada_expr_parser.specs.readers.Readers.{Reader, pure, on}
use Rattle.ada_expr_parser.specs.readers.Grammars.{Texts, Is, One, Then, Or, Starts}
use Rattle.ada_expr_parser.specs.readers.Lawful.{Lawful, Anything, IsPassed}
use Rattle.ada_expr_parser.proofs.readers.Basics.{not_empty}
use Rattle.ada_expr_parser.proofs.readers.Binding.{law_pure, careful_bind}
use Rattle.ada_expr_parser.proofs.readers.Choosing.{law_on}
use Rattle.ada_expr_parser.proofs.readers.Looking.{careful_look}
use Rattle.ada_expr_parser.proofs.readers.Fitting.{starts_is, starts_or, starts_then, law_fit}
use Rattle.ada_parser.specs.expression_laws.Stopping.{Ends}
use Rattle.ada_parser.proofs.expression_laws.Tokens.{symbol_takes, none_is}
use Rattle.ada_parser.proofs.expression_laws.Primaries.{no_place, close_ends}
use Rattle.ada_parser.proofs.expression_laws.Plainly.{after_symbol, symbol_then}
use Rattle.ada_parser.proofs.expression_laws.Calling.{of_name}
use Rattle.ada_phrase_parser.specs.Spelling.{Source, Key, ◌▷◌, Behind, Separated, said_at, is_graphic}
use Rattle.ada_phrase_parser.specs.Phrases.{NestedExpr, IsPart, PutText}
use Rattle.ada_phrase_parser.specs.Reading.{is_symbol, key_then, more_behind, part, string, string_in}
use Rattle.ada_simple_stmt_parser.specs.inner.ReadingSimple.{assign_or_call, put_more, put_behind, put_rest}
use Rattle.ada_parser.proofs.Narrowing.{Narrow, narrow_where, narrow_starts}
use Rattle.ada_parser.proofs.KitPieces.{KeyAt, after_key}
use Rattle.ada_parser.proofs.KitReading.{Made, Both, made_bind, made_key, law_key, law_closed, law_more, starts_key}
use Rattle.ada_parser.proofs.KitDeeper.{operand_careful}
use Rattle.ada_parser.proofs.KitLeading.{symbol_at, is_itself}
use Rattle.ada_parser.proofs.WordCalls.{AssignTexts, law_assign, assign_no_end, key_starts, TargetThen}
use Rattle.common_lemmas.proofs.Options.{some_same}

-- ---- an expression one level deeper

abbrev pub OperandTexts : Texts Item PExpr
OperandTexts d e text = NestedExpr d e text

-- the text begins with such an item
abbrev pub BeginsSo : (Item → Bool) → List Item → Type 0
BeginsSo test text = (k : Item) × (more : List Item) × (text ≡ k ∷ more) × (test k ≡ true)

pub prefix_begins : (op : UnaryOp) (at : Span) → begins_expr (symbol_item (prefix_symbol op) at) ≡ true
unfolding same
prefix_begins unary.Plus at = refl
prefix_begins unary.Minus at = refl
prefix_begins unary.Abs at = refl
prefix_begins unary.Not at = refl

pub paren_begins : (at : Span) → begins_expr (symbol_item key.LeftParen at) ≡ true
unfolding same
paren_begins at = refl

-- each expression has a first item, and this begins one
expr_begins : (e : PExpr) (text : List Item) → Spells e text → BeginsSo begins_expr text
expr_begins (EInteger n s) text from = (number_item n s, [], from, refl)
expr_begins (EName a s) text from = (word_item (record { name = a; span = s }), [], from, refl)
expr_begins (EIndex w e s) text (part, lead, close, spelled, from, place) = (word_item w, symbol_item key.LeftParen lead ∷ (part ++ symbol_item key.RightParen close ∷ []), from, refl)
expr_begins (EAttribute m w s) text (tick, from, place) = (word_item m, symbol_item key.Tick tick ∷ word_item w ∷ [], from, refl)
expr_begins (EAttributeOf m w e s) text (part, tick, lead, close, spelled, from, place) =
    (word_item m, symbol_item key.Tick tick ∷ word_item w ∷ symbol_item key.LeftParen lead ∷ (part ++ symbol_item key.RightParen close ∷ []), from, refl)
expr_begins (EParen e s) text (part, lead, close, spelled, from, place) = (symbol_item key.LeftParen lead, part ++ symbol_item key.RightParen close ∷ [], from, paren_begins lead)
expr_begins (EUnary op e s) text (part, at, spelled, fits, from, place) = (symbol_item (prefix_symbol op) at, part, from, prefix_begins op at)
expr_begins (EBinary op l r s) text (front, sign, back, left, spelled, right, fits, from, place) =
    let (k, more, split, is) = expr_begins l front left in (k, more ++ (sign ++ back), from ∙ ap (λ t. t ++ (sign ++ back)) split, is)

pub operand_begins : (d : ℕ) (e : PExpr) (text : List Item) → OperandTexts d e text → BeginsSo begins_expr text
operand_begins zero e text never = absurd never
operand_begins (suc d) e text is = expr_begins e text is.spells

-- an index in parentheses is such an expression
pub enclosed_is : (d : ℕ) (e : PExpr) (back : List Item) (is : IsEnclosed d e back) → OperandTexts d e is.part
enclosed_is zero e back is = let low = is.nested in absurd (omega (arith, low))
enclosed_is (suc d) e back is = record { spells = is.spells; fits = omega arith; nested = let low = is.nested in omega (arith, low) }

pub is_enclosed : (d : ℕ) (e : PExpr) (part : List Item) (lead close : Span) → OperandTexts d e part → IsEnclosed d e (symbol_item key.LeftParen lead ∷ (part ++ symbol_item key.RightParen close ∷ []))
is_enclosed zero e part lead close never = absurd never
is_enclosed (suc d) e part lead close is =
    record { lead = lead; close = close; part = part; spells = is.spells; nested = let low = is.nested in omega (arith, low); text_is = refl }

-- ---- parts

abbrev PartTexts : Source → Texts Item PPart
PartTexts source d p text = IsPart source d p text

-- no expression begins with a string
no_string : (source : Source) (kind : ItemKind) (at : Span) → begins_in kind at ≡ true → string_in source kind at ≡ None
no_string source (item.Integer n) at is = refl
no_string source (item.Name id) at is = refl
no_string source (item.Symbol s) at is = refl
no_string source (item.Duration n) at is = refl
no_string source item.Text at is = absurd (true≢false (sym is))
no_string source item.End at is = absurd (true≢false (sym is))

operand_starts : (source : Source) (d : ℕ) {S : Item → Type 0} → Starts d OperandTexts S (IsPassed (string source))
operand_starts source d = record {
  begins_with = λ e text x is stop. let (k, more, split, yes_is) = operand_begins d e text is in rw split (no_string source k.kind k.span yes_is);
}

abbrev text_item : Span → Item
text_item at = record { kind = item.Text; span = at }

if_some : {A : Type 0} (b : Bool) (x y : A) → (if b then Some x else None) ≡ Some y → (b ≡ true) × (y ≡ x)
if_some true x y e = (refl, sym (some_same e))
if_some false x y e = absurd (none_is e)

string_kind : (source : Source) (kind : ItemKind) (at : Span) (p : PPart) → string_in source kind at ≡ Some p → (kind ≡ item.Text) × (is_graphic (said_at source at) ≡ true) × (p ≡ PWords (said_at source at) at)
string_kind source (item.Integer n) at p e = absurd (none_is e)
string_kind source (item.Name id) at p e = absurd (none_is e)
string_kind source (item.Symbol s) at p e = absurd (none_is e)
string_kind source (item.Duration n) at p e = absurd (none_is e)
string_kind source item.End at p e = absurd (none_is e)
string_kind source item.Text at p e = let (graphic, same) = if_some (is_graphic (said_at source at)) (PWords (said_at source at) at) p e in (refl, graphic, same)

-- a string is a part, at each depth
string_part : (source : Source) (d : ℕ) (k : Item) (p : PPart) → string source k ≡ Some p → PartTexts source d p (k ∷ [])
string_part source d k p some =
    let (kind, graphic, same) = string_kind source k.kind k.span p some in
    subst (λ q. PartTexts source d q (k ∷ [])) (sym same) (ap (λ t. record { kind = t; span = k.span } ∷ []) kind, refl, graphic)

words_string : (source : Source) (d : ℕ) (t : List ℕ) (at : Span) (text : List Item) → PartTexts source d (PWords t at) text → (text ≡ text_item at ∷ []) × (string source (text_item at) ≡ Some (PWords t at))
words_string source d t at text (from, says, graphic) =
    (from, ap (λ b. if b then Some (PWords (said_at source at) at) else None) (ap is_graphic (sym says) ∙ graphic) ∙ ap (λ u. Some (PWords u at)) (sym says))

-- at the start there is a string that says nothing
abbrev start : Span
start = record { start = 0; end = 0 }

some_string : (source : Source) → (p : PPart) × (string source (text_item start) ≡ Some p)
some_string source = (PWords (said_at source start) start, refl)

module _ (source : Source) where
  part_is : (d : ℕ) (p : PPart) (text : List Item) → Or (Then (One (string source)) Is) (Then OperandTexts (λ e. Is (PValue e))) d p text → PartTexts source d p text
  part_is d p text (inl (q, one, back, from, (k, one_is, some), (same, none))) =
      rw (from ∙ ap (λ l. l ++ back) one_is ∙ ap (λ l. k ∷ l) none) (string_part source d k p (some ∙ ap Some (sym same)))
  part_is d p text (inr (e, one, back, from, is, (same, none))) = rw same (subst (OperandTexts d e) (sym (from ∙ ap (λ l. one ++ l) none ∙ append-nil one)) is)

  is_part : (d : ℕ) (p : PPart) (text : List Item) → PartTexts source d p text → Or (Then (One (string source)) Is) (Then OperandTexts (λ e. Is (PValue e))) d p text
  is_part d (PWords t at) text is = let (from, some) = words_string source d t at text is in inl (PWords t at, text_item at ∷ [], [], from, (text_item at, refl, some), (refl, refl))
  is_part d (PValue e) text is = inr (e, text, [], sym (append-nil text), is, (refl, refl))

  pub law_part : (d : ℕ) → Lawful d (part source d) (part source (suc d)) (PartTexts source) (Ends Logical)
  law_part d = law_fit (λ e deep p text is. part_is e p text is) (is_part d)
      (law_on {test = string source} (λ p. law_pure d p (Ends Logical))
      (careful_bind (operand_careful d) (λ e f is. (law_pure d (PValue e) (Ends Logical)).careful) (λ n deep e f is. (PValue e, [], (refl, refl))) (λ e f is. starts_is (λ x stop. stop)))
      (starts_then {T = Anything} (operand_starts source d) (λ e. record { begins_with = λ a text x is stop. tt }))
      (text_item start) (some_string source).0 (some_string source).1)

-- ---- behind a first part

abbrev EndsPart : Item → Type 0
EndsPart x = Ends Logical x × (symbol key.Ampersand x ≡ None)

ampersand_ends : (at : Span) → Ends Logical (symbol_item key.Ampersand at)
unfolding same
ampersand_ends at = (((((refl, refl), refl), refl), refl), refl)

paren_ends : (at : Span) → EndsPart (symbol_item key.RightParen at)
unfolding same
paren_ends at = (close_ends at, refl)

module _ (source : Source) (tree : List PPart → Span → PStmt) (w : Word) where
  abbrev parts_of : PPart → List PPart → Span → PStmt
  parts_of first more close = tree (first ∷ more) (from_to w.span close)

  abbrev pub MoreTexts : PPart → Texts Item PStmt
  MoreTexts first = Made (λ v. parts_of first v.0 v.1) (Both (λ e list. Behind (Key key.Ampersand) (IsPart source e) list) (λ more e close. Key key.RightParen ▷ KeyAt key.Semicolon close))

  law_parts : (d : ℕ) → Lawful d (more_behind key.Ampersand (part source d)) (more_behind key.Ampersand (part source (suc d))) (λ e list. Behind (Key key.Ampersand) (IsPart source e) list) EndsPart
  law_parts d = law_more key.Ampersand (law_part source d) ampersand_ends (λ x stop. stop.0) (λ x stop. stop.1)

  pub law_put_more : (d : ℕ) (first : PPart) → Lawful d (put_more source d tree w first) (put_more source (suc d) tree w first) (MoreTexts first) Anything
  law_put_more d first = made_bind (parts_of first) (λ more e close. Key key.RightParen ▷ KeyAt key.Semicolon close)
      (law_parts d)
      (λ more. made_key key.RightParen (parts_of first more) (λ e close. KeyAt key.Semicolon close) (law_closed d (parts_of first more) Anything))
      (λ more. starts_key key.RightParen (parts_of first more) (λ e close. KeyAt key.Semicolon close) paren_ends)

  -- ---- behind an expression

  abbrev EndTexts : PExpr → Texts Item PStmt
  EndTexts e = Or (Then (One (symbol key.Semicolon)) (λ close. Is (parts_of (PValue e) [] close))) (AssignTexts (of_name w (Some e)))

  abbrev ShutTexts : PExpr → Texts Item PStmt
  ShutTexts e d x = Key key.RightParen ▷ EndTexts e d x

  abbrev shut_rest : ℕ → PExpr → Reader Item PStmt
  shut_rest d e = key_then key.RightParen (on (symbol key.Semicolon) (λ close. pure (parts_of (PValue e) [] close)) (assign_or_call d (of_name w (Some e))))

  law_shut : (d : ℕ) (e : PExpr) → Lawful d (shut_rest d e) (shut_rest (suc d) e) (ShutTexts e) Anything
  law_shut d e = law_key key.RightParen (law_on {test = symbol key.Semicolon} (λ close. law_pure d (parts_of (PValue e) [] close) Anything)
      (law_assign d (of_name w (Some e))).careful (assign_no_end (of_name w (Some e)))
      (symbol_item key.Semicolon no_place) no_place (symbol_takes key.Semicolon no_place))

  close_passes : (at : Span) → is_symbol key.Ampersand (symbol_item key.RightParen at) ≡ false
  unfolding same
  close_passes at = refl

  more_there : (d : ℕ) (first : PPart) (x : PStmt) → MoreTexts first d x [] → ⊥
  more_there d first x (v, same, (f, g, split, parts, (m, n, parted, paren, shut))) =
      not_empty (f ++ m) (symbol_item key.Semicolon v.1) [] (split ∙ ap (λ l. f ++ l) (parted ∙ ap (λ l. m ++ l) shut) ∙ sym (append_assoc f m (symbol_item key.Semicolon v.1 ∷ [])))

  abbrev pub BehindTexts : PExpr → Texts Item PStmt
  BehindTexts e = Or (Narrow (is_symbol key.Ampersand) (MoreTexts (PValue e))) (ShutTexts e)

  pub law_put_behind : (d : ℕ) (e : PExpr) → Lawful d (put_behind source d tree w e) (put_behind source (suc d) tree w e) (BehindTexts e) Anything
  law_put_behind d e = record {
    careful = careful_look (narrow_where (is_symbol key.Ampersand) (law_put_more d (PValue e)).careful (more_there d (PValue e))) (law_shut d e).careful narrow_starts (key_starts key.RightParen (EndTexts e) close_passes);
    some_text = λ n deep. let (x, text, is) = (law_shut d e).some_text n deep in (x, text, inr is);
  }

  behind_starts : (d : ℕ) (e : PExpr) → Starts d (BehindTexts e) Anything (Ends Logical)
  behind_starts d e = starts_or
      (record { begins_with = λ x text k is stop. let (at, named) = symbol_at key.Ampersand is.k is.passes in rw is.text_is (rw named (ampersand_ends at)) })
      (key_starts key.RightParen (EndTexts e) close_ends)

  -- ---- behind the parenthesis

  abbrev pub RestTexts : Texts Item PStmt
  RestTexts = Or (Then (One (string source)) MoreTexts) (Then OperandTexts BehindTexts)

  pub law_put_rest : (d : ℕ) → Lawful d (put_rest source d tree w) (put_rest source (suc d) tree w) RestTexts Anything
  law_put_rest d = law_on {test = string source} (law_put_more d)
      (careful_bind (operand_careful d) (λ e f is. (law_put_behind d e).careful) (λ n deep e f is. (law_put_behind d e).some_text n deep) (λ e f is. behind_starts d e))
      (starts_then {T = Anything} (operand_starts source d) (λ e. record { begins_with = λ a text x is stop. tt }))
      (text_item start) (some_string source).0 (some_string source).1

  -- ---- in plain words

  -- the parts in their parentheses, and the semicolon
  abbrev pub PutSpelled : Texts Item PStmt
  PutSpelled d x text =
      (parts : List PPart) × (close : Span) × (m : List Item) × (x ≡ tree parts (from_to w.span close)) × (text ≡ m ++ (symbol_item key.Semicolon close ∷ [])) × PutText source d parts m

  parts_spelled : (d : ℕ) (first : PPart) (x : PStmt) (lead : Span) (one back : List Item) → PartTexts source d first one → MoreTexts first d x back → PutSpelled d x (symbol_item key.LeftParen lead ∷ (one ++ back))
  parts_spelled d first x lead one back is (v, same, (f, g, split, parts, (m, n, parted, paren, shut))) = (
    first ∷ v.0,
    v.1,
    symbol_item key.LeftParen lead ∷ ((one ++ f) ++ m),
    same,
    ap (λ l. symbol_item key.LeftParen lead ∷ l) (ap (λ l. one ++ l) (split ∙ ap (λ l. f ++ l) (parted ∙ ap (λ l. m ++ l) shut)) ∙ sym (append_assoc one f (m ++ (symbol_item key.Semicolon v.1 ∷ [])))
        ∙ sym (append_assoc (one ++ f) m (symbol_item key.Semicolon v.1 ∷ []))),
    (symbol_item key.LeftParen lead ∷ [], (one ++ f) ++ m, refl, (lead, refl), (one ++ f, m, refl, (one, f, refl, is, parts), paren)),
  )

  alone_spelled : (d : ℕ) (e : PExpr) (x : PStmt) (lead : Span) (one back : List Item) → OperandTexts d e one → ShutTexts e d x back → PutSpelled d x (symbol_item key.LeftParen lead ∷ (one ++ back)) ⊎ TargetThen w d x (symbol_item key.LeftParen lead ∷ (one ++ back))
  alone_spelled d e x lead one back is (m, n, parted, (at, paren), inl end) =
      let (close, more, closed, (same, none)) = after_symbol key.Semicolon (λ close. Is (parts_of (PValue e) [] close)) d x n end in
      inl (parts_spelled d (PValue e) x lead one back is (([], close), same, ([], back, refl, refl, (m, n, parted, (at, paren), closed ∙ ap (λ l. symbol_item key.Semicolon close ∷ l) none))))
  alone_spelled d e x lead one back is (m, n, parted, (at, paren), inr assign) = inr (
    Some e,
    symbol_item key.LeftParen lead ∷ (one ++ (symbol_item key.RightParen at ∷ [])),
    n,
    ap (λ l. symbol_item key.LeftParen lead ∷ l) (ap (λ l. one ++ l) (parted ∙ ap (λ l. l ++ n) paren) ∙ sym (append_assoc one (symbol_item key.RightParen at ∷ []) n)),
    is_enclosed d e one lead at is,
    assign,
  )

  put_is : (d : ℕ) (x : PStmt) (lead : Span) (rest : List Item) → RestTexts d x rest → PutSpelled d x (symbol_item key.LeftParen lead ∷ rest) ⊎ TargetThen w d x (symbol_item key.LeftParen lead ∷ rest)
  put_is d x lead rest (inl (p, one, back, from, (k, one_is, some), more)) =
      rw from (inl (parts_spelled d p x lead one back (rw one_is (string_part source d k p some)) more))
  put_is d x lead rest (inr (e, one, back, from, is, inl more)) = rw from (inl (parts_spelled d (PValue e) x lead one back is more.spells))
  put_is d x lead rest (inr (e, one, back, from, is, inr shut)) = rw from (alone_spelled d e x lead one back is shut)

  abbrev pub PutTexts : Texts Item PStmt
  PutTexts = Or (Then (One (symbol key.LeftParen)) (λ lead. RestTexts)) (AssignTexts (of_name w None))

  pub put_spelled : (d : ℕ) (x : PStmt) (text : List Item) → PutTexts d x text → PutSpelled d x text ⊎ TargetThen w d x text
  put_spelled d x text (inl lead_in) =
      let (lead, rest, from, is) = after_symbol key.LeftParen (λ lead. RestTexts) d x text lead_in in
      rw from (put_is d x lead rest is)
  put_spelled d x text (inr assign) = inr (None, [], text, refl, refl, assign)

  -- and back
  value_rest : (d : ℕ) (e : PExpr) (x : PStmt) (more : List PPart) (close : Span) (f m : List Item) → x ≡ tree (PValue e ∷ more) (from_to w.span close) → Behind (Key key.Ampersand) (IsPart source d) more f → Key key.RightParen m →
      BehindTexts e d x (f ++ (m ++ (symbol_item key.Semicolon close ∷ [])))
  value_rest d e x [] close f m same none paren = rw none (inr (m, symbol_item key.Semicolon close ∷ [], refl, paren, inl (symbol_then key.Semicolon (λ close. Is (parts_of (PValue e) [] close)) d x close [] (same, refl))))
  value_rest d e x (p ∷ more) close f m same (one, rest, from, (at, one_is), parts) paren = inl (record {
    k = symbol_item key.Ampersand at;
    more = rest ++ (m ++ (symbol_item key.Semicolon close ∷ []));
    text_is = ap (λ l. l ++ (m ++ (symbol_item key.Semicolon close ∷ []))) (from ∙ ap (λ l. l ++ rest) one_is);
    passes = is_itself key.Ampersand at;
    spells = ((p ∷ more, close), same, (f, m ++ (symbol_item key.Semicolon close ∷ []), refl, (one, rest, from, (at, one_is), parts), (m, symbol_item key.Semicolon close ∷ [], refl, paren, refl)));
  })

  spelled_rest : (d : ℕ) (x : PStmt) (parts : List PPart) (close : Span) (rest : List Item) → x ≡ tree parts (from_to w.span close) → (Separated (Key key.Ampersand) (IsPart source d) parts ▷ Key key.RightParen) rest →
      RestTexts d x (rest ++ (symbol_item key.Semicolon close ∷ []))
  spelled_rest d x [] close rest same (f, m, split, never, paren) = absurd never
  spelled_rest d x (PWords t at ∷ more) close rest same (whole, m, split, (one, f, parted, is, parts), paren) =
      let (one_is, some) = words_string source d t at one is in
      inl (
        PWords t at,
        text_item at ∷ [],
        f ++ (m ++ (symbol_item key.Semicolon close ∷ [])),
        ap (λ l. l ++ (symbol_item key.Semicolon close ∷ [])) (split ∙ ap (λ l. l ++ m) (parted ∙ ap (λ l. l ++ f) one_is)) ∙ ap (λ l. text_item at ∷ l) (append_assoc f m (symbol_item key.Semicolon close ∷ [])),
        (text_item at, refl, some),
        ((more, close), same, (f, m ++ (symbol_item key.Semicolon close ∷ []), refl, parts, (m, symbol_item key.Semicolon close ∷ [], refl, paren, refl))),
      )
  spelled_rest d x (PValue e ∷ more) close rest same (whole, m, split, (one, f, parted, is, parts), paren) = inr (
    e,
    one,
    f ++ (m ++ (symbol_item key.Semicolon close ∷ [])),
    ap (λ l. l ++ (symbol_item key.Semicolon close ∷ [])) (split ∙ ap (λ l. l ++ m) parted ∙ append_assoc one f m) ∙ append_assoc one (f ++ m) (symbol_item key.Semicolon close ∷ []) ∙ ap (λ l. one ++ l) (append_assoc f m (symbol_item key.Semicolon close ∷ [])),
    is,
    value_rest d e x more close f m same parts paren,
  )

  pub spelled_put : (d : ℕ) (x : PStmt) (text : List Item) → PutSpelled d x text → PutTexts d x text
  spelled_put d x text (parts, close, m, same, from, put) =
      let (lead, rest, split, is) = after_key key.LeftParen (Separated (Key key.Ampersand) (IsPart source d) parts ▷ Key key.RightParen) m put in
      inl (rw (from ∙ ap (λ l. l ++ (symbol_item key.Semicolon close ∷ [])) split)
      (symbol_then key.LeftParen (λ lead. RestTexts) d x lead (rest ++ (symbol_item key.Semicolon close ∷ [])) (spelled_rest d x parts close rest same is)))

  pub target_put : (d : ℕ) (x : PStmt) (text : List Item) → TargetThen w d x text → PutTexts d x text
  target_put d x text (None, back, rest, from, none, assign) = inr (subst (AssignTexts (of_name w None) d x) (sym (from ∙ ap (λ l. l ++ rest) none)) assign)
  target_put d x text (Some e, back, rest, from, is, assign) =
      let whole : text ≡ symbol_item key.LeftParen is.lead ∷ (is.part ++ (symbol_item key.RightParen is.close ∷ rest)) =
      from ∙ ap (λ l. l ++ rest) is.text_is ∙ ap (λ l. symbol_item key.LeftParen is.lead ∷ l) (append_assoc is.part (symbol_item key.RightParen is.close ∷ []) rest) in
      inl (rw whole (symbol_then key.LeftParen (λ lead. RestTexts) d x is.lead (is.part ++ (symbol_item key.RightParen is.close ∷ rest))
      (inr (e, is.part, symbol_item key.RightParen is.close ∷ rest, refl, enclosed_is d e back is, inr (symbol_item key.RightParen is.close ∷ [], rest, refl, (is.close, refl), inr assign)))))
