-- What is to be proved of the readers of one depth, and the laws of lists of statements from it.
use Rattle.std.proofs.Common.{◌≡◌, ℕ, suc, false, inl, inr, List, [], ◌∷◌, ◌++◌, None, refl, ap}
use Rattle.ada_tree.specs.declared.naming.Span.{Span}
use Rattle.ada_tree.specs.declared.naming.Word.{Word}
use Rattle.ada_tree.specs.PlainExpr.{PExpr, EInteger}
use Rattle.ada_tree.specs.PlainStmt.{PStmt, SNull, PStmts, no_stmt, stmt_then, PMaybe, absent, present, PAccept, PAlt, PHandlers, no_handler, handler_then, stmts_of}
use Rattle.ada_tree.specs.WellPlaced.{OthersLast}
use Rattle.ada_lexer.specs.declared.symbols.Symbol.{Symbol}
use Rattle.ada_lexer.specs.declared.symbols.Symbol.TheVariants as key
use Rattle.ada_expr_parser.specs.declared.items.Item.{Item}
use Rattle.ada_expr_parser.specs.Tests.{same, symbol}
use Rattle.ada_expr_parser.specs.Grammar.{symbol_item, word_item, number_item}
use Rattle.ada_expr_parser.specs.Trees.{from_to}
use Rattle.ada_phrase_parser.specs.Spelling.{Source, Spelling, Nothing, ◌▷◌, Key, Named}
use Rattle.ada_phrase_parser.specs.Phrases.{Expression}
use Rattle.ada_stmt_parser.specs.Statements.{IsStmt, AnyStmts, Stmts, ElsePart, IsAccept, IsAlt, MoreHandlers}
use Rattle.ada_stmt_parser.specs.inner.ReadingStatements.{Readers, begins_stmt, any_stmts, stmts, else_part}
use Rattle.ada_expr_parser.specs.readers.Grammars.{Texts, Is, One, Then, Or, Many, Some_of, Starts, Opens, first_of}
use Rattle.ada_expr_parser.specs.readers.Lawful.{Lawful, Anything}
use Rattle.ada_expr_parser.proofs.readers.Binding.{law_pure}
use Rattle.ada_expr_parser.proofs.readers.Choosing.{law_on}
use Rattle.ada_expr_parser.proofs.readers.Listing.{law_items, law_some_items}
use Rattle.ada_expr_parser.proofs.readers.Fitting.{starts_is, law_fit, law_stops}
use Rattle.ada_parser.proofs.expression_laws.Tokens.{symbol_takes}
use Rattle.ada_parser.proofs.expression_laws.Primaries.{no_place}
use Rattle.ada_parser.proofs.expression_laws.Calling.{a_number}
use Rattle.ada_parser.proofs.KitPieces.{KeyAt, key_then}
use Rattle.ada_parser.proofs.KitReading.{Made, made_pure, made_fit, key_taken, taken_key}

-- what ends statements
abbrev pub EndsStmts : Item → Type 0
EndsStmts x = begins_stmt x ≡ false

-- what ends statements before an else part that may stand there
abbrev pub EndsElse : Item → Type 0
EndsElse x = EndsStmts x × (symbol key.Else x ≡ None)

-- what ends handlers
abbrev pub EndsHandlers : Item → Type 0
EndsHandlers x = EndsStmts x × (symbol key.When x ≡ None)

-- some handlers
abbrev pub IsSomeHandler : PHandlers → Type 0
IsSomeHandler no_handler = ⊥
IsSomeHandler (handler_then x l) = Unit {0}

pub end_stmts : (at : Span) → EndsStmts (symbol_item key.End at)
unfolding same
end_stmts at = refl

pub when_stmts : (at : Span) → EndsStmts (symbol_item key.When at)
unfolding same
when_stmts at = refl

module _ (source : Source) where
  abbrev pub StmtTexts : Texts Item PStmt
  StmtTexts d x text = IsStmt source d x text

  abbrev pub AnyTexts : Texts Item PStmts
  AnyTexts d l text = AnyStmts source d l text

  abbrev pub StmtsTexts : Texts Item PStmts
  StmtsTexts d l text = Stmts source d l text

  abbrev pub ElseTexts : Texts Item PMaybe
  ElseTexts d o text = ElsePart source d o text

  -- what stands behind the word `accept` at this place
  abbrev pub AcceptTexts : Span → Texts Item PAccept
  AcceptTexts lead d a text = IsAccept source d a (symbol_item key.Accept lead ∷ text)

  abbrev pub AltTexts : Texts Item PAlt
  AltTexts d a text = IsAlt source d a text

  -- handlers behind the word `exception`; d levels may stand below each of their statements
  abbrev pub HandlersTexts : Texts Item PHandlers
  HandlersTexts d hs text = OthersLast hs × IsSomeHandler hs × MoreHandlers source (suc d) hs text

  -- The laws of what reads at a depth: statements, an accept behind its first word, alternatives, and handlers where they may stand.
  pub record LevelLaws (d : ℕ) (r deeper : Readers) : Type 0 where
    pub stmt : Lawful d r.stmt deeper.stmt StmtTexts Anything
    pub opens : Opens d StmtTexts begins_stmt
    pub accept : (lead : Span) → Lawful d (r.accept lead) (deeper.accept lead) (AcceptTexts lead) Anything
    pub alt : Lawful d r.alt deeper.alt AltTexts EndsStmts
    pub handlers : (e : ℕ) → d ≡ suc e → Lawful e r.handlers deeper.handlers HandlersTexts EndsHandlers

  -- ---- lists of statements

  any_is : (e : ℕ) (list : List PStmt) (text : List Item) → Many StmtTexts e list text → AnyStmts source e (stmts_of list) text
  any_is e [] text none = none
  any_is e (x ∷ more) text (front, back, from, one, many) = (front, back, from, one, any_is e more back many)

  is_any : (e : ℕ) (l : PStmts) (text : List Item) → AnyStmts source e l text → Made stmts_of (Many StmtTexts) e l text
  is_any e no_stmt text none = ([], refl, none)
  is_any e (stmt_then x l) text (front, back, from, one, rest) =
      let (list, same, many) = is_any e l back rest in
      (x ∷ list, ap (λ k. stmt_then x k) same, (front, back, from, one, many))

  some_is : (e : ℕ) (list : List PStmt) (text : List Item) → Some_of StmtTexts e list text → Stmts source e (stmts_of list) text
  some_is e [] text never = absurd never
  some_is e (x ∷ more) text (front, back, from, one, many) = (front, back, from, one, any_is e more back many)

  is_some_stmt : (e : ℕ) (l : PStmts) (text : List Item) → Stmts source e l text → Made stmts_of (Some_of StmtTexts) e l text
  is_some_stmt e no_stmt text never = absurd never
  is_some_stmt e (stmt_then x l) text (front, back, from, one, rest) =
      let (list, same, many) = is_any e l back rest in
      (x ∷ list, ap (λ k. stmt_then x k) same, (front, back, from, one, many))

  module _ {d : ℕ} {r r' : Readers} (laws : LevelLaws d r r') where
    pub law_any_stmts : Lawful d (any_stmts r) (any_stmts r') AnyTexts EndsStmts
    law_any_stmts = made_fit stmts_of (Many StmtTexts) (λ e list text is. any_is e list text is) (λ e l text is. is_any e l text is)
        (made_pure stmts_of (law_items laws.stmt laws.opens (λ k is. tt) (λ x stop. tt) (λ x stop. stop)))

    pub law_stmts : Lawful d (stmts r) (stmts r') StmtsTexts EndsStmts
    law_stmts = made_fit stmts_of (Some_of StmtTexts) (λ e list text is. some_is e list text is) (λ e l text is. is_some_stmt e l text is)
        (made_pure stmts_of (law_some_items laws.stmt laws.opens (λ k is. tt) (λ x stop. tt) (λ x stop. stop)))

  -- ---- an else part

  abbrev ElsePresent : Texts Item PMaybe
  ElsePresent = Made present StmtsTexts

  else_is : (e : ℕ) (o : PMaybe) (text : List Item) → Or (Then (One (symbol key.Else)) (λ at. ElsePresent)) (Is absent) e o text → ElsePart source e o text
  else_is e o text (inr (same, none)) = rw same none
  else_is e o text (inl taken) =
      let (front, back, from, k, (l, same, is)) = key_taken key.Else ElsePresent e o text taken in
      rw same (front, back, from, k, is)

  is_else : (e : ℕ) (o : PMaybe) (text : List Item) → ElsePart source e o text → Or (Then (One (symbol key.Else)) (λ at. ElsePresent)) (Is absent) e o text
  is_else e absent text none = inr (refl, none)
  is_else e (present l) text (front, back, from, k, is) = inl (taken_key key.Else ElsePresent e (present l) text (front, back, from, k, (l, refl, is)))

  pub law_else : {d : ℕ} {r r' : Readers} → LevelLaws d r r' → Lawful d (else_part r) (else_part r') ElseTexts EndsElse
  law_else {d} laws = law_fit (λ e deep o text is. else_is e o text is) (is_else d)
      (law_on {test = symbol key.Else} (λ at. made_pure present (law_stops (λ x stop. stop.0) (law_stmts laws))) (law_pure d absent EndsElse).careful (starts_is (λ x stop. stop.1))
      (symbol_item key.Else no_place) no_place (symbol_takes key.Else no_place))

  pub else_starts : {d : ℕ} {S R : Item → Type 0} → ((at : Span) → R (symbol_item key.Else at)) → ((x : Item) → S x → R x) → Starts d ElseTexts S R
  else_starts {d} {S} {R} at_else ends = record { begins_with = starts } where
    starts : (o : PMaybe) (text : List Item) (x : Item) → ElsePart source d o text → S x → R (first_of x text)
    starts absent text x none stop = rw none (ends x stop)
    starts (present l) text x (front, back, from, (at, one), is) stop = rw from (rw one (at_else at))
    -- `=> stmts`

abbrev pub ArrowStmts : Source → ℕ → PStmts → Spelling
ArrowStmts source d l = Key key.Arrow ▷ Stmts source d l

-- ---- some text of a piece

abbrev pub Has : Spelling → Type 0
Has P = (text : List Item) × P text

pub has_then : {P Q : Spelling} → Has P → Has Q → Has (P ▷ Q)
has_then (front, left) (back, right) = (front ++ back, (front, back, refl, left, right))

pub has_nothing : Has Nothing
has_nothing = ([], refl)

pub has_key : (s : Symbol) → Has (Key s)
has_key s = (symbol_item s no_place ∷ [], (no_place, refl))

pub has_at : (s : Symbol) (at : Span) → Has (KeyAt s at)
has_at s at = (symbol_item s at ∷ [], refl)

pub has_word : (w : Word) → Has (Named w)
has_word w = (word_item w ∷ [], refl)

-- the number 0, an expression at each depth
abbrev pub zero_is : PExpr
zero_is = EInteger 0 no_place

pub has_zero : (e : ℕ) → Has (Expression e zero_is)
has_zero e = (number_item 0 no_place ∷ [], a_number e)

-- `null ;` and statements that hold it alone
abbrev pub a_null : PStmt
a_null = SNull (from_to no_place no_place)

abbrev pub nulls : PStmts
nulls = stmt_then a_null no_stmt

abbrev null_text : List Item
null_text = symbol_item key.Null no_place ∷ symbol_item key.Semicolon no_place ∷ []

pub has_null : (source : Source) (e : ℕ) → Has (IsStmt source e a_null)
has_null source e = (null_text, (key_then key.Null (Key key.Semicolon) no_place (symbol_item key.Semicolon no_place ∷ []) (no_place, refl), refl))

pub has_nulls : (source : Source) (e : ℕ) → Has (Stmts source e nulls)
has_nulls source e = has_then (has_null source e) has_nothing
