-- The laws of loops, with a name and without.
use Rattle.std.proofs.Common.{◌≡◌, ℕ, suc, Bool, true, false, inl, inr, List, [], ◌∷◌, ◌++◌, Option, Some, None, refl, sym, ap, ◌∙◌, subst}
use Rattle.ada_tree.specs.declared.naming.Span.{Span}
use Rattle.ada_tree.specs.declared.naming.Word.{Word}
use Rattle.ada_tree.specs.declared.expressions.UnaryOp.{UnaryOp}
use Rattle.ada_tree.specs.declared.expressions.UnaryOp.TheVariants as unary
use Rattle.ada_tree.specs.PlainExpr.{PExpr, PDrange, RGiven, RMarked}
use Rattle.ada_tree.specs.PlainStmt.{PScheme, LWhile, LFor, PStmt, SLoop, PStmts}
use Rattle.ada_lexer.specs.declared.symbols.Symbol.TheVariants as key
use Rattle.ada_expr_parser.specs.declared.items.Item.{Item}
use Rattle.ada_expr_parser.specs.declared.levels.Level.TheVariants.{Logical}
use Rattle.ada_expr_parser.specs.Tests.{same, symbol, word}
use Rattle.ada_expr_parser.specs.Grammar.{symbol_item, word_item, prefix_symbol, Spells, IsDrange}
use Rattle.ada_expr_parser.specs.Trees.{from_to}
use Rattle.ada_phrase_parser.specs.Spelling.{Source, Spelling, Nothing, ◌▷◌, IfThere, Key, Named, Placed}
use Rattle.ada_phrase_parser.specs.Phrases.{Expression, Reverse, Drange, IsScheme, LoopName, LoopNameAgain}
use Rattle.ada_stmt_parser.specs.Statements.{IsStmt, Stmts}
use Rattle.ada_phrase_parser.specs.Reading.{again}
use Rattle.ada_phrase_parser.specs.Reading as reading
use Rattle.ada_stmt_parser.specs.inner.ReadingStatements.{Readers, loop_rest, while_rest, for_range, for_rest, named_loop}
use Rattle.ada_compound_parts.specs.inner.ReadingParts.{loop_end}
use Rattle.ada_expr_parser.specs.readers.Grammars.{Texts, Never, One, Then, Or, Starts, first_of}
use Rattle.ada_expr_parser.specs.readers.Lawful.{Lawful, Anything, IsPassed}
use Rattle.ada_expr_parser.proofs.readers.Binding.{law_then}
use Rattle.ada_expr_parser.proofs.readers.Choosing.{law_on}
use Rattle.ada_expr_parser.proofs.readers.Listing.{law_token}
use Rattle.ada_expr_parser.proofs.readers.Fitting.{law_fit, careful_fit, first_append}
use Rattle.ada_parser.specs.expression_laws.Stopping.{Ends, EndsRange}
use Rattle.ada_parser.proofs.expression_laws.Tokens.{symbol_takes}
use Rattle.ada_parser.proofs.expression_laws.Primaries.{no_place, some_word}
use Rattle.ada_parser.proofs.expression_laws.Chains.{spells_first}
use Rattle.ada_parser.proofs.expression_laws.Building.{law_drange}
use Rattle.ada_parser.proofs.KitPieces.{KeyAt, Closing, closing_key, closing_then, placed_key, key_placed, placed_word, word_placed, key_then, behind_key, Same, same_through, same_behind, same_grouped, same_begun, same_turn, after_word}
use Rattle.ada_parser.proofs.KitReading.{Made, Both, made_fit, made_bind, made_then, made_key, law_closed, law_word, starts_key, key_taken, taken_key}
use Rattle.ada_parser.proofs.KitDeeper.{Expressions, law_expression, again_is, again_takes}
use Rattle.ada_parser.proofs.KitLeading.{Led, led_refuse, led_on}
use Rattle.ada_parser.proofs.StmtLevels.{EndsStmts, StmtsTexts, LevelLaws, law_stmts, Has, has_then, has_nothing, has_key, has_at, has_word, zero_is, has_zero, nulls, has_nulls, end_stmts}
use Rattle.ada_parser.proofs.StmtSimple.{LedBelow}
use Rattle.ada_parser.proofs.DeclTypes.{pushed}
use Rattle.common_lemmas.proofs.Options.{some_same}

-- ---- what is spelled alike

pub placed_same : {P Q : Spelling} → Same P Q → (s : Span) (text : List Item) → Placed s P text → Placed s Q text
placed_same same s text (is, place) = (same.to text is, place)

-- `end loop [NAME]` and then this
abbrev LoopEnd : Option Word → Spelling → Spelling
LoopEnd name Z = Key key.End ▷ Key key.Loop ▷ LoopNameAgain name ▷ Z

loop_closing : (name : Option Word) → Closing (λ close. LoopEnd name (KeyAt key.Semicolon close)) (LoopEnd name (Key key.Semicolon))
loop_closing name = closing_then (Key key.End) (closing_then (Key key.Loop) (closing_then (LoopNameAgain name) (closing_key key.Semicolon)))

module _ (source : Source) where
  -- behind the scheme
  abbrev LoopBody : ℕ → PStmts → Spelling → Spelling
  LoopBody e l End = Key key.Loop ▷ Stmts source e l ▷ End

  body_closing : (e : ℕ) (l : PStmts) (name : Option Word) → Closing (λ close. LoopBody e l (LoopEnd name (KeyAt key.Semicolon close))) (LoopBody e l (LoopEnd name (Key key.Semicolon)))
  body_closing e l name = closing_then (Key key.Loop) (closing_then (Stmts source e l) (loop_closing name))

  -- the scheme, the statements and the end, as the grammar groups them
  abbrev LoopInside : ℕ → Option PScheme → PStmts → Spelling
  LoopInside e c l = IfThere c (IsScheme e) ▷ Key key.Loop ▷ Stmts source e l

  inside_same : (e : ℕ) (c : Option PScheme) (l : PStmts) (End : Spelling) → Same (IfThere c (IsScheme e) ▷ LoopBody e l End) (LoopInside e c l ▷ End)
  inside_same e c l End = pushed (IfThere c (IsScheme e)) (same_grouped (Key key.Loop) (Stmts source e l) End)

  abbrev WhileBehind : ℕ → PExpr → PStmts → Spelling → Spelling
  WhileBehind e test l End = Expression e test ▷ LoopBody e l End

  abbrev ForBehind : ℕ → Word → Bool → PDrange → PStmts → Spelling → Spelling
  ForBehind e w b x l End = Named w ▷ Key key.In ▷ Reverse b ▷ Drange e x ▷ LoopBody e l End

  while_same : (e : ℕ) (test : PExpr) (l : PStmts) (End : Spelling) → Same (Key key.While ▷ WhileBehind e test l End) (IfThere (Some (LWhile test)) (IsScheme e) ▷ LoopBody e l End)
  while_same e test l End = same_grouped (Key key.While) (Expression e test) (LoopBody e l End)

  for_same : (e : ℕ) (w : Word) (b : Bool) (x : PDrange) (l : PStmts) (End : Spelling) → Same (Key key.For ▷ ForBehind e w b x l End) (IfThere (Some (LFor w b x)) (IsScheme e) ▷ LoopBody e l End)
  for_same e w b x l End = pushed (Key key.For) (pushed (Named w) (pushed (Key key.In) (same_grouped (Reverse b) (Drange e x) (LoopBody e l End))))

  loop_same : (e : ℕ) (l : PStmts) (End : Spelling) → Same (LoopBody e l End) (IfThere None (IsScheme e) ▷ LoopBody e l End)
  loop_same e l End = same_begun (LoopBody e l End)

  -- ---- the readers, with a name or without

  loop_ends : (at : Span) → Ends Logical (symbol_item key.Loop at)
  unfolding same
  loop_ends at = (((((refl, refl), refl), refl), refl), refl)

  loop_range : (at : Span) → EndsRange (symbol_item key.Loop at)
  unfolding same
  loop_range at = (((((refl, refl), refl), refl), refl), refl)

  abbrev EndShut : Option Word → ℕ → Span → Spelling
  EndShut name e close = LoopNameAgain name ▷ KeyAt key.Semicolon close

  again_texts : {A : Type 0} (w : Word) (tree : Span → A) (e : ℕ) (a : A) (text : List Item) → Then (One (again w)) (λ v. Made tree (λ e close. KeyAt key.Semicolon close)) e a text → Made tree (EndShut (Some w)) e a text
  again_texts w tree e a text (v, one, back, from, (k, one_is, some), (close, same, is)) =
      let (at, known) = again_is w k v some in
      (close, same, (one, back, from, (at, one_is ∙ ap (λ t. t ∷ []) known), is))

  texts_again : {A : Type 0} (w : Word) (tree : Span → A) (e : ℕ) (a : A) (text : List Item) → Made tree (EndShut (Some w)) e a text → Then (One (again w)) (λ v. Made tree (λ e close. KeyAt key.Semicolon close)) e a text
  texts_again w tree e a text (close, same, (front, back, from, (at, one), is)) =
      (record { name = w.name; span = at }, front, back, from, (word_item record { name = w.name; span = at }, one, again_takes w at), (close, same, is))

  law_loop_end : {A : Type 0} (d : ℕ) (name : Option Word) (tree : Span → A) → Lawful d (loop_end name tree) (loop_end name tree) (Made tree (EndShut name)) Anything
  law_loop_end d None tree = made_fit tree (λ e close. KeyAt key.Semicolon close)
      (λ e close text is. (close, refl, (same_begun (KeyAt key.Semicolon close)).to text is))
      (λ e a text (close, same, is). (close, same, (same_begun (KeyAt key.Semicolon close)).back text is))
      (law_closed d tree Anything)
  law_loop_end d (Some w) tree = law_fit (λ e deep a text is. again_texts w tree e a text is) (texts_again w tree d)
      (law_then (law_token (word_item record { name = w.name; span = no_place }) (record { name = w.name; span = no_place }) (again_takes w no_place)) (λ v. law_closed d tree Anything))

  module _ (name : Option Word) (lead : Span) where
    abbrev loop_tree : Option PScheme → PStmts → Span → PStmt
    loop_tree c l close = SLoop name c l (from_to lead close)

    abbrev BodyBehind : ℕ → PStmts × Span → Spelling
    BodyBehind e v = LoopBody e v.0 (LoopEnd name (KeyAt key.Semicolon v.1))

    -- behind `loop`
    law_loop_rest : (d : ℕ) {r r' : Readers} (c : Option PScheme) → LevelLaws source d r r' → Lawful d (loop_rest r name lead c) (loop_rest r' name lead c)
        (Made (λ v. loop_tree c v.0 v.1) (Both (StmtsTexts source) (λ l e close. LoopEnd name (KeyAt key.Semicolon close)))) Anything
    law_loop_rest d c laws = made_bind {R = EndsStmts} (loop_tree c) (λ l e close. LoopEnd name (KeyAt key.Semicolon close)) (law_stmts source laws)
        (λ l. made_key key.End (loop_tree c l) (λ e close. Key key.Loop ▷ LoopNameAgain name ▷ KeyAt key.Semicolon close)
        (made_key key.Loop (loop_tree c l) (EndShut name) (law_loop_end d name (loop_tree c l))))
        (λ l. starts_key key.End (loop_tree c l) (λ e close. Key key.Loop ▷ LoopNameAgain name ▷ KeyAt key.Semicolon close) end_stmts)

    -- with the word `loop`
    law_body : (d : ℕ) {r r' : Readers} (c : Option PScheme) → LevelLaws source d r r' → Lawful d (reading.key_then key.Loop (loop_rest r name lead c)) (reading.key_then key.Loop (loop_rest r' name lead c))
        (Made (λ v. loop_tree c v.0 v.1) BodyBehind) Anything
    law_body d c laws = made_key key.Loop (λ v. loop_tree c v.0 v.1) (Both (StmtsTexts source) (λ l e close. LoopEnd name (KeyAt key.Semicolon close))) (law_loop_rest d c laws)

    body_starts : {d : ℕ} {R : Item → Type 0} (c : Option PScheme) → ((at : Span) → R (symbol_item key.Loop at)) → Starts d (Made (λ v. loop_tree c v.0 v.1) BodyBehind) Anything R
    body_starts c each = starts_key key.Loop (λ v. loop_tree c v.0 v.1) (Both (StmtsTexts source) (λ l e close. LoopEnd name (KeyAt key.Semicolon close))) each

    -- behind `while`
    abbrev while_tree : PExpr → PStmts × Span → PStmt
    while_tree test v = loop_tree (Some (LWhile test)) v.0 v.1

    law_while_rest : (d : ℕ) {r r' : Readers} → LevelLaws source d r r' → Lawful d (while_rest d r name lead) (while_rest (suc d) r' name lead) (Made (λ v. while_tree v.0 v.1) (Both Expressions (λ test. BodyBehind))) Anything
    law_while_rest d laws = made_bind while_tree (λ test. BodyBehind) (law_expression d) (λ test. law_body d (Some (LWhile test)) laws) (λ test. body_starts (Some (LWhile test)) loop_ends)

    -- behind `for`
    abbrev Dranges : Texts Item PDrange
    Dranges d x text = Drange d x text

    abbrev for_tree : Word → Bool → PDrange → PStmts × Span → PStmt
    for_tree w b x v = loop_tree (Some (LFor w b x)) v.0 v.1

    abbrev RangeTexts : Word → Bool → Texts Item PStmt
    RangeTexts w b = Made (λ v. for_tree w b v.0 v.1) (Both Dranges (λ x. BodyBehind))

    law_for_range : (d : ℕ) {r r' : Readers} (w : Word) (b : Bool) → LevelLaws source d r r' → Lawful d (for_range d r name lead w b) (for_range (suc d) r' name lead w b) (RangeTexts w b) Anything
    law_for_range d w b laws = made_bind (for_tree w b) (λ x. BodyBehind) (law_drange d) (λ x. law_body d (Some (LFor w b x)) laws) (λ x. body_starts (Some (LFor w b x)) loop_range)

    abbrev ReverseTexts : Word → Texts Item PStmt
    ReverseTexts w = Or (Then (One (symbol key.Reverse)) (λ at. RangeTexts w true)) (RangeTexts w false)

    abbrev ReverseBehind : ℕ → Bool × (PDrange × (PStmts × Span)) → Spelling
    ReverseBehind e v = Reverse v.0 ▷ Both Dranges (λ x. BodyBehind) e v.1

    reverse_is : (w : Word) (e : ℕ) (x : PStmt) (text : List Item) → ReverseTexts w e x text → Made (λ v. for_tree w v.0 v.1.0 v.1.1) ReverseBehind e x text
    reverse_is w e x text (inl taken) = let (front, back, from, k, (v, same, is)) = key_taken key.Reverse (RangeTexts w true) e x text taken in ((true, v), same, (front, back, from, k, is))
    reverse_is w e x text (inr (v, same, is)) = ((false, v), same, ([], text, refl, refl, is))

    is_reverse : (w : Word) (e : ℕ) (x : PStmt) (text : List Item) → Made (λ v. for_tree w v.0 v.1.0 v.1.1) ReverseBehind e x text → ReverseTexts w e x text
    is_reverse w e x text ((true, v), same, (front, back, from, k, is)) = inl (taken_key key.Reverse (RangeTexts w true) e x text (front, back, from, k, (v, same, is)))
    is_reverse w e x text ((false, v), same, (front, back, from, none, is)) = inr (v, same, subst (Both Dranges (λ x. BodyBehind) e v) (sym (from ∙ ap (λ l. l ++ back) none)) is)

    -- a discrete range does not begin with `reverse`
    prefix_no_reverse : (op : UnaryOp) (s : Span) → symbol key.Reverse (symbol_item (prefix_symbol op) s) ≡ None
    unfolding same
    prefix_no_reverse unary.Plus s = refl
    prefix_no_reverse unary.Minus s = refl
    prefix_no_reverse unary.Abs s = refl
    prefix_no_reverse unary.Not s = refl

    paren_no_reverse : (s : Span) → symbol key.Reverse (symbol_item key.LeftParen s) ≡ None
    unfolding same
    paren_no_reverse s = refl

    expr_no_reverse : (e : PExpr) (text : List Item) (x : Item) → Spells e text → symbol key.Reverse (first_of x text) ≡ None
    expr_no_reverse e text x is = spells_first (λ k. symbol key.Reverse k ≡ None) (λ w. refl) (λ n s. refl) paren_no_reverse prefix_no_reverse e text x is

    range_no_reverse : (d : ℕ) (x : PDrange) (text : List Item) (k : Item) → IsDrange d x text → symbol key.Reverse (first_of k text) ≡ None
    range_no_reverse d (RGiven b) text k is = rw is.text_is (rw (first_append k is.front (symbol_item key.DotDot is.at ∷ is.back)) (expr_no_reverse b.first is.front (symbol_item key.DotDot is.at) is.first.spells))
    range_no_reverse d (RMarked m) text k is = rw is.text_is refl

    ranges_start : (d : ℕ) (w : Word) → Starts d (RangeTexts w false) Anything (IsPassed (symbol key.Reverse))
    ranges_start d w = record { begins_with = λ x text k ((r, v), same, (front, back, from, range, is)) stop. rw from (rw (first_append k front back) (range_no_reverse d r front (first_of k back) range)) }

    abbrev InBehind : ℕ → Bool × (PDrange × (PStmts × Span)) → Spelling
    InBehind e v = Key key.In ▷ ReverseBehind e v

    law_for_rest : (d : ℕ) {r r' : Readers} → LevelLaws source d r r' → Lawful d (for_rest d r name lead) (for_rest (suc d) r' name lead)
        (Made (λ v. for_tree v.0 v.1.0 v.1.1.0 v.1.1.1) (Both (λ e w. Named w) (λ w. InBehind))) Anything
    law_for_rest d laws = made_then (λ w v. for_tree w v.0 v.1.0 v.1.1) (λ w. InBehind) (law_word d Anything)
        (λ w. made_key key.In (λ v. for_tree w v.0 v.1.0 v.1.1) ReverseBehind
        (law_fit (λ e deep x text is. reverse_is w e x text is) (is_reverse w d)
        (law_on {test = symbol key.Reverse} (λ at. law_for_range d w true laws) (law_for_range d w false laws).careful (ranges_start d w) (symbol_item key.Reverse no_place) no_place (symbol_takes key.Reverse no_place))))

-- ---- loops without a name

abbrev pub IsWhile : PStmt → Type 0
IsWhile (SLoop None (Some (LWhile e)) l s) = Unit {0}
IsWhile x = ⊥

abbrev pub IsFor : PStmt → Type 0
IsFor (SLoop None (Some (LFor w b x)) l s) = Unit {0}
IsFor x = ⊥

abbrev pub IsLoop : PStmt → Type 0
IsLoop (SLoop None None l s) = Unit {0}
IsLoop x = ⊥

module _ (source : Source) where
  -- a loop without a name, as the grammar groups it
  abbrev Unnamed : ℕ → Option PScheme → PStmts → Spelling → Spelling
  Unnamed e c l Z = Nothing ▷ LoopInside source e c l ▷ LoopEnd None Z

  unnamed_same : (e : ℕ) (c : Option PScheme) (l : PStmts) (Z : Spelling) → Same (IfThere c (IsScheme e) ▷ LoopBody source e l (LoopEnd None Z)) (Unnamed e c l Z)
  unnamed_same e c l Z = same_through (inside_same source e c l (LoopEnd None Z)) (same_begun (LoopInside source e c l ▷ LoopEnd None Z))

  pub whole_while : (e : ℕ) (test : PExpr) (l : PStmts) → Same (Key key.While ▷ WhileBehind source e test l (LoopEnd None (Key key.Semicolon))) (Unnamed e (Some (LWhile test)) l (Key key.Semicolon))
  whole_while e test l = same_through (while_same source e test l (LoopEnd None (Key key.Semicolon))) (unnamed_same e (Some (LWhile test)) l (Key key.Semicolon))

  pub whole_for : (e : ℕ) (w : Word) (b : Bool) (x : PDrange) (l : PStmts) → Same (Key key.For ▷ ForBehind source e w b x l (LoopEnd None (Key key.Semicolon))) (Unnamed e (Some (LFor w b x)) l (Key key.Semicolon))
  whole_for e w b x l = same_through (for_same source e w b x l (LoopEnd None (Key key.Semicolon))) (unnamed_same e (Some (LFor w b x)) l (Key key.Semicolon))

  pub whole_loop : (e : ℕ) (l : PStmts) → Same (LoopBody source e l (LoopEnd None (Key key.Semicolon))) (Unnamed e None l (Key key.Semicolon))
  whole_loop e l = same_through (loop_same source e l (LoopEnd None (Key key.Semicolon))) (unnamed_same e None l (Key key.Semicolon))

  while_closing : (e : ℕ) (test : PExpr) (l : PStmts) → Closing (λ close. WhileBehind source e test l (LoopEnd None (KeyAt key.Semicolon close))) (WhileBehind source e test l (LoopEnd None (Key key.Semicolon)))
  while_closing e test l = closing_then (Expression e test) (body_closing source e l None)

  for_closing : (e : ℕ) (w : Word) (b : Bool) (x : PDrange) (l : PStmts) →
      Closing (λ close. ForBehind source e w b x l (LoopEnd None (KeyAt key.Semicolon close))) (ForBehind source e w b x l (LoopEnd None (Key key.Semicolon)))
  for_closing e w b x l = closing_then (Named w) (closing_then (Key key.In) (closing_then (Reverse b) (closing_then (Drange e x) (body_closing source e l None))))

  abbrev WhileSpelled : ℕ → PExpr × (PStmts × Span) → Spelling
  WhileSpelled = Both Expressions (λ test e v. BodyBehind source None no_place e v)

  abbrev ForSpelled : ℕ → Word × (Bool × (PDrange × (PStmts × Span))) → Spelling
  ForSpelled = Both (λ e w. Named w) (λ w e v. InBehind source None no_place e v)

  abbrev LoopSpelled : ℕ → PStmts × Span → Spelling
  LoopSpelled = Both (StmtsTexts source) (λ l e close. LoopEnd None (KeyAt key.Semicolon close))

  is_while : (lead : Span) (e : ℕ) (v : PExpr × (PStmts × Span)) (text : List Item) → WhileSpelled e v text → LedBelow source IsWhile key.While lead e (while_tree source None lead v.0 v.1) text
  is_while lead e (test, (l, close)) text is =
      (tt, placed_same (whole_while e test l) (from_to lead close) (symbol_item key.While lead ∷ text) (placed_key key.While (while_closing e test l) lead close text is))

  while_is : (lead : Span) (e : ℕ) (x : PStmt) (text : List Item) → LedBelow source IsWhile key.While lead e x text → Made (λ v. while_tree source None lead v.0 v.1) WhileSpelled e x text
  while_is lead e (SLoop None (Some (LWhile test)) l s) text (kind, is) =
      let (close, place, rest) = key_placed key.While (while_closing e test l) s lead text (placed_same (same_turn (whole_while e test l)) s (symbol_item key.While lead ∷ text) is) in
      ((test, (l, close)), ap (SLoop None (Some (LWhile test)) l) place, rest)
  while_is lead e x text (kind, is) = absurd kind

  pub law_while : (d : ℕ) {r r' : Readers} (lead : Span) → LevelLaws source d r r' → Lawful d (while_rest d r None lead) (while_rest (suc d) r' None lead) (LedBelow source IsWhile key.While lead) Anything
  law_while d lead laws = made_fit (λ v. while_tree source None lead v.0 v.1) WhileSpelled (is_while lead) (while_is lead) (law_while_rest source None lead d laws)

  is_for : (lead : Span) (e : ℕ) (v : Word × (Bool × (PDrange × (PStmts × Span)))) (text : List Item) → ForSpelled e v text → LedBelow source IsFor key.For lead e (for_tree source None lead v.0 v.1.0 v.1.1.0 v.1.1.1) text
  is_for lead e (w, (b, (x, (l, close)))) text is =
      (tt, placed_same (whole_for e w b x l) (from_to lead close) (symbol_item key.For lead ∷ text) (placed_key key.For (for_closing e w b x l) lead close text is))

  for_is : (lead : Span) (e : ℕ) (x : PStmt) (text : List Item) → LedBelow source IsFor key.For lead e x text → Made (λ v. for_tree source None lead v.0 v.1.0 v.1.1.0 v.1.1.1) ForSpelled e x text
  for_is lead e (SLoop None (Some (LFor w b x)) l s) text (kind, is) =
      let (close, place, rest) = key_placed key.For (for_closing e w b x l) s lead text (placed_same (same_turn (whole_for e w b x l)) s (symbol_item key.For lead ∷ text) is) in
      ((w, (b, (x, (l, close)))), ap (SLoop None (Some (LFor w b x)) l) place, rest)
  for_is lead e x text (kind, is) = absurd kind

  pub law_for : (d : ℕ) {r r' : Readers} (lead : Span) → LevelLaws source d r r' → Lawful d (for_rest d r None lead) (for_rest (suc d) r' None lead) (LedBelow source IsFor key.For lead) Anything
  law_for d lead laws = made_fit (λ v. for_tree source None lead v.0 v.1.0 v.1.1.0 v.1.1.1) ForSpelled (is_for lead) (for_is lead) (law_for_rest source None lead d laws)

  loop_closes : (e : ℕ) (l : PStmts) → Closing (λ close. Stmts source e l ▷ LoopEnd None (KeyAt key.Semicolon close)) (Stmts source e l ▷ LoopEnd None (Key key.Semicolon))
  loop_closes e l = closing_then (Stmts source e l) (loop_closing None)

  is_loop : (lead : Span) (e : ℕ) (v : PStmts × Span) (text : List Item) → LoopSpelled e v text → LedBelow source IsLoop key.Loop lead e (loop_tree source None lead None v.0 v.1) text
  is_loop lead e (l, close) text is =
      (tt, placed_same (whole_loop e l) (from_to lead close) (symbol_item key.Loop lead ∷ text) (placed_key key.Loop (loop_closes e l) lead close text is))

  loop_is : (lead : Span) (e : ℕ) (x : PStmt) (text : List Item) → LedBelow source IsLoop key.Loop lead e x text → Made (λ v. loop_tree source None lead None v.0 v.1) LoopSpelled e x text
  loop_is lead e (SLoop None None l s) text (kind, is) =
      let (close, place, rest) = key_placed key.Loop (loop_closes e l) s lead text (placed_same (same_turn (whole_loop e l)) s (symbol_item key.Loop lead ∷ text) is) in
      ((l, close), ap (SLoop None None l) place, rest)
  loop_is lead e x text (kind, is) = absurd kind

  pub law_loop : (d : ℕ) {r r' : Readers} (lead : Span) → LevelLaws source d r r' → Lawful d (loop_rest r None lead None) (loop_rest r' None lead None) (LedBelow source IsLoop key.Loop lead) Anything
  law_loop d lead laws = made_fit (λ v. loop_tree source None lead None v.0 v.1) LoopSpelled (is_loop lead) (loop_is lead) (law_loop_rest source None lead d None laws)

  -- `while 0 loop null ; end loop ;` and its kin
  has_loop_end : (name : Option Word) → Has (LoopNameAgain name) → Has (LoopEnd name (KeyAt key.Semicolon no_place))
  has_loop_end name again = has_then (has_key key.End) (has_then (has_key key.Loop) (has_then again (has_at key.Semicolon no_place)))

  has_body : (name : Option Word) → Has (LoopNameAgain name) → Has (BodyBehind source name no_place 0 (nulls, no_place))
  has_body name again = has_then (has_key key.Loop) (has_then (has_nulls source 0) (has_loop_end name again))

  pub some_while : (lead : Span) → (e : ℕ) × (x : PStmt) × (f : List Item) × LedBelow source IsWhile key.While lead e x f
  some_while lead =
      let (text, is) : Has (WhileSpelled 0 (zero_is, (nulls, no_place))) = has_then (has_zero 0) (has_body None has_nothing) in
      (0, while_tree source None lead zero_is (nulls, no_place), text, is_while lead 0 (zero_is, (nulls, no_place)) text is)

  abbrev a_range : PDrange
  a_range = RMarked record { mark = some_word; bounds = None }

  has_range : Has (Drange 0 a_range)
  has_range = (word_item some_word ∷ [], record { back = []; bounds = refl; text_is = refl })

  pub some_for : (lead : Span) → (e : ℕ) × (x : PStmt) × (f : List Item) × LedBelow source IsFor key.For lead e x f
  some_for lead =
      let (text, is) : Has (ForSpelled 0 (some_word, (false, (a_range, (nulls, no_place))))) =
      has_then (has_word some_word) (has_then (has_key key.In) (has_then has_nothing (has_then has_range (has_body None has_nothing)))) in
      (0, for_tree source None lead some_word false a_range (nulls, no_place), text, is_for lead 0 (some_word, (false, (a_range, (nulls, no_place)))) text is)

  pub some_loop : (lead : Span) → (e : ℕ) × (x : PStmt) × (f : List Item) × LedBelow source IsLoop key.Loop lead e x f
  some_loop lead =
      let (text, is) : Has (LoopSpelled 0 (nulls, no_place)) = has_then (has_nulls source 0) (has_loop_end None has_nothing) in
      (0, loop_tree source None lead None nulls no_place, text, is_loop lead 0 (nulls, no_place) text is)

-- ---- loops with a name

abbrev pub IsNamedLoop : PStmt → Type 0
IsNamedLoop (SLoop (Some w) c l s) = Unit {0}
IsNamedLoop x = ⊥

-- what is a loop with this name behind `NAME :`, one level deeper
abbrev pub NamedTexts : Source → Word → Span → Texts Item PStmt
NamedTexts source w at d x text = IsNamedLoop x × IsStmt source (suc d) x (word_item w ∷ symbol_item key.Colon at ∷ text)

module _ (source : Source) (w : Word) where
  abbrev name : Option Word
  name = Some w

  abbrev NamedSpelled : ℕ → Option PScheme × (PStmts × Span) → Spelling
  NamedSpelled e v = IfThere v.0 (IsScheme e) ▷ BodyBehind source name no_place e v.1

  abbrev named_tree : Option PScheme × (PStmts × Span) → PStmt
  named_tree v = SLoop name v.0 v.1.0 (from_to w.span v.1.1)

  abbrev AfterWhile : Texts Item PStmt
  AfterWhile = Made (λ v. while_tree source name w.span v.0 v.1) (Both Expressions (λ test e v. BodyBehind source name no_place e v))

  abbrev AfterFor : Texts Item PStmt
  AfterFor = Made (λ v. for_tree source name w.span v.0 v.1.0 v.1.1.0 v.1.1.1) (Both (λ e w. Named w) (λ w e v. InBehind source name no_place e v))

  abbrev AfterLoop : Texts Item PStmt
  AfterLoop = Made (λ v. loop_tree source name w.span None v.0 v.1) (Both (StmtsTexts source) (λ l e close. LoopEnd name (KeyAt key.Semicolon close)))

  abbrev NamedChoice : Texts Item PStmt
  NamedChoice = Or (Then (One (symbol key.While)) (λ at. AfterWhile)) (Or (Then (One (symbol key.For)) (λ at. AfterFor)) (Or (Then (One (symbol key.Loop)) (λ at. AfterLoop)) Never))

  named_led : (d : ℕ) {r r' : Readers} → LevelLaws source d r r' → Led false (key.While ∷ key.For ∷ key.Loop ∷ []) d (named_loop d r w) (named_loop (suc d) r' w) NamedChoice Anything
  unfolding same
  named_led d {r} {r'} laws = led_on (led_on (led_on (led_refuse d Anything) key.Loop refl (λ at. law_loop_rest source name w.span d None laws))
      key.For refl (λ at. law_for_rest source name w.span d laws)) key.While refl (λ at. law_while_rest source name w.span d laws)

  choice_is : (e : ℕ) (x : PStmt) (text : List Item) → NamedChoice e x text → Made named_tree NamedSpelled e x text
  choice_is e x text (inl taken) =
      let (front, back, from, k, ((test, (l, close)), same, is)) = key_taken key.While AfterWhile e x text taken in
      ((Some (LWhile test), (l, close)), same, (while_same source e test l (LoopEnd name (KeyAt key.Semicolon close))).to text (front, back, from, k, is))
  choice_is e x text (inr (inl taken)) =
      let (front, back, from, k, ((v, (b, (r, (l, close)))), same, is)) = key_taken key.For AfterFor e x text taken in
      ((Some (LFor v b r), (l, close)), same, (for_same source e v b r l (LoopEnd name (KeyAt key.Semicolon close))).to text (front, back, from, k, is))
  choice_is e x text (inr (inr (inl taken))) =
      let (front, back, from, k, ((l, close), same, is)) = key_taken key.Loop AfterLoop e x text taken in
      ((None, (l, close)), same, (loop_same source e l (LoopEnd name (KeyAt key.Semicolon close))).to text (front, back, from, k, is))
  choice_is e x text (inr (inr (inr never))) = absurd never

  is_choice : (e : ℕ) (x : PStmt) (text : List Item) → Made named_tree NamedSpelled e x text → NamedChoice e x text
  is_choice e x text ((Some (LWhile test), (l, close)), same, is) =
      let (front, back, from, k, rest) = (while_same source e test l (LoopEnd name (KeyAt key.Semicolon close))).back text is in
      inl (taken_key key.While AfterWhile e x text (front, back, from, k, ((test, (l, close)), same, rest)))
  is_choice e x text ((Some (LFor v b r), (l, close)), same, is) =
      let (front, back, from, k, rest) = (for_same source e v b r l (LoopEnd name (KeyAt key.Semicolon close))).back text is in
      inr (inl (taken_key key.For AfterFor e x text (front, back, from, k, ((v, (b, (r, (l, close)))), same, rest))))
  is_choice e x text ((None, (l, close)), same, is) =
      let (front, back, from, k, rest) = (loop_same source e l (LoopEnd name (KeyAt key.Semicolon close))).back text is in
      inr (inr (inl (taken_key key.Loop AfterLoop e x text (front, back, from, k, ((l, close), same, rest)))))

  -- as the grammar groups it
  named_same : (e : ℕ) (c : Option PScheme) (l : PStmts) (Z : Spelling) →
      Same (Named w ▷ (Key key.Colon ▷ (IfThere c (IsScheme e) ▷ LoopBody source e l (LoopEnd name Z)))) (LoopName name ▷ LoopInside source e c l ▷ LoopEnd name Z)
  named_same e c l Z = same_through (same_behind (Named w) (same_behind (Key key.Colon) (inside_same source e c l (LoopEnd name Z)))) (same_grouped (Named w) (Key key.Colon) (LoopInside source e c l ▷ LoopEnd name Z))

  named_closing : (e : ℕ) (c : Option PScheme) (l : PStmts) →
      Closing (λ close. Key key.Colon ▷ (IfThere c (IsScheme e) ▷ LoopBody source e l (LoopEnd name (KeyAt key.Semicolon close)))) (Key key.Colon ▷ (IfThere c (IsScheme e) ▷ LoopBody source e l (LoopEnd name (Key key.Semicolon))))
  named_closing e c l = closing_then (Key key.Colon) (closing_then (IfThere c (IsScheme e)) (body_closing source e l name))

  is_named : (at : Span) (e : ℕ) (v : Option PScheme × (PStmts × Span)) (text : List Item) → NamedSpelled e v text → NamedTexts source w at e (named_tree v) text
  is_named at e (c, (l, close)) text is = (
    tt,
    placed_same (named_same e c l (Key key.Semicolon)) (from_to w.span close) (word_item w ∷ symbol_item key.Colon at ∷ text)
        (placed_word w (named_closing e c l) close (symbol_item key.Colon at ∷ text) (key_then key.Colon (NamedSpelled e (c, (l, close))) at text is)),
  )

abbrev head_word : Word → List Item → Option Word
head_word w [] = None
head_word w (x ∷ list) = word x

module _ (source : Source) where
  named_is : (w : Word) (at : Span) (e : ℕ) (x : PStmt) (text : List Item) → NamedTexts source w at e x text → Made (named_tree source w) (NamedSpelled source w) e x text
  named_is w at e (SLoop (Some v) c l s) text (kind, is) =
      let placed : Placed s (Named v ▷ (Key key.Colon ▷ (IfThere c (IsScheme e) ▷ LoopBody source e l (LoopEnd (Some v) (Key key.Semicolon))))) (word_item w ∷ symbol_item key.Colon at ∷ text) =
      placed_same (same_turn (named_same source v e c l (Key key.Semicolon))) s (word_item w ∷ symbol_item key.Colon at ∷ text) is in
      let (back, from, rest) = after_word v (Key key.Colon ▷ (IfThere c (IsScheme e) ▷ LoopBody source e l (LoopEnd (Some v) (Key key.Semicolon)))) (word_item w ∷ symbol_item key.Colon at ∷ text) placed.0 in
      let named : v ≡ w = some_same (sym (ap (head_word w) from)) in
      by named placed where
        by : v ≡ w → Placed s (Named v ▷ (Key key.Colon ▷ (IfThere c (IsScheme e) ▷ LoopBody source e l (LoopEnd (Some v) (Key key.Semicolon))))) (word_item w ∷ symbol_item key.Colon at ∷ text) →
            Made (named_tree source w) (NamedSpelled source w) e (SLoop (Some v) c l s) text
        by same placed =
            let here : Placed s (Named w ▷ (Key key.Colon ▷ (IfThere c (IsScheme e) ▷ LoopBody source e l (LoopEnd (Some w) (Key key.Semicolon))))) (word_item w ∷ symbol_item key.Colon at ∷ text) =
            subst (λ u. Placed s (Named u ▷ (Key key.Colon ▷ (IfThere c (IsScheme e) ▷ LoopBody source e l (LoopEnd (Some u) (Key key.Semicolon))))) (word_item w ∷ symbol_item key.Colon at ∷ text)) same placed in
            let (close, place, rest) = word_placed w (named_closing source w e c l) s (symbol_item key.Colon at ∷ text) here in (
              (c, (l, close)),
              ap (λ u. SLoop (Some u) c l s) same ∙ ap (SLoop (Some w) c l) place,
              behind_key key.Colon (NamedSpelled source w e (c, (l, close))) (symbol_item key.Colon at) text rest,
            )
  named_is w at e x text (kind, is) = absurd kind

  -- `NAME : loop null ; end loop NAME ;`
  has_named : (w : Word) (e : ℕ) → Has (NamedSpelled source w e (None, (nulls, no_place)))
  has_named w e = has_then has_nothing (has_then (has_key key.Loop) (has_then (has_nulls source e) (has_loop_end source (Some w) (word_item w ∷ [], (w.span, refl)))))

  pub law_named : (d : ℕ) {r r' : Readers} (w : Word) (at : Span) → LevelLaws source d r r' → Lawful d (named_loop d r w) (named_loop (suc d) r' w) (NamedTexts source w at) Anything
  law_named d w at laws = made_fit (named_tree source w) (NamedSpelled source w) (is_named source w at) (named_is w at) (record {
    careful = careful_fit (λ e deep x text is. choice_is source w e x text is) (is_choice source w d) (named_led source w d laws).careful;
    some_text = λ e deep. let (text, is) = has_named w e in (named_tree source w (None, (nulls, no_place)), text, ((None, (nulls, no_place)), refl, is));
  })

  pub some_named : (w : Word) (at : Span) → (e : ℕ) × (x : PStmt) × (f : List Item) × NamedTexts source w at e x f
  some_named w at = let (text, is) = has_named w 0 in (0, named_tree source w (None, (nulls, no_place)), text, is_named source w at 0 (None, (nulls, no_place)) text is)
