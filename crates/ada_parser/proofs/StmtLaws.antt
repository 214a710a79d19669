-- The laws of statements: each choice by its first item, and then every depth on the one below it.
use Rattle.std.proofs.Common.{◌≡◌, ℕ, zero, suc, Bool, true, false, inl, inr, List, [], ◌∷◌, ◌++◌, Option, Some, None, refl, sym, ap, ◌∙◌, subst, arith}
use Rattle.std.specs.Prelude.{codes, is_some, if◌then◌else◌}
use Rattle.std.proofs.lemmas.List.{append_assoc}
use Rattle.ada_tree.specs.declared.naming.Span.{Span}
use Rattle.ada_tree.specs.declared.naming.Word.{Word}
use Rattle.ada_tree.specs.PlainStmt.{PScheme, LWhile, LFor, PStmt, SNull, SAssign, SDelay, SExit, SRaise, SAbort, SCall, SAccept, SWait, SConditional, STimed, SPut, SPutLine, SNewLine, SGet, SIf, SCase, SBlock, SLoop, PStmts, body}
use Rattle.ada_lexer.specs.declared.symbols.Symbol.{Symbol}
use Rattle.ada_lexer.specs.declared.symbols.Symbol.TheVariants as key
use Rattle.ada_expr_parser.specs.declared.items.ItemKind.TheVariants as item
use Rattle.ada_expr_parser.specs.declared.items.Item.{Item}
use Rattle.ada_expr_parser.specs.Tests.{same, symbol, word}
use Rattle.ada_expr_parser.specs.Grammar.{symbol_item, word_item}
use Rattle.ada_phrase_parser.specs.Spelling.{Source, Key}
use Rattle.ada_stmt_parser.specs.Statements.{IsStmt}
use Rattle.ada_phrase_parser.specs.Reading.{is_symbol}
use Rattle.ada_stmt_parser.specs.inner.ReadingStatements.{Readers, begins_stmt, stmts, body_rest, named_rest, named_loop, select_rest, if_rest, case_rest, block_rest, while_rest, for_rest, loop_rest, simple_at, stmt_at, level_at, inner_at, readers}
use Rattle.ada_simple_stmt_parser.specs.inner.ReadingSimple.{is_predefined, word_rest}
use Rattle.ada_expr_parser.specs.readers.Readers.{Answer, Found, Fault}
use Rattle.ada_expr_parser.specs.readers.Grammars.{Texts, Never, One, Then, Or, Below, Starts, first_of}
use Rattle.ada_expr_parser.specs.readers.Lawful.{Lawful, Anything, IsPassed, IsYes}
use Rattle.ada_expr_parser.specs.readers.Exactness.{LawfulAtEach}
use Rattle.ada_expr_parser.proofs.readers.Basics.{not_both}
use Rattle.ada_expr_parser.proofs.readers.Deepening.{law_below}
use Rattle.ada_expr_parser.proofs.readers.Fitting.{law_fit, careful_fit}
use Rattle.ada_parser.proofs.expression_laws.Tokens.{none_is}
use Rattle.ada_parser.proofs.expression_laws.Primaries.{no_place}
use Rattle.ada_parser.proofs.expression_laws.Plainly.{after_symbol, symbol_then, after_word, word_then}
use Rattle.ada_parser.proofs.expression_laws.Stopper.{stopper}
use Rattle.ada_parser.proofs.KitLeading.{among, among_hold, symbol_at, Led, led_word, led_on, led_below, opens_by}
use Rattle.ada_parser.proofs.WordLaw.{WordTexts}
use Rattle.ada_parser.proofs.WordRest.{word_law}
use Rattle.ada_parser.proofs.StmtLevels.{EndsStmts, StmtTexts, StmtsTexts, LevelLaws, law_stmts, a_null, has_null}
use Rattle.ada_parser.proofs.StmtSimple.{LedBy, LedBelow, IsNull, law_null, IsDelay, law_delay, IsExit, law_exit, IsRaise, law_raise, IsAbort, law_abort}
use Rattle.ada_parser.proofs.StmtIf.{IsIf, law_if, some_if, IsCase, law_case, some_case}
use Rattle.ada_parser.proofs.StmtLoops.{IsWhile, law_while, some_while, IsFor, law_for, some_for, IsLoop, law_loop, some_loop, NamedTexts, law_named, some_named, whole_while, whole_for, whole_loop}
use Rattle.ada_parser.proofs.StmtBodies.{IsBlock, law_block, some_block, law_handlers, EndsBody, BodyTexts, law_body}
use Rattle.ada_parser.proofs.StmtAlts.{pred_same, law_alt, accept_first}
use Rattle.ada_parser.proofs.StmtSelect.{IsSelect, law_select, some_select}
use Rattle.ada_parser.proofs.StmtAccept.{IsAccepting, law_accept, law_accepting}
use Rattle.ada_parser.proofs.KitPieces.{tail_of}

-- ---- behind a name: a loop with it, or a statement with the name

-- no statement but a loop goes on with a colon
abbrev plain_colon : Word → Span → List Item → Answer Item PStmt
plain_colon w at ts = Fault false (symbol_item key.Colon at ∷ ts)

word_refuses : (source : Source) (d : ℕ) (w : Word) (at : Span) (ts : List Item) → word_rest source d w (symbol_item key.Colon at ∷ ts) ≡ Fault false (symbol_item key.Colon at ∷ ts)
unfolding same
word_refuses source d w at ts = by (is_predefined (codes "PUT") w) (is_predefined (codes "PUT_LINE") w) (is_predefined (codes "NEW_LINE") w) (is_predefined (codes "GET") w) where
  by : (a b c e : Bool) → (if a then plain_colon w at ts else (if b then plain_colon w at ts else (if c then plain_colon w at ts else (if e then plain_colon w at ts else plain_colon w at ts)))) ≡ plain_colon w at ts
  by true b c e = refl
  by false true c e = refl
  by false false true e = refl
  by false false false true = refl
  by false false false false = refl

refused : (source : Source) (d : ℕ) (w : Word) (x : PStmt) (k : Item) (ts rest : List Item) → is_symbol key.Colon k ≡ true → word_rest source d w (k ∷ ts) ≡ Found x rest → ⊥
refused source d w x k ts rest is e =
    let (at, named) = symbol_at key.Colon k is in
    not_both (sym e ∙ ap (λ t. word_rest source d w (t ∷ ts)) named ∙ word_refuses source d w at ts)

not_some : {A : Type 0} (m : Option A) → (is_some m ≡ true → ⊥) → m ≡ None
not_some None never = refl
not_some (Some x) never = absurd (never refl)

module _ (source : Source) where
  word_no_colon : (d : ℕ) (w : Word) → Starts d (WordTexts source w) Anything (IsPassed (symbol key.Colon))
  word_no_colon d w = record { begins_with = λ x text k is stop. starts x text k is } where
    starts : (x : PStmt) (text : List Item) (k : Item) → WordTexts source w d x text → symbol key.Colon (first_of k text) ≡ None
    starts x [] k is = not_some (symbol key.Colon k) (λ colon. refused source d w x k [] (k ∷ []) colon ((word_law source d w).careful.complete k [] is tt))
    starts x (y ∷ more) k is = not_some (symbol key.Colon y) (λ colon. refused source d w x y (more ++ (stopper ∷ [])) (stopper ∷ []) colon ((word_law source d w).careful.complete stopper [] is tt))

  abbrev NamedRest : Word → Texts Item PStmt
  NamedRest w = Or (Then (One (symbol key.Colon)) (λ at. Below (NamedTexts source w at))) (WordTexts source w)

  abbrev WordStmt : Word → Texts Item PStmt
  WordStmt w d x text = IsStmt source d x (word_item w ∷ text)

  named_is : (w : Word) (d : ℕ) (x : PStmt) (text : List Item) → NamedRest w d x text → WordStmt w d x text
  named_is w d x text (inr (kind, is)) = is
  named_is w zero x text (inl (at, one, back, from, token, never)) = absurd never
  named_is w (suc e) x text (inl taken) =
      let (at, back, from, (kind, is)) = after_symbol key.Colon (λ at. Below (NamedTexts source w at)) (suc e) x text taken in
      subst (λ t. IsStmt source (suc e) x (word_item w ∷ t)) (sym from) is

  -- the first item of a piece that begins with a symbol or a name
  pub lead_key : (s : Symbol) (text front back : List Item) → text ≡ front ++ back → Key s front → (at : Span) × (text ≡ symbol_item s at ∷ back)
  lead_key s text front back from (at, one) = (at, from ∙ ap (λ l. l ++ back) one)

  -- no name is a symbol
  abbrev head_word : List Item → Option Word
  head_word [] = None
  head_word (x ∷ list) = word x

  no_word : (w : Word) (s : Symbol) (text front back : List Item) → word_item w ∷ text ≡ front ++ back → Key s front → ⊥
  no_word w s text front back from k = let (at, is) = lead_key s (word_item w ∷ text) front back from k in none_is (sym (ap head_word is))

  -- a loop with no name begins with a word of its own
  unnamed_lead : (e : ℕ) (c : Option PScheme) (l : PStmts) (s : Span) (text : List Item) → IsStmt source (suc e) (SLoop None c l s) text → (k : Symbol) × (front : List Item) × (back : List Item) × (text ≡ front ++ back) × Key k front
  unnamed_lead e None l s text is = let (front, back, from, k, rest) = (whole_loop source e l).back text is.0 in (key.Loop, front, back, from, k)
  unnamed_lead e (Some (LWhile t)) l s text is = let (front, back, from, k, rest) = (whole_while source e t l).back text is.0 in (key.While, front, back, from, k)
  unnamed_lead e (Some (LFor w b x)) l s text is = let (front, back, from, k, rest) = (whole_for source e w b x l).back text is.0 in (key.For, front, back, from, k)

  is_named : (w : Word) (d : ℕ) (x : PStmt) (text : List Item) → WordStmt w d x text → NamedRest w d x text
  is_named w zero (SLoop name c l s) text ((front, back, from, first, (f, g, split, never, rest)), place) = absurd never
  is_named w (suc e) (SLoop None c l s) text is =
      let (k, front, back, from, first) = unnamed_lead e c l s (word_item w ∷ text) is in absurd (no_word w k text front back from first)
  is_named w (suc e) (SLoop (Some v) c l s) text ((front, back, from, (f, g, split, one, (at, colon)), rest), place) =
      let whole : word_item w ∷ text ≡ word_item v ∷ symbol_item key.Colon at ∷ back = from ∙ ap (λ l. l ++ back) (split ∙ ap (λ l. l ++ g) one ∙ ap (λ l. word_item v ∷ l) colon) in
      let here : text ≡ symbol_item key.Colon at ∷ back = ap tail_of whole in
      inl (subst (Then (One (symbol key.Colon)) (λ at. Below (NamedTexts source w at)) (suc e) (SLoop (Some v) c l s)) (sym here)
      (symbol_then key.Colon (λ at. Below (NamedTexts source w at)) (suc e) (SLoop (Some v) c l s) at back
      (tt, subst (λ t. IsStmt source (suc e) (SLoop (Some v) c l s) (word_item w ∷ t)) here ((front, back, from, (f, g, split, one, (at, colon)), rest), place))))
  is_named w d x text is = inr (tt, is)

  law_named_rest : (d : ℕ) (w : Word) {r r' : Readers} → ((e : ℕ) → d ≡ suc e → LevelLaws source e r r') → Lawful d (named_rest source d r w) (named_rest source (suc d) r' w) (WordStmt w) Anything
  law_named_rest d w {r} {r'} laws = law_fit (λ e deep x text is. named_is w e x text is) (is_named w d)
      (law_below {test = symbol key.Colon} (λ e at. named_loop e r w) (λ e at. named_loop e r' w) (some_named source w) d (λ e is at. law_named source e w at (laws e is)) (word_law source d w) (word_no_colon d w))

-- ---- each choice

module _ (source : Source) where
  abbrev Compound : (PStmt → Type 0) → Symbol → Texts Item PStmt
  Compound K s = Then (One (symbol s)) (λ at. Below (LedBelow source K s at))

  abbrev Simple : (PStmt → Type 0) → Symbol → Texts Item PStmt
  Simple K s = Then (One (symbol s)) (λ at. LedBy source K s at)

  abbrev SimpleTexts : Texts Item PStmt
  SimpleTexts = Or (Simple IsNull key.Null) (Or (Simple IsDelay key.Delay) (Or (Simple IsExit key.Exit) (Or (Simple IsRaise key.Raise) (Or (Simple IsAbort key.Abort)
      (Or (Simple (IsAccepting source) key.Accept) (Or (Then (One word) (WordStmt source)) Never))))))

  abbrev Choices : Texts Item PStmt
  Choices = Or (Compound IsSelect key.Select) (Or (Compound IsIf key.If) (Or (Compound IsCase key.Case) (Or (Compound IsBlock key.Begin) (Or (Compound IsWhile key.While) (Or (Compound IsFor key.For)
      (Or (Compound IsLoop key.Loop) SimpleTexts))))))

  abbrev simple_keys : List Symbol
  simple_keys = key.Null ∷ key.Delay ∷ key.Exit ∷ key.Raise ∷ key.Abort ∷ key.Accept ∷ []

  abbrev stmt_keys : List Symbol
  stmt_keys = key.Select ∷ key.If ∷ key.Case ∷ key.Begin ∷ key.While ∷ key.For ∷ key.Loop ∷ simple_keys

  module _ (d : ℕ) (r r' : Readers) (laws : (e : ℕ) → d ≡ suc e → LevelLaws source e r r') where
    simple_led : Led true simple_keys d (simple_at source d r) (simple_at source (suc d) r') SimpleTexts Anything
    unfolding same
    simple_led =
        led_on (led_on (led_on (led_on (led_on (led_on (led_word (λ w. law_named_rest source d w laws))
        key.Accept refl (λ lead. law_accepting source d lead laws))
        key.Abort refl (law_abort source d))
        key.Raise refl (law_raise source d))
        key.Exit refl (law_exit source d))
        key.Delay refl (law_delay source d))
        key.Null refl (law_null source d)

    stmt_led : Led true stmt_keys d (stmt_at source d r) (stmt_at source (suc d) r') Choices Anything
    unfolding same
    stmt_led =
        led_below (led_below (led_below (led_below (led_below (led_below (led_below simple_led
        key.Loop (λ e lead. loop_rest r None lead None) (λ e lead. loop_rest r' None lead None) refl (some_loop source) (λ e is lead. law_loop source e lead (laws e is)))
        key.For (λ e lead. for_rest e r None lead) (λ e lead. for_rest e r' None lead) refl (some_for source) (λ e is lead. law_for source e lead (laws e is)))
        key.While (λ e lead. while_rest e r None lead) (λ e lead. while_rest e r' None lead) refl (some_while source) (λ e is lead. law_while source e lead (laws e is)))
        key.Begin (λ e lead. block_rest e r lead) (λ e lead. block_rest e r' lead) refl (some_block source) (λ e is lead. law_block source e lead (laws e is)))
        key.Case (λ e lead. case_rest e r lead) (λ e lead. case_rest e r' lead) refl (some_case source) (λ e is lead. law_case source e lead (laws e is)))
        key.If (λ e lead. if_rest e r lead) (λ e lead. if_rest e r' lead) refl (some_if source) (λ e is lead. law_if source e lead (laws e is)))
        key.Select (λ e lead. select_rest e r lead) (λ e lead. select_rest e r' lead) refl (some_select source) (λ e is lead. law_select source e lead (laws e is))

  -- ---- as the grammar has them

  compound_is : (K : PStmt → Type 0) (s : Symbol) (d : ℕ) (x : PStmt) (text : List Item) → Compound K s d x text → IsStmt source d x text
  compound_is K s zero x text (at, one, back, from, token, never) = absurd never
  compound_is K s (suc e) x text is =
      let (at, back, from, (kind, spelled)) = after_symbol s (λ at. Below (LedBelow source K s at)) (suc e) x text is in
      subst (IsStmt source (suc e) x) (sym from) spelled

  simple_is : (K : PStmt → Type 0) (s : Symbol) (d : ℕ) (x : PStmt) (text : List Item) → Simple K s d x text → IsStmt source d x text
  simple_is K s d x text is =
      let (at, back, from, (kind, spelled)) = after_symbol s (λ at. LedBy source K s at) d x text is in
      subst (IsStmt source d x) (sym from) spelled

  choice_is : (d : ℕ) (x : PStmt) (text : List Item) → Choices d x text → IsStmt source d x text
  choice_is d x text (inl is) = compound_is IsSelect key.Select d x text is
  choice_is d x text (inr (inl is)) = compound_is IsIf key.If d x text is
  choice_is d x text (inr (inr (inl is))) = compound_is IsCase key.Case d x text is
  choice_is d x text (inr (inr (inr (inl is)))) = compound_is IsBlock key.Begin d x text is
  choice_is d x text (inr (inr (inr (inr (inl is))))) = compound_is IsWhile key.While d x text is
  choice_is d x text (inr (inr (inr (inr (inr (inl is)))))) = compound_is IsFor key.For d x text is
  choice_is d x text (inr (inr (inr (inr (inr (inr (inl is))))))) = compound_is IsLoop key.Loop d x text is
  choice_is d x text (inr (inr (inr (inr (inr (inr (inr (inl is)))))))) = simple_is IsNull key.Null d x text is
  choice_is d x text (inr (inr (inr (inr (inr (inr (inr (inr (inl is))))))))) = simple_is IsDelay key.Delay d x text is
  choice_is d x text (inr (inr (inr (inr (inr (inr (inr (inr (inr (inl is)))))))))) = simple_is IsExit key.Exit d x text is
  choice_is d x text (inr (inr (inr (inr (inr (inr (inr (inr (inr (inr (inl is))))))))))) = simple_is IsRaise key.Raise d x text is
  choice_is d x text (inr (inr (inr (inr (inr (inr (inr (inr (inr (inr (inr (inl is)))))))))))) = simple_is IsAbort key.Abort d x text is
  choice_is d x text (inr (inr (inr (inr (inr (inr (inr (inr (inr (inr (inr (inr (inl is))))))))))))) = simple_is (IsAccepting source) key.Accept d x text is
  choice_is d x text (inr (inr (inr (inr (inr (inr (inr (inr (inr (inr (inr (inr (inr (inl is)))))))))))))) =
      let (w, back, from, spelled) = after_word (WordStmt source) d x text is in
      subst (IsStmt source d x) (sym from) spelled
  choice_is d x text (inr (inr (inr (inr (inr (inr (inr (inr (inr (inr (inr (inr (inr (inr never)))))))))))))) = absurd never

  -- by the kind of a statement, and by the piece that it begins with
  put_compound : (K : PStmt → Type 0) (s : Symbol) (e : ℕ) (x : PStmt) (text front back : List Item) → K x → text ≡ front ++ back → Key s front → IsStmt source (suc e) x text → Compound K s (suc e) x text
  put_compound K s e x text front back kind from first is =
      let (at, whole) = lead_key source s text front back from first in
      subst (Compound K s (suc e) x) (sym whole) (symbol_then s (λ at. Below (LedBelow source K s at)) (suc e) x at back (kind, subst (IsStmt source (suc e) x) whole is))

  put_simple : (K : PStmt → Type 0) (s : Symbol) (d : ℕ) (x : PStmt) (text front back : List Item) → K x → text ≡ front ++ back → Key s front → IsStmt source d x text → Simple K s d x text
  put_simple K s d x text front back kind from first is =
      let (at, whole) = lead_key source s text front back from first in
      subst (Simple K s d x) (sym whole) (symbol_then s (λ at. LedBy source K s at) d x at back (kind, subst (IsStmt source d x) whole is))

  word_choice : (d : ℕ) (x : PStmt) (text : List Item) → Then (One word) (WordStmt source) d x text → Choices d x text
  word_choice d x text is = inr (inr (inr (inr (inr (inr (inr (inr (inr (inr (inr (inr (inr (inl is)))))))))))))

  put_word : (d : ℕ) (x : PStmt) (text : List Item) (w : Word) (back : List Item) → text ≡ word_item w ∷ back → IsStmt source d x text → Choices d x text
  put_word d x text w back whole is =
      word_choice d x text (subst (Then (One word) (WordStmt source) d x) (sym whole) (word_then (WordStmt source) d x w back (subst (IsStmt source d x) whole is)))

  is_choice : (d : ℕ) (x : PStmt) (text : List Item) → IsStmt source d x text → Choices d x text
  is_choice d (SNull s) text is = inr (inr (inr (inr (inr (inr (inr (inl (put_simple IsNull key.Null d (SNull s) text is.0.0 is.0.1 tt is.0.2 is.0.3 is))))))))
  is_choice d (SDelay n s) text is = inr (inr (inr (inr (inr (inr (inr (inr (inl (put_simple IsDelay key.Delay d (SDelay n s) text is.0.0 is.0.1 tt is.0.2 is.0.3 is)))))))))
  is_choice d (SExit w e s) text is = inr (inr (inr (inr (inr (inr (inr (inr (inr (inl (put_simple IsExit key.Exit d (SExit w e s) text is.0.0 is.0.1 tt is.0.2 is.0.3 is))))))))))
  is_choice d (SRaise w s) text is = inr (inr (inr (inr (inr (inr (inr (inr (inr (inr (inl (put_simple IsRaise key.Raise d (SRaise w s) text is.0.0 is.0.1 tt is.0.2 is.0.3 is)))))))))))
  is_choice d (SAbort ts s) text is = inr (inr (inr (inr (inr (inr (inr (inr (inr (inr (inr (inl (put_simple IsAbort key.Abort d (SAbort ts s) text is.0.0 is.0.1 tt is.0.2 is.0.3 is))))))))))))
  is_choice d (SAccept a s) text is =
      let (at, back, from) = accept_first source d a text is.0 in
      inr (inr (inr (inr (inr (inr (inr (inr (inr (inr (inr (inr (inl (put_simple (IsAccepting source) key.Accept d (SAccept a s) text (symbol_item key.Accept at ∷ []) back tt from (at, refl) is)))))))))))))
  is_choice d (SAssign t e s) text is = put_word d (SAssign t e s) text t.name (is.0.3.back ++ is.0.1) (is.0.2 ∙ ap (λ l. l ++ is.0.1) is.0.3.text_is) is
  is_choice d (SCall c s) text is =
      let call = is.0.3 in
      put_word d (SCall c s) text c.task.name ((call.task.back ++ (symbol_item key.Dot call.dot ∷ word_item c.entry ∷ call.back)) ++ is.0.1)
      (is.0.2 ∙ ap (λ l. l ++ is.0.1) (call.text_is ∙ ap (λ l. l ++ (symbol_item key.Dot call.dot ∷ word_item c.entry ∷ call.back)) call.task.text_is)) is
  is_choice d (SPut parts s) text ((front, back, from, (at, one), rest), place) = put_word d (SPut parts s) text record { name = record { 0 = 14 }; span = at } back (from ∙ ap (λ l. l ++ back) one) ((front, back, from, (at, one), rest), place)
  is_choice d (SPutLine parts s) text ((front, back, from, (at, one), rest), place) = put_word d (SPutLine parts s) text record { name = record { 0 = 15 }; span = at } back (from ∙ ap (λ l. l ++ back) one) ((front, back, from, (at, one), rest), place)
  is_choice d (SNewLine s) text ((front, back, from, (at, one), rest), place) = put_word d (SNewLine s) text record { name = record { 0 = 16 }; span = at } back (from ∙ ap (λ l. l ++ back) one) ((front, back, from, (at, one), rest), place)
  is_choice d (SGet x s) text ((front, back, from, (at, one), rest), place) = put_word d (SGet x s) text record { name = record { 0 = 17 }; span = at } back (from ∙ ap (λ l. l ++ back) one) ((front, back, from, (at, one), rest), place)
  is_choice zero (SWait alts o s) text ((front, back, from, k, (f, g, split, never, rest)), place) = absurd never
  is_choice (suc e) (SWait alts o s) text is = inl (put_compound IsSelect key.Select e (SWait alts o s) text is.0.0 is.0.1 tt is.0.2 is.0.3 is)
  is_choice zero (SConditional c l o s) text ((front, back, from, k, (f, g, split, never, rest)), place) = absurd never
  is_choice (suc e) (SConditional c l o s) text is = inl (put_compound IsSelect key.Select e (SConditional c l o s) text is.0.0 is.0.1 tt is.0.2 is.0.3 is)
  is_choice zero (STimed c l n m s) text ((front, back, from, k, (f, g, split, never, rest)), place) = absurd never
  is_choice (suc e) (STimed c l n m s) text is = inl (put_compound IsSelect key.Select e (STimed c l n m s) text is.0.0 is.0.1 tt is.0.2 is.0.3 is)
  is_choice zero (SIf arms o s) text ((front, back, from, k, (f, g, split, never, rest)), place) = absurd never
  is_choice (suc e) (SIf arms o s) text is = inr (inl (put_compound IsIf key.If e (SIf arms o s) text is.0.0 is.0.1 tt is.0.2 is.0.3 is))
  is_choice zero (SCase x arms o s) text ((front, back, from, k, (f, g, split, never, rest)), place) = absurd never
  is_choice (suc e) (SCase x arms o s) text is = inr (inr (inl (put_compound IsCase key.Case e (SCase x arms o s) text is.0.0 is.0.1 tt is.0.2 is.0.3 is)))
  is_choice zero (SBlock b s) text ((front, back, from, never, rest), place) = absurd never
  is_choice (suc e) (SBlock (body l hs) s) text is =
      let (last, (f, g, split, k, rest)) = is.0.3 in
      inr (inr (inr (inl (put_compound IsBlock key.Begin e (SBlock (body l hs) s) text f (g ++ is.0.1) tt (is.0.2 ∙ ap (λ t. t ++ is.0.1) split ∙ append_assoc f g is.0.1) k is))))
  is_choice zero (SLoop w c l s) text ((front, back, from, name, (f, g, split, never, rest)), place) = absurd never
  is_choice (suc e) (SLoop None None l s) text is =
      let (front, back, from, k, rest) = (whole_loop source e l).back text is.0 in
      inr (inr (inr (inr (inr (inr (inl (put_compound IsLoop key.Loop e (SLoop None None l s) text front back tt from k is)))))))
  is_choice (suc e) (SLoop None (Some (LWhile t)) l s) text is =
      let (front, back, from, k, rest) = (whole_while source e t l).back text is.0 in
      inr (inr (inr (inr (inl (put_compound IsWhile key.While e (SLoop None (Some (LWhile t)) l s) text front back tt from k is)))))
  is_choice (suc e) (SLoop None (Some (LFor w b x)) l s) text is =
      let (front, back, from, k, rest) = (whole_for source e w b x l).back text is.0 in
      inr (inr (inr (inr (inr (inl (put_compound IsFor key.For e (SLoop None (Some (LFor w b x)) l s) text front back tt from k is))))))
  is_choice (suc e) (SLoop (Some w) c l s) text is =
      let (front, back, from, (f, g, split, one, colon), rest) = is.0 in
      put_word (suc e) (SLoop (Some w) c l s) text w (g ++ back) (from ∙ ap (λ t. t ++ back) (split ∙ ap (λ t. t ++ g) one)) is

  -- ---- statements

  -- the items that begin a statement are those of the test
  begun_by : (k : Item) → among true stmt_keys k ≡ true → begins_stmt k ≡ true
  unfolding same
  begun_by k is = among_hold (λ x. begins_stmt x ≡ true) true stmt_keys k (λ w. refl)
      (λ at. refl, (λ at. refl, (λ at. refl, (λ at. refl, (λ at. refl, (λ at. refl, (λ at. refl, (λ at. refl, (λ at. refl, (λ at. refl, (λ at. refl, (λ at. refl, (λ at. refl, tt))))))))))))) is

  abbrev the_end : Item
  the_end = record { kind = item.End; span = no_place }

  module _ (d : ℕ) (r r' : Readers) (laws : (e : ℕ) → d ≡ suc e → LevelLaws source e r r') where
    law_stmt : Lawful d (stmt_at source d r) (stmt_at source (suc d) r') (StmtTexts source) Anything
    law_stmt = record {
      careful = careful_fit (λ e deep x text is. choice_is e x text is) (is_choice d) (stmt_led d r r' laws).careful;
      some_text = λ e deep. let (text, is) = has_null source e in (a_null, text, is);
    }

    stmts_start : Starts d (StmtTexts source) Anything (IsYes begins_stmt)
    stmts_start = record { begins_with = λ x text k is stop. begun_by (first_of k text) ((stmt_led d r r' laws).starts.begins_with x text k (is_choice d x text is) stop) }

    -- all that reads at this depth, from what reads one level deeper
    law_level : LevelLaws source d (level_at source d r) (level_at source (suc d) r')
    law_level = record {
      stmt = law_stmt;
      opens = opens_by begins_stmt stmts_start the_end tt refl;
      accept = λ lead. law_accept source d lead laws;
      alt = law_alt source d laws;
      handlers = λ e is. law_handlers source e (laws e is);
    }

  -- ---- every depth

  pub level_laws : (d : ℕ) → LevelLaws source d (readers source d) (readers source (suc d))
  level_laws zero = law_level 0 (inner_at source 0) (inner_at source 1) (λ e is. absurd (omega (arith, is)))
  level_laws (suc d) = law_level (suc d) (inner_at source (suc d)) (inner_at source (suc (suc d)))
      (λ e is. subst (λ n. LevelLaws source n (inner_at source (suc d)) (inner_at source (suc (suc d)))) (pred_same (suc d) d e refl is) (level_laws d))

  -- one statement, statements, and a body behind `begin`
  pub law_stmt_at : LawfulAtEach (λ d. (readers source d).stmt) (StmtTexts source) Anything
  law_stmt_at d = (level_laws d).stmt

  pub law_stmts_at : LawfulAtEach (λ d. stmts (readers source d)) (StmtsTexts source) EndsStmts
  law_stmts_at d = law_stmts source (level_laws d)

  pub law_body_at : LawfulAtEach (λ d. body_rest d (readers source d)) (BodyTexts source) EndsBody
  law_body_at d = law_body source d (level_laws d)
