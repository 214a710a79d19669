-- The laws of accept statements, behind their first word.
use Rattle.std.proofs.Common.{◌≡◌, ℕ, zero, suc, Bool, true, false, true≢false, ◌⊎◌, inl, inr, ⊎_elim, List, [], ◌∷◌, ◌++◌, Option, Some, None, refl, sym, ap, ◌∙◌, subst, arith}
use Rattle.std.specs.Prelude.{is_some, not, ◌||◌, if◌then◌else◌}
use Rattle.ada_tree.specs.declared.naming.Span.{Span}
use Rattle.ada_tree.specs.declared.naming.Word.{Word}
use Rattle.ada_tree.specs.declared.expressions.UnaryOp.{UnaryOp}
use Rattle.ada_tree.specs.declared.expressions.UnaryOp.TheVariants as unary
use Rattle.ada_tree.specs.PlainExpr.{PExpr, EInteger, EName, EIndex}
use Rattle.ada_tree.specs.PlainStmt.{PFormal, PHead, PStmts, PStmt, SAccept, absent, present, PAccept, accepting}
use Rattle.ada_lexer.specs.declared.symbols.Symbol.TheVariants as key
use Rattle.ada_expr_parser.specs.declared.items.ItemKind.TheVariants as item
use Rattle.ada_expr_parser.specs.declared.items.Item.{Item}
use Rattle.ada_expr_parser.specs.declared.levels.Level.TheVariants.{Logical}
use Rattle.ada_expr_parser.specs.Tests.{same, symbol, word, begins_expr}
use Rattle.ada_expr_parser.specs.Trees.{from_to, attribute}
use Rattle.ada_expr_parser.specs.Grammar.{symbol_item, word_item, number_item, Spells}
use Rattle.ada_expr_parser.specs.Reading.{inner, name_rest}
use Rattle.ada_expr_parser.specs.Parts.{expr_behind}
use Rattle.ada_phrase_parser.specs.Spelling.{Source, Spelling, Nothing, ◌▷◌, Key, Named, Separated, Inside, IsPlaceOf}
use Rattle.ada_phrase_parser.specs.Phrases.{Expression, NestedExpr, Mode, IsFormal, Formals, Index, AcceptHead, EndOf}
use Rattle.ada_stmt_parser.specs.Statements.{Stmts, IsAccept}
use Rattle.ada_phrase_parser.specs.Reading.{is_symbol, closed, goes_on_name, expression_from, in_deeper, operand, end_of, Behind, behind_index, is_formal_mark, accept_name, accept_behind}
use Rattle.ada_stmt_parser.specs.inner.ReadingStatements.{Readers, accept_span, accept_at, stmts}
use Rattle.ada_compound_parts.specs.inner.ReadingParts.{head_of}
use Rattle.ada_expr_parser.specs.readers.Readers.{Answer, Found, Fault, Reader, bind, pure, go_on, on, below, token}
use Rattle.ada_expr_parser.specs.readers.Grammars.{Texts, Is, One, Then, Or, Below, Begins, Starts, first_of}
use Rattle.ada_expr_parser.specs.readers.Lawful.{Careful, Lawful, Anything, IsYes, IsNo}
use Rattle.ada_expr_parser.proofs.readers.Basics.{not_empty, found_rest}
use Rattle.ada_expr_parser.proofs.readers.Binding.{law_pure}
use Rattle.ada_expr_parser.proofs.readers.Choosing.{law_on}
use Rattle.ada_expr_parser.proofs.readers.Looking.{decided, careful_look, careful_where}
use Rattle.ada_expr_parser.proofs.readers.Deepening.{law_below}
use Rattle.ada_expr_parser.proofs.readers.Fitting.{law_fit, careful_same, starts_is}
use Rattle.ada_parser.specs.expression_laws.Stopping.{Ends}
use Rattle.ada_parser.proofs.expression_laws.Tokens.{symbol_takes, word_is}
use Rattle.ada_parser.proofs.expression_laws.Primaries.{no_place, some_word, close_ends}
use Rattle.ada_parser.proofs.expression_laws.Plainly.{after_symbol, symbol_then}
use Rattle.ada_parser.proofs.expression_laws.Chains.{spells_first}
use Rattle.ada_parser.proofs.expression_laws.Stopper.{stopper, stopper_ends}
use Rattle.ada_parser.proofs.expression_laws.Behinds.{behind_spells}
use Rattle.ada_parser.proofs.KitPieces.{KeyAt, Closing, closing_key, closing_then, placed_key, key_placed, key_then, after_key, Same, same_self, same_turn, same_through, same_then, same_grouped, tail_of}
use Rattle.ada_parser.proofs.KitReading.{Made, Both, made_fit, made_bind, made_then, made_key, made_pure, law_word, law_closed, key_taken, taken_key, starts_key, starts_last}
use Rattle.ada_parser.proofs.KitDeeper.{careful_in_deeper, careful_behind, operand_careful, NameEnd, law_end_of, closing_end}
use Rattle.ada_parser.proofs.KitLeading.{symbol_at, or_is}
use Rattle.ada_parser.proofs.Narrowing.{Narrow, narrow_where, narrow_starts, passed_by, law_either}
use Rattle.ada_parser.proofs.Formals.{FormalsBehind, law_formals_from, FormalsTexts, EndsFormals, law_formals, formals_start}
use Rattle.ada_parser.proofs.WordExpr.{FromTexts, law_from, operates, stays, some_behind}
use Rattle.ada_parser.proofs.WordGet.{goes_so}
use Rattle.ada_parser.proofs.StmtLevels.{EndsStmts, StmtsTexts, AcceptTexts, LevelLaws, law_stmts, Has, has_then, has_key, has_at, nulls, has_nulls, end_stmts}
use Rattle.ada_parser.proofs.StmtSimple.{LedBy}
use Rattle.ada_parser.proofs.StmtLoops.{placed_same}
use Rattle.ada_parser.proofs.DeclEntries.{semicolon_formals}
use Rattle.ada_parser.proofs.DeclTypes.{pushed}
use Rattle.ada_parser.proofs.WordPut.{paren_begins, prefix_begins}
use Rattle.common_lemmas.proofs.Options.{none_there}
use Rattle.common_lemmas.proofs.Truth.{or_both}

abbrev Found_behind : Type 0
Found_behind = Behind PExpr

abbrev with_index : PExpr → List PFormal → Found_behind
with_index i fs = record { index = Some i; formals = fs }

abbrev formals_alone : List PFormal → Found_behind
formals_alone fs = record { index = None; formals = fs }

-- ---- behind an index

abbrev CloseFormals : PExpr → ℕ → List PFormal → Spelling
CloseFormals i d fs = Key key.RightParen ▷ Formals fs

law_behind_index : (d : ℕ) (i : PExpr) → Lawful d (behind_index i) (behind_index i) (Made (with_index i) (CloseFormals i)) EndsFormals
law_behind_index d i = made_key key.RightParen (with_index i) FormalsTexts (made_pure (with_index i) (law_formals d))

close_starts : {d : ℕ} (i : PExpr) → Starts d (Made (with_index i) (CloseFormals i)) EndsFormals (Ends Logical)
close_starts i = starts_key key.RightParen (with_index i) FormalsTexts close_ends

refuses : (i : PExpr) (k : Item) (ts : List Item) → symbol key.RightParen k ≡ None → behind_index i (k ∷ ts) ≡ Fault false (k ∷ ts)
refuses i k ts none = rw none refl

-- ---- an index whose first name has been read

abbrev goes_on : Item → Bool
goes_on x = goes_on_name x || is_symbol key.LeftParen x || is_symbol key.RightParen x

module _ (w : Word) where
  abbrev from_name : ℕ → Reader Item Found_behind
  from_name e = bind (expression_from e w) behind_index

  abbrev FromName : Texts Item Found_behind
  FromName = Made (λ v. with_index v.0 v.1) (Both (FromTexts w) CloseFormals)

  law_from_name : (e : ℕ) → Lawful e (from_name e) (from_name (suc e)) FromName EndsFormals
  law_from_name e = made_bind {R = Ends Logical} with_index CloseFormals (law_from e w) (law_behind_index e) close_starts

  some_from : (e : ℕ) (i : PExpr) (k : Item) (more : List Item) → FromTexts w e i (k ∷ more) → Begins (FromName e) (k ∷ [])
  some_from e i k more is =
      (with_index i [], more ++ (symbol_item key.RightParen no_place ∷ []), ((i, []), refl, (k ∷ more, symbol_item key.RightParen no_place ∷ [], refl, is, key_then key.RightParen Nothing no_place [] refl)))

  tick_from : (at : Span) → (e : ℕ) × Begins (FromName e) (symbol_item key.Tick at ∷ [])
  tick_from at = (0, some_from 0 (attribute w some_word) (symbol_item key.Tick at) (word_item some_word ∷ []) (record { spells = (at, refl, refl); fits = omega arith; nested = omega arith }))

  paren_from : (at : Span) → (e : ℕ) × Begins (FromName e) (symbol_item key.LeftParen at ∷ [])
  paren_from at = (
    1,
    some_from 1 (EIndex w (EInteger 0 no_place) (from_to w.span no_place)) (symbol_item key.LeftParen at) (number_item 0 no_place ∷ symbol_item key.RightParen no_place ∷ [])
        (record { spells = (number_item 0 no_place ∷ [], at, no_place, refl, refl, refl); fits = omega arith; nested = omega arith }),
  )

  close_from : (at : Span) → (e : ℕ) × Begins (FromName e) (symbol_item key.RightParen at ∷ [])
  close_from at = (
    0,
    (with_index (EName w.name w.span) [], [], ((EName w.name w.span, []), refl, ([], symbol_item key.RightParen at ∷ [], refl, record { spells = refl; fits = omega arith; nested = omega arith }, key_then key.RightParen Nothing at [] refl))),
  )

  operator_from : (k : Item) → operates k ≡ true → (e : ℕ) × Begins (FromName e) (k ∷ [])
  operator_from k is =
      let (a, more, behind, low) = some_behind (EName w.name w.span) (omega arith) refl k is in
      (1, some_from 1 a k more (record { spells = behind_spells (EName w.name w.span) a (word_item w ∷ []) (k ∷ more) refl behind; fits = omega arith; nested = low }))

  goes_from : (k : Item) → goes_on k ≡ true → (e : ℕ) × Begins (FromName e) (k ∷ [])
  goes_from k is = ⊎_elim
      (λ open_. ⊎_elim
      (λ goes. ⊎_elim
      (λ tick. let (at, named) = symbol_at key.Tick k tick in subst (λ t. (e : ℕ) × Begins (FromName e) (t ∷ [])) (sym named) (tick_from at))
      (λ some. operator_from k some)
      (or_is (is_symbol key.Tick k) (operates k) (sym (goes_so k) ∙ goes)))
      (λ paren. let (at, named) = symbol_at key.LeftParen k paren in subst (λ t. (e : ℕ) × Begins (FromName e) (t ∷ [])) (sym named) (paren_from at))
      (or_is (goes_on_name k) (is_symbol key.LeftParen k) open_))
      (λ close. let (at, named) = symbol_at key.RightParen k close in subst (λ t. (e : ℕ) × Begins (FromName e) (t ∷ [])) (sym named) (close_from at))
      (or_is (goes_on_name k || is_symbol key.LeftParen k) (is_symbol key.RightParen k) is)

  passes_from : (k : Item) (ts : List Item) → goes_on k ≡ false → from_name 0 (k ∷ ts) ≡ Fault false (k ∷ ts)
  passes_from k ts off =
      let (open_, close) = or_both (goes_on_name k || is_symbol key.LeftParen k) (is_symbol key.RightParen k) off in
      let (goes, paren) = or_both (goes_on_name k) (is_symbol key.LeftParen k) open_ in
      let (tick, none) = or_both (is_symbol key.Tick k) (operates k) (sym (goes_so k) ∙ goes) in
      let named : name_rest 0 (inner 0) w (k ∷ ts) ≡ Found (EName w.name w.span) (k ∷ ts) = rw (none_there (symbol key.LeftParen k) paren) (rw (none_there (symbol key.Tick k) tick) refl) in
      ap (λ a. go_on (go_on a (expr_behind 0)) behind_index) named ∙ ap (λ a. go_on a behind_index) (stays (EName w.name w.span) refl 0 k ts none) ∙
      refuses (EName w.name w.span) k ts (none_there (symbol key.RightParen k) close)

  abbrev refused : Bool → List Item → Answer Item PExpr
  refused b ts = if b then Fault true ts else Fault false ts

  deeper_or : (b : Bool) (k : Item) (ts : List Item) → go_on (refused b (k ∷ ts)) behind_index ≡ (if b then Fault true (k ∷ ts) else Fault false (k ∷ ts))
  deeper_or true k ts = refl
  deeper_or false k ts = refl

  as_deeper : (d : ℕ) (ts : List Item) → bind (in_deeper d goes_on (λ e. expression_from e w)) behind_index ts ≡ in_deeper d goes_on from_name ts
  as_deeper zero [] = refl
  as_deeper zero (k ∷ ts) = deeper_or (goes_on k) k ts
  as_deeper (suc e) ts = refl

  careful_index : (d : ℕ) → Careful d (bind (in_deeper d goes_on (λ e. expression_from e w)) behind_index) (bind (in_deeper (suc d) goes_on (λ e. expression_from e w)) behind_index) (Below FromName) EndsFormals
  careful_index d = careful_same (as_deeper d) (as_deeper (suc d)) (careful_in_deeper law_from_name goes_from passes_from refl d)

  -- ---- behind the first name: formals or an index

  abbrev NameTexts : Texts Item Found_behind
  NameTexts = Or (Made formals_alone (FormalsBehind w)) (Below FromName)

  colon_mark : (at : Span) → is_formal_mark (symbol_item key.Colon at) ≡ true
  unfolding same
  colon_mark at = refl

  comma_mark : (at : Span) → is_formal_mark (symbol_item key.Comma at) ≡ true
  unfolding same
  comma_mark at = refl

  formals_marked : (d : ℕ) → Starts d (Made formals_alone (FormalsBehind w)) EndsFormals (IsYes is_formal_mark)
  formals_marked d = record { begins_with = λ x text k (fs, same, is) stop. (formals_start d w EndsFormals (IsYes is_formal_mark) comma_mark colon_mark).begins_with fs text k is stop }

  mark_ends : (k : Item) → is_formal_mark k ≡ true → Ends Logical k
  unfolding same
  mark_ends k is = ⊎_elim
      (λ colon. let (at, named) = symbol_at key.Colon k colon in subst (Ends Logical) (sym named) (((((refl, refl), refl), refl), refl), refl))
      (λ comma. let (at, named) = symbol_at key.Comma k comma in subst (Ends Logical) (sym named) (((((refl, refl), refl), refl), refl), refl))
      (or_is (is_symbol key.Colon k) (is_symbol key.Comma k) is)

  -- no expression goes on with a mark of a formal
  no_mark : (e : ℕ) (i : PExpr) (k : Item) (more : List Item) → FromTexts w e i (k ∷ more) → is_formal_mark k ≡ true → ⊥
  no_mark e i k more is mark =
      let name : FromTexts w e (EName w.name w.span) [] = record { spells = refl; fits = omega arith; nested = omega arith } in
      let here = (law_from e w).careful.complete k (more ++ (stopper ∷ [])) name (mark_ends k mark) in
      let there = (law_from e w).careful.complete stopper [] is (stopper_ends Logical) in
      not_empty more stopper [] (ap tail_of (found_rest (sym there ∙ here)))

  close_no_mark : (at : Span) → is_formal_mark (symbol_item key.RightParen at) ≡ false
  unfolding same
  close_no_mark at = refl

  index_unmarked : (d : ℕ) → Starts d (Below FromName) EndsFormals (IsNo is_formal_mark)
  index_unmarked zero = record { begins_with = λ x text k never stop. absurd never }
  index_unmarked (suc e) = record { begins_with = λ x text k is stop. starts x text k is } where
    starts : (x : Found_behind) (text : List Item) (k : Item) → FromName e x text → is_formal_mark (first_of k text) ≡ false
    starts x text k ((i, fs), same, ([], back, from, is, (f, b, split, (at, one), rest))) = rw from (rw split (rw one (close_no_mark at)))
    starts x text k ((i, fs), same, (y ∷ more, back, from, is, rest)) = rw from (⊎_elim (λ mark. absurd (no_mark e i y more is mark)) (λ off. off) (decided (is_formal_mark y)))

  careful_name : (d : ℕ) → Careful d (accept_name d w) (accept_name (suc d) w) NameTexts EndsFormals
  careful_name d = careful_look (careful_where is_formal_mark (made_pure formals_alone (law_formals_from d w EndsFormals)).careful) (careful_index d) (formals_marked d) (index_unmarked d)

  law_name : (d : ℕ) → Lawful d (accept_name d w) (accept_name (suc d) w) NameTexts EndsFormals
  law_name d = record {
    careful = careful_name d;
    some_text = λ e deep. let (fs, f, is) = (law_formals_from d w EndsFormals).some_text e deep in (formals_alone fs, f, inl (fs, refl, is));
  }

-- ---- behind the parenthesis

abbrev IndexTexts : Texts Item Found_behind
IndexTexts = Made (λ v. with_index v.0 v.1) (Both (λ d i. NestedExpr d i) CloseFormals)

careful_operand : (d : ℕ) → Careful d (bind (operand d) behind_index) (bind (operand (suc d)) behind_index) IndexTexts EndsFormals
careful_operand d = careful_behind with_index CloseFormals (operand_careful d) (law_behind_index d) close_starts

not_nothing : (d : ℕ) (x : Found_behind) → IndexTexts d x [] → ⊥
not_nothing d x ((i, fs), same, (front, back, from, is, (f, b, split, (at, one), rest))) =
    not_empty front (symbol_item key.RightParen at) b (from ∙ ap (λ l. front ++ l) (split ∙ ap (λ l. l ++ b) one))

abbrev ParenTexts : Texts Item Found_behind
ParenTexts = Or (Narrow (passed_by word) IndexTexts) (Then (One word) NameTexts)

law_paren : (d : ℕ) → Lawful d (on word (accept_name d) (bind (operand d) behind_index)) (on word (accept_name (suc d)) (bind (operand (suc d)) behind_index)) ParenTexts EndsFormals
law_paren d = law_either word (λ w. law_name w d) (narrow_where (passed_by word) (careful_operand d) (not_nothing d)) narrow_starts (word_item some_word) some_word refl

-- in plain words: an index with what follows it, or formals alone
abbrev FormalsClosed : List PFormal → Spelling
FormalsClosed fs = Separated (Key key.Semicolon) IsFormal fs ▷ Key key.RightParen

abbrev InTexts : Texts Item Found_behind
InTexts = Or IndexTexts (Made formals_alone (λ d fs. FormalsClosed fs))

paren_is : (d : ℕ) (x : Found_behind) (text : List Item) → ParenTexts d x text → InTexts d x text
paren_is d x text (inl is) = inl is.spells
paren_is d x text (inr (w, front, back, from, (k, one, some), inl (fs, same, is))) =
    let whole : text ≡ word_item w ∷ back = from ∙ ap (λ l. l ++ back) (one ∙ ap (λ t. t ∷ []) (word_is k w some)) in
    inr (fs, same, subst (FormalsClosed fs) (sym whole) is)
paren_is zero x text (inr (w, front, back, from, token, inr never)) = absurd never
paren_is (suc e) x text (inr (w, front, back, from, (k, one, some), inr ((i, fs), same, (f, b, split, is, rest)))) =
    let whole : text ≡ word_item w ∷ back = from ∙ ap (λ l. l ++ back) (one ∙ ap (λ t. t ∷ []) (word_is k w some)) in
    inl ((i, fs), same, (word_item w ∷ f, b, whole ∙ ap (λ l. word_item w ∷ l) split, is, rest))

-- formals begin with a name
formal_name : (ws : List Word) (Q : Spelling) (text : List Item) → (Separated (Key key.Comma) Named ws ▷ Q) text → (w : Word) × (back : List Item) × (text ≡ word_item w ∷ back)
formal_name [] Q text (front, back, from, never, rest) = absurd never
formal_name (w ∷ more) Q text (front, back, from, (f, b, split, one, names), rest) = (w, b ++ back, from ∙ ap (λ l. l ++ back) (split ∙ ap (λ l. l ++ b) one))

formals_name : (fs : List PFormal) (text : List Item) → FormalsClosed fs text → (w : Word) × (back : List Item) × (text ≡ word_item w ∷ back)
formals_name [] text (front, back, from, never, one) = absurd never
formals_name (x ∷ more) text (front, back, from, (f, b, split, is, many), one) =
    let (w, rest, first) = formal_name x.names (Key key.Colon ▷ Mode x.mode ▷ Named x.mark) f is in
    (w, (rest ++ b) ++ back, from ∙ ap (λ l. l ++ back) (split ∙ ap (λ l. l ++ b) first))

no_expr : (e : PExpr) → Spells e [] → ⊥
no_expr e is = true≢false (sym (spells_first (λ k. begins_expr k ≡ true) (λ w. refl) (λ n s. refl) paren_begins prefix_begins e [] (record { kind = item.End; span = no_place }) is))

in_paren : (d : ℕ) (x : Found_behind) (text : List Item) → InTexts d x text → ParenTexts d x text
in_paren d x text (inr (fs, same, is)) =
    let (w, back, from) = formals_name fs text is in
    inr (w, word_item w ∷ [], back, from, (word_item w, refl, refl), inl (fs, same, subst (FormalsClosed fs) from is))
in_paren zero x text (inl ((i, fs), same, (front, back, from, never, rest))) = absurd never
in_paren (suc e) x text (inl ((i, fs), same, ([], back, from, is, rest))) = absurd (no_expr i is.spells)
in_paren (suc e) x text (inl ((i, fs), same, (y ∷ more, back, from, is, rest))) = by (word y) refl where
  by : (o : Option Word) → word y ≡ o → ParenTexts (suc e) x text
  by None none = inl (record { k = y; more = more ++ back; text_is = from; passes = ap (λ m. not (is_some m)) none; spells = ((i, fs), same, (y ∷ more, back, from, is, rest)) })
  by (Some w) some =
      let named : y ≡ word_item w = word_is y w some in
      inr (
        w,
        word_item w ∷ [],
        more ++ back,
        from ∙ ap (λ t. t ∷ (more ++ back)) named,
        (word_item w, refl, refl),
        inr ((i, fs), same, (more, back, refl, subst (λ t. Expression e i (t ∷ more)) named is, rest)),
      )

law_in : (d : ℕ) → Lawful d (on word (accept_name d) (bind (operand d) behind_index)) (on word (accept_name (suc d)) (bind (operand (suc d)) behind_index)) InTexts EndsFormals
law_in d = law_fit (λ e deep x text is. paren_is e x text is) (in_paren d) (law_paren d)

-- ---- behind the name of the entry

abbrev BehindTexts : Texts Item Found_behind
BehindTexts d x text = (Index d x.index ▷ Formals x.formals) text

-- an index in parentheses
enclosed_same : (d : ℕ) (i : PExpr) → Same (Key key.LeftParen ▷ (NestedExpr d i ▷ Key key.RightParen)) (Index d (Some i))
enclosed_same zero i = record {
  to = λ text (front, back, from, k, (f, b, split, never, one)). absurd never;
  back = λ text is. let low = is.nested in absurd (omega (arith, low));
}
enclosed_same (suc e) i = record {
  to = λ text (front, back, from, (lead, first), (f, b, split, is, (close, last))). record {
    lead = lead;
    close = close;
    part = f;
    spells = is.spells;
    nested = let low = is.nested in omega (arith, low);
    text_is = from ∙ ap (λ l. l ++ back) first ∙ ap (λ l. symbol_item key.LeftParen lead ∷ l) (split ∙ ap (λ l. f ++ l) last);
  };
  back = λ text is. (
    symbol_item key.LeftParen is.lead ∷ [],
    is.part ++ (symbol_item key.RightParen is.close ∷ []),
    is.text_is,
    (is.lead, refl),
    (is.part, symbol_item key.RightParen is.close ∷ [], refl, record { spells = is.spells; fits = omega arith; nested = let low = is.nested in omega (arith, low) }, (is.close, refl)),
  );
}

index_same : (d : ℕ) (i : PExpr) (fs : List PFormal) → Same (Key key.LeftParen ▷ (NestedExpr d i ▷ CloseFormals i d fs)) (Index d (Some i) ▷ Formals fs)
index_same d i fs = same_through (pushed (Key key.LeftParen) (same_grouped (NestedExpr d i) (Key key.RightParen) (Formals fs))) (same_then (enclosed_same d i) (same_self (Formals fs)))

abbrev LeadTexts : Texts Item Found_behind
LeadTexts = Or (Then (One (symbol key.LeftParen)) (λ lead. InTexts)) (Is (formals_alone []))

closed_formals : (fs : List PFormal) (text : List Item) → (Key key.LeftParen ▷ FormalsClosed fs) text → Formals fs text
closed_formals [] text (front, back, from, k, (f, b, split, never, one)) = absurd never
closed_formals (x ∷ more) text is = is

lead_is : (d : ℕ) (x : Found_behind) (text : List Item) → LeadTexts d x text → BehindTexts d x text
lead_is d x text (inr (same, none)) = rw same ([], text, refl, refl, none)
lead_is d x text (inl taken) = by (key_taken key.LeftParen InTexts d x text taken) where
  by : (Key key.LeftParen ▷ InTexts d x) text → BehindTexts d x text
  by (front, back, from, k, inl ((i, fs), same, is)) = rw same ((index_same d i fs).to text (front, back, from, k, is))
  by (front, back, from, k, inr (fs, same, is)) = rw same ([], text, refl, refl, closed_formals fs text (front, back, from, k, is))

is_lead : (d : ℕ) (o : Option PExpr) (fs : List PFormal) (text : List Item) → (Index d o ▷ Formals fs) text → LeadTexts d (record { index = o; formals = fs }) text
is_lead d None [] text (front, back, from, none, nothing) = inr (refl, from ∙ ap (λ l. l ++ back) none ∙ nothing)
is_lead d None (x ∷ more) text (front, back, from, none, is) =
    inl (taken_key key.LeftParen InTexts d (formals_alone (x ∷ more)) text (by (subst (Formals (x ∷ more)) (sym (from ∙ ap (λ l. l ++ back) none)) is))) where
      by : Formals (x ∷ more) text → (Key key.LeftParen ▷ InTexts d (formals_alone (x ∷ more))) text
      by (f, b, split, k, rest) = (f, b, split, k, inr (x ∷ more, refl, rest))
is_lead d (Some i) fs text is = inl (taken_key key.LeftParen InTexts d (with_index i fs) text (by ((index_same d i fs).back text is))) where
  by : (Key key.LeftParen ▷ (NestedExpr d i ▷ CloseFormals i d fs)) text → (Key key.LeftParen ▷ InTexts d (with_index i fs)) text
  by (f, b, split, k, rest) = (f, b, split, k, inl ((i, fs), refl, rest))

law_accept_behind : (d : ℕ) → Lawful d (accept_behind d) (accept_behind (suc d)) BehindTexts EndsFormals
law_accept_behind d = law_fit (λ e deep x text is. lead_is e x text is) (λ x text is. is_lead d x.index x.formals text is)
    (law_on {test = symbol key.LeftParen} (λ lead. law_in d) (law_pure d (formals_alone []) EndsFormals).careful (starts_is (λ x stop. stop)) (symbol_item key.LeftParen no_place) no_place (symbol_takes key.LeftParen no_place))

-- ---- accept statements

-- where it ends: with a semicolon, or behind its statements
abbrev AcceptEnd : Type 0
AcceptEnd = Span ⊎ (PStmts × Span)

do_no_paren : (at : Span) → EndsFormals (symbol_item key.Do at)
unfolding same
do_no_paren at = refl

semicolon_no_do : (at : Span) → symbol key.Do (symbol_item key.Semicolon at) ≡ None
unfolding same
semicolon_no_do at = refl

module _ (source : Source) where
  abbrev StmtsEnd : Word → PStmts → ℕ → Span → Spelling
  StmtsEnd w l e close = Key key.End ▷ NameEnd w close

  abbrev EndSpelled : Word → ℕ → AcceptEnd → Spelling
  EndSpelled w d (inl close) = KeyAt key.Semicolon close
  EndSpelled w d (inr v) = Key key.Do ▷ (Inside d (λ i. Stmts source i v.0) ▷ (Key key.End ▷ NameEnd w v.1))

  abbrev accept_tree : Span → Word → Found_behind → AcceptEnd → PAccept
  accept_tree lead w x (inl close) = accepting (head_of w x (from_to lead close)) absent
  accept_tree lead w x (inr v) = accepting (head_of w x (from_to lead v.1)) (present v.0)

  module _ (lead : Span) (w : Word) (x : Found_behind) where
    abbrev short_tree : Span → PAccept
    short_tree close = accepting (head_of w x (from_to lead close)) absent

    abbrev long_tree : PStmts → Span → PAccept
    long_tree l close = accepting (head_of w x (from_to lead close)) (present l)

    abbrev Long : Texts Item PAccept
    Long = Made (λ v. long_tree v.0 v.1) (Both (StmtsTexts source) (StmtsEnd w))

    abbrev Ends_texts : Texts Item PAccept
    Ends_texts = Or (Then (One (symbol key.Do)) (λ at. Below Long)) (Made short_tree (λ e close. KeyAt key.Semicolon close))

    ends_is : (d : ℕ) (a : PAccept) (text : List Item) → Ends_texts d a text → Made (accept_tree lead w x) (EndSpelled w) d a text
    ends_is d a text (inr (close, same, is)) = (inl close, same, is)
    ends_is zero a text (inl (at, one, back, from, token, never)) = absurd never
    ends_is (suc e) a text (inl taken) =
        let (at, back, from, (v, same, is)) = after_symbol key.Do (λ at. Below Long) (suc e) a text taken in
        (inr v, same, subst (EndSpelled w (suc e) (inr v)) (sym from) (key_then key.Do (Both (StmtsTexts source) (StmtsEnd w) e v) at back is))

    is_ends : (d : ℕ) (a : PAccept) (text : List Item) → Made (accept_tree lead w x) (EndSpelled w) d a text → Ends_texts d a text
    is_ends d a text (inl close, same, is) = inr (close, same, is)
    is_ends zero a text (inr v, same, (front, back, from, k, (f, b, split, never, rest))) = absurd never
    is_ends (suc e) a text (inr v, same, is) =
        let (at, back, from, rest) = after_key key.Do (Both (StmtsTexts source) (StmtsEnd w) e v) text is in
        inl (subst (Then (One (symbol key.Do)) (λ at. Below Long) (suc e) a) (sym from) (symbol_then key.Do (λ at. Below Long) (suc e) a at back (v, same, rest)))

    some_long : (at : Span) → (e : ℕ) × (a : PAccept) × (f : List Item) × Long e a f
    some_long at =
        let (text, is) : Has (Both (StmtsTexts source) (StmtsEnd w) 0 (nulls, no_place)) = has_then (has_nulls source 0) (has_then (has_key key.End) (has_then ([], inl refl) (has_at key.Semicolon no_place))) in
        (0, long_tree nulls no_place, text, ((nulls, no_place), refl, is))

    law_ends : (d : ℕ) {r r' : Readers} → ((e : ℕ) → d ≡ suc e → LevelLaws source e r r') → Lawful d
        (below d (symbol key.Do) (λ e at. bind (stmts r) (λ l. end_of w (long_tree l))) (closed short_tree)) (below (suc d) (symbol key.Do) (λ e at. bind (stmts r') (λ l. end_of w (long_tree l))) (closed short_tree))
        (Made (accept_tree lead w x) (EndSpelled w)) Anything
    law_ends d {r} {r'} laws = law_fit (λ e deep a text is. ends_is e a text is) (is_ends d)
        (law_below {test = symbol key.Do} (λ e at. bind (stmts r) (λ l. end_of w (long_tree l))) (λ e at. bind (stmts r') (λ l. end_of w (long_tree l))) some_long d
        (λ e is at. made_bind {R = EndsStmts} long_tree (StmtsEnd w) (law_stmts source (laws e is)) (λ l. law_end_of e w (long_tree l) Anything)
        (λ l. starts_key key.End (long_tree l) (λ e close. NameEnd w close) end_stmts))
        (law_closed d short_tree Anything) (starts_last key.Semicolon short_tree semicolon_no_do))

    ends_start : (d : ℕ) → Starts d (Made (accept_tree lead w x) (EndSpelled w)) Anything EndsFormals
    ends_start d = record { begins_with = λ a text k is stop. starts a text k is } where
      starts : (a : PAccept) (text : List Item) (k : Item) → Made (accept_tree lead w x) (EndSpelled w) d a text → EndsFormals (first_of k text)
      starts a text k (inl close, same, is) = rw is (semicolon_formals close)
      starts a text k (inr v, same, (front, back, from, (at, one), rest)) = rw from (rw one (do_no_paren at))

  abbrev AcceptBehind : Word → ℕ → Found_behind × AcceptEnd → Spelling
  AcceptBehind w = Both BehindTexts (λ x. EndSpelled w)

  abbrev AcceptSpelled : ℕ → Word × (Found_behind × AcceptEnd) → Spelling
  AcceptSpelled = Both (λ e w. Named w) AcceptBehind

  law_accept_made : (d : ℕ) (lead : Span) {r r' : Readers} → ((e : ℕ) → d ≡ suc e → LevelLaws source e r r') → Lawful d (accept_at d r lead) (accept_at (suc d) r' lead) (Made (λ v. accept_tree lead v.0 v.1.0 v.1.1) AcceptSpelled) Anything
  law_accept_made d lead laws = made_then (λ w v. accept_tree lead w v.0 v.1) AcceptBehind (law_word d Anything)
      (λ w. made_bind {R = EndsFormals} (λ x v. accept_tree lead w x v) (λ x. EndSpelled w) (law_accept_behind d) (λ x. law_ends lead w x d laws) (λ x. ends_start lead w x d))

  -- ---- as the grammar has it

  head_same : (d : ℕ) (h : PHead) (End : Spelling) → Same (Key key.Accept ▷ (Named h.entry ▷ ((Index d h.index ▷ Formals h.formals) ▷ End))) (AcceptHead d h ▷ End)
  head_same d h End = pushed (Key key.Accept) (same_grouped (Named h.entry) (Index d h.index ▷ Formals h.formals) End)

  abbrev LongEnd : Word → ℕ → PStmts → Spelling → Spelling
  LongEnd w d l End = Key key.Do ▷ (Inside d (λ i. Stmts source i l) ▷ End)

  short_closing : (d : ℕ) (h : PHead) → Closing (λ close. Named h.entry ▷ ((Index d h.index ▷ Formals h.formals) ▷ KeyAt key.Semicolon close)) (Named h.entry ▷ ((Index d h.index ▷ Formals h.formals) ▷ Key key.Semicolon))
  short_closing d h = closing_then (Named h.entry) (closing_then (Index d h.index ▷ Formals h.formals) (closing_key key.Semicolon))

  long_closing : (d : ℕ) (h : PHead) (l : PStmts) →
      Closing (λ close. Named h.entry ▷ ((Index d h.index ▷ Formals h.formals) ▷ LongEnd h.entry d l (Key key.End ▷ NameEnd h.entry close))) (Named h.entry ▷ ((Index d h.index ▷ Formals h.formals) ▷ LongEnd h.entry d l (EndOf h.entry)))
  long_closing d h l = closing_then (Named h.entry) (closing_then (Index d h.index ▷ Formals h.formals) (closing_then (Key key.Do) (closing_then (Inside d (λ i. Stmts source i l)) (closing_end h.entry))))

  is_accept : (lead : Span) (d : ℕ) (v : Word × (Found_behind × AcceptEnd)) (text : List Item) → AcceptSpelled d v text → AcceptTexts source lead d (accept_tree lead v.0 v.1.0 v.1.1) text
  is_accept lead d (w, (x, inl close)) text is =
      let h : PHead = head_of w x (from_to lead close) in
      placed_same (head_same d h (Key key.Semicolon)) h.span (symbol_item key.Accept lead ∷ text) (placed_key key.Accept (short_closing d h) lead close text is)
  is_accept lead d (w, (x, inr (l, close))) text is =
      let h : PHead = head_of w x (from_to lead close) in
      placed_same (head_same d h (LongEnd w d l (EndOf w))) h.span (symbol_item key.Accept lead ∷ text) (placed_key key.Accept (long_closing d h l) lead close text is)

  abbrev behind_of : PHead → Found_behind
  behind_of h = record { index = h.index; formals = h.formals }

  abbrev head_at : PHead → Span → PHead
  head_at h at = record { entry = h.entry; index = h.index; formals = h.formals; span = at }

  accept_is : (lead : Span) (d : ℕ) (a : PAccept) (text : List Item) → AcceptTexts source lead d a text → Made (λ v. accept_tree lead v.0 v.1.0 v.1.1) AcceptSpelled d a text
  accept_is lead d (accepting h absent) text is =
      let (close, place, rest) = key_placed key.Accept (short_closing d h) h.span lead text (placed_same (same_turn (head_same d h (Key key.Semicolon))) h.span (symbol_item key.Accept lead ∷ text) is) in
      ((h.entry, (behind_of h, inl close)), ap (λ s. accepting (head_at h s) absent) place, rest)
  accept_is lead d (accepting h (present l)) text is =
      let (close, place, rest) = key_placed key.Accept (long_closing d h l) h.span lead text (placed_same (same_turn (head_same d h (LongEnd h.entry d l (EndOf h.entry)))) h.span (symbol_item key.Accept lead ∷ text) is) in
      ((h.entry, (behind_of h, inr (l, close))), ap (λ s. accepting (head_at h s) (present l)) place, rest)

  pub law_accept : (d : ℕ) (lead : Span) {r r' : Readers} → ((e : ℕ) → d ≡ suc e → LevelLaws source e r r') → Lawful d (accept_at d r lead) (accept_at (suc d) r' lead) (AcceptTexts source lead) Anything
  law_accept d lead laws = made_fit (λ v. accept_tree lead v.0 v.1.0 v.1.1) AcceptSpelled (is_accept lead) (accept_is lead) (law_accept_made d lead laws)

  -- as a statement, which has its place
  abbrev pub IsAccepting : PStmt → Type 0
  IsAccepting (SAccept a s) = Unit {0}
  IsAccepting x = ⊥

  abbrev as_stmt : PAccept → PStmt
  as_stmt a = SAccept a (accept_span a)

  accept_stands : (d : ℕ) (a : PAccept) (text : List Item) → IsAccept source d a text → IsPlaceOf (accept_span a) text
  accept_stands d (accepting h absent) text is = is.1
  accept_stands d (accepting h (present l)) text is = is.1

  one_place : (s t : Span) (text : List Item) → IsPlaceOf s text → IsPlaceOf t text → s ≡ t
  one_place s t [] never place = absurd never
  one_place s t (x ∷ more) one other = one ∙ sym other

  accepting_is : (lead : Span) (d : ℕ) (x : PStmt) (text : List Item) → LedBy source IsAccepting key.Accept lead d x text → Made as_stmt (AcceptTexts source lead) d x text
  accepting_is lead d (SAccept a s) text (kind, (is, place)) =
      (a, ap (SAccept a) (one_place s (accept_span a) (symbol_item key.Accept lead ∷ text) place (accept_stands d a (symbol_item key.Accept lead ∷ text) is)), is)
  accepting_is lead d x text (never, is) = absurd never

  pub law_accepting : (d : ℕ) (lead : Span) {r r' : Readers} → ((e : ℕ) → d ≡ suc e → LevelLaws source e r r') →
      Lawful d (bind (accept_at d r lead) (λ a. pure (as_stmt a))) (bind (accept_at (suc d) r' lead) (λ a. pure (as_stmt a))) (LedBy source IsAccepting key.Accept lead) Anything
  law_accepting d lead laws = made_fit as_stmt (AcceptTexts source lead) (λ e a text is. (tt, (is, accept_stands e a (symbol_item key.Accept lead ∷ text) is))) (accepting_is lead) (made_pure as_stmt (law_accept d lead laws))
