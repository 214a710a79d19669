-- The law of the statements that begin with a name, behind that name: assignments, calls, PUT, PUT_LINE, NEW_LINE and GET (5.2, 9.5, 14.3).
use Rattle.std.proofs.Common.{◌≡◌, ℕ, zero, suc, Bool, true, false, inl, inr, ⊎_elim, List, [], ◌∷◌, ◌++◌, Option, Some, None, refl, sym, ap, ◌∙◌, subst, arith}
use Rattle.std.specs.Prelude.{◌==◌, codes, if◌then◌else◌}
use Rattle.ada_expr_parser.specs.readers.Readers.{Reader, pure, on, on_token}
use Rattle.ada_expr_parser.specs.readers.Grammars.{Texts, Is, One, Then, Or, first_of}
use Rattle.ada_expr_parser.specs.readers.Lawful.{Lawful, Anything, IsPassed}
use Rattle.ada_expr_parser.proofs.readers.Binding.{law_pure}
use Rattle.ada_expr_parser.proofs.readers.Choosing.{law_on}
use Rattle.ada_expr_parser.proofs.readers.Fitting.{starts_is, starts_or, starts_then, law_fit, law_same}
use Rattle.ada_tree.specs.NameList.{predefined}
use Rattle.ada_tree.specs.declared.naming.Span.{Span}
use Rattle.ada_tree.specs.declared.naming.Word.{Word}
use Rattle.ada_tree.specs.PlainStmt.{PTarget, PPart, PStmt, SNull, SAssign, SDelay, SExit, SRaise, SAbort, SCall, SAccept, SWait, SConditional, STimed, SPut, SPutLine, SNewLine, SGet, SIf, SCase, SBlock, SLoop, accepting, absent, present, body}
use Rattle.ada_lexer.specs.declared.symbols.Symbol.{Symbol}
use Rattle.ada_lexer.specs.declared.symbols.Symbol.TheVariants as key
use Rattle.ada_expr_parser.specs.declared.items.Item.{Item}
use Rattle.ada_expr_parser.specs.Tests.{same, symbol, word}
use Rattle.ada_expr_parser.specs.Trees.{from_to}
use Rattle.ada_expr_parser.specs.Grammar.{symbol_item, word_item}
use Rattle.ada_parser.proofs.expression_laws.Tokens.{symbol_takes, none_is}
use Rattle.ada_parser.proofs.expression_laws.Primaries.{no_place}
use Rattle.ada_parser.proofs.expression_laws.Plainly.{after_symbol, symbol_then}
use Rattle.ada_parser.proofs.expression_laws.Calling.{of_name}
use Rattle.ada_phrase_parser.specs.Spelling.{Source, Spelling, ◌▷◌, Key, Predefined, Placed, id_of}
use Rattle.ada_phrase_parser.specs.Phrases.{PutText}
use Rattle.ada_stmt_parser.specs.Statements.{Target}
use Rattle.ada_simple_stmt_parser.specs.inner.ReadingSimple.{assign_or_call, put_rest, get_rest, plain_rest, is_predefined, word_rest}
use Rattle.ada_parser.proofs.WordLaw.{WordTexts, WordLaw}
use Rattle.ada_parser.proofs.KitPieces.{same_behind, same_grouped}
use Rattle.ada_parser.proofs.WordCalls.{symbol_starts, stands_to, place_is, AssignTexts, law_assign, assign_starts, assign_no_end, PlainTexts, law_plain, TargetThen, plain_is, is_plain, target_spells, first_name, spell_assign, spell_call}
use Rattle.ada_parser.proofs.WordPut as put
use Rattle.ada_parser.proofs.WordGet as get
use Rattle.ada_parser.proofs.WordPut.{law_put_rest, PutTexts, PutSpelled, put_spelled, spelled_put, target_put}
use Rattle.ada_parser.proofs.WordGet.{law_get_rest}
use Rattle.ada_parser.proofs.WordGetTexts.{GetTexts, GetSpelled, get_spelled, spelled_get, target_get}
use Rattle.common_lemmas.proofs.Numbers.{equal_is}

-- ---- names

-- the name has the id of this predefined one
abbrev IsId : List ℕ → Word → Type 0
IsId t w = w.name.0 ≡ id_of predefined t

ids_same : (n m : ℕ) → (n == m) ≡ false → n ≡ m → ⊥
ids_same n m no_is is = grind (arith, no_is, is)

is_id : (t : List ℕ) (w : Word) → is_predefined t w ≡ true → IsId t w
is_id t w is = equal_is w.name.0 (id_of predefined t) is

no_id : (t : List ℕ) (w : Word) → is_predefined t w ≡ false → IsId t w → ⊥
no_id t w no_is is = ids_same w.name.0 (id_of predefined t) no_is is

-- the predefined name first, and then the rest
first_predefined : (t : List ℕ) (w : Word) (Q : Spelling) (text : List Item) → (Predefined t ▷ Q) (word_item w ∷ text) → IsId t w × Q text
first_predefined t w Q text (front, back, split, (at, one), rest) =
    let v : Word = record { name = record { 0 = id_of predefined t }; span = at } in
    let (same, behind) = first_name w v text back (split ∙ ap (λ l. l ++ back) one) in
    (ap (λ u. u.name.0) same, subst Q (sym behind) rest)

predefined_first : (t : List ℕ) (w : Word) (Q : Spelling) (text : List Item) → IsId t w → Q text → (Predefined t ▷ Q) (word_item w ∷ text)
predefined_first t w Q text is rest = (word_item w ∷ [], text, refl, (w.span, ap (λ n. word_item record { name = record { 0 = n }; span = w.span } ∷ []) is), rest)

-- a name is no symbol
no_key : (s : Symbol) (Q : Spelling) (w : Word) (front back text : List Item) → (Key s ▷ Q) front → word_item w ∷ text ≡ front ++ back → ⊥
no_key s Q w front back text (f, g, from, (at, one), rest) split =
    none_is (sym (ap word (ap (first_of (word_item w)) (split ∙ ap (λ l. l ++ back) (from ∙ ap (λ l. l ++ g) one)))))

pub no_first : (s : Symbol) (Q : Spelling) (w : Word) (text : List Item) → (Key s ▷ Q) (word_item w ∷ text) → ⊥
no_first s Q w text (front, back, split, (at, one), rest) = none_is (sym (ap word (ap (first_of (word_item w)) (split ∙ ap (λ l. l ++ back) one))))

-- ---- which statements begin with a name

module _ (source : Source) (w : Word) where
  abbrev PutCase : (List PPart → Span → PStmt) → List ℕ → Texts Item PStmt
  PutCase tree t d x text = IsId t w × PutSpelled source tree w d x text

  abbrev NewCase : Texts Item PStmt
  NewCase d x text = IsId (codes "NEW_LINE") w × ((close : Span) × (x ≡ SNewLine (from_to w.span close)) × (text ≡ symbol_item key.Semicolon close ∷ []))

  abbrev GetCase : Texts Item PStmt
  GetCase d x text = IsId (codes "GET") w × GetSpelled w d x text

  abbrev Cases : Texts Item PStmt
  Cases = Or (TargetThen w) (Or (PutCase SPut (codes "PUT")) (Or (PutCase SPutLine (codes "PUT_LINE")) (Or NewCase GetCase)))

  put_case : (tree : List PPart → Span → PStmt) (t : List ℕ) (d : ℕ) (parts : List PPart) (s : Span) (text : List Item) → Placed s (Predefined t ▷ PutText source d parts ▷ Key key.Semicolon) (word_item w ∷ text) → PutCase tree t d (tree parts s) text
  put_case tree t d parts s text (spelled, stands) =
      let (is, (m, n, parted, put, (close, shut))) = first_predefined t w (PutText source d parts ▷ Key key.Semicolon) text spelled in
      let whole : text ≡ m ++ (symbol_item key.Semicolon close ∷ []) = parted ∙ ap (λ l. m ++ l) shut in
      (is, (parts, close, m, ap (tree parts) (place_is w close s text (m, whole) stands), whole, put))

  new_case : (d : ℕ) (s : Span) (text : List Item) → Placed s (Predefined (codes "NEW_LINE") ▷ Key key.Semicolon) (word_item w ∷ text) → NewCase d (SNewLine s) text
  new_case d s text (spelled, stands) =
      let (is, (close, shut)) = first_predefined (codes "NEW_LINE") w (Key key.Semicolon) text spelled in
      (is, (close, ap SNewLine (place_is w close s text ([], shut) stands), shut))

  get_case : (d : ℕ) (t : PTarget) (s : Span) (text : List Item) → Placed s (Predefined (codes "GET") ▷ Key key.LeftParen ▷ Target d t ▷ Key key.RightParen ▷ Key key.Semicolon) (word_item w ∷ text) → GetCase d (SGet t s) text
  get_case d t s text (spelled, stands) =
      let (is, rest) = first_predefined (codes "GET") w (Key key.LeftParen ▷ Target d t ▷ Key key.RightParen ▷ Key key.Semicolon) text spelled in
      let (m, n, parted, (f, g, split, lead, target), (close, shut)) = get_grouped d t text rest in
      let whole : text ≡ m ++ (symbol_item key.Semicolon close ∷ []) = parted ∙ ap (λ l. m ++ l) shut in
      (is, (t, close, m, ap (SGet t) (place_is w close s text (m, whole) stands), whole, (f, g, split, lead, target))) where
        get_grouped : (d : ℕ) (t : PTarget) (text : List Item) → (Key key.LeftParen ▷ Target d t ▷ Key key.RightParen ▷ Key key.Semicolon) text → ((Key key.LeftParen ▷ Target d t ▷ Key key.RightParen) ▷ Key key.Semicolon) text
        get_grouped d t text is = (same_grouped (Key key.LeftParen) (Target d t ▷ Key key.RightParen) (Key key.Semicolon)).to text
            ((same_behind (Key key.LeftParen) (same_grouped (Target d t) (Key key.RightParen) (Key key.Semicolon))).to text is)

  word_cases : (d : ℕ) (x : PStmt) (text : List Item) → WordTexts source w d x text → Cases d x text
  word_cases d (SAssign t v s) text (loop, is) = inl (spell_assign d w t v s text is)
  word_cases d (SCall c s) text (loop, is) = inl (spell_call d w c s text is)
  word_cases d (SPut parts s) text (loop, is) = inr (inl (put_case SPut (codes "PUT") d parts s text is))
  word_cases d (SPutLine parts s) text (loop, is) = inr (inr (inl (put_case SPutLine (codes "PUT_LINE") d parts s text is)))
  word_cases d (SNewLine s) text (loop, is) = inr (inr (inr (inl (new_case d s text is))))
  word_cases d (SGet t s) text (loop, is) = inr (inr (inr (inr (get_case d t s text is))))
  word_cases d (SNull s) text (loop, is) = absurd (no_first key.Null _ w text is.0)
  word_cases d (SDelay n s) text (loop, is) = absurd (no_first key.Delay _ w text is.0)
  word_cases d (SExit v e s) text (loop, is) = absurd (no_first key.Exit _ w text is.0)
  word_cases d (SRaise v s) text (loop, is) = absurd (no_first key.Raise _ w text is.0)
  word_cases d (SAbort tasks s) text (loop, is) = absurd (no_first key.Abort _ w text is.0)
  word_cases d (SAccept (accepting h absent) s) text (loop, is) = let (front, back, split, head, end) = is.0.0 in absurd (no_key key.Accept _ w front back text head split)
  word_cases d (SAccept (accepting h (present l)) s) text (loop, is) = let (front, back, split, head, end) = is.0.0 in absurd (no_key key.Accept _ w front back text head split)
  word_cases d (SWait alts o s) text (loop, is) = absurd (no_first key.Select _ w text is.0)
  word_cases d (SConditional c l o s) text (loop, is) = absurd (no_first key.Select _ w text is.0)
  word_cases d (STimed c l n m s) text (loop, is) = absurd (no_first key.Select _ w text is.0)
  word_cases d (SIf arms o s) text (loop, is) = absurd (no_first key.If _ w text is.0)
  word_cases d (SCase e arms o s) text (loop, is) = absurd (no_first key.Case _ w text is.0)
  word_cases zero (SBlock b s) text (loop, is) = let (front, back, split, never, end) = is.0 in absurd never
  word_cases (suc i) (SBlock (body l hs) s) text (loop, is) = let (front, back, split, (last, begun), end) = is.0 in absurd (no_key key.Begin _ w front back text begun split)
  word_cases d (SLoop v c l s) text (loop, is) = absurd loop

  -- ---- and they are such statements

  spelled_get_stmt : (d : ℕ) (x : PStmt) (text : List Item) → GetCase d x text → WordTexts source w d x text
  spelled_get_stmt d x text (is, (t, close, m, same, from, get)) =
      rw same (
        tt,
        (
          predefined_first (codes "GET") w (Key key.LeftParen ▷ Target d t ▷ Key key.RightParen ▷ Key key.Semicolon) text is
              ((same_behind (Key key.LeftParen) (same_grouped (Target d t) (Key key.RightParen) (Key key.Semicolon))).back text
              ((same_grouped (Key key.LeftParen) (Target d t ▷ Key key.RightParen) (Key key.Semicolon)).back text (m, symbol_item key.Semicolon close ∷ [], from, get, (close, refl)))),
          stands_to w close text (m, from),
        ),
      )

  spelled_put_stmt : (d : ℕ) (x : PStmt) (text : List Item) → PutCase SPut (codes "PUT") d x text → WordTexts source w d x text
  spelled_put_stmt d x text (is, (parts, close, m, same, from, put)) =
      rw same (tt, (predefined_first (codes "PUT") w (PutText source d parts ▷ Key key.Semicolon) text is (m, symbol_item key.Semicolon close ∷ [], from, put, (close, refl)), stands_to w close text (m, from)))

  spelled_line_stmt : (d : ℕ) (x : PStmt) (text : List Item) → PutCase SPutLine (codes "PUT_LINE") d x text → WordTexts source w d x text
  spelled_line_stmt d x text (is, (parts, close, m, same, from, put)) =
      rw same (tt, (predefined_first (codes "PUT_LINE") w (PutText source d parts ▷ Key key.Semicolon) text is (m, symbol_item key.Semicolon close ∷ [], from, put, (close, refl)), stands_to w close text (m, from)))

  spelled_new_stmt : (d : ℕ) (x : PStmt) (text : List Item) → NewCase d x text → WordTexts source w d x text
  spelled_new_stmt d x text (is, (close, same, from)) =
      rw same (tt, (predefined_first (codes "NEW_LINE") w (Key key.Semicolon) text is (close, from), stands_to w close text ([], from)))

  -- ---- the readers of each name

  becomes_no_lead : (at : Span) → IsPassed (symbol key.LeftParen) (symbol_item key.Becomes at)
  unfolding same
  becomes_no_lead at = refl

  dot_no_lead : (at : Span) → IsPassed (symbol key.LeftParen) (symbol_item key.Dot at)
  unfolding same
  dot_no_lead at = refl

  lead_no_end : (at : Span) → IsPassed (symbol key.Semicolon) (symbol_item key.LeftParen at)
  unfolding same
  lead_no_end at = refl

  passed_same : (m : Option Span) (next : Span → Reader Item PStmt) (p q : Reader Item PStmt) (k : Item) (ts : List Item) → (m ≡ None → p (k ∷ ts) ≡ q (k ∷ ts)) → on_token m next p k ts ≡ on_token m next q k ts
  passed_same (Some at) next p q k ts same = refl
  passed_same None next p q k ts same = same refl

  -- where no parenthesis stands behind the name, it has no index
  on_lead : (d : ℕ) (next : Span → Reader Item PStmt) (ts : List Item) → on (symbol key.LeftParen) next (plain_rest d w) ts ≡ on (symbol key.LeftParen) next (assign_or_call d (of_name w None)) ts
  on_lead d next [] = refl
  on_lead d next (k ∷ ts) = passed_same (symbol key.LeftParen k) next (plain_rest d w) (assign_or_call d (of_name w None)) k ts (λ none. rw none refl)

  law_lead : (d : ℕ) (next next' : Span → Reader Item PStmt) (E : Texts Item PStmt) → ((at : Span) → Lawful d (next at) (next' at) E Anything) →
      Lawful d (on (symbol key.LeftParen) next (plain_rest d w)) (on (symbol key.LeftParen) next' (plain_rest (suc d) w)) (Or (Then (One (symbol key.LeftParen)) (λ lead. E)) (AssignTexts (of_name w None))) Anything
  law_lead d next next' E law = law_same (on_lead d next) (on_lead (suc d) next')
      (law_on {test = symbol key.LeftParen} law (law_assign d (of_name w None)).careful (assign_starts (IsPassed (symbol key.LeftParen)) (of_name w None) becomes_no_lead dot_no_lead)
      (symbol_item key.LeftParen no_place) no_place (symbol_takes key.LeftParen no_place))

  abbrev NewTexts : Texts Item PStmt
  NewTexts = Or (Then (One (symbol key.Semicolon)) (λ close. Is (SNewLine (from_to w.span close)))) (PlainTexts w)

  law_new : (d : ℕ) → Lawful d (on (symbol key.Semicolon) (λ close. pure (SNewLine (from_to w.span close))) (plain_rest d w)) (on (symbol key.Semicolon) (λ close. pure (SNewLine (from_to w.span close))) (plain_rest (suc d) w)) NewTexts Anything
  law_new d = law_on {test = symbol key.Semicolon} (λ close. law_pure d (SNewLine (from_to w.span close)) Anything) (law_plain d w).careful
      (starts_then {T = IsPassed (symbol key.Semicolon)} (starts_or (symbol_starts (IsPassed (symbol key.Semicolon)) key.LeftParen lead_no_end) (starts_is (λ x stop. stop)))
      (λ t. assign_no_end t))
      (symbol_item key.Semicolon no_place) no_place (symbol_takes key.Semicolon no_place)

  law_if : (d : ℕ) (b : Bool) (p p' q q' : Reader Item PStmt) → (b ≡ true → Lawful d p p' (WordTexts source w) Anything) → (b ≡ false → Lawful d q q' (WordTexts source w) Anything) →
      Lawful d (λ ts. if b then p ts else q ts) (λ ts. if b then p' ts else q' ts) (WordTexts source w) Anything
  law_if d true p p' q q' there other = there refl
  law_if d false p p' q q' there other = other refl

  apart : (t u : List ℕ) → (id_of predefined t == id_of predefined u) ≡ false → IsId t w → IsId u w → ⊥
  apart t u differ one two = ids_same (id_of predefined t) (id_of predefined u) differ (sym one ∙ two)

  -- PUT and PUT_LINE
  put_stmt : (d : ℕ) (x : PStmt) (text : List Item) → IsId (codes "PUT") w → PutTexts source SPut w d x text → WordTexts source w d x text
  put_stmt d x text is put = ⊎_elim (λ spelled. spelled_put_stmt d x text (is, spelled)) (λ target. target_spells source d w x text target) (put_spelled source SPut w d x text put)

  stmt_put : (d : ℕ) (x : PStmt) (text : List Item) → IsId (codes "PUT") w → Cases d x text → PutTexts source SPut w d x text
  stmt_put d x text is (inl target) = target_put source SPut w d x text target
  stmt_put d x text is (inr (inl (id, spelled))) = spelled_put source SPut w d x text spelled
  stmt_put d x text is (inr (inr (inl (id, spelled)))) = absurd (apart (codes "PUT") (codes "PUT_LINE") refl is id)
  stmt_put d x text is (inr (inr (inr (inl (id, spelled))))) = absurd (apart (codes "PUT") (codes "NEW_LINE") refl is id)
  stmt_put d x text is (inr (inr (inr (inr (id, spelled))))) = absurd (apart (codes "PUT") (codes "GET") refl is id)

  line_stmt : (d : ℕ) (x : PStmt) (text : List Item) → IsId (codes "PUT_LINE") w → PutTexts source SPutLine w d x text → WordTexts source w d x text
  line_stmt d x text is put = ⊎_elim (λ spelled. spelled_line_stmt d x text (is, spelled)) (λ target. target_spells source d w x text target) (put_spelled source SPutLine w d x text put)

  stmt_line : (d : ℕ) (x : PStmt) (text : List Item) → IsId (codes "PUT_LINE") w → Cases d x text → PutTexts source SPutLine w d x text
  stmt_line d x text is (inl target) = target_put source SPutLine w d x text target
  stmt_line d x text is (inr (inl (id, spelled))) = absurd (apart (codes "PUT_LINE") (codes "PUT") refl is id)
  stmt_line d x text is (inr (inr (inl (id, spelled)))) = spelled_put source SPutLine w d x text spelled
  stmt_line d x text is (inr (inr (inr (inl (id, spelled))))) = absurd (apart (codes "PUT_LINE") (codes "NEW_LINE") refl is id)
  stmt_line d x text is (inr (inr (inr (inr (id, spelled))))) = absurd (apart (codes "PUT_LINE") (codes "GET") refl is id)

  -- NEW_LINE
  new_stmt : (d : ℕ) (x : PStmt) (text : List Item) → IsId (codes "NEW_LINE") w → NewTexts d x text → WordTexts source w d x text
  new_stmt d x text is (inl end) =
      let (close, back, from, (same, none)) = after_symbol key.Semicolon (λ close. Is (SNewLine (from_to w.span close))) d x text end in
      spelled_new_stmt d x text (is, (close, same, from ∙ ap (λ l. symbol_item key.Semicolon close ∷ l) none))
  new_stmt d x text is (inr plain) = target_spells source d w x text (plain_is d w x text plain)

  stmt_new : (d : ℕ) (x : PStmt) (text : List Item) → IsId (codes "NEW_LINE") w → Cases d x text → NewTexts d x text
  stmt_new d x text is (inl target) = inr (is_plain d w x text target)
  stmt_new d x text is (inr (inl (id, spelled))) = absurd (apart (codes "NEW_LINE") (codes "PUT") refl is id)
  stmt_new d x text is (inr (inr (inl (id, spelled)))) = absurd (apart (codes "NEW_LINE") (codes "PUT_LINE") refl is id)
  stmt_new d x text is (inr (inr (inr (inl (id, (close, same, from)))))) =
      inl (rw from (symbol_then key.Semicolon (λ close. Is (SNewLine (from_to w.span close))) d x close [] (same, refl)))
  stmt_new d x text is (inr (inr (inr (inr (id, spelled))))) = absurd (apart (codes "NEW_LINE") (codes "GET") refl is id)

  -- GET
  get_stmt : (d : ℕ) (x : PStmt) (text : List Item) → IsId (codes "GET") w → GetTexts w d x text → WordTexts source w d x text
  get_stmt d x text is get = ⊎_elim (λ spelled. spelled_get_stmt d x text (is, spelled)) (λ target. target_spells source d w x text target) (get_spelled w d x text get)

  stmt_get : (d : ℕ) (x : PStmt) (text : List Item) → IsId (codes "GET") w → Cases d x text → GetTexts w d x text
  stmt_get d x text is (inl target) = target_get w d x text target
  stmt_get d x text is (inr (inl (id, spelled))) = absurd (apart (codes "GET") (codes "PUT") refl is id)
  stmt_get d x text is (inr (inr (inl (id, spelled)))) = absurd (apart (codes "GET") (codes "PUT_LINE") refl is id)
  stmt_get d x text is (inr (inr (inr (inl (id, spelled))))) = absurd (apart (codes "GET") (codes "NEW_LINE") refl is id)
  stmt_get d x text is (inr (inr (inr (inr (id, spelled))))) = spelled_get w d x text spelled

  -- any other name
  abbrev IsOther : Type 0
  IsOther = (IsId (codes "PUT") w → ⊥) × (IsId (codes "PUT_LINE") w → ⊥) × (IsId (codes "NEW_LINE") w → ⊥) × (IsId (codes "GET") w → ⊥)

  stmt_plain : (d : ℕ) (x : PStmt) (text : List Item) → IsOther → Cases d x text → PlainTexts w d x text
  stmt_plain d x text none (inl target) = is_plain d w x text target
  stmt_plain d x text none (inr (inl (id, spelled))) = absurd (none.0 id)
  stmt_plain d x text none (inr (inr (inl (id, spelled)))) = absurd (none.1 id)
  stmt_plain d x text none (inr (inr (inr (inl (id, spelled))))) = absurd (none.2 id)
  stmt_plain d x text none (inr (inr (inr (inr (id, spelled))))) = absurd (none.3 id)

  -- ---- all names

  abbrev put_branch : (List PPart → Span → PStmt) → ℕ → Reader Item PStmt
  put_branch tree d = on (symbol key.LeftParen) (λ lead. put_rest source d tree w) (plain_rest d w)

  abbrev new_branch : ℕ → Reader Item PStmt
  new_branch d = on (symbol key.Semicolon) (λ close. pure (SNewLine (from_to w.span close))) (plain_rest d w)

  abbrev get_branch : ℕ → Reader Item PStmt
  get_branch d = on (symbol key.LeftParen) (λ lead. get_rest d w) (plain_rest d w)

  abbrev from_get : ℕ → Reader Item PStmt
  from_get d ts = if is_predefined (codes "GET") w then get_branch d ts else plain_rest d w ts

  abbrev from_new : ℕ → Reader Item PStmt
  from_new d ts = if is_predefined (codes "NEW_LINE") w then new_branch d ts else from_get d ts

  abbrev from_line : ℕ → Reader Item PStmt
  from_line d ts = if is_predefined (codes "PUT_LINE") w then put_branch SPutLine d ts else from_new d ts

  law_put_word : (d : ℕ) → IsId (codes "PUT") w → Lawful d (put_branch SPut d) (put_branch SPut (suc d)) (WordTexts source w) Anything
  law_put_word d is = law_fit (λ e deep x text put. put_stmt e x text is put) (λ x text stmt. stmt_put d x text is (word_cases d x text stmt))
      (law_lead d (λ lead. put_rest source d SPut w) (λ lead. put_rest source (suc d) SPut w) (put.RestTexts source SPut w) (λ lead. law_put_rest source SPut w d))

  law_line_word : (d : ℕ) → IsId (codes "PUT_LINE") w → Lawful d (put_branch SPutLine d) (put_branch SPutLine (suc d)) (WordTexts source w) Anything
  law_line_word d is = law_fit (λ e deep x text put. line_stmt e x text is put) (λ x text stmt. stmt_line d x text is (word_cases d x text stmt))
      (law_lead d (λ lead. put_rest source d SPutLine w) (λ lead. put_rest source (suc d) SPutLine w) (put.RestTexts source SPutLine w) (λ lead. law_put_rest source SPutLine w d))

  law_new_word : (d : ℕ) → IsId (codes "NEW_LINE") w → Lawful d (new_branch d) (new_branch (suc d)) (WordTexts source w) Anything
  law_new_word d is = law_fit (λ e deep x text new. new_stmt e x text is new) (λ x text stmt. stmt_new d x text is (word_cases d x text stmt)) (law_new d)

  law_get_word : (d : ℕ) → IsId (codes "GET") w → Lawful d (get_branch d) (get_branch (suc d)) (WordTexts source w) Anything
  law_get_word d is = law_fit (λ e deep x text get. get_stmt e x text is get) (λ x text stmt. stmt_get d x text is (word_cases d x text stmt))
      (law_lead d (λ lead. get_rest d w) (λ lead. get_rest (suc d) w) (get.RestTexts w) (λ lead. law_get_rest w d))

  law_plain_word : (d : ℕ) → IsOther → Lawful d (plain_rest d w) (plain_rest (suc d) w) (WordTexts source w) Anything
  law_plain_word d none = law_fit (λ e deep x text plain. target_spells source e w x text (plain_is e w x text plain)) (λ x text stmt. stmt_plain d x text none (word_cases d x text stmt)) (law_plain d w)

  law_word : (d : ℕ) → Lawful d (word_rest source d w) (word_rest source (suc d) w) (WordTexts source w) Anything
  law_word d =
      law_if d (is_predefined (codes "PUT") w) (put_branch SPut d) (put_branch SPut (suc d)) (from_line d) (from_line (suc d)) (λ is. law_put_word d (is_id (codes "PUT") w is))
      (λ no_put. law_if d (is_predefined (codes "PUT_LINE") w) (put_branch SPutLine d) (put_branch SPutLine (suc d)) (from_new d) (from_new (suc d)) (λ is. law_line_word d (is_id (codes "PUT_LINE") w is))
      (λ no_line. law_if d (is_predefined (codes "NEW_LINE") w) (new_branch d) (new_branch (suc d)) (from_get d) (from_get (suc d)) (λ is. law_new_word d (is_id (codes "NEW_LINE") w is))
      (λ no_new. law_if d (is_predefined (codes "GET") w) (get_branch d) (get_branch (suc d)) (plain_rest d w) (plain_rest (suc d) w) (λ is. law_get_word d (is_id (codes "GET") w is))
      (λ no_get. law_plain_word d (no_id (codes "PUT") w no_put, no_id (codes "PUT_LINE") w no_line, no_id (codes "NEW_LINE") w no_new, no_id (codes "GET") w no_get)))))

-- for every source
pub word_law : (source : Source) → WordLaw source
word_law source d w = law_word source w d
