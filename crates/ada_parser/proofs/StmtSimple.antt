-- The laws of simple statements that begin with a reserved word: null, exit, raise, abort and delay.
use Rattle.std.proofs.Common.{◌≡◌, ℕ, zero, suc, inl, inr, List, [], ◌∷◌, ◌++◌, Option, Some, None, refl, sym, ap, ◌∙◌, subst}
use Rattle.std.specs.Prelude.{map}
use Rattle.ada_tree.specs.declared.naming.Span.{Span}
use Rattle.ada_tree.specs.declared.naming.Word.{Word}
use Rattle.ada_tree.specs.PlainExpr.{PExpr}
use Rattle.ada_tree.specs.PlainStmt.{PTarget, PCallee, PStmt, SNull, SDelay, SExit, SRaise, SAbort}
use Rattle.ada_lexer.specs.declared.symbols.Symbol.{Symbol}
use Rattle.ada_lexer.specs.declared.symbols.Symbol.TheVariants as key
use Rattle.ada_expr_parser.specs.declared.items.ItemKind.{ItemKind}
use Rattle.ada_expr_parser.specs.declared.items.ItemKind.TheVariants as item
use Rattle.ada_expr_parser.specs.declared.items.Item.{Item}
use Rattle.ada_expr_parser.specs.declared.levels.Level.TheVariants.{Logical}
use Rattle.ada_expr_parser.specs.Tests.{same, symbol, word}
use Rattle.ada_expr_parser.specs.Grammar.{symbol_item, word_item, IsTarget}
use Rattle.ada_expr_parser.specs.Trees.{from_to}
use Rattle.ada_expr_parser.specs.Parts.{expression, callee_of, target}
use Rattle.ada_phrase_parser.specs.Spelling.{Source, Spelling, ◌▷◌, IfThere, Key, Named, Duration, Behind, Separated}
use Rattle.ada_phrase_parser.specs.Phrases.{NestedExpr}
use Rattle.ada_stmt_parser.specs.Statements.{Callee, IsStmt}
use Rattle.ada_phrase_parser.specs.Reading.{closed, separated, duration_in, duration, Delayed, delayed}
use Rattle.ada_simple_stmt_parser.specs.inner.ReadingSimple.{exit_rest}
use Rattle.ada_expr_parser.specs.readers.Readers.{Reader, pure, bind, on, token}
use Rattle.ada_expr_parser.specs.readers.Grammars.{Texts, One, Then, Or, Below, Starts, first_of}
use Rattle.ada_expr_parser.specs.readers.Lawful.{Lawful, Anything, IsPassed}
use Rattle.ada_expr_parser.proofs.readers.Choosing.{law_on}
use Rattle.ada_expr_parser.proofs.readers.Listing.{law_token}
use Rattle.ada_expr_parser.proofs.readers.Deepening.{law_below}
use Rattle.ada_expr_parser.proofs.readers.Fitting.{law_fit}
use Rattle.ada_parser.specs.expression_laws.Stopping.{Ends, EndsTarget}
use Rattle.ada_parser.proofs.expression_laws.Tokens.{symbol_is, word_is, none_is}
use Rattle.ada_parser.proofs.expression_laws.Primaries.{no_place, some_word}
use Rattle.ada_parser.proofs.expression_laws.Plainly.{after_symbol, symbol_then}
use Rattle.ada_parser.proofs.expression_laws.Calling.{law_target}
use Rattle.ada_parser.proofs.KitPieces.{KeyAt, Closing, closing_key, closing_then, placed_key, key_placed}
use Rattle.ada_parser.proofs.KitReading.{Made, Both, made_fit, made_bind, made_then, made_pure, law_closed, law_separated, starts_last}
use Rattle.ada_parser.proofs.KitDeeper.{Expressions, law_expression}
use Rattle.ada_parser.proofs.StmtLevels.{Has, zero_is, has_zero, has_then, has_at}
use Rattle.common_lemmas.proofs.Options.{some_same}

-- what is a statement of this kind when it stands behind the symbol
abbrev pub LedBy : Source → (PStmt → Type 0) → Symbol → Span → Texts Item PStmt
LedBy source K s at d x text = K x × IsStmt source d x (symbol_item s at ∷ text)

-- the same of a compound one, one level deeper
abbrev pub LedBelow : Source → (PStmt → Type 0) → Symbol → Span → Texts Item PStmt
LedBelow source K s at d x text = K x × IsStmt source (suc d) x (symbol_item s at ∷ text)

-- ---- a name that may stand

module _ {V A : Type 0} (f : Option Word → V → A) (P : Option Word → ℕ → V → Spelling) where
  abbrev MayWord : Texts Item A
  MayWord = Or (Then (One word) (λ w. Made (f (Some w)) (P (Some w)))) (Made (f None) (P None))

  abbrev pub WithWord : Texts Item A
  WithWord = Made (λ v. f v.0 v.1) (Both (λ e w. IfThere w Named) P)

  may_is : (e : ℕ) (a : A) (text : List Item) → MayWord e a text → WithWord e a text
  may_is e a text (inl (w, one, back, from, (k, one_is, some), (v, same, is))) = ((Some w, v), same, (one, back, from, one_is ∙ ap (λ t. t ∷ []) (word_is k w some), is))
  may_is e a text (inr (v, same, is)) = ((None, v), same, ([], text, refl, refl, is))

  is_may : (e : ℕ) (a : A) (text : List Item) → WithWord e a text → MayWord e a text
  is_may e a text ((None, v), same, (front, back, from, none, is)) = inr (v, same, subst (P None e v) (sym (from ∙ ap (λ l. l ++ back) none)) is)
  is_may e a text ((Some w, v), same, (front, back, from, one, is)) = inl (w, front, back, from, (word_item w, one, refl), (v, same, is))

  pub law_may_word : {d : ℕ} {q q' : Option Word → Reader Item A} {S : Item → Type 0} → ((w : Option Word) → Lawful d (q w) (q' w) (Made (f w) (P w)) S) → Starts d (Made (f None) (P None)) S (IsPassed word) →
      Lawful d (on word (λ w. q (Some w)) (q None)) (on word (λ w. q' (Some w)) (q' None)) WithWord S
  law_may_word {d} laws no_word = law_fit (λ e deep a text is. may_is e a text is) (is_may d)
      (law_on {test = word} (λ w. laws (Some w)) (laws None).careful no_word (word_item some_word) some_word refl)

-- ---- durations

abbrev item_as : ItemKind → Span → Item
item_as kind at = record { kind = kind; span = at }

duration_kind : (kind : ItemKind) (at : Span) (n : ℕ) → duration_in kind ≡ Some n → item_as kind at ≡ item_as (item.Duration n) at
duration_kind (item.Duration m) at n e = ap (λ v. item_as (item.Duration v) at) (some_same e)
duration_kind (item.Symbol t) at n e = absurd (none_is e)
duration_kind (item.Name m) at n e = absurd (none_is e)
duration_kind (item.Integer m) at n e = absurd (none_is e)
duration_kind item.Text at n e = absurd (none_is e)
duration_kind item.End at n e = absurd (none_is e)

abbrev pub DelayedTexts : Texts Item Delayed
DelayedTexts d x text = (Duration x.thousandths ▷ KeyAt key.Semicolon x.close) text

law_duration : (d : ℕ) (S : Item → Type 0) → Lawful d (token duration) (token duration) (λ e n. Duration n) S
law_duration d S = law_fit
    (λ e deep n text (k, is, some). (k.span, is ∙ ap (λ t. t ∷ []) (duration_kind k.kind k.span n some)))
    (λ n text (at, is). (record { kind = item.Duration n; span = at }, is, refl))
    (law_token (record { kind = item.Duration 0; span = no_place }) 0 refl)

pub law_delayed : (d : ℕ) (S : Item → Type 0) → Lawful d delayed delayed DelayedTexts S
law_delayed d S = made_fit (λ v. record { thousandths = v.0; close = v.1 }) (Both (λ e n. Duration n) (λ n e close. KeyAt key.Semicolon close))
    (λ e v text is. is) (λ e x text is. ((x.thousandths, x.close), refl, is))
    (made_then (λ n close. record { thousandths = n; close = close }) (λ n e close. KeyAt key.Semicolon close) (law_duration d Anything) (λ n. law_closed d (λ close. record { thousandths = n; close = close }) S))

pub has_duration : Has (Duration 0)
has_duration = (record { kind = item.Duration 0; span = no_place } ∷ [], (no_place, refl))

pub delay_closing : (n : ℕ) → Closing (λ close. Duration n ▷ KeyAt key.Semicolon close) (Duration n ▷ Key key.Semicolon)
delay_closing n = closing_then (Duration n) (closing_key key.Semicolon)

-- ---- null

abbrev pub IsNull : PStmt → Type 0
IsNull (SNull s) = Unit {0}
IsNull x = ⊥

module _ (source : Source) where
  null_is : (lead : Span) (e : ℕ) (x : PStmt) (text : List Item) → LedBy source IsNull key.Null lead e x text → Made (λ close. SNull (from_to lead close)) (λ e close. KeyAt key.Semicolon close) e x text
  null_is lead e (SNull s) text (kind, is) = let (close, place, rest) = key_placed key.Null (closing_key key.Semicolon) s lead text is in (close, ap SNull place, rest)
  null_is lead e x text (kind, is) = absurd kind

  pub law_null : (d : ℕ) (lead : Span) → Lawful d (closed (λ close. SNull (from_to lead close))) (closed (λ close. SNull (from_to lead close))) (LedBy source IsNull key.Null lead) Anything
  law_null d lead = made_fit (λ close. SNull (from_to lead close)) (λ e close. KeyAt key.Semicolon close)
      (λ e close text is. (tt, placed_key key.Null (closing_key key.Semicolon) lead close text is))
      (null_is lead) (law_closed d (λ close. SNull (from_to lead close)) Anything)

-- ---- delay

abbrev pub IsDelay : PStmt → Type 0
IsDelay (SDelay n s) = Unit {0}
IsDelay x = ⊥

abbrev delay_tree : Span → Delayed → PStmt
delay_tree lead x = SDelay x.thousandths (from_to lead x.close)

module _ (source : Source) where
  delay_is : (lead : Span) (e : ℕ) (x : PStmt) (text : List Item) → LedBy source IsDelay key.Delay lead e x text → Made (delay_tree lead) DelayedTexts e x text
  delay_is lead e (SDelay n s) text (kind, is) =
      let (close, place, rest) = key_placed key.Delay (delay_closing n) s lead text is in
      (record { thousandths = n; close = close }, ap (SDelay n) place, rest)
  delay_is lead e x text (kind, is) = absurd kind

  pub law_delay : (d : ℕ) (lead : Span) → Lawful d (bind delayed (λ x. pure (delay_tree lead x))) (bind delayed (λ x. pure (delay_tree lead x))) (LedBy source IsDelay key.Delay lead) Anything
  law_delay d lead = made_fit (delay_tree lead) DelayedTexts
      (λ e x text is. (tt, placed_key key.Delay (delay_closing x.thousandths) lead x.close text is))
      (delay_is lead) (made_pure (delay_tree lead) (law_delayed d Anything))

-- ---- raise

abbrev pub IsRaise : PStmt → Type 0
IsRaise (SRaise w s) = Unit {0}
IsRaise x = ⊥

abbrev raise_tree : Span → Option Word → Span → PStmt
raise_tree lead w close = SRaise w (from_to lead close)

raise_closing : (w : Option Word) → Closing (λ close. IfThere w Named ▷ KeyAt key.Semicolon close) (IfThere w Named ▷ Key key.Semicolon)
raise_closing w = closing_then (IfThere w Named) (closing_key key.Semicolon)

abbrev ShutAt : {V : Type 0} → V → ℕ → Span → Spelling
ShutAt v e close = KeyAt key.Semicolon close

semicolon_no_word : {d : ℕ} {S : Item → Type 0} (tree : Span → PStmt) → Starts d (Made tree (λ e close. KeyAt key.Semicolon close)) S (IsPassed word)
semicolon_no_word tree = starts_last key.Semicolon tree (λ at. refl)

module _ (source : Source) where
  raise_is : (lead : Span) (e : ℕ) (x : PStmt) (text : List Item) → LedBy source IsRaise key.Raise lead e x text → WithWord (raise_tree lead) ShutAt e x text
  raise_is lead e (SRaise w s) text (kind, is) =
      let (close, place, rest) = key_placed key.Raise (raise_closing w) s lead text is in
      ((w, close), ap (SRaise w) place, rest)
  raise_is lead e x text (kind, is) = absurd kind

  pub law_raise : (d : ℕ) (lead : Span) →
      Lawful d (on word (λ w. closed (raise_tree lead (Some w))) (closed (raise_tree lead None))) (on word (λ w. closed (raise_tree lead (Some w))) (closed (raise_tree lead None))) (LedBy source IsRaise key.Raise lead) Anything
  law_raise d lead = made_fit (λ v. raise_tree lead v.0 v.1) (Both (λ e w. IfThere w Named) ShutAt)
      (λ e v text is. (tt, placed_key key.Raise (raise_closing v.0) lead v.1 text is))
      (raise_is lead)
      (law_may_word (raise_tree lead) ShutAt {q = λ w. closed (raise_tree lead w)} {q' = λ w. closed (raise_tree lead w)} (λ w. law_closed d (raise_tree lead w) Anything) (semicolon_no_word (raise_tree lead None)))

-- ---- exit

abbrev pub IsExit : PStmt → Type 0
IsExit (SExit w e s) = Unit {0}
IsExit x = ⊥

abbrev exit_tree : Span → Option Word → Option PExpr × Span → PStmt
exit_tree lead w v = SExit w v.0 (from_to lead v.1)

abbrev WhenTest : ℕ → Option PExpr → Spelling
WhenTest d e = IfThere e (λ test. Key key.When ▷ NestedExpr d test)

abbrev ExitSpelled : Option Word → ℕ → Option PExpr × Span → Spelling
ExitSpelled w d v = WhenTest d v.0 ▷ KeyAt key.Semicolon v.1

pub semicolon_ends : (at : Span) → Ends Logical (symbol_item key.Semicolon at)
unfolding same
semicolon_ends at = (((((refl, refl), refl), refl), refl), refl)

semicolon_no_when : (at : Span) → symbol key.When (symbol_item key.Semicolon at) ≡ None
unfolding same
semicolon_no_when at = refl

module _ (lead : Span) (name : Option Word) where
  abbrev tested : PExpr → Span → PStmt
  tested test close = SExit name (Some test) (from_to lead close)

  abbrev untested : Span → PStmt
  untested close = SExit name None (from_to lead close)

  abbrev Tested : Texts Item PStmt
  Tested = Made (λ v. tested v.0 v.1) (Both Expressions ShutAt)

  abbrev ExitTexts : Texts Item PStmt
  ExitTexts = Or (Then (One (symbol key.When)) (λ at. Below Tested)) (Made untested (λ e close. KeyAt key.Semicolon close))

  exit_is : (d : ℕ) (x : PStmt) (text : List Item) → ExitTexts d x text → Made (exit_tree lead name) (ExitSpelled name) d x text
  exit_is d x text (inr (close, same, is)) = ((None, close), same, ([], text, refl, refl, is))
  exit_is zero x text (inl (at, one, back, from, token, never)) = absurd never
  exit_is (suc e) x text (inl taken) =
      let (at, back, from, (v, same, (f, g, split, is, last))) = after_symbol key.When (λ at. Below Tested) (suc e) x text taken in
      ((Some v.0, v.1), same, (symbol_item key.When at ∷ f, g, from ∙ ap (λ l. symbol_item key.When at ∷ l) split, (symbol_item key.When at ∷ [], f, refl, (at, refl), is), last))

  is_exit : (d : ℕ) (x : PStmt) (text : List Item) → Made (exit_tree lead name) (ExitSpelled name) d x text → ExitTexts d x text
  is_exit d x text ((None, close), same, (front, back, from, none, is)) = inr (close, same, from ∙ ap (λ l. l ++ back) none ∙ is)
  is_exit zero x text ((Some test, close), same, (front, back, from, (f, g, split, k, never), last)) = absurd never
  is_exit (suc e) x text ((Some test, close), same, (front, back, from, (f, g, split, (at, one), is), last)) =
      inl (subst (Then (One (symbol key.When)) (λ at. Below Tested) (suc e) x) (sym (from ∙ ap (λ l. l ++ back) (split ∙ ap (λ l. l ++ g) one)))
      (symbol_then key.When (λ at. Below Tested) (suc e) x at (g ++ back) ((test, close), same, (g, back, refl, is, last))))

  law_exit_rest : (d : ℕ) → Lawful d (exit_rest d lead name) (exit_rest (suc d) lead name) (Made (exit_tree lead name) (ExitSpelled name)) Anything
  law_exit_rest d = law_fit (λ e deep x text is. exit_is e x text is) (is_exit d)
      (law_below {test = symbol key.When} (λ e at. bind (expression e) (λ test. closed (tested test))) (λ e at. bind (expression e) (λ test. closed (tested test)))
      (λ at. let (text, is) = has_then (has_zero 0) (has_at key.Semicolon no_place) in (0, tested zero_is no_place, text, ((zero_is, no_place), refl, is)))
      d
      (λ e is at. made_bind tested ShutAt (law_expression e) (λ test. law_closed e (tested test) Anything) (λ test. starts_last key.Semicolon (tested test) semicolon_ends))
      (law_closed d untested Anything) (starts_last key.Semicolon untested semicolon_no_when))

exit_closing : (w : Option Word) (d : ℕ) (e : Option PExpr) → Closing (λ close. IfThere w Named ▷ WhenTest d e ▷ KeyAt key.Semicolon close) (IfThere w Named ▷ WhenTest d e ▷ Key key.Semicolon)
exit_closing w d e = closing_then (IfThere w Named) (closing_then (WhenTest d e) (closing_key key.Semicolon))

when_no_word : (k : Item) (at : Span) → symbol key.When k ≡ Some at → word k ≡ None
when_no_word k at some = rw (symbol_is key.When k at some) refl

module _ (source : Source) where
  exit_led : (lead : Span) (e : ℕ) (x : PStmt) (text : List Item) → LedBy source IsExit key.Exit lead e x text → WithWord (exit_tree lead) ExitSpelled e x text
  exit_led lead d (SExit w e s) text (kind, is) =
      let (close, place, rest) = key_placed key.Exit (exit_closing w d e) s lead text is in
      ((w, (e, close)), ap (SExit w e) place, rest)
  exit_led lead d x text (kind, is) = absurd kind

  rest_no_word : (lead : Span) (d : ℕ) → Starts d (Made (exit_tree lead None) (ExitSpelled None)) Anything (IsPassed word)
  rest_no_word lead d = record { begins_with = λ x text k is stop. starts x text k is } where
    starts : (x : PStmt) (text : List Item) (k : Item) → Made (exit_tree lead None) (ExitSpelled None) d x text → word (first_of k text) ≡ None
    starts x text k ((None, close), same, (front, back, from, none, is)) = rw from (rw none (rw is refl))
    starts x text k ((Some test, close), same, (front, back, from, (f, g, split, (at, one), is), last)) = rw from (rw split (rw one refl))

  pub law_exit : (d : ℕ) (lead : Span) →
      Lawful d (on word (λ w. exit_rest d lead (Some w)) (exit_rest d lead None)) (on word (λ w. exit_rest (suc d) lead (Some w)) (exit_rest (suc d) lead None)) (LedBy source IsExit key.Exit lead) Anything
  law_exit d lead = made_fit (λ v. exit_tree lead v.0 v.1) (Both (λ e w. IfThere w Named) ExitSpelled)
      (λ e v text is. (tt, placed_key key.Exit (exit_closing v.0 e v.1.0) lead v.1.1 text is))
      (exit_led lead)
      (law_may_word (exit_tree lead) ExitSpelled {q = λ w. exit_rest d lead w} {q' = λ w. exit_rest (suc d) lead w} (λ w. law_exit_rest lead w d) (rest_no_word lead d))

-- ---- abort

abbrev pub IsAbort : PStmt → Type 0
IsAbort (SAbort tasks s) = Unit {0}
IsAbort x = ⊥

abbrev abort_tree : Span → List PTarget → Span → PStmt
abort_tree lead ts close = SAbort (map callee_of ts) (from_to lead close)

abbrev target_of : PCallee → PTarget
target_of x = record { name = x.name; index = x.index }

abbrev Targets : Texts Item PTarget
Targets d x text = IsTarget d x text

more_tasks : (d : ℕ) (ts : List PTarget) (text : List Item) → Behind (Key key.Comma) (Targets d) ts text → Behind (Key key.Comma) (Callee d) (map callee_of ts) text
more_tasks d [] text none = none
more_tasks d (t ∷ more) text (f, g, from, k, (f', g', from', is, rest)) = (f, g, from, k, (f', g', from', is, more_tasks d more g' rest))

tasks_are : (d : ℕ) (ts : List PTarget) (text : List Item) → Separated (Key key.Comma) (Targets d) ts text → Separated (Key key.Comma) (Callee d) (map callee_of ts) text
tasks_are d [] text never = never
tasks_are d (t ∷ more) text (f, g, from, is, rest) = (f, g, from, is, more_tasks d more g rest)

more_targets : (d : ℕ) (cs : List PCallee) (text : List Item) → Behind (Key key.Comma) (Callee d) cs text → Behind (Key key.Comma) (Targets d) (map target_of cs) text
more_targets d [] text none = none
more_targets d (t ∷ more) text (f, g, from, k, (f', g', from', is, rest)) = (f, g, from, k, (f', g', from', is, more_targets d more g' rest))

targets_are : (d : ℕ) (cs : List PCallee) (text : List Item) → Separated (Key key.Comma) (Callee d) cs text → Separated (Key key.Comma) (Targets d) (map target_of cs) text
targets_are d [] text never = never
targets_are d (t ∷ more) text (f, g, from, is, rest) = (f, g, from, is, more_targets d more g rest)

turned : (cs : List PCallee) → cs ≡ map callee_of (map target_of cs)
turned [] = refl
turned (c ∷ cs) = ap (λ l. c ∷ l) (turned cs)

abort_closing : (d : ℕ) (cs : List PCallee) → Closing (λ close. Separated (Key key.Comma) (Callee d) cs ▷ KeyAt key.Semicolon close) (Separated (Key key.Comma) (Callee d) cs ▷ Key key.Semicolon)
abort_closing d cs = closing_then (Separated (Key key.Comma) (Callee d) cs) (closing_key key.Semicolon)

abbrev EndsTasks : Item → Type 0
EndsTasks x = EndsTarget x × (symbol key.Comma x ≡ None)

semicolon_tasks : (at : Span) → EndsTasks (symbol_item key.Semicolon at)
unfolding same
semicolon_tasks at = (refl, refl)

comma_target : (at : Span) → EndsTarget (symbol_item key.Comma at)
unfolding same
comma_target at = refl

module _ (source : Source) where
  abort_is : (lead : Span) (e : ℕ) (x : PStmt) (text : List Item) → LedBy source IsAbort key.Abort lead e x text →
      Made (λ v. abort_tree lead v.0 v.1) (Both (λ e ts. Separated (Key key.Comma) (Targets e) ts) ShutAt) e x text
  abort_is lead d (SAbort cs s) text (kind, is) =
      let (close, place, (front, back, from, tasks, last)) = key_placed key.Abort (abort_closing d cs) s lead text is in
      ((map target_of cs, close), ap (SAbort cs) place ∙ ap (λ l. SAbort l (from_to lead close)) (turned cs), (front, back, from, targets_are d cs front tasks, last))
  abort_is lead d x text (kind, is) = absurd kind

  pub law_abort : (d : ℕ) (lead : Span) →
      Lawful d (bind (separated key.Comma (target d)) (λ ts. closed (abort_tree lead ts))) (bind (separated key.Comma (target (suc d))) (λ ts. closed (abort_tree lead ts))) (LedBy source IsAbort key.Abort lead) Anything
  law_abort d lead = made_fit (λ v. abort_tree lead v.0 v.1) (Both (λ e ts. Separated (Key key.Comma) (Targets e) ts) ShutAt)
      (λ e v text (front, back, from, tasks, last). (tt, placed_key key.Abort (abort_closing e (map callee_of v.0)) lead v.1 text (front, back, from, tasks_are e v.0 front tasks, last)))
      (abort_is lead)
      (made_bind {R = EndsTasks} (abort_tree lead) ShutAt (law_separated key.Comma (law_target d) comma_target (λ x stop. stop.0) (λ x stop. stop.1))
      (λ ts. law_closed d (abort_tree lead ts) Anything) (λ ts. starts_last key.Semicolon (abort_tree lead ts) semicolon_tasks))
