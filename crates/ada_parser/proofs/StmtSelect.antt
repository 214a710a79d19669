-- The laws of select statements: the selective wait, the conditional and the timed entry call.
use Rattle.std.proofs.Common.{◌≡◌, ℕ, suc, true, false, ◌⊎◌, inl, inr, List, [], ◌∷◌, None, refl, ap, ◌∙◌, subst}
use Rattle.std.specs.Prelude.{is_some}
use Rattle.ada_tree.specs.declared.naming.Span.{Span}
use Rattle.ada_tree.specs.PlainStmt.{PCall, PStmt, SWait, SConditional, STimed, PStmts, PMaybe, absent, PAlt, alternative, ATerminate, PAlts, no_alt, alt_then, alts_of}
use Rattle.ada_lexer.specs.declared.symbols.Symbol.TheVariants as key
use Rattle.ada_expr_parser.specs.declared.items.Item.{Item}
use Rattle.ada_expr_parser.specs.Tests.{same, symbol, word}
use Rattle.ada_expr_parser.specs.Grammar.{symbol_item, IsCall}
use Rattle.ada_expr_parser.specs.Trees.{from_to}
use Rattle.ada_expr_parser.specs.Parts.{callee_of, target, call_rest, call}
use Rattle.ada_phrase_parser.specs.Spelling.{Source, Spelling, Nothing, ◌▷◌, Key, Duration, Behind, Separated}
use Rattle.ada_phrase_parser.specs.Phrases.{DelayOf}
use Rattle.ada_stmt_parser.specs.Statements.{AnyStmts, Stmts, ElsePart, IsAlt, IsAlts, MoreAlts}
use Rattle.ada_phrase_parser.specs.Reading.{closed, Delayed}
use Rattle.ada_phrase_parser.specs.Reading as reading
use Rattle.ada_stmt_parser.specs.inner.ReadingStatements as reading_stmts
use Rattle.ada_stmt_parser.specs.inner.ReadingStatements.{Readers, timed_rest, call_rest_of, wait_rest, select_rest}
use Rattle.ada_expr_parser.specs.readers.Readers.{Answer, Found, Fault, Reader, bind, go_on, on}
use Rattle.ada_expr_parser.specs.readers.Grammars.{Texts, One, Then, Or, Starts, first_of}
use Rattle.ada_expr_parser.specs.readers.Lawful.{Lawful, Anything, IsYes, IsNo}
use Rattle.ada_expr_parser.proofs.readers.Choosing.{law_on}
use Rattle.ada_expr_parser.proofs.readers.Looking.{law_look}
use Rattle.ada_expr_parser.proofs.readers.Fitting.{law_fit, law_same}
use Rattle.ada_parser.specs.expression_laws.Stopping.{EndsTarget}
use Rattle.ada_parser.proofs.expression_laws.Tokens.{symbol_takes}
use Rattle.ada_parser.proofs.expression_laws.Primaries.{no_place}
use Rattle.ada_parser.proofs.expression_laws.Entries.{law_call}
use Rattle.ada_parser.proofs.KitPieces.{KeyAt, placed_key, key_placed, key_then, Same, same_self, same_through, same_then, same_behind, same_grouped}
use Rattle.ada_parser.proofs.KitReading.{Made, Both, made_fit, made_bind, made_then, made_key, law_separated, starts_key, starts_both, key_taken, taken_key}
use Rattle.ada_parser.proofs.StmtLevels.{EndsStmts, EndsElse, StmtsTexts, AnyTexts, AltTexts, LevelLaws, law_stmts, law_any_stmts, law_else, else_starts, Has, has_then, has_nothing}
use Rattle.ada_parser.proofs.StmtSimple.{LedBelow, DelayedTexts, law_delayed}
use Rattle.ada_parser.proofs.StmtIf.{EndShut, end_closing, has_end, law_end}
use Rattle.ada_parser.proofs.StmtAlts.{alt_first}
use Rattle.ada_parser.proofs.DeclTypes.{pushed}

-- ---- selective waits

abbrev EndsAlts : Item → Type 0
EndsAlts x = EndsStmts x × (symbol key.Or x ≡ None)

abbrev EndsWait : Item → Type 0
EndsWait x = EndsElse x × (symbol key.Or x ≡ None)

or_ends : (at : Span) → EndsStmts (symbol_item key.Or at)
unfolding same
or_ends at = refl

else_alts : (at : Span) → EndsAlts (symbol_item key.Else at)
unfolding same
else_alts at = (refl, refl)

end_ends : (at : Span) → EndsWait (symbol_item key.End at)
unfolding same
end_ends at = ((refl, refl), refl)

alt_list : PAlts → List PAlt
alt_list no_alt = []
alt_list (alt_then x k) = x ∷ alt_list k

alts_same : (k : PAlts) → k ≡ alts_of (alt_list k)
unfolding alt_list
alts_same no_alt = refl
alts_same (alt_then x k) = ap (λ l. alt_then x l) (alts_same k)

abbrev pub IsWait : PStmt → Type 0
IsWait (SWait alts o s) = Unit {0}
IsWait x = ⊥

abbrev pub IsCalling : PStmt → Type 0
IsCalling (SConditional c l o s) = Unit {0}
IsCalling (STimed c l n m s) = Unit {0}
IsCalling x = ⊥

abbrev pub IsSelect : PStmt → Type 0
IsSelect (SWait alts o s) = Unit {0}
IsSelect (SConditional c l o s) = Unit {0}
IsSelect (STimed c l n m s) = Unit {0}
IsSelect x = ⊥

module _ (source : Source) where
  more_alts : (e : ℕ) (list : List PAlt) → Same (Behind (Key key.Or) (AltTexts source e) list) (MoreAlts source e (alts_of list))
  more_alts e [] = same_self Nothing
  more_alts e (x ∷ more) = same_behind (Key key.Or) (same_behind (IsAlt source e x) (more_alts e more))

  alts_are : (e : ℕ) (list : List PAlt) → Same (Separated (Key key.Or) (AltTexts source e) list) (IsAlts source e (alts_of list))
  alts_are e [] = same_self (λ text. ⊥)
  alts_are e (x ∷ more) = same_behind (IsAlt source e x) (more_alts e more)

  abbrev WaitBehind : List PAlt → ℕ → PMaybe × Span → Spelling
  WaitBehind alts e v = ElsePart source e v.0 ▷ EndShut key.Select e v.1

  abbrev wait_tree : Span → List PAlt → PMaybe × Span → PStmt
  wait_tree lead alts v = SWait (alts_of alts) v.0 (from_to lead v.1)

  abbrev WaitSpelled : ℕ → List PAlt × (PMaybe × Span) → Spelling
  WaitSpelled = Both (λ e alts. Separated (Key key.Or) (AltTexts source e) alts) WaitBehind

  wait_same : (e : ℕ) (alts : List PAlt) (o : PMaybe) (close : Span) → Same (WaitSpelled e (alts, (o, close))) ((IsAlts source e (alts_of alts) ▷ ElsePart source e o) ▷ EndShut key.Select e close)
  wait_same e alts o close = same_through (same_then (alts_are e alts) (same_self (WaitBehind alts e (o, close)))) (same_grouped (IsAlts source e (alts_of alts)) (ElsePart source e o) (EndShut key.Select e close))

  is_wait : (lead : Span) (e : ℕ) (v : List PAlt × (PMaybe × Span)) (text : List Item) → WaitSpelled e v text → LedBelow source IsWait key.Select lead e (wait_tree lead v.0 v.1) text
  is_wait lead e (alts, (o, close)) text is = (tt, placed_key key.Select (end_closing (IsAlts source e (alts_of alts) ▷ ElsePart source e o) key.Select) lead close text ((wait_same e alts o close).to text is))

  wait_is : (lead : Span) (e : ℕ) (x : PStmt) (text : List Item) → LedBelow source IsWait key.Select lead e x text → Made (λ v. wait_tree lead v.0 v.1) WaitSpelled e x text
  wait_is lead e (SWait alts o s) text (kind, is) =
      let (close, place, rest) = key_placed key.Select (end_closing (IsAlts source e alts ▷ ElsePart source e o) key.Select) s lead text is in (
        (alt_list alts, (o, close)),
        ap (SWait alts o) place ∙ ap (λ k. SWait k o (from_to lead close)) (alts_same alts),
        (wait_same e (alt_list alts) o close).back text (subst (λ k. ((IsAlts source e k ▷ ElsePart source e o) ▷ EndShut key.Select e close) text) (alts_same alts) rest),
      )
  wait_is lead e x text (kind, is) = absurd kind

  law_wait : (d : ℕ) {r r' : Readers} (lead : Span) → LevelLaws source d r r' → Lawful d (wait_rest r lead) (wait_rest r' lead) (LedBelow source IsWait key.Select lead) Anything
  law_wait d lead laws = made_fit (λ v. wait_tree lead v.0 v.1) WaitSpelled (is_wait lead) (wait_is lead)
      (made_bind {R = EndsAlts} (wait_tree lead) WaitBehind (law_separated key.Or laws.alt or_ends (λ x stop. stop.0) (λ x stop. stop.1))
      (λ alts. made_bind {R = EndsElse} (λ o close. wait_tree lead alts (o, close)) (λ o. EndShut key.Select) (law_else source laws)
      (λ o. law_end d key.Select (λ close. wait_tree lead alts (o, close)) Anything)
      (λ o. starts_key key.End (λ close. wait_tree lead alts (o, close)) (λ e close. Key key.Select ▷ KeyAt key.Semicolon close) (λ at. (end_ends at).0)))
      (λ alts. starts_both {T = EndsWait} (λ o close. wait_tree lead alts (o, close)) (λ o. EndShut key.Select) (else_starts source else_alts (λ x stop. (stop.0.0, stop.1)))
      (λ o. starts_key key.End (λ close. wait_tree lead alts (o, close)) (λ e close. Key key.Select ▷ KeyAt key.Semicolon close) end_ends)))

  wait_starts : (d : ℕ) (lead : Span) → Starts d (LedBelow source IsWait key.Select lead) Anything (IsNo (λ x. is_some (word x)))
  wait_starts d lead = record { begins_with = λ x text k is stop. starts k text (wait_is lead d x text is) } where
    starts : {x : PStmt} (k : Item) (text : List Item) → Made (λ v. wait_tree lead v.0 v.1) WaitSpelled d x text → is_some (word (first_of k text)) ≡ false
    starts k text (([], v), same, (front, back, from, never, rest)) = absurd never
    starts k text ((a ∷ more, v), same, (front, back, from, (f, g, split, is, others), rest)) =
        let (s, at, last, first) = alt_first source d a f is in
        rw from (rw split (rw first refl))

  -- ---- calls

  abbrev Calls : Texts Item PCall
  Calls d c text = IsCall d c text

  -- an else part, or a delay with what follows it
  abbrev Ending : Type 0
  Ending = (PStmts × Span) ⊎ (Delayed × (PStmts × Span))

  abbrev EndingSpelled : ℕ → Ending → Spelling
  EndingSpelled e (inl v) = Key key.Else ▷ Both (StmtsTexts source) (λ o. EndShut key.Select) e v
  EndingSpelled e (inr v) = Key key.Or ▷ Key key.Delay ▷ Both DelayedTexts (λ x. Both (AnyTexts source) (λ m. EndShut key.Select)) e v

  abbrev call_tree : Span → PCall → PStmts → Ending → PStmt
  call_tree lead c l (inl v) = SConditional c l v.0 (from_to lead v.1)
  call_tree lead c l (inr v) = STimed c l v.0.thousandths v.1.0 (from_to lead v.1.1)

  module _ (lead : Span) (c : PCall) (l : PStmts) where
    abbrev else_tree : PStmts → Span → PStmt
    else_tree o close = SConditional c l o (from_to lead close)

    abbrev delay_tree : Delayed → PStmts → Span → PStmt
    delay_tree x m close = STimed c l x.thousandths m (from_to lead close)

    abbrev ElseEnd : Texts Item PStmt
    ElseEnd = Made (λ v. else_tree v.0 v.1) (Both (StmtsTexts source) (λ o. EndShut key.Select))

    abbrev DelayEnd : Texts Item PStmt
    DelayEnd = Made (λ v. delay_tree v.0 v.1.0 v.1.1) (λ e v. Key key.Or ▷ Key key.Delay ▷ Both DelayedTexts (λ x. Both (AnyTexts source) (λ m. EndShut key.Select)) e v)

    abbrev Endings : Texts Item PStmt
    Endings = Or (Then (One (symbol key.Else)) (λ at. ElseEnd)) DelayEnd

    ending_is : (e : ℕ) (x : PStmt) (text : List Item) → Endings e x text → Made (call_tree lead c l) EndingSpelled e x text
    ending_is e x text (inl taken) = let (front, back, from, k, (v, same, is)) = key_taken key.Else ElseEnd e x text taken in (inl v, same, (front, back, from, k, is))
    ending_is e x text (inr (v, same, is)) = (inr v, same, is)

    is_ending : (e : ℕ) (x : PStmt) (text : List Item) → Made (call_tree lead c l) EndingSpelled e x text → Endings e x text
    is_ending e x text (inl v, same, (front, back, from, k, is)) = inl (taken_key key.Else ElseEnd e x text (front, back, from, k, (v, same, is)))
    is_ending e x text (inr v, same, is) = inr (v, same, is)

    or_no_else : (at : Span) → symbol key.Else (symbol_item key.Or at) ≡ None
    unfolding same
    or_no_else at = refl

    law_timed : (d : ℕ) {r r' : Readers} → LevelLaws source d r r' → Lawful d (timed_rest r lead c l) (timed_rest r' lead c l) DelayEnd Anything
    law_timed d laws = made_key key.Or (λ v. delay_tree v.0 v.1.0 v.1.1) (λ e v. Key key.Delay ▷ Both DelayedTexts (λ x. Both (AnyTexts source) (λ m. EndShut key.Select)) e v)
        (made_key key.Delay (λ v. delay_tree v.0 v.1.0 v.1.1) (Both DelayedTexts (λ x. Both (AnyTexts source) (λ m. EndShut key.Select)))
        (made_then (λ x v. delay_tree x v.0 v.1) (λ x. Both (AnyTexts source) (λ m. EndShut key.Select)) (law_delayed d Anything)
        (λ x. made_bind {R = EndsStmts} (delay_tree x) (λ m. EndShut key.Select) (law_any_stmts source laws)
        (λ m. law_end d key.Select (delay_tree x m) Anything)
        (λ m. starts_key key.End (delay_tree x m) (λ e close. Key key.Select ▷ KeyAt key.Semicolon close) (λ at. (end_ends at).0.0)))))

    law_ending : (d : ℕ) {r r' : Readers} → LevelLaws source d r r' → Lawful d
        (on (symbol key.Else) (λ at. bind (reading_stmts.stmts r) (λ o. reading.key_then key.End (reading.key_then key.Select (closed (else_tree o))))) (timed_rest r lead c l))
        (on (symbol key.Else) (λ at. bind (reading_stmts.stmts r') (λ o. reading.key_then key.End (reading.key_then key.Select (closed (else_tree o))))) (timed_rest r' lead c l))
        (Made (call_tree lead c l) EndingSpelled) Anything
    law_ending d laws = law_fit (λ e deep x text is. ending_is e x text is) (is_ending d)
        (law_on {test = symbol key.Else}
        (λ at. made_bind {R = EndsStmts} else_tree (λ o. EndShut key.Select) (law_stmts source laws)
        (λ o. law_end d key.Select (else_tree o) Anything)
        (λ o. starts_key key.End (else_tree o) (λ e close. Key key.Select ▷ KeyAt key.Semicolon close) (λ at. (end_ends at).0.0)))
        (law_timed d laws).careful
        (starts_key key.Or (λ v. delay_tree v.0 v.1.0 v.1.1) (λ e v. Key key.Delay ▷ Both DelayedTexts (λ x. Both (AnyTexts source) (λ m. EndShut key.Select)) e v) or_no_else)
        (symbol_item key.Else no_place) no_place (symbol_takes key.Else no_place))

    else_ends : (at : Span) → EndsStmts (symbol_item key.Else at)
    unfolding same
    else_ends at = refl

    ending_starts : (d : ℕ) → Starts d (Made (call_tree lead c l) EndingSpelled) Anything EndsStmts
    ending_starts d = record { begins_with = λ x text k is stop. starts x text k is } where
      starts : (x : PStmt) (text : List Item) (k : Item) → Made (call_tree lead c l) EndingSpelled d x text → EndsStmts (first_of k text)
      starts x text k (inl v, same, (front, back, from, (at, one), is)) = rw from (rw one (else_ends at))
      starts x text k (inr v, same, (front, back, from, (at, one), is)) = rw from (rw one (or_ends at))

  abbrev AfterCall : ℕ → PStmts × Ending → Spelling
  AfterCall e v = Key key.Semicolon ▷ Both (AnyTexts source) (λ l e v. EndingSpelled e v) e v

  law_call_rest_of : (d : ℕ) {r r' : Readers} (lead : Span) (c : PCall) → LevelLaws source d r r' → Lawful d (call_rest_of r lead c) (call_rest_of r' lead c) (Made (λ v. call_tree lead c v.0 v.1) AfterCall) Anything
  law_call_rest_of d lead c laws = made_key key.Semicolon (λ v. call_tree lead c v.0 v.1) (Both (AnyTexts source) (λ l e v. EndingSpelled e v))
      (made_bind {R = EndsStmts} (call_tree lead c) (λ l e v. EndingSpelled e v) (law_any_stmts source laws) (λ l. law_ending lead c l d laws) (λ l. ending_starts lead c l d))

  semicolon_target : (at : Span) → EndsTarget (symbol_item key.Semicolon at)
  unfolding same
  semicolon_target at = refl

  -- the call is read whole
  called : {A : Type 0} (answer : Answer Item A) {B C : Type 0} (f : A → Reader Item B) (next : B → Reader Item C) → go_on answer (λ a. bind (f a) next) ≡ go_on (go_on answer f) next
  called (Found a rest) f next = refl
  called (Fault deep rest) f next = refl

  abbrev CallSpelled : ℕ → PCall × (PStmts × Ending) → Spelling
  CallSpelled = Both Calls (λ c. AfterCall)

  law_calling : (d : ℕ) {r r' : Readers} (lead : Span) → LevelLaws source d r r' →
      Lawful d (bind (target d) (λ t. bind (call_rest d (callee_of t)) (call_rest_of r lead))) (bind (target (suc d)) (λ t. bind (call_rest (suc d) (callee_of t)) (call_rest_of r' lead)))
      (Made (λ v. call_tree lead v.0 v.1.0 v.1.1) CallSpelled) Anything
  law_calling d {r} {r'} lead laws = law_same (λ ts. called (target d ts) (λ t. call_rest d (callee_of t)) (call_rest_of r lead)) (λ ts. called (target (suc d) ts) (λ t. call_rest (suc d) (callee_of t)) (call_rest_of r' lead))
      (made_bind {R = EndsTarget} (λ c v. call_tree lead c v.0 v.1) (λ c. AfterCall) (law_call d) (λ c. law_call_rest_of d lead c laws)
      (λ c. starts_key key.Semicolon (λ v. call_tree lead c v.0 v.1) (Both (AnyTexts source) (λ l e v. EndingSpelled e v)) semicolon_target))

  -- ---- calls, as the grammar has them

  abbrev ElseInside : ℕ → PCall → PStmts → PStmts → Spelling
  ElseInside e c l o = Calls e c ▷ Key key.Semicolon ▷ AnyStmts source e l ▷ Key key.Else ▷ Stmts source e o

  abbrev DelayInside : ℕ → PCall → PStmts → ℕ → PStmts → Spelling
  DelayInside e c l n m = Calls e c ▷ Key key.Semicolon ▷ AnyStmts source e l ▷ Key key.Or ▷ DelayOf n ▷ AnyStmts source e m

  else_same : (e : ℕ) (c : PCall) (l o : PStmts) (close : Span) → Same (CallSpelled e (c, (l, inl (o, close)))) (ElseInside e c l o ▷ EndShut key.Select e close)
  else_same e c l o close = pushed (Calls e c) (pushed (Key key.Semicolon) (pushed (AnyStmts source e l) (same_grouped (Key key.Else) (Stmts source e o) (EndShut key.Select e close))))

  -- with the place of the semicolon behind the duration
  abbrev DelayShut : Delayed → Spelling
  DelayShut x = Key key.Delay ▷ (Duration x.thousandths ▷ KeyAt key.Semicolon x.close)

  delay_same : (e : ℕ) (c : PCall) (l : PStmts) (x : Delayed) (m : PStmts) (close : Span) →
      Same (CallSpelled e (c, (l, inr (x, (m, close))))) ((Calls e c ▷ Key key.Semicolon ▷ AnyStmts source e l ▷ Key key.Or ▷ DelayShut x ▷ AnyStmts source e m) ▷ EndShut key.Select e close)
  delay_same e c l x m close = pushed (Calls e c) (pushed (Key key.Semicolon) (pushed (AnyStmts source e l) (pushed (Key key.Or)
      (same_through (same_grouped (Key key.Delay) (DelayedTexts e x) (AnyStmts source e m ▷ EndShut key.Select e close)) (same_grouped (DelayShut x) (AnyStmts source e m) (EndShut key.Select e close))))))

  -- nested pieces, one of which is said otherwise
  delay_plain : (e : ℕ) (c : PCall) (l : PStmts) (x : Delayed) (m : PStmts) (text : List Item) → (Calls e c ▷ Key key.Semicolon ▷ AnyStmts source e l ▷ Key key.Or ▷ DelayShut x ▷ AnyStmts source e m) text → DelayInside e c l x.thousandths m text
  delay_plain e c l x m text (f0, b0, s0, call, (f1, b1, s1, semi, (f2, b2, s2, any, (f3, b3, s3, mark, (f4, b4, s4, (f5, b5, s5, lead, (f6, b6, s6, duration, close)), more))))) =
      (f0, b0, s0, call, (f1, b1, s1, semi, (f2, b2, s2, any, (f3, b3, s3, mark, (f4, b4, s4, (f5, b5, s5, lead, (f6, b6, s6, duration, (x.close, close))), more)))))

  plain_delay : (e : ℕ) (c : PCall) (l : PStmts) (n : ℕ) (m : PStmts) (text : List Item) → DelayInside e c l n m text →
      (close : Span) × (Calls e c ▷ Key key.Semicolon ▷ AnyStmts source e l ▷ Key key.Or ▷ DelayShut record { thousandths = n; close = close } ▷ AnyStmts source e m) text
  plain_delay e c l n m text (f0, b0, s0, call, (f1, b1, s1, semi, (f2, b2, s2, any, (f3, b3, s3, mark, (f4, b4, s4, (f5, b5, s5, lead, (f6, b6, s6, duration, (close, is))), more))))) =
      (close, (f0, b0, s0, call, (f1, b1, s1, semi, (f2, b2, s2, any, (f3, b3, s3, mark, (f4, b4, s4, (f5, b5, s5, lead, (f6, b6, s6, duration, is)), more))))))

  is_calling : (lead : Span) (e : ℕ) (v : PCall × (PStmts × Ending)) (text : List Item) → CallSpelled e v text → LedBelow source IsCalling key.Select lead e (call_tree lead v.0 v.1.0 v.1.1) text
  is_calling lead e (c, (l, inl (o, close))) text is = (tt, placed_key key.Select (end_closing (ElseInside e c l o) key.Select) lead close text ((else_same e c l o close).to text is))
  is_calling lead e (c, (l, inr (x, (m, close)))) text is =
      let (front, back, from, inside, last) = (delay_same e c l x m close).to text is in
      (tt, placed_key key.Select (end_closing (DelayInside e c l x.thousandths m) key.Select) lead close text (front, back, from, delay_plain e c l x m front inside, last))

  calling_is : (lead : Span) (e : ℕ) (x : PStmt) (text : List Item) → LedBelow source IsCalling key.Select lead e x text → Made (λ v. call_tree lead v.0 v.1.0 v.1.1) CallSpelled e x text
  calling_is lead e (SConditional c l o s) text (kind, is) =
      let (close, place, rest) = key_placed key.Select (end_closing (ElseInside e c l o) key.Select) s lead text is in
      ((c, (l, inl (o, close))), ap (SConditional c l o) place, (else_same e c l o close).back text rest)
  calling_is lead e (STimed c l n m s) text (kind, is) =
      let (close, place, (front, back, from, inside, last)) = key_placed key.Select (end_closing (DelayInside e c l n m) key.Select) s lead text is in
      let (at, shut) = plain_delay e c l n m front inside in
      let x : Delayed = record { thousandths = n; close = at } in
      ((c, (l, inr (x, (m, close)))), ap (STimed c l n m) place, (delay_same e c l x m close).back text (front, back, from, shut, last))
  calling_is lead e x text (kind, is) = absurd kind

  calls_start : (d : ℕ) (lead : Span) → Starts d (LedBelow source IsCalling key.Select lead) Anything (IsYes (λ x. is_some (word x)))
  calls_start d lead = record { begins_with = λ x text k is stop. starts k text (calling_is lead d x text is) } where
    starts : {x : PStmt} (k : Item) (text : List Item) → Made (λ v. call_tree lead v.0 v.1.0 v.1.1) CallSpelled d x text → is_some (word (first_of k text)) ≡ true
    starts k text ((c, v), same, (front, back, from, is, rest)) = rw from (rw is.text_is (rw is.task.text_is refl))

  -- ---- both

  select_is : (lead : Span) (e : ℕ) (x : PStmt) (text : List Item) → Or (LedBelow source IsCalling key.Select lead) (LedBelow source IsWait key.Select lead) e x text → LedBelow source IsSelect key.Select lead e x text
  select_is lead e (SWait alts o s) text (inl (never, is)) = absurd never
  select_is lead e (SWait alts o s) text (inr (kind, is)) = (tt, is)
  select_is lead e (SConditional c l o s) text (inl (kind, is)) = (tt, is)
  select_is lead e (SConditional c l o s) text (inr (never, is)) = absurd never
  select_is lead e (STimed c l n m s) text (inl (kind, is)) = (tt, is)
  select_is lead e (STimed c l n m s) text (inr (never, is)) = absurd never
  select_is lead e x text (inl (never, is)) = absurd never
  select_is lead e x text (inr (never, is)) = absurd never

  is_select : (lead : Span) (e : ℕ) (x : PStmt) (text : List Item) → LedBelow source IsSelect key.Select lead e x text → Or (LedBelow source IsCalling key.Select lead) (LedBelow source IsWait key.Select lead) e x text
  is_select lead e (SWait alts o s) text (kind, is) = inr (tt, is)
  is_select lead e (SConditional c l o s) text (kind, is) = inl (tt, is)
  is_select lead e (STimed c l n m s) text (kind, is) = inl (tt, is)
  is_select lead e x text (never, is) = absurd never

  pub law_select : (d : ℕ) {r r' : Readers} (lead : Span) → LevelLaws source d r r' → Lawful d (select_rest d r lead) (select_rest (suc d) r' lead) (LedBelow source IsSelect key.Select lead) Anything
  law_select d {r} {r'} lead laws = law_fit (λ e deep x text is. select_is lead e x text is) (is_select lead d)
      (law_look {test = λ x. is_some (word x)}
      (made_fit (λ v. call_tree lead v.0 v.1.0 v.1.1) CallSpelled (is_calling lead) (calling_is lead) (law_calling d lead laws)).careful
      (law_wait d lead laws) (calls_start d lead) (wait_starts d lead))

  -- `select terminate ; end select ;`
  abbrev last_alt : PAlt
  last_alt = alternative None ATerminate (from_to no_place no_place)

  has_alt : (e : ℕ) → Has (IsAlt source e last_alt)
  has_alt e =
      let text : List Item = symbol_item key.Terminate no_place ∷ symbol_item key.Semicolon no_place ∷ [] in
      (text, (([], text, refl, refl, key_then key.Terminate (Key key.Semicolon) no_place (symbol_item key.Semicolon no_place ∷ []) (no_place, refl)), refl))

  pub some_select : (lead : Span) → (e : ℕ) × (x : PStmt) × (f : List Item) × LedBelow source IsSelect key.Select lead e x f
  some_select lead =
      let (text, is) : Has (WaitSpelled 0 (last_alt ∷ [], (absent, no_place))) = has_then (has_then (has_alt 0) has_nothing) (has_then has_nothing (has_end key.Select 0)) in
      (0, wait_tree lead (last_alt ∷ []) (absent, no_place), text, select_is lead 0 (wait_tree lead (last_alt ∷ []) (absent, no_place)) text (inr (is_wait lead 0 (last_alt ∷ [], (absent, no_place)) text is)))
