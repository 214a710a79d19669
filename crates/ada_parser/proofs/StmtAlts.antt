-- The laws of alternatives of a selective wait.
use Rattle.std.proofs.Common.{◌≡◌, ℕ, zero, suc, false, inl, inr, List, [], ◌∷◌, ◌++◌, Option, Some, None, refl, sym, ap, ◌∙◌, subst, arith}
use Rattle.ada_tree.specs.declared.naming.Span.{Span}
use Rattle.ada_tree.specs.PlainExpr.{PExpr}
use Rattle.ada_tree.specs.PlainStmt.{PHead, PStmts, no_stmt, absent, present, PAccept, accepting, PAlt, alternative, PAltKind, AAccept, ADelay, ATerminate}
use Rattle.ada_lexer.specs.declared.symbols.Symbol.{Symbol}
use Rattle.ada_lexer.specs.declared.symbols.Symbol.TheVariants as key
use Rattle.ada_expr_parser.specs.declared.items.Item.{Item}
use Rattle.ada_expr_parser.specs.declared.levels.Level.TheVariants.{Logical}
use Rattle.ada_expr_parser.specs.Tests.{same, symbol}
use Rattle.ada_expr_parser.specs.Grammar.{symbol_item, word_item}
use Rattle.ada_expr_parser.specs.Trees.{from_to}
use Rattle.ada_expr_parser.specs.Parts.{expression}
use Rattle.ada_phrase_parser.specs.Spelling.{Source, Spelling, ◌▷◌, Key, Duration, last_place, IsPlaceOf}
use Rattle.ada_phrase_parser.specs.Phrases.{Expression, Guard}
use Rattle.ada_stmt_parser.specs.Statements.{AnyStmts, IsAccept, IsAlt, IsAltKind}
use Rattle.ada_phrase_parser.specs.Reading.{Delayed}
use Rattle.ada_phrase_parser.specs.Reading as reading
use Rattle.ada_stmt_parser.specs.inner.ReadingStatements.{Readers, accept_span, accept_alt, delay_alt, alt_kind, alt_at}
use Rattle.ada_compound_parts.specs.inner.ReadingParts.{last_span, first_of_alt}
use Rattle.ada_expr_parser.specs.readers.Readers.{bind}
use Rattle.ada_expr_parser.specs.readers.Grammars.{Texts, Never, One, Then, Or, Below, Starts}
use Rattle.ada_expr_parser.specs.readers.Lawful.{Lawful, Anything, IsPassed}
use Rattle.ada_expr_parser.proofs.readers.Binding.{law_bind}
use Rattle.ada_expr_parser.proofs.readers.Deepening.{law_below, law_raised}
use Rattle.ada_expr_parser.proofs.readers.Fitting.{law_fit, careful_fit}
use Rattle.ada_parser.specs.expression_laws.Stopping.{Ends}
use Rattle.ada_parser.proofs.expression_laws.Primaries.{no_place, some_word}
use Rattle.ada_parser.proofs.expression_laws.Plainly.{after_symbol, symbol_then}
use Rattle.ada_parser.proofs.KitPieces.{KeyAt, key_then, after_key, last_append, Same, same_through, same_behind, same_grouped}
use Rattle.ada_parser.proofs.KitReading.{Made, Both, made_then, made_pure, law_key, law_closed}
use Rattle.ada_parser.proofs.KitDeeper.{Expressions, law_expression}
use Rattle.ada_parser.proofs.KitLeading.{Led, led_refuse, led_on, led_below, led_passed}
use Rattle.ada_parser.proofs.StmtLevels.{EndsStmts, AnyTexts, AcceptTexts, AltTexts, LevelLaws, law_any_stmts, Has, has_then, has_nothing, has_key, has_at, zero_is, has_zero}
use Rattle.ada_parser.proofs.StmtSimple.{DelayedTexts, law_delayed, has_duration, delay_closing}
use Rattle.ada_parser.proofs.StmtBodies.{accept_end, any_end, end_of, from_to_end}

-- the place of an alternative whose guard may have begun it
abbrev StandsFrom : Option Span → Span → List Item → Type 0
StandsFrom guard s [] = ⊥
StandsFrom guard s (x ∷ more) = s ≡ from_to (first_of_alt guard x.span) (last_place x.span more)

-- what an alternative begins with that has no guard
pub accept_first : (source : Source) (d : ℕ) (a : PAccept) (text : List Item) → IsAccept source d a text → (lead : Span) × (back : List Item) × (text ≡ symbol_item key.Accept lead ∷ back)
accept_first source d (accepting h absent) text ((front, back, from, (f, g, split, (at, one), rest), last), place) =
    (at, g ++ back, from ∙ ap (λ l. l ++ back) (split ∙ ap (λ l. l ++ g) one))
accept_first source d (accepting h (present l)) text ((front, back, from, (f, g, split, (at, one), rest), last), place) =
    (at, g ++ back, from ∙ ap (λ l. l ++ back) (split ∙ ap (λ l. l ++ g) one))

module _ (source : Source) (g : Option PExpr) (guard : Option Span) where
  abbrev KindTexts : Texts Item PAlt
  KindTexts d (alternative h k s) text = (h ≡ g) × IsAltKind source d k text × StandsFrom guard s text

  abbrev accept_tree : Span → PAccept → PStmts → PAlt
  accept_tree lead a l = alternative g (AAccept a l) (from_to (first_of_alt guard lead) (last_span (accept_span a) l))

  abbrev delay_tree : Span → Delayed → PStmts → PAlt
  delay_tree lead x l = alternative g (ADelay x.thousandths l) (from_to (first_of_alt guard lead) (last_span x.close l))

  abbrev terminate_tree : Span → Span → PAlt
  terminate_tree lead close = alternative g ATerminate (from_to (first_of_alt guard lead) close)

  abbrev AcceptAlt : Span → Texts Item PAlt
  AcceptAlt lead = Made (λ v. accept_tree lead v.0 v.1) (Both (AcceptTexts source lead) (λ a. AnyTexts source))

  abbrev DelayAlt : Span → Texts Item PAlt
  DelayAlt lead = Made (λ v. delay_tree lead v.0 v.1) (Both DelayedTexts (λ x. AnyTexts source))

  abbrev TerminateAlt : Span → Texts Item PAlt
  TerminateAlt lead = Made (terminate_tree lead) (λ e close. KeyAt key.Semicolon close)

  abbrev Choice : Texts Item PAlt
  Choice = Or (Then (One (symbol key.Accept)) (λ lead. Below (AcceptAlt lead))) (Or (Then (One (symbol key.Delay)) (λ lead. Below (DelayAlt lead))) (Or (Then (One (symbol key.Terminate)) TerminateAlt) Never))

  -- ---- as the grammar has it

  accept_place : (e : ℕ) (lead : Span) (a : PAccept) (l : PStmts) (f h : List Item) → AcceptTexts source lead e a f → AnyStmts source e l h →
      from_to (first_of_alt guard lead) (last_span (accept_span a) l) ≡ from_to (first_of_alt guard lead) (last_place lead (f ++ h))
  accept_place e lead a l f h is many = ap (from_to_end (first_of_alt guard lead))
      (sym (ap end_of (last_append lead f h) ∙ any_end source e l h many (last_place lead f) (accept_span a) (accept_end source e a (symbol_item key.Accept lead ∷ f) is lead)))

  delay_place : (e : ℕ) (lead : Span) (x : Delayed) (l : PStmts) (f h : List Item) → DelayedTexts e x f → AnyStmts source e l h →
      from_to (first_of_alt guard lead) (last_span x.close l) ≡ from_to (first_of_alt guard lead) (last_place lead (f ++ h))
  delay_place e lead x l f h is many = ap (from_to_end (first_of_alt guard lead))
      (sym (ap end_of (last_append lead f h) ∙ any_end source e l h many (last_place lead f) x.close (ap end_of ((delay_closing x.thousandths).last x.close f is lead))))

  accept_to : (e : ℕ) (lead : Span) (a : PAccept) (l : PStmts) (f h : List Item) → AcceptTexts source lead e a f → AnyStmts source e l h → KindTexts (suc e) (accept_tree lead a l) (symbol_item key.Accept lead ∷ (f ++ h))
  accept_to e lead a l f h is many = (refl, (symbol_item key.Accept lead ∷ f, h, refl, is, many), accept_place e lead a l f h is many)

  delay_to : (e : ℕ) (lead : Span) (x : Delayed) (l : PStmts) (f h : List Item) → DelayedTexts e x f → AnyStmts source e l h → KindTexts (suc e) (delay_tree lead x l) (symbol_item key.Delay lead ∷ (f ++ h))
  delay_to e lead x l f h is many =
      (refl, (symbol_item key.Delay lead ∷ f, h, refl, key_then key.Delay (Duration x.thousandths ▷ Key key.Semicolon) lead f ((delay_closing x.thousandths).plain x.close f is), many), delay_place e lead x l f h is many)

  terminate_to : (d : ℕ) (lead close : Span) → KindTexts d (terminate_tree lead close) (symbol_item key.Terminate lead ∷ symbol_item key.Semicolon close ∷ [])
  terminate_to d lead close = (refl, key_then key.Terminate (Key key.Semicolon) lead (symbol_item key.Semicolon close ∷ []) (close, refl), refl)

  -- of an equal tree and text
  kind_of : (d : ℕ) (x y : PAlt) (text whole : List Item) → x ≡ y → text ≡ whole → KindTexts d y whole → KindTexts d x text
  kind_of d x y text whole same from is = subst (λ t. KindTexts d x t) (sym from) (subst (λ t. KindTexts d t whole) (sym same) is)

  choice_is : (d : ℕ) (x : PAlt) (text : List Item) → Choice d x text → KindTexts d x text
  choice_is zero x text (inl (lead, one, back, from, token, never)) = absurd never
  choice_is (suc e) x text (inl taken) =
      let (lead, back, from, ((a, l), same, (f, h, split, is, many))) = after_symbol key.Accept (λ lead. Below (AcceptAlt lead)) (suc e) x text taken in
      kind_of (suc e) x (accept_tree lead a l) text (symbol_item key.Accept lead ∷ (f ++ h)) same (from ∙ ap (λ t. symbol_item key.Accept lead ∷ t) split) (accept_to e lead a l f h is many)
  choice_is zero x text (inr (inl (lead, one, back, from, token, never))) = absurd never
  choice_is (suc e) x text (inr (inl taken)) =
      let (lead, back, from, ((n, l), same, (f, h, split, is, many))) = after_symbol key.Delay (λ lead. Below (DelayAlt lead)) (suc e) x text taken in
      kind_of (suc e) x (delay_tree lead n l) text (symbol_item key.Delay lead ∷ (f ++ h)) same (from ∙ ap (λ t. symbol_item key.Delay lead ∷ t) split) (delay_to e lead n l f h is many)
  choice_is d x text (inr (inr (inl taken))) =
      let (lead, back, from, (close, same, is)) = after_symbol key.Terminate TerminateAlt d x text taken in
      kind_of d x (terminate_tree lead close) text (symbol_item key.Terminate lead ∷ symbol_item key.Semicolon close ∷ []) same (from ∙ ap (λ t. symbol_item key.Terminate lead ∷ t) is) (terminate_to d lead close)
  choice_is d x text (inr (inr (inr never))) = absurd never

  -- behind the first item
  accept_behind : (e : ℕ) (h : Option PExpr) (a : PAccept) (l : PStmts) (s lead : Span) (f rest : List Item) → h ≡ g → AcceptTexts source lead e a f → AnyStmts source e l rest →
      StandsFrom guard s (symbol_item key.Accept lead ∷ (f ++ rest)) → AcceptAlt lead e (alternative h (AAccept a l) s) (f ++ rest)
  accept_behind e h a l s lead f rest same is many place =
      ((a, l), ap (λ t. alternative t (AAccept a l) s) same ∙ ap (alternative g (AAccept a l)) (place ∙ sym (accept_place e lead a l f rest is many)), (f, rest, refl, is, many))

  delay_behind : (e : ℕ) (h : Option PExpr) (x : Delayed) (l : PStmts) (s lead : Span) (f rest : List Item) → h ≡ g → DelayedTexts e x f → AnyStmts source e l rest →
      StandsFrom guard s (symbol_item key.Delay lead ∷ (f ++ rest)) → DelayAlt lead e (alternative h (ADelay x.thousandths l) s) (f ++ rest)
  delay_behind e h x l s lead f rest same is many place =
      ((x, l), ap (λ t. alternative t (ADelay x.thousandths l) s) same ∙ ap (alternative g (ADelay x.thousandths l)) (place ∙ sym (delay_place e lead x l f rest is many)), (f, rest, refl, is, many))

  is_choice : (d : ℕ) (x : PAlt) (text : List Item) → KindTexts d x text → Choice d x text
  is_choice zero (alternative h (AAccept a l) s) text (same, never, place) = absurd never
  is_choice (suc e) (alternative h (AAccept a l) s) text (same, (front, back, from, is, many), place) =
      let (lead, f, first) = accept_first source e a front is in
      let whole : text ≡ symbol_item key.Accept lead ∷ (f ++ back) = from ∙ ap (λ t. t ++ back) first in
      inl (subst (Then (One (symbol key.Accept)) (λ lead. Below (AcceptAlt lead)) (suc e) (alternative h (AAccept a l) s)) (sym whole)
      (symbol_then key.Accept (λ lead. Below (AcceptAlt lead)) (suc e) (alternative h (AAccept a l) s) lead (f ++ back)
      (accept_behind e h a l s lead f back same (subst (IsAccept source e a) first is) many (subst (StandsFrom guard s) whole place))))
  is_choice zero (alternative h (ADelay n l) s) text (same, never, place) = absurd never
  is_choice (suc e) (alternative h (ADelay n l) s) text (same, (front, back, from, is, many), place) =
      let (lead, f, first, rest) = after_key key.Delay (Duration n ▷ Key key.Semicolon) front is in
      let (close, shut) = (delay_closing n).some_place f rest in
      let whole : text ≡ symbol_item key.Delay lead ∷ (f ++ back) = from ∙ ap (λ t. t ++ back) first in
      inr (inl (subst (Then (One (symbol key.Delay)) (λ lead. Below (DelayAlt lead)) (suc e) (alternative h (ADelay n l) s)) (sym whole)
      (symbol_then key.Delay (λ lead. Below (DelayAlt lead)) (suc e) (alternative h (ADelay n l) s) lead (f ++ back)
      (delay_behind e h (record { thousandths = n; close = close }) l s lead f back same shut many (subst (StandsFrom guard s) whole place)))))
  is_choice d (alternative h ATerminate s) text (same, is, place) =
      let (lead, back, from, (close, one)) = after_key key.Terminate (Key key.Semicolon) text is in
      let whole : text ≡ symbol_item key.Terminate lead ∷ symbol_item key.Semicolon close ∷ [] = from ∙ ap (λ t. symbol_item key.Terminate lead ∷ t) one in
      inr (inr (inl (subst (Then (One (symbol key.Terminate)) TerminateAlt d (alternative h ATerminate s)) (sym whole)
      (symbol_then key.Terminate TerminateAlt d (alternative h ATerminate s) lead (symbol_item key.Semicolon close ∷ [])
      (close, ap (λ t. alternative t ATerminate s) same ∙ ap (alternative g ATerminate) (subst (StandsFrom guard s) whole place), refl)))))

  -- ---- the law

  law_accept_alt : (d : ℕ) (lead : Span) {r r' : Readers} → LevelLaws source d r r' → Lawful d (accept_alt r g (first_of_alt guard lead) lead) (accept_alt r' g (first_of_alt guard lead) lead) (AcceptAlt lead) EndsStmts
  law_accept_alt d lead laws = made_then (accept_tree lead) (λ a. AnyTexts source) (laws.accept lead) (λ a. made_pure (accept_tree lead a) (law_any_stmts source laws))

  law_delay_alt : (d : ℕ) (lead : Span) {r r' : Readers} → LevelLaws source d r r' → Lawful d (delay_alt r g (first_of_alt guard lead)) (delay_alt r' g (first_of_alt guard lead)) (DelayAlt lead) EndsStmts
  law_delay_alt d lead laws = made_then (delay_tree lead) (λ x. AnyTexts source) (law_delayed d Anything) (λ x. made_pure (delay_tree lead x) (law_any_stmts source laws))

  -- `accept NAME ;` and `delay 0.0 ;`
  abbrev a_head : Span → PHead
  a_head lead = record { entry = some_word; index = None; formals = []; span = from_to lead no_place }

  accept_spelled : (lead : Span) → AcceptTexts source lead 0 (accepting (a_head lead) absent) (word_item some_word ∷ symbol_item key.Semicolon no_place ∷ [])
  accept_spelled lead = (
    (
      symbol_item key.Accept lead ∷ word_item some_word ∷ [],
      symbol_item key.Semicolon no_place ∷ [],
      refl,
      (symbol_item key.Accept lead ∷ [], word_item some_word ∷ [], refl, (lead, refl), (word_item some_word ∷ [], [], refl, refl, ([], [], refl, refl, refl))),
      (no_place, refl),
    ),
    refl,
  )

  some_accept : (lead : Span) → (e : ℕ) × (x : PAlt) × (f : List Item) × AcceptAlt lead e x f
  some_accept lead =
      let (text, is) : Has (AcceptTexts source lead 0 (accepting (a_head lead) absent) ▷ AnyStmts source 0 no_stmt) = has_then (word_item some_word ∷ symbol_item key.Semicolon no_place ∷ [], accept_spelled lead) has_nothing in
      (0, accept_tree lead (accepting (a_head lead) absent) no_stmt, text, ((accepting (a_head lead) absent, no_stmt), refl, is))

  some_delay : (lead : Span) → (e : ℕ) × (x : PAlt) × (f : List Item) × DelayAlt lead e x f
  some_delay lead =
      let x : Delayed = record { thousandths = 0; close = no_place } in
      let (text, is) : Has (DelayedTexts 0 x ▷ AnyStmts source 0 no_stmt) = has_then (has_then has_duration (has_at key.Semicolon no_place)) has_nothing in
      (0, delay_tree lead x no_stmt, text, ((x, no_stmt), refl, is))

  alt_led : (d : ℕ) {r r' : Readers} → ((e : ℕ) → d ≡ suc e → LevelLaws source e r r') → Led false (key.Accept ∷ key.Delay ∷ key.Terminate ∷ []) d (alt_kind d r g guard) (alt_kind (suc d) r' g guard) Choice EndsStmts
  unfolding same
  alt_led d {r} {r'} laws =
      led_below
      (led_below (led_on (led_refuse d EndsStmts) key.Terminate refl (λ lead. law_closed d (terminate_tree lead) EndsStmts))
      key.Delay (λ i lead. delay_alt r g (first_of_alt guard lead)) (λ i lead. delay_alt r' g (first_of_alt guard lead)) refl some_delay (λ e is lead. law_delay_alt e lead (laws e is)))
      key.Accept (λ i lead. accept_alt r g (first_of_alt guard lead) lead) (λ i lead. accept_alt r' g (first_of_alt guard lead) lead) refl some_accept (λ e is lead. law_accept_alt e lead (laws e is))

  no_when : (d : ℕ) {r r' : Readers} → ((e : ℕ) → d ≡ suc e → LevelLaws source e r r') → Starts d KindTexts EndsStmts (IsPassed (symbol key.When))
  unfolding same
  no_when d laws = record { begins_with = λ x text k is stop. (led_passed (alt_led d laws) key.When refl).begins_with x text k (is_choice d x text is) stop }

  law_alt_kind : (d : ℕ) {r r' : Readers} → ((e : ℕ) → d ≡ suc e → LevelLaws source e r r') → Lawful d (alt_kind d r g guard) (alt_kind (suc d) r' g guard) KindTexts EndsStmts
  law_alt_kind d laws = record {
    careful = careful_fit (λ e deep x text is. choice_is e x text is) (is_choice d) (alt_led d laws).careful;
    some_text = λ e deep. (terminate_tree no_place no_place, symbol_item key.Terminate no_place ∷ symbol_item key.Semicolon no_place ∷ [], terminate_to e no_place no_place);
  }

-- ---- with its guard

pub pred_same : (d e f : ℕ) → d ≡ suc e → d ≡ suc f → e ≡ f
pred_same d e f is same = omega (arith, is, same)

arrow_ends : (at : Span) → Ends Logical (symbol_item key.Arrow at)
unfolding same
arrow_ends at = (((((refl, refl), refl), refl), refl), refl)

module _ (source : Source) where
  -- behind `when expr`
  abbrev GuardRest : Span → PExpr → Texts Item PAlt
  GuardRest lead test d x text = (Key key.Arrow ▷ KindTexts source (Some test) (Some lead) (suc d) x) text

  abbrev Guarded : Span → Texts Item PAlt
  Guarded lead = Then Expressions (GuardRest lead)

  abbrev Whole : Texts Item PAlt
  Whole = Or (Then (One (symbol key.When)) (λ lead. Below (Guarded lead))) (KindTexts source None None)

  -- the place of what stands behind a guard
  guard_place : (s lead at : Span) (back : List Item) → StandsFrom (Some lead) s back → s ≡ from_to lead (last_place at back)
  guard_place s lead at [] never = absurd never
  guard_place s lead at (y ∷ more) place = place

  stands_from : (s : Span) (text : List Item) → StandsFrom None s text → IsPlaceOf s text
  stands_from s [] never = never
  stands_from s (y ∷ more) place = place

  from_stands : (s : Span) (text : List Item) → IsPlaceOf s text → StandsFrom None s text
  from_stands s [] never = never
  from_stands s (y ∷ more) place = place

  abbrev GuardSpelled : ℕ → PExpr → PAltKind → Spelling
  GuardSpelled e test k = Key key.When ▷ (Expression e test ▷ (Key key.Arrow ▷ IsAltKind source (suc e) k))

  guard_same : (e : ℕ) (test : PExpr) (k : PAltKind) → Same (GuardSpelled e test k) (Guard (suc e) (Some test) ▷ IsAltKind source (suc e) k)
  guard_same e test k = same_through (same_behind (Key key.When) (same_grouped (Expression e test) (Key key.Arrow) (IsAltKind source (suc e) k)))
      (same_grouped (Key key.When) (Expression e test ▷ Key key.Arrow) (IsAltKind source (suc e) k))

  -- what an alternative without a guard begins with
  kind_first : (d : ℕ) (k : PAltKind) (text : List Item) → IsAltKind source d k text → (s : Symbol) × (at : Span) × (more : List Item) × (text ≡ symbol_item s at ∷ more)
  kind_first zero (AAccept a l) text never = absurd never
  kind_first (suc e) (AAccept a l) text (front, back, from, is, many) =
      let (lead, f, first) = accept_first source e a front is in
      (key.Accept, lead, f ++ back, from ∙ ap (λ t. t ++ back) first)
  kind_first zero (ADelay n l) text never = absurd never
  kind_first (suc e) (ADelay n l) text (front, back, from, is, many) =
      let (lead, f, first, rest) = after_key key.Delay (Duration n ▷ Key key.Semicolon) front is in
      (key.Delay, lead, f ++ back, from ∙ ap (λ t. t ++ back) first)
  kind_first d ATerminate text is = let (lead, back, from, rest) = after_key key.Terminate (Key key.Semicolon) text is in (key.Terminate, lead, back, from)

  pub alt_first : (d : ℕ) (x : PAlt) (text : List Item) → IsAlt source d x text → (s : Symbol) × (at : Span) × (more : List Item) × (text ≡ symbol_item s at ∷ more)
  alt_first d (alternative None k s) text ((front, back, from, none, is), place) =
      let (sym, at, more, first) = kind_first d k back is in
      (sym, at, more, from ∙ ap (λ t. t ++ back) none ∙ first)
  alt_first d (alternative (Some test) k s) text ((front, back, from, (f, h, split, (at, one), rest), is), place) =
      (key.When, at, h ++ back, from ∙ ap (λ t. t ++ back) (split ∙ ap (λ t. t ++ h) one))

  arrow_kind : (e : ℕ) (test : PExpr) (lead : Span) (h : Option PExpr) (k : PAltKind) (s : Span) (front more : List Item) (at : Span) → Expression e test front → h ≡ Some test → IsAltKind source (suc e) k more → StandsFrom (Some lead) s more →
      IsAlt source (suc e) (alternative h k s) (symbol_item key.When lead ∷ (front ++ (symbol_item key.Arrow at ∷ more)))
  arrow_kind e test lead h k s front more at is same kind place =
      let rest : List Item = front ++ (symbol_item key.Arrow at ∷ more) in
      subst (λ g. IsAlt source (suc e) (alternative g k s) (symbol_item key.When lead ∷ rest)) (sym same) (
        (guard_same e test k).to (symbol_item key.When lead ∷ rest)
            (key_then key.When (Expression e test ▷ (Key key.Arrow ▷ IsAltKind source (suc e) k)) lead rest (front, symbol_item key.Arrow at ∷ more, refl, is, key_then key.Arrow (IsAltKind source (suc e) k) at more kind)),
        guard_place s lead at more place ∙ ap (from_to lead) (sym (last_append lead front (symbol_item key.Arrow at ∷ more))),
      )

  whole_is : (d : ℕ) (x : PAlt) (text : List Item) → Whole d x text → IsAlt source d x text
  whole_is d (alternative h k s) text (inr (same, is, place)) = subst (λ g. IsAlt source d (alternative g k s) text) (sym same) (([], text, refl, refl, is), stands_from s text place)
  whole_is zero x text (inl (lead, one, back, from, token, never)) = absurd never
  whole_is (suc e) (alternative h k s) text (inl taken) =
      let (lead, back, from, (test, front, rest, split, is, arrow)) = after_symbol key.When (λ lead. Below (Guarded lead)) (suc e) (alternative h k s) text taken in
      let (at, more, parted, (same, kind, place)) = after_key key.Arrow (KindTexts source (Some test) (Some lead) (suc e) (alternative h k s)) rest arrow in
      subst (IsAlt source (suc e) (alternative h k s)) (sym (from ∙ ap (λ t. symbol_item key.When lead ∷ t) (split ∙ ap (λ t. front ++ t) parted)))
      (arrow_kind e test lead h k s front more at is same kind place)

  guard_from : (s lead at : Span) (front more : List Item) (k : Symbol) (y : Span) (rest : List Item) → more ≡ symbol_item k y ∷ rest → IsPlaceOf s (symbol_item key.When lead ∷ (front ++ (symbol_item key.Arrow at ∷ more))) → StandsFrom (Some lead) s more
  guard_from s lead at front more k y rest full place =
      let here : s ≡ from_to lead (last_place at more) = place ∙ ap (from_to lead) (last_append lead front (symbol_item key.Arrow at ∷ more)) in
      subst (StandsFrom (Some lead) s) (sym full) (subst (λ t. s ≡ from_to lead (last_place at t)) full here)

  is_whole : (d : ℕ) (x : PAlt) (text : List Item) → IsAlt source d x text → Whole d x text
  is_whole d (alternative None k s) text ((front, back, from, none, is), place) =
      let whole : text ≡ back = from ∙ ap (λ t. t ++ back) none in
      inr (refl, subst (IsAltKind source d k) (sym whole) is, from_stands s text place)
  is_whole zero (alternative (Some test) k s) text ((front, back, from, (f, h, split, token, (f', h', split', never, arrow)), is), place) = absurd never
  is_whole (suc e) (alternative (Some test) k s) text (is, place) =
      let (lead, back, from, (front, rest, split, spelled, arrow)) = after_key key.When (Expression e test ▷ (Key key.Arrow ▷ IsAltKind source (suc e) k)) text ((guard_same e test k).back text is) in
      let (at, more, parted, kind) = after_key key.Arrow (IsAltKind source (suc e) k) rest arrow in
      let (y, first, others, full) = kind_first (suc e) k more kind in
      let whole : text ≡ symbol_item key.When lead ∷ (front ++ (symbol_item key.Arrow at ∷ more)) = from ∙ ap (λ t. symbol_item key.When lead ∷ t) (split ∙ ap (λ t. front ++ t) parted) in
      let x : PAlt = alternative (Some test) k s in
      inl (subst (Then (One (symbol key.When)) (λ lead. Below (Guarded lead)) (suc e) x) (sym whole)
      (symbol_then key.When (λ lead. Below (Guarded lead)) (suc e) x lead (front ++ (symbol_item key.Arrow at ∷ more))
      (test, front, symbol_item key.Arrow at ∷ more, refl, spelled, key_then key.Arrow (KindTexts source (Some test) (Some lead) (suc e) x) at more (refl, kind, guard_from s lead at front more y first others full (subst (IsPlaceOf s) whole place)))))

  guard_starts : (d : ℕ) (lead : Span) (test : PExpr) → Starts d (GuardRest lead test) EndsStmts (Ends Logical)
  guard_starts d lead test = record { begins_with = λ x text k (front, back, from, (at, one), is) stop. rw from (rw one (arrow_ends at)) }

  law_guarded : (d e : ℕ) → d ≡ suc e → (lead : Span) {r r' : Readers} → LevelLaws source e r r' →
      Lawful e (bind (expression e) (λ test. reading.key_then key.Arrow (alt_kind d r (Some test) (Some lead)))) (bind (expression (suc e)) (λ test. reading.key_then key.Arrow (alt_kind (suc d) r' (Some test) (Some lead)))) (Guarded lead) EndsStmts
  law_guarded d e is lead {r} {r'} laws = law_bind (law_expression e)
      (λ test. law_key key.Arrow (law_raised (subst (λ n. Lawful n (alt_kind d r (Some test) (Some lead)) (alt_kind (suc d) r' (Some test) (Some lead)) (KindTexts source (Some test) (Some lead)) EndsStmts) is
      (law_alt_kind source (Some test) (Some lead) d (λ f same. subst (λ n. LevelLaws source n r r') (pred_same d e f is same) laws)))))
      (guard_starts e lead)

  -- `when 0 => terminate ;`
  some_guarded : (lead : Span) → (e : ℕ) × (x : PAlt) × (f : List Item) × Guarded lead e x f
  some_guarded lead =
      let x : PAlt = terminate_tree source (Some zero_is) (Some lead) no_place no_place in
      let (text, (front, back, from, left, right)) : Has (Expression 0 zero_is ▷ GuardRest lead zero_is 0 x) =
      has_then (has_zero 0) (has_then (has_key key.Arrow) (symbol_item key.Terminate no_place ∷ symbol_item key.Semicolon no_place ∷ [], terminate_to source (Some zero_is) (Some lead) 1 no_place no_place)) in
      (0, x, text, (zero_is, front, back, from, left, right))

  pub law_alt : (d : ℕ) {r r' : Readers} → ((e : ℕ) → d ≡ suc e → LevelLaws source e r r') → Lawful d (alt_at d r) (alt_at (suc d) r') (AltTexts source) EndsStmts
  law_alt d {r} {r'} laws = law_fit (λ e deep x text is. whole_is e x text is) (is_whole d)
      (law_below {test = symbol key.When}
      (λ i lead. bind (expression i) (λ test. reading.key_then key.Arrow (alt_kind d r (Some test) (Some lead))))
      (λ i lead. bind (expression i) (λ test. reading.key_then key.Arrow (alt_kind (suc d) r' (Some test) (Some lead))))
      some_guarded d (λ e is lead. law_guarded d e is lead (laws e is))
      (law_alt_kind source None None d laws) (no_when source None None d laws))
