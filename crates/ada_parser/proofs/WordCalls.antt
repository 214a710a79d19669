-- Assignments and calls behind a name: how they are read, and how they are spelled (5.2, 9.5).
use Rattle.std.proofs.Common.{◌≡◌, ℕ, zero, suc, inl, inr, List, [], ◌∷◌, ◌++◌, Option, refl, sym, ap, ◌∙◌, subst}
use Rattle.std.proofs.lemmas.List.{append_assoc, append_cancel_left}
use Rattle.ada_tree.specs.declared.naming.Span.{Span}
use Rattle.ada_tree.specs.declared.naming.Word.{Word}
use Rattle.ada_tree.specs.PlainExpr.{PExpr, EInteger}
use Rattle.ada_tree.specs.PlainStmt.{PTarget, PCall, PStmt, SAssign, SCall}
use Rattle.ada_lexer.specs.declared.symbols.Symbol.{Symbol}
use Rattle.ada_lexer.specs.declared.symbols.Symbol.TheVariants as key
use Rattle.ada_expr_parser.specs.declared.items.Item.{Item}
use Rattle.ada_expr_parser.specs.declared.levels.Level.TheVariants.{Logical}
use Rattle.ada_expr_parser.specs.Tests.{same, symbol, word}
use Rattle.ada_expr_parser.specs.Trees.{from_to}
use Rattle.ada_expr_parser.specs.Parts.{expression, callee_of}
use Rattle.ada_expr_parser.specs.Grammar.{symbol_item, word_item, number_item, IsIndex, IsTarget}
use Rattle.ada_expr_parser.specs.readers.Readers.{bind, token}
use Rattle.ada_expr_parser.specs.readers.Grammars.{Texts, One, Then, Or, Below, Starts, first_of}
use Rattle.ada_expr_parser.specs.readers.Lawful.{Lawful, Anything, IsPassed}
use Rattle.ada_expr_parser.proofs.readers.Binding.{law_bind}
use Rattle.ada_expr_parser.proofs.readers.Deepening.{law_below}
use Rattle.ada_expr_parser.proofs.readers.Fitting.{starts_or, starts_token, starts_then}
use Rattle.ada_parser.specs.expression_laws.Stopping.{EndsTarget}
use Rattle.ada_parser.proofs.expression_laws.Tokens.{symbol_is}
use Rattle.ada_parser.proofs.expression_laws.Primaries.{no_place}
use Rattle.ada_parser.proofs.expression_laws.Plainly.{after_symbol, symbol_then, ExprTexts, law_is_expr}
use Rattle.ada_parser.proofs.expression_laws.Calling.{a_number, of_name, TargetRest, law_target_rest, target_is, is_target}
use Rattle.ada_parser.proofs.expression_laws.Entries.{CallRest, law_call_rest, call_rest_is, is_call_rest, dot_target}
use Rattle.ada_phrase_parser.specs.Spelling.{Source, Placed, IsPlaceOf, last_place, Key, ◌▷◌}
use Rattle.ada_phrase_parser.specs.Phrases.{NestedExpr}
use Rattle.ada_stmt_parser.specs.Statements.{Target, Call}
use Rattle.ada_phrase_parser.specs.Reading.{closed}
use Rattle.ada_simple_stmt_parser.specs.inner.ReadingSimple.{assign_or_call, plain_rest}
use Rattle.ada_parser.proofs.KitPieces as pieces
use Rattle.ada_parser.proofs.KitPieces.{KeyAt, last_is}
use Rattle.ada_parser.proofs.KitReading.{Made, law_closed, starts_last}
use Rattle.ada_parser.proofs.WordLaw.{WordTexts}
use Rattle.ada_parser.proofs.StmtSimple.{semicolon_ends}
use Rattle.common_lemmas.proofs.Options.{some_same}

-- ---- a semicolon, and the tree by its place

abbrev pub ClosedTexts : {A : Type 0} → (Span → A) → Texts Item A
ClosedTexts tree = Made tree (λ e close. KeyAt key.Semicolon close)

-- a symbol begins what it stands before, whatever that is
pub symbol_starts : {A : Type 0} {d : ℕ} {S : Item → Type 0} (R : Item → Type 0) (s : Symbol) {E : Span → Texts Item A} → ((at : Span) → R (symbol_item s at)) → Starts d (Then (One (symbol s)) E) S R
symbol_starts R s each = starts_token (λ k at some. subst R (sym (symbol_is s k at some)) (each at))

pub key_starts : {A : Type 0} {d : ℕ} {S R : Item → Type 0} (s : Symbol) (E : Texts Item A) → ((at : Span) → R (symbol_item s at)) → Starts d (λ d x. Key s ▷ E d x) S R
key_starts s E each = record { begins_with = λ x text k (front, back, from, (at, one), is) stop. rw from (rw one (each at)) }

-- ---- a statement that ends with a semicolon stands from its name to there

abbrev pub EndsAt : Span → List Item → Type 0
EndsAt close text = (m : List Item) × (text ≡ m ++ (symbol_item key.Semicolon close ∷ []))

pub ends_behind : (close : Span) (front text : List Item) → EndsAt close text → EndsAt close (front ++ text)
ends_behind close front text (m, is) = (front ++ m, ap (λ t. front ++ t) is ∙ sym (append_assoc front m (symbol_item key.Semicolon close ∷ [])))

ends_last : (at close : Span) (text : List Item) → EndsAt close text → last_place at text ≡ close
ends_last at close text (m, is) = ap (last_place at) is ∙ last_is at m (symbol_item key.Semicolon close)

pub stands_to : (w : Word) (close : Span) (text : List Item) → EndsAt close text → IsPlaceOf (from_to w.span close) (word_item w ∷ text)
stands_to w close text ends = pieces.stands_to (word_item w) text close (ends_last w.span close text ends)

pub place_is : (w : Word) (close s : Span) (text : List Item) → EndsAt close text → IsPlaceOf s (word_item w ∷ text) → s ≡ from_to w.span close
place_is w close s text ends stands = pieces.stands_is s (word_item w) text close (ends_last w.span close text ends) stands

-- ---- assignments and calls behind a variable or a task

abbrev pub assigned : PTarget → PExpr → Span → PStmt
assigned t v close = SAssign t v (from_to t.name.span close)

abbrev pub called : PTarget → PCall → Span → PStmt
called t c close = SCall c (from_to t.name.span close)

abbrev pub ValueTexts : PTarget → Texts Item PStmt
ValueTexts t = Then (ExprTexts Logical) (λ v. ClosedTexts (assigned t v))

abbrev pub CallTexts : PTarget → Texts Item PStmt
CallTexts t = Then (CallRest (callee_of t)) (λ c. ClosedTexts (called t c))

abbrev pub AssignTexts : PTarget → Texts Item PStmt
AssignTexts t = Or (Then (One (symbol key.Becomes)) (λ at. Below (ValueTexts t))) (CallTexts t)

semicolon_target : (at : Span) → EndsTarget (symbol_item key.Semicolon at)
unfolding same
semicolon_target at = refl

dot_passes : (at : Span) → IsPassed (symbol key.Becomes) (symbol_item key.Dot at)
unfolding same
dot_passes at = refl

call_starts : {d : ℕ} {S : Item → Type 0} (R : Item → Type 0) (t : PTarget) → ((at : Span) → R (symbol_item key.Dot at)) → Starts d (CallTexts t) S R
call_starts R t each = starts_then {T = Anything} (symbol_starts R key.Dot each) (λ c. record { begins_with = λ a text x is stop. tt })

pub assign_starts : {d : ℕ} {S : Item → Type 0} (R : Item → Type 0) (t : PTarget) → ((at : Span) → R (symbol_item key.Becomes at)) → ((at : Span) → R (symbol_item key.Dot at)) →
    Starts d (AssignTexts t) S R
assign_starts R t becomes dot = starts_or (symbol_starts R key.Becomes becomes) (call_starts R t dot)

-- neither is a semicolon
becomes_no_end : (at : Span) → IsPassed (symbol key.Semicolon) (symbol_item key.Becomes at)
unfolding same
becomes_no_end at = refl

dot_no_end : (at : Span) → IsPassed (symbol key.Semicolon) (symbol_item key.Dot at)
unfolding same
dot_no_end at = refl

pub assign_no_end : {d : ℕ} {S : Item → Type 0} (t : PTarget) → Starts d (AssignTexts t) S (IsPassed (symbol key.Semicolon))
assign_no_end t = assign_starts (IsPassed (symbol key.Semicolon)) t becomes_no_end dot_no_end

some_value : (t : PTarget) → (e : ℕ) × (a : PStmt) × (f : List Item) × ValueTexts t e a f
some_value t = (
  0,
  assigned t (EInteger 0 no_place) no_place,
  number_item 0 no_place ∷ symbol_item key.Semicolon no_place ∷ [],
  (EInteger 0 no_place, number_item 0 no_place ∷ [], symbol_item key.Semicolon no_place ∷ [], refl, a_number 0, (no_place, refl, refl)),
)

pub law_assign : (d : ℕ) (t : PTarget) → Lawful d (assign_or_call d t) (assign_or_call (suc d) t) (AssignTexts t) Anything
law_assign d t = law_below
    (λ e at. bind (expression e) (λ v. closed (assigned t v))) (λ e at. bind (expression e) (λ v. closed (assigned t v)))
    (λ at. some_value t) d
    (λ e is at. law_bind (law_is_expr e Logical) (λ v. law_closed e (assigned t v) Anything) (λ v. starts_last key.Semicolon (assigned t v) semicolon_ends))
    (law_bind (law_call_rest d (callee_of t)) (λ c. law_closed d (called t c) Anything) (λ c. starts_last key.Semicolon (called t c) semicolon_target))
    (call_starts (IsPassed (symbol key.Becomes)) t dot_passes)

-- ---- behind a name alone

abbrev pub PlainTexts : Word → Texts Item PStmt
PlainTexts w = Then (TargetRest w) AssignTexts

becomes_target : (at : Span) → EndsTarget (symbol_item key.Becomes at)
unfolding same
becomes_target at = refl

pub law_plain : (d : ℕ) (w : Word) → Lawful d (plain_rest d w) (plain_rest (suc d) w) (PlainTexts w) Anything
law_plain d w = law_bind (law_target_rest d w) (law_assign d) (λ t. assign_starts EndsTarget t becomes_target dot_target)

-- ---- in plain words

-- an index or none, and an assignment or a call
abbrev pub TargetThen : Word → Texts Item PStmt
TargetThen w d x text =
    (index : Option PExpr) × (back : List Item) × (rest : List Item) × (text ≡ back ++ rest) × IsIndex d index back × AssignTexts (of_name w index) d x rest

pub plain_is : (d : ℕ) (w : Word) (x : PStmt) (text : List Item) → PlainTexts w d x text → TargetThen w d x text
plain_is d w x text (t, back, rest, from, target, assign) =
    let (index, same, is) = target_is d w t back target in
    (index, back, rest, from, is, subst (λ u. AssignTexts u d x rest) same assign)

pub is_plain : (d : ℕ) (w : Word) (x : PStmt) (text : List Item) → TargetThen w d x text → PlainTexts w d x text
is_plain d w x text (index, back, rest, from, is, assign) = (of_name w index, back, rest, from, is_target d w index back is, assign)

module _ (source : Source) where
  assign_spells : (d : ℕ) (w : Word) (index : Option PExpr) (back rest : List Item) (x : PStmt) → IsIndex d index back → Then (One (symbol key.Becomes)) (λ at. Below (ValueTexts (of_name w index))) d x rest →
      WordTexts source w d x (back ++ rest)
  assign_spells zero w index back rest x is (at, one, more, from, token, never) = absurd never
  assign_spells (suc e) w index back rest x is lead_in =
      let (at, more, from, (v, f, g, split, expr, end)) = after_symbol key.Becomes (λ at. Below (ValueTexts (of_name w index))) (suc e) x rest lead_in in
      let (close, same, shut) = end in
      let ends : EndsAt close (back ++ rest) = ends_behind close back rest (symbol_item key.Becomes at ∷ f, from ∙ ap (λ l. symbol_item key.Becomes at ∷ l) (split ∙ ap (λ l. f ++ l) shut)) in
      rw same (
        tt,
        (
          (
            word_item w ∷ back,
            rest,
            refl,
            record { back = back; index = is; text_is = refl },
            (symbol_item key.Becomes at ∷ [], more, from, (at, refl), (f, g, split, expr, (close, shut))),
          ),
          stands_to w close (back ++ rest) ends,
        ),
      )

  call_spells : (d : ℕ) (w : Word) (index : Option PExpr) (back rest : List Item) (x : PStmt) → IsIndex d index back → CallTexts (of_name w index) d x rest → WordTexts source w d x (back ++ rest)
  call_spells d w index back rest x is (c, f, g, split, behind, end) =
      let (dot, args, dotted, task, lists) = call_rest_is d (callee_of (of_name w index)) c f behind in
      let (close, same, shut) = end in
      let ends : EndsAt close (back ++ rest) = ends_behind close back rest (f, split ∙ ap (λ l. f ++ l) shut) in
      rw same (
        tt,
        (
          (
            word_item w ∷ (back ++ f),
            g,
            ap (λ l. word_item w ∷ l) (ap (λ l. back ++ l) split ∙ sym (append_assoc back f g)),
            record {
              front = word_item w ∷ back;
              dot = dot;
              back = args;
              task = subst (λ t. IsTarget d (record { name = t.name; index = t.index }) (word_item w ∷ back)) (sym task) (record { back = back; index = is; text_is = refl });
              args = lists;
              text_is = ap (λ l. word_item w ∷ (back ++ l)) dotted;
            },
            (close, shut),
          ),
          stands_to w close (back ++ rest) ends,
        ),
      )

  pub target_spells : (d : ℕ) (w : Word) (x : PStmt) (text : List Item) → TargetThen w d x text → WordTexts source w d x text
  target_spells d w x text (index, back, rest, from, is, inl assign) = rw from (assign_spells d w index back rest x is assign)
  target_spells d w x text (index, back, rest, from, is, inr call) = rw from (call_spells d w index back rest x is call)

-- the name that stands first is the variable's
pub first_name : (w v : Word) (text more : List Item) → word_item w ∷ text ≡ word_item v ∷ more → (w ≡ v) × (text ≡ more)
first_name w v text more e =
    let same : w ≡ v = some_same (ap word (ap (first_of (word_item w)) e)) in
    (same, append_cancel_left (word_item v ∷ []) text more (ap (λ u. word_item u ∷ text) (sym same) ∙ e))

named_target : (d : ℕ) (w : Word) (t : PTarget) (front more text : List Item) → word_item w ∷ text ≡ front ++ more → IsTarget d t front →
    (back : List Item) × (text ≡ back ++ more) × IsIndex d t.index back × (t ≡ of_name w t.index)
named_target d w t front more text split is =
    let (same, rest) = first_name w t.name text (is.back ++ more) (split ∙ ap (λ l. l ++ more) is.text_is) in
    (is.back, rest, is.index, ap (λ n. of_name n t.index) (sym same))

pub spell_assign : (d : ℕ) (w : Word) (t : PTarget) (v : PExpr) (s : Span) (text : List Item) → Placed s (Target d t ▷ Key key.Becomes ▷ NestedExpr d v ▷ Key key.Semicolon) (word_item w ∷ text) →
    TargetThen w d (SAssign t v s) text
spell_assign zero w t v s text ((front, more, split, target, (b, m, parted, becomes, (f, g, also, never, shut))), stands) = absurd never
spell_assign (suc e) w t v s text ((front, more, split, target, (b, m, parted, (at, b_is), (f, g, also, expr, (close, shut)))), stands) =
    let (back, from, index, named) = named_target (suc e) w t front more text split target in
    let whole : more ≡ symbol_item key.Becomes at ∷ (f ++ g) = parted ∙ ap (λ l. l ++ m) b_is ∙ ap (λ l. symbol_item key.Becomes at ∷ l) also in
    let ends : EndsAt close text = subst (EndsAt close) (sym from) (ends_behind close back more (symbol_item key.Becomes at ∷ f, whole ∙ ap (λ l. symbol_item key.Becomes at ∷ (f ++ l)) shut)) in
    let place = place_is w close s text ends stands in
    let tree : SAssign t v s ≡ assigned (of_name w t.index) v close = ap (λ u. SAssign u v s) named ∙ ap (SAssign (of_name w t.index) v) place in (
      t.index,
      back,
      more,
      from,
      index,
      inl (rw whole (symbol_then key.Becomes (λ at. Below (ValueTexts (of_name w t.index))) (suc e) (SAssign t v s) at (f ++ g)
          (v, f, g, refl, expr, (close, tree, shut)))),
    )

pub spell_call : (d : ℕ) (w : Word) (c : PCall) (s : Span) (text : List Item) → Placed s (Call d c ▷ Key key.Semicolon) (word_item w ∷ text) → TargetThen w d (SCall c s) text
spell_call d w c s text ((front, g, split, call, (close, shut)), stands) =
    let task = call.task in
    let rest : List Item = symbol_item key.Dot call.dot ∷ word_item c.entry ∷ call.back in
    let (back, from, index, named) = named_target d w (record { name = c.task.name; index = c.task.index }) call.front (rest ++ g) text (split ∙ ap (λ l. l ++ g) call.text_is ∙ append_assoc call.front rest g) task in
    let ends : EndsAt close text = subst (EndsAt close) (sym from) (ends_behind close back (rest ++ g) (rest, ap (λ l. rest ++ l) shut)) in
    let place = place_is w close s text ends stands in
    let tree : SCall c s ≡ called (of_name w c.task.index) c close = ap (SCall c) place in (
      c.task.index,
      back,
      rest ++ g,
      from,
      index,
      inr (
        c,
        rest,
        g,
        refl,
        subst (λ t. CallRest (callee_of t) d c rest) named (is_call_rest d c call.dot call.back call.args),
        (close, tree, shut),
      ),
    )
