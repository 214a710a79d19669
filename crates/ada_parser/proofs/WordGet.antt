-- What may stand behind `GET (`: a variable with its parenthesis and the end of the statement, or the index of a variable or a task, which may begin with that same variable (5.2, 9.5, this project's GET).
use Rattle.std.proofs.Common.{◌≡◌, ℕ, zero, suc, ◌+◌, ◌≤◌, Bool, true, false, true≢false, ◌||◌, ◌⊎◌, inl, inr, ⊎_elim, List, [], ◌∷◌, ◌++◌, Option, Some, None, refl, sym, ap, ◌∙◌, subst, arith}
use Rattle.std.specs.Prelude.{not, ◌&&◌, is_some, if◌then◌else◌}
use Rattle.std.proofs.Math.Nat.{le_refl}
use Rattle.ada_expr_parser.specs.readers.Readers.{Found, Fault, Reader, pure, refuse, bind, go_on, on, on_token, token, below, below_token, look}
use Rattle.ada_expr_parser.specs.readers.Grammars.{Texts, Is, One, Then, Or, Below, Raised, Up_to, Begins, Starts}
use Rattle.ada_expr_parser.specs.readers.Lawful.{Careful, Lawful, Anything, IsPassed, IsNo}
use Rattle.ada_expr_parser.proofs.readers.Basics.{not_empty}
use Rattle.ada_expr_parser.proofs.readers.Binding.{law_pure, law_then, careful_bind}
use Rattle.ada_expr_parser.proofs.readers.Choosing.{law_on}
use Rattle.ada_expr_parser.proofs.readers.Listing.{law_token}
use Rattle.ada_expr_parser.proofs.readers.Deepening.{law_shifted, law_raised, law_below}
use Rattle.ada_expr_parser.proofs.readers.Looking.{careful_where, careful_look}
use Rattle.ada_expr_parser.proofs.readers.Fitting.{starts_or, law_same}
use Rattle.ada_tree.specs.declared.naming.Span.{Span}
use Rattle.ada_tree.specs.declared.naming.Word.{Word}
use Rattle.ada_tree.specs.PlainExpr.{PExpr, EInteger, EName}
use Rattle.ada_tree.specs.PlainStmt.{PTarget, PStmt, SGet}
use Rattle.ada_lexer.specs.declared.symbols.Symbol.TheVariants as key
use Rattle.ada_expr_parser.specs.declared.items.Item.{Item}
use Rattle.ada_expr_parser.specs.declared.levels.Level.TheVariants.{Logical, Relation, Simple, Term}
use Rattle.ada_expr_parser.specs.Tests.{same, symbol, word, operator_in}
use Rattle.ada_expr_parser.specs.Trees.{levels, from_to, indexed, attribute}
use Rattle.ada_expr_parser.specs.Reading.{inner, name_rest}
use Rattle.ada_expr_parser.specs.Parts.{expression, expr_behind}
use Rattle.ada_expr_parser.specs.Grammar.{symbol_item, word_item, number_item, IsExpr}
use Rattle.ada_parser.proofs.expression_laws.Tokens.{symbol_is, symbol_takes}
use Rattle.ada_parser.proofs.expression_laws.Primaries.{no_place, some_word, close_ends}
use Rattle.ada_parser.proofs.expression_laws.Plainly.{ExprTexts, law_is_expr}
use Rattle.ada_parser.proofs.expression_laws.Calling.{a_number, of_name}
use Rattle.ada_parser.proofs.expression_laws.Behinds.{BehindAt, law_levels, behind_spells}
use Rattle.ada_phrase_parser.specs.Spelling.{Key, ◌▷◌}
use Rattle.ada_phrase_parser.specs.Reading.{is_symbol, key_then, in_deeper, goes_on_name, expression_from}
use Rattle.ada_simple_stmt_parser.specs.inner.ReadingSimple.{assign_or_call, is_close, goes_on_target, get_index, get_or_index, get_indexed, get_name, get_rest}
use Rattle.ada_parser.proofs.Narrowing.{Narrow, narrow_where, narrow_starts, passed_by, law_either, Room, careful_room}
use Rattle.ada_parser.proofs.KitReading.{law_key}
use Rattle.ada_parser.proofs.KitDeeper.{operand_careful}
use Rattle.ada_parser.proofs.KitLeading.{symbol_at, is_itself, or_is}
use Rattle.ada_parser.proofs.WordBranches.{careful_only, look_other, careful_filled}
use Rattle.ada_parser.proofs.WordCalls.{AssignTexts, law_assign, assign_no_end, key_starts}
use Rattle.ada_parser.proofs.WordExpr.{operates, stays, is_full, some_behind, FromTexts, law_from, behind_levels}
use Rattle.ada_parser.proofs.WordPut.{OperandTexts}
use Rattle.common_lemmas.proofs.Options.{none_there}
use Rattle.common_lemmas.proofs.Truth.{and_both, not_true, or_both}

-- ---- tests

and_not : (a b : Bool) → (a && b) ≡ false → (a ≡ false) ⊎ ((a ≡ true) × (b ≡ false))
and_not true b e = inr (refl, e)
and_not false b e = inl refl

not_some : {A : Type 0} (m : Option A) → not (is_some m) ≡ true → m ≡ None
not_some (Some x) e = absurd (true≢false (sym e))
not_some None e = refl

-- what goes on behind a name is a tick or an operator
one_and_four : (a b c d e : Bool) → (a || b || c || d || e) ≡ (a || (b || (c || (d || e))))
one_and_four true b c d e = refl
one_and_four false true c d e = refl
one_and_four false false true d e = refl
one_and_four false false false true e = refl
one_and_four false false false false e = refl

pub goes_so : (k : Item) → goes_on_name k ≡ (is_symbol key.Tick k || operates k)
goes_so k = one_and_four (is_symbol key.Tick k) (is_some (operator_in Term None k.kind)) (is_some (operator_in Simple None k.kind)) (is_some (operator_in Relation None k.kind)) (is_some (operator_in Logical None k.kind))

-- the item is no closing parenthesis, and no parenthesis at all
abbrev pub open_yet : Item → Bool
open_yet k = not (is_close k)

abbrev pub elsewhere : Item → Bool
elsewhere k = passed_by (symbol key.LeftParen) k && open_yet k

not_closed : (k : Item) → open_yet k ≡ true → symbol key.RightParen k ≡ None
not_closed k is = not_some (symbol key.RightParen k) is

-- ---- a parenthesis and what has an index

module _ (w : Word) where
  abbrev pub IndexTexts : PExpr → Texts Item PStmt
  IndexTexts e d x = Key key.RightParen ▷ AssignTexts (of_name w (Some e)) d x

  pub law_index : (d : ℕ) (e : PExpr) → Lawful d (get_index d w e) (get_index (suc d) w e) (IndexTexts e) Anything
  law_index d e = law_key key.RightParen (law_assign d (of_name w (Some e)))

  -- behind the parenthesis nothing else stands
  index_refuses : (d : ℕ) (e : PExpr) (k : Item) (ts : List Item) → open_yet k ≡ true → get_index d w e (k ∷ ts) ≡ Fault false (k ∷ ts)
  index_refuses d e k ts is = ap (λ m. go_on (on_token m pure refuse k ts) (λ at. assign_or_call d (of_name w (Some e)))) (not_closed k is)

  index_there : (d : ℕ) {A : Type 0} (D : Texts Item A) (e : A → PExpr) (x : PStmt) → Then D (λ a. IndexTexts (e a)) d x [] → ⊥
  index_there d D e x (a, f, g, from, is, (m, n, split, (at, one), assign)) =
      not_empty f (symbol_item key.RightParen at) n (from ∙ ap (λ l. f ++ l) (split ∙ ap (λ l. l ++ n) one))

  -- ---- the end of the statement, or what has the variable as an index

  abbrev pub EndTexts : PTarget → PExpr → Texts Item PStmt
  EndTexts x e = Or (Then (One (symbol key.Semicolon)) (λ close. Is (SGet x (from_to w.span close)))) (Room (levels e + 1) (AssignTexts (of_name w (Some e))))

  assign_refuses : (n : ℕ) (t : PTarget) (k : Item) (ts : List Item) → goes_on_target k ≡ false → assign_or_call n t (k ∷ ts) ≡ Fault false (k ∷ ts)
  assign_refuses n t k ts no_is =
      let (dot, becomes) = or_both (is_symbol key.Dot k) (is_symbol key.Becomes k) no_is in
      rw (none_there (symbol key.Becomes k) becomes) (rw (none_there (symbol key.Dot k) dot) refl)

  some_becomes : (n : ℕ) (t : PTarget) (at : Span) → Begins (AssignTexts t (n + 1)) (symbol_item key.Becomes at ∷ [])
  some_becomes n t at =
      let next : suc n ≡ n + 1 = omega arith in
      subst (λ m. Begins (AssignTexts t m) (symbol_item key.Becomes at ∷ [])) next (
        _,
        number_item 0 no_place ∷ symbol_item key.Semicolon no_place ∷ [],
        inl (
          at,
          symbol_item key.Becomes at ∷ [],
          number_item 0 no_place ∷ symbol_item key.Semicolon no_place ∷ [],
          refl,
          (symbol_item key.Becomes at, refl, symbol_takes key.Becomes at),
          (EInteger 0 no_place, number_item 0 no_place ∷ [], symbol_item key.Semicolon no_place ∷ [], refl, a_number n, (no_place, refl, refl)),
        ),
      )

  some_dot : (n : ℕ) (t : PTarget) (at : Span) → Begins (AssignTexts t n) (symbol_item key.Dot at ∷ [])
  some_dot n t at = (
    _,
    word_item some_word ∷ symbol_item key.Semicolon no_place ∷ [],
    inr (
      _,
      symbol_item key.Dot at ∷ word_item some_word ∷ [],
      symbol_item key.Semicolon no_place ∷ [],
      refl,
      (
        at,
        symbol_item key.Dot at ∷ [],
        word_item some_word ∷ [],
        refl,
        (symbol_item key.Dot at, refl, symbol_takes key.Dot at),
        (some_word, word_item some_word ∷ [], [], refl, (word_item some_word, refl, refl), (None, [], [], refl, inr (refl, refl), (refl, refl))),
      ),
      (no_place, refl, refl),
    ),
  )

  some_target : (n : ℕ) (t : PTarget) (k : Item) → goes_on_target k ≡ true → Begins (AssignTexts t (n + 1)) (k ∷ [])
  some_target n t k is = ⊎_elim
      (λ dot. let (at, named) = symbol_at key.Dot k dot in rw named (some_dot (n + 1) t at))
      (λ becomes. let (at, named) = symbol_at key.Becomes k becomes in rw named (some_becomes n t at))
      (or_is (is_symbol key.Dot k) (is_symbol key.Becomes k) is)

  pub law_end : (d : ℕ) (x : PTarget) (e : PExpr) → levels e ≤ d → Lawful d (get_or_index d w x e) (get_or_index (suc d) w x e) (EndTexts x e) Anything
  law_end d x e near = law_on {test = symbol key.Semicolon} (λ close. law_pure d (SGet x (from_to w.span close)) Anything)
      (careful_room (levels e + 1) {test = goes_on_target} (λ n. assign_or_call n (of_name w (Some e))) (λ n deep. (law_assign n (of_name w (Some e))).careful)
      (some_target (levels e) (of_name w (Some e))) (assign_refuses (levels e + 1) (of_name w (Some e))) refl d (omega (arith, near)))
      (record { begins_with = λ a text k is stop. (assign_no_end {d = d} {S = Anything} (of_name w (Some e))).begins_with a text k is.1 stop })
      (symbol_item key.Semicolon no_place) no_place (symbol_takes key.Semicolon no_place)

  abbrev pub ShutTexts : PTarget → PExpr → Texts Item PStmt
  ShutTexts x e d s = Key key.RightParen ▷ EndTexts x e d s

  pub law_shut : (d : ℕ) (x : PTarget) (e : PExpr) → levels e ≤ d → Lawful d (key_then key.RightParen (get_or_index d w x e)) (key_then key.RightParen (get_or_index (suc d) w x e)) (ShutTexts x e) Anything
  law_shut d x e near = law_key key.RightParen (law_end d x e near)

  -- ---- behind a variable with an index and its parenthesis

  abbrev pub BehindTexts : PExpr → Texts Item PStmt
  BehindTexts p = Then (Below (Up_to levels (BehindAt Logical p))) IndexTexts

  abbrev behind_rest : ℕ → PExpr → Reader Item PStmt
  behind_rest d p = bind (in_deeper d (λ y. false) (λ e. expr_behind e p)) (get_index d w)

  abbrev behind_open : ℕ → PExpr → Reader Item PStmt
  behind_open d p = look open_yet (behind_rest d p) refuse

  index_some : (d : ℕ) (e : PExpr) → (x : PStmt) × (g : List Item) × IndexTexts e d x g
  index_some d e = (law_index d e).some_text d (le_refl d)

  module _ (x : Word) (arg : PExpr) (close : Span) where
    abbrev this : PExpr
    this = indexed x arg close

    abbrev goes : Item → Bool
    goes k = open_yet k && operates k

    -- where a level is left for its operators
    roomy : (e : ℕ) → levels this ≤ e → Careful (suc e) (behind_open (suc e) this) (behind_open (suc (suc e)) this) (Narrow open_yet (BehindTexts this)) Anything
    roomy e low = careful_only open_yet
        (careful_bind (law_shifted (law_levels this (omega arith) e low)).careful (λ a f is. (law_index (suc e) a).careful) (λ n deep a f is. index_some n a) (λ a f is. key_starts key.RightParen (λ d s. AssignTexts (of_name w (Some a)) d s) close_ends))
        (λ s is. index_there (suc e) (Below (Up_to levels (BehindAt Logical this))) (λ a. a) s is)

    -- at what is no operator, nothing goes on
    refused : (e n : ℕ) (k : Item) (ts : List Item) → goes k ≡ false → look open_yet (bind (expr_behind e this) (get_index n w)) refuse (k ∷ ts) ≡ Fault false (k ∷ ts)
    refused e n k ts no_is = ⊎_elim
        (λ shut. ap (λ b. if b then bind (expr_behind e this) (get_index n w) (k ∷ ts) else Fault false (k ∷ ts)) shut)
        (λ (open_is, none). ap (λ b. if b then bind (expr_behind e this) (get_index n w) (k ∷ ts) else Fault false (k ∷ ts)) open_is ∙
        ap (λ a. go_on a (get_index n w)) (stays this refl e k ts none) ∙ index_refuses n this k ts open_is)
        (and_not (open_yet k) (operates k) no_is)

    filled_at : (e : ℕ) (k : Item) (ts : List Item) → e ≤ levels this → goes k ≡ true → behind_open (suc e) this (k ∷ ts) ≡ Fault true (k ∷ ts)
    filled_at e k ts full yes_is =
        let (open_is, some) = and_both (open_yet k) (operates k) yes_is in
        ap (λ b. if b then bind (expr_behind e this) (get_index (suc e) w) (k ∷ ts) else Fault false (k ∷ ts)) open_is ∙ ap (λ a. go_on a (get_index (suc e) w)) (is_full this refl e k ts some full)

    deeper_at : (d : ℕ) → d ≤ suc (suc (levels this)) → (k : Item) → goes k ≡ true → (e : ℕ) × (d ≤ e) × Begins (Narrow open_yet (BehindTexts this) e) (k ∷ [])
    deeper_at d deep k yes_is =
        let (open_is, some) = and_both (open_yet k) (operates k) yes_is in
        let (a, more, behind, low) = some_behind this (omega arith) refl k some in
        let (s, g, end) = index_some (suc (suc (levels this))) a in (
          suc (suc (levels this)),
          deep,
          (s, more ++ g, record { k = k; more = more ++ g; text_is = refl; passes = open_is; spells = (a, k ∷ more, g, refl, ((behind, omega arith), low), end) }),
        )

    -- and where none is left
    filled : (e : ℕ) → levels this ≡ suc e → Careful (suc e) (behind_open (suc e) this) (behind_open (suc (suc e)) this) (Narrow open_yet (BehindTexts this)) Anything
    filled e full = careful_filled (behind_open (suc e) this) (behind_open (suc (suc e)) this) (Narrow open_yet (BehindTexts this)) Anything goes
        (λ k ts is. filled_at e k ts (omega (arith, full)) is)
        (λ k ts is. refused e (suc e) k ts is)
        (λ k ts is. refused (suc e) (suc (suc e)) k ts is)
        refl refl
        (λ s text is. let (a, f, g, from, ((behind, high), low), end) = is.spells in let up = behind_levels this a f behind in absurd (omega (arith, up, low, full)))
        (deeper_at (suc e) (omega (arith, full)))

    split_le : (a b : ℕ) → a ≤ suc b → (a ≤ b) ⊎ (a ≡ suc b)
    split_le a b low = grind (arith, low)

    careful_behind_open : (e : ℕ) → levels this ≤ suc e → Careful (suc e) (behind_open (suc e) this) (behind_open (suc (suc e)) this) (Narrow open_yet (BehindTexts this)) Anything
    careful_behind_open e low = ⊎_elim (roomy e) (filled e) (split_le (levels this) e low)

    abbrev pub IndexedTexts : Texts Item PStmt
    IndexedTexts = Or (ShutTexts (of_name x (Some arg)) this) (Narrow open_yet (BehindTexts this))

    shut_or_open : {d : ℕ} {S : Item → Type 0} → Starts d (Narrow open_yet (BehindTexts this)) S (IsNo is_close)
    shut_or_open = record { begins_with = λ s text k is stop. rw is.text_is (not_true (is_close is.k) is.passes) }

    law_indexed : (e : ℕ) → levels arg ≤ e → Lawful (suc e) (get_indexed (suc e) w x arg close) (get_indexed (suc (suc e)) w x arg close) IndexedTexts Anything
    law_indexed e low =
        let near : levels this ≤ suc e = omega (arith, low) in
        let shut = law_shut (suc e) (of_name x (Some arg)) this near in
        law_same
        (look_other is_close (key_then key.RightParen (get_or_index (suc e) w (of_name x (Some arg)) this)) (behind_rest (suc e) this))
        (look_other is_close (key_then key.RightParen (get_or_index (suc (suc e)) w (of_name x (Some arg)) this)) (behind_rest (suc (suc e)) this))
        (record {
          careful = careful_look (careful_where is_close shut.careful) (careful_behind_open e near) (key_starts key.RightParen (EndTexts (of_name x (Some arg)) this) (is_itself key.RightParen)) shut_or_open;
          some_text = λ n deep. let (s, text, is) = shut.some_text n deep in (s, text, inl is);
        })

    pub law_indexed_at : (d e : ℕ) → d ≡ suc e → levels arg ≤ e → Lawful (suc e) (get_indexed d w x arg close) (get_indexed (suc d) w x arg close) IndexedTexts Anything
    law_indexed_at d e is low = subst (λ n. Lawful (suc e) (get_indexed n w x arg close) (get_indexed (suc n) w x arg close) IndexedTexts Anything) (sym is) (law_indexed e low)

  -- ---- behind a name

  abbrev pub ArgTexts : Word → Texts Item PStmt
  ArgTexts x = Then (ExprTexts Logical) (λ arg. Then (One (symbol key.RightParen)) (λ close. Raised (IndexedTexts x arg close)))

  abbrev arg_rest : ℕ → ℕ → Word → Reader Item PStmt
  arg_rest d e x = bind (expression e) (λ arg. bind (token (symbol key.RightParen)) (get_indexed d w x arg))

  law_close : (d e : ℕ) (x : Word) (arg : PExpr) → d ≡ suc e → levels arg ≤ e →
      Lawful e (bind (token (symbol key.RightParen)) (get_indexed d w x arg)) (bind (token (symbol key.RightParen)) (get_indexed (suc d) w x arg)) (Then (One (symbol key.RightParen)) (λ close. Raised (IndexedTexts x arg close))) Anything
  law_close d e x arg is low = law_then (law_token (symbol_item key.RightParen no_place) no_place (symbol_takes key.RightParen no_place)) (λ close. law_raised (law_indexed_at x arg close d e is low))

  law_arg : (d e : ℕ) (x : Word) → d ≡ suc e → Lawful e (arg_rest d e x) (arg_rest (suc d) (suc e) x) (ArgTexts x) Anything
  law_arg d e x is = record {
    careful = careful_bind (law_is_expr e Logical).careful
        (λ arg f spelled. (law_close d e x arg is spelled.nested).careful)
        (λ n deep arg f spelled. (law_close (suc n) n x arg refl spelled.nested).some_text n (le_refl n))
        (λ arg f spelled. record { begins_with = λ s text k (at, one, back, from, (y, one_is, some), rest) stop. rw from (rw one_is (rw (symbol_is key.RightParen y at some) (close_ends at))) });
    some_text = λ n deep.
        let (s, text, rest) = (law_close (suc n) n x (EInteger 0 no_place) refl (omega arith)).some_text n (le_refl n) in
        (s, number_item 0 no_place ∷ text, (EInteger 0 no_place, number_item 0 no_place ∷ [], text, refl, a_number n, rest));
  }

  -- an expression that goes on behind the name, but for an index
  abbrev pub FromIndexTexts : Word → Texts Item PStmt
  FromIndexTexts x = Then (Below (FromTexts x)) IndexTexts

  abbrev from_rest : ℕ → Word → Reader Item PStmt
  from_rest d x = bind (in_deeper d goes_on_name (λ e. expression_from e x)) (get_index d w)

  abbrev from_elsewhere : ℕ → Word → Reader Item PStmt
  from_elsewhere d x = look elsewhere (from_rest d x) refuse

  module _ (x : Word) where
    abbrev goes_from : Item → Bool
    goes_from k = elsewhere k && goes_on_name k

    from_level : (e : ℕ) → Careful (suc e) (from_elsewhere (suc e) x) (from_elsewhere (suc (suc e)) x) (Narrow elsewhere (FromIndexTexts x)) Anything
    from_level e = careful_only elsewhere
        (careful_bind (law_shifted (law_from e x)).careful (λ a f is. (law_index (suc e) a).careful) (λ n deep a f is. index_some n a) (λ a f is. key_starts key.RightParen (λ d s. AssignTexts (of_name w (Some a)) d s) close_ends))
        (λ s is. index_there (suc e) (Below (FromTexts x)) (λ a. a) s is)

    no_level : (k : Item) (ts : List Item) (b c : Bool) → elsewhere k ≡ b → goes_on_name k ≡ c → from_elsewhere 0 x (k ∷ ts) ≡ Fault (b && c) (k ∷ ts)
    no_level k ts true c there on = ap (λ b. if b then from_rest 0 x (k ∷ ts) else Fault false (k ∷ ts)) there ∙ by c on where
      by : (c : Bool) → goes_on_name k ≡ c → from_rest 0 x (k ∷ ts) ≡ Fault (true && c) (k ∷ ts)
      by true on = ap (λ b. go_on (if b then Fault true (k ∷ ts) else Fault false (k ∷ ts)) (get_index 0 w)) on
      by false on = ap (λ b. go_on (if b then Fault true (k ∷ ts) else Fault false (k ∷ ts)) (get_index 0 w)) on
    no_level k ts false c there on = ap (λ b. if b then from_rest 0 x (k ∷ ts) else Fault false (k ∷ ts)) there

    -- the name alone, and then no parenthesis
    alone : (k : Item) (ts : List Item) → elsewhere k ≡ true → goes_on_name k ≡ false → from_rest 1 x (k ∷ ts) ≡ Fault false (k ∷ ts)
    alone k ts there no_is =
        let (lead, shut) = and_both (passed_by (symbol key.LeftParen) k) (open_yet k) there in
        let (tick, none) = or_both (is_symbol key.Tick k) (operates k) (sym (goes_so k) ∙ no_is) in
        let named : name_rest 0 (inner 0) x (k ∷ ts) ≡ Found (EName x.name x.span) (k ∷ ts) = rw (not_some (symbol key.LeftParen k) lead) (rw (none_there (symbol key.Tick k) tick) refl) in
        ap (λ a. go_on (go_on a (expr_behind 0)) (get_index 1 w)) named ∙ ap (λ a. go_on a (get_index 1 w)) (stays (EName x.name x.span) refl 0 k ts none) ∙
        index_refuses 1 (EName x.name x.span) k ts shut

    one_level : (k : Item) (ts : List Item) → goes_from k ≡ false → from_elsewhere 1 x (k ∷ ts) ≡ Fault false (k ∷ ts)
    one_level k ts no_is = ⊎_elim
        (λ not_there. ap (λ b. if b then from_rest 1 x (k ∷ ts) else Fault false (k ∷ ts)) not_there)
        (λ (there, none). ap (λ b. if b then from_rest 1 x (k ∷ ts) else Fault false (k ∷ ts)) there ∙ alone k ts there none)
        (and_not (elsewhere k) (goes_on_name k) no_is)

    -- each item that goes on does so in some statement
    some_from : (e : ℕ) (k : Item) (a : PExpr) (more : List Item) → elsewhere k ≡ true → IsExpr Logical e a (word_item x ∷ k ∷ more) → Begins (Narrow elsewhere (FromIndexTexts x) (suc e)) (k ∷ [])
    some_from e k a more there spelled =
        let (s, g, end) = index_some (suc e) a in
        (s, more ++ g, record { k = k; more = more ++ g; text_is = refl; passes = there; spells = (a, k ∷ more, g, refl, spelled, end) })

    deeper_from : (k : Item) → goes_from k ≡ true → (e : ℕ) × (0 ≤ e) × Begins (Narrow elsewhere (FromIndexTexts x) e) (k ∷ [])
    deeper_from k yes_is =
        let (there, on) = and_both (elsewhere k) (goes_on_name k) yes_is in
        ⊎_elim
        (λ tick. let (at, named) = symbol_at key.Tick k tick in
        (1, omega arith, some_from 0 k (attribute x some_word) (word_item some_word ∷ []) there (record { spells = (at, ap (λ t. word_item x ∷ t ∷ word_item some_word ∷ []) named, refl); fits = omega arith; nested = omega arith })))
        (λ some. let (a, more, behind, low) = some_behind (EName x.name x.span) (omega arith) refl k some in
        (2, omega arith, some_from 1 k a more there (record { spells = behind_spells (EName x.name x.span) a (word_item x ∷ []) (k ∷ more) refl behind; fits = omega arith; nested = low })))
        (or_is (is_symbol key.Tick k) (operates k) (sym (goes_so k) ∙ on))

    careful_from : (d : ℕ) → Careful d (from_elsewhere d x) (from_elsewhere (suc d) x) (Narrow elsewhere (FromIndexTexts x)) Anything
    careful_from zero = careful_filled (from_elsewhere 0 x) (from_elsewhere 1 x) (Narrow elsewhere (FromIndexTexts x)) Anything goes_from
        (λ k ts is. let (there, on) = and_both (elsewhere k) (goes_on_name k) is in no_level k ts true true there on)
        (λ k ts is. no_level k ts (elsewhere k) (goes_on_name k) refl refl ∙ ap (λ b. Fault b (k ∷ ts)) is)
        one_level refl refl
        (λ s text is. let (a, f, g, from, never, end) = is.spells in absurd never)
        deeper_from
    careful_from (suc e) = from_level e

    -- ---- all behind a name

    abbrev behind_name : ℕ → Reader Item PStmt
    behind_name d = look is_close (key_then key.RightParen (get_or_index d w (of_name x None) (EName x.name x.span))) (from_rest d x)

    abbrev behind_name_apart : ℕ → Reader Item PStmt
    behind_name_apart d = look is_close (key_then key.RightParen (get_or_index d w (of_name x None) (EName x.name x.span))) (from_elsewhere d x)

    apart_same : {A : Type 0} (d : ℕ) (m : Option Span) (next : ℕ → Span → Reader Item A) (p q : Reader Item A) (k : Item) (ts : List Item) → (m ≡ None → p (k ∷ ts) ≡ q (k ∷ ts)) → below_token d m next p k ts ≡ below_token d m next q k ts
    apart_same d (Some at) next p q k ts same = refl
    apart_same d None next p q k ts same = same refl

    shut_same : {X : Type 0} (b c : Bool) (p q r : X) → c ≡ true → (if b then p else q) ≡ (if b then p else (if c && not b then q else r))
    shut_same true c p q r is = refl
    shut_same false c p q r is = sym (ap (λ t. if t && true then q else r) is)

    name_same : (d : ℕ) (ts : List Item) → get_name d w x ts ≡ below d (symbol key.LeftParen) (λ e lead. arg_rest d e x) (behind_name_apart d) ts
    name_same d [] = refl
    name_same d (k ∷ ts) = apart_same d (symbol key.LeftParen k) (λ e lead. arg_rest d e x) (behind_name d) (behind_name_apart d) k ts
        (λ none. shut_same (is_close k) (passed_by (symbol key.LeftParen) k) (key_then key.RightParen (get_or_index d w (of_name x None) (EName x.name x.span)) (k ∷ ts)) (from_rest d x (k ∷ ts)) (Fault false (k ∷ ts))
        (ap (λ m. not (is_some m)) none))

    abbrev pub ApartTexts : Texts Item PStmt
    ApartTexts = Or (ShutTexts (of_name x None) (EName x.name x.span)) (Narrow elsewhere (FromIndexTexts x))

    from_open : {d : ℕ} {S : Item → Type 0} → Starts d (Narrow elsewhere (FromIndexTexts x)) S (IsNo is_close)
    from_open = record { begins_with = λ s text k is stop. rw is.text_is (not_true (is_close is.k) (and_both (passed_by (symbol key.LeftParen) is.k) (open_yet is.k) is.passes).1) }

    from_no_lead : {d : ℕ} {S : Item → Type 0} → Starts d (Narrow elsewhere (FromIndexTexts x)) S (IsPassed (symbol key.LeftParen))
    from_no_lead = record { begins_with = λ s text k is stop. rw is.text_is (not_some (symbol key.LeftParen is.k) (and_both (passed_by (symbol key.LeftParen) is.k) (open_yet is.k) is.passes).0) }

    close_no_lead : (at : Span) → IsPassed (symbol key.LeftParen) (symbol_item key.RightParen at)
    unfolding same
    close_no_lead at = refl

    law_apart : (d : ℕ) → Lawful d (behind_name_apart d) (behind_name_apart (suc d)) ApartTexts Anything
    law_apart d =
        let shut = law_shut d (of_name x None) (EName x.name x.span) (omega arith) in
        record {
          careful = careful_look (careful_where is_close shut.careful) (careful_from d) (key_starts key.RightParen (EndTexts (of_name x None) (EName x.name x.span)) (is_itself key.RightParen)) from_open;
          some_text = λ n deep. let (s, text, is) = shut.some_text n deep in (s, text, inl is);
        }

    abbrev pub NameTexts : Texts Item PStmt
    NameTexts = Or (Then (One (symbol key.LeftParen)) (λ lead. Below (ArgTexts x))) ApartTexts

    some_arg : (e : ℕ) × (s : PStmt) × (f : List Item) × ArgTexts x e s f
    some_arg = let (s, f, is) = (law_arg 1 0 x refl).some_text 0 (le_refl 0) in (0, s, f, is)

    pub law_name : (d : ℕ) → Lawful d (get_name d w x) (get_name (suc d) w x) NameTexts Anything
    law_name d = law_same (name_same d) (name_same (suc d))
        (law_below (λ e lead. arg_rest d e x) (λ e lead. arg_rest (suc d) e x) (λ lead. some_arg) d (λ e is lead. law_arg d e x is) (law_apart d)
        (starts_or (key_starts key.RightParen (EndTexts (of_name x None) (EName x.name x.span)) close_no_lead) from_no_lead))

  -- ---- behind the parenthesis

  abbrev pub OtherTexts : Texts Item PStmt
  OtherTexts = Then OperandTexts IndexTexts

  abbrev pub RestTexts : Texts Item PStmt
  RestTexts = Or (Narrow (passed_by word) OtherTexts) (Then (One word) NameTexts)

  pub law_get_rest : (d : ℕ) → Lawful d (get_rest d w) (get_rest (suc d) w) RestTexts Anything
  law_get_rest d = law_either word (λ x. law_name x d)
      (narrow_where (passed_by word) (careful_bind (operand_careful d) (λ a f is. (law_index d a).careful) (λ n deep a f is. index_some n a) (λ a f is. key_starts key.RightParen (λ d s. AssignTexts (of_name w (Some a)) d s) close_ends))
      (λ s is. index_there d OperandTexts (λ a. a) s is))
      narrow_starts (word_item some_word) some_word refl
