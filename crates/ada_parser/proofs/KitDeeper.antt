-- The laws of what stands one level deeper, and of the end of a unit.
use Rattle.std.proofs.Common.{◌≡◌, ℕ, zero, suc, ◌≤◌, Bool, true, false, inl, inr, ⊎_elim, List, [], ◌∷◌, ◌++◌, Option, Some, None, refl, sym, ap, ◌∙◌, subst, true≢false, arith}
use Rattle.std.specs.Prelude.{is_some, ◌==◌, ◌||◌, if◌then◌else◌}
use Rattle.ada_tree.specs.declared.naming.NameId.{NameId}
use Rattle.ada_tree.specs.declared.naming.Span.{Span}
use Rattle.ada_tree.specs.declared.naming.Word.{Word}
use Rattle.ada_tree.specs.declared.expressions.UnaryOp.{UnaryOp}
use Rattle.ada_tree.specs.PlainExpr.{PExpr, EInteger, EName, EParen, EUnary}
use Rattle.ada_lexer.specs.declared.symbols.Symbol.{Symbol}
use Rattle.ada_lexer.specs.declared.symbols.Symbol.TheVariants as key
use Rattle.ada_expr_parser.specs.declared.items.ItemKind.{ItemKind}
use Rattle.ada_expr_parser.specs.declared.items.ItemKind.TheVariants as item
use Rattle.ada_expr_parser.specs.declared.items.Item.{Item}
use Rattle.ada_expr_parser.specs.declared.levels.Level.TheVariants.{Logical}
use Rattle.ada_expr_parser.specs.Tests.{same, symbol, symbol_in, word, sign, factor_operator, begins_in, begins_expr, Prefix, with_place}
use Rattle.ada_expr_parser.specs.Grammar.{symbol_item, word_item, number_item, prefix_symbol}
use Rattle.ada_expr_parser.specs.Trees.{from_to}
use Rattle.ada_expr_parser.specs.Parts.{expression}
use Rattle.ada_phrase_parser.specs.Spelling.{Spelling, ◌▷◌, May, Key, Again}
use Rattle.ada_phrase_parser.specs.Phrases.{Expression, NestedExpr, EndOf}
use Rattle.ada_phrase_parser.specs.Reading.{in_deeper, operand, again_if, again, end_of}
use Rattle.ada_expr_parser.specs.readers.Readers.{Reader, Fault, bind, look, refuse}
use Rattle.ada_expr_parser.specs.readers.Grammars.{Texts, Never, One, Then, Or, Below, Begins, Starts}
use Rattle.ada_expr_parser.specs.readers.Lawful.{Careful, Lawful}
use Rattle.ada_expr_parser.proofs.readers.Binding.{careful_bind}
use Rattle.ada_expr_parser.proofs.readers.Choosing.{careful_refuse, law_on}
use Rattle.ada_expr_parser.proofs.readers.Deepening.{law_shifted}
use Rattle.ada_expr_parser.proofs.readers.Looking.{decided, careful_look, too_deep_where}
use Rattle.ada_expr_parser.proofs.readers.Fitting.{starts_never, law_fit, careful_fit, careful_same}
use Rattle.ada_parser.specs.expression_laws.Stopping.{Ends}
use Rattle.ada_parser.proofs.expression_laws.Tokens.{symbol_is, word_is, none_is, abs_or_not_is, plus_or_minus_is}
use Rattle.ada_parser.proofs.expression_laws.Primaries.{no_place, unary_less}
use Rattle.ada_parser.proofs.expression_laws.Plainly.{law_is_expr}
use Rattle.ada_parser.proofs.KitPieces.{KeyAt, Closing, closing_key, closing_then, below_inside, inside_below}
use Rattle.ada_parser.proofs.KitReading.{Made, Both, made_key, law_closed}
use Rattle.common_lemmas.proofs.Numbers.{equal_self}
use Rattle.common_lemmas.proofs.Options.{none_there, some_same, some_there}
use Rattle.common_lemmas.proofs.Truth.{or_both}

-- ---- one level deeper

module _ {A : Type 0} {begins : Item → Bool} {part : ℕ → Reader Item A} {P : Texts Item A} {S : Item → Type 0}
    (law : (e : ℕ) → Lawful e (part e) (part (suc e)) P S) (deep_text : (k : Item) → begins k ≡ true → (e : ℕ) × Begins (P e) (k ∷ []))
    (passes : (k : Item) (ts : List Item) → begins k ≡ false → part 0 (k ∷ ts) ≡ Fault false (k ∷ ts)) (none : part 0 [] ≡ Fault false []) where
  looked : (ts : List Item) → part 0 ts ≡ look begins (part 0) refuse ts
  looked [] = none
  looked (k ∷ ts) = ⊎_elim
      (λ is. sym (ap (λ b. if b then part 0 (k ∷ ts) else Fault false (k ∷ ts)) is))
      (λ is. passes k ts is ∙ sym (ap (λ b. if b then part 0 (k ∷ ts) else Fault false (k ∷ ts)) is))
      (decided (begins k))

  below_or : (e : ℕ) (a : A) (text : List Item) → Or (Below P) Never e a text → Below P e a text
  below_or e a text (inl is) = is
  below_or e a text (inr never) = absurd never

  deeper_than : (k : Item) → begins k ≡ true → (e : ℕ) × (0 ≤ e) × Begins (Below P e) (k ∷ [])
  deeper_than k is = let (e, (a, more, text)) = deep_text k is in (suc e, omega arith, (a, more, text))

  pub careful_in_deeper : (d : ℕ) → Careful d (in_deeper d begins part) (in_deeper (suc d) begins part) (Below P) S
  careful_in_deeper zero = careful_same (λ ts. refl) looked (careful_fit (λ e deep a text is. below_or e a text is) (λ a text is. inl is)
      (careful_look {p' = part 0} (too_deep_where begins (λ a text is. is) deeper_than) (careful_refuse 0 S) (record { begins_with = λ a text x is stop. absurd is }) starts_never))
  careful_in_deeper (suc d) = (law_shifted (law d)).careful

-- behind what stands deeper
pub careful_behind : {A V B : Type 0} {d : ℕ} {p p' : Reader Item A} {q q' : A → Reader Item B} {D : Texts Item A} {R S : Item → Type 0} (f : A → V → B) (P : A → ℕ → V → Spelling) →
    Careful d p p' D R → ((a : A) → Lawful d (q a) (q' a) (Made (f a) (P a)) S) → ((a : A) → Starts d (Made (f a) (P a)) S R) → Careful d (bind p q) (bind p' q') (Made (λ v. f v.0 v.1) (Both D P)) S
careful_behind {d = d} {D = D} f P first next meets = careful_fit
    (λ e deep b text (a, front, back, from, left, (v, same, right)). ((a, v), same, (front, back, from, left, right)))
    (λ b text (v, same, (front, back, from, left, right)). (v.0, front, back, from, left, (v.1, same, right)))
    (careful_bind first (λ a text is. (next a).careful) (λ e deep a text is. (next a).some_text e deep) (λ a text is. meets a))

-- ---- an expression one level deeper

-- nothing that begins no expression is read as one
not_symbol : (s : Symbol) (at : Span) (ts : List Item) → symbol_in key.LeftParen (item.Symbol s) at ≡ None → factor_operator s ≡ None → sign s ≡ None →
    expression 0 (symbol_item s at ∷ ts) ≡ Fault false (symbol_item s at ∷ ts)
not_symbol s at ts paren factor plus = rw plus (rw factor (rw paren refl))

passes_kind : (kind : ItemKind) (at : Span) (ts : List Item) → begins_in kind at ≡ false → expression 0 (record { kind = kind; span = at } ∷ ts) ≡ Fault false (record { kind = kind; span = at } ∷ ts)
passes_kind (item.Symbol s) at ts e =
    let (more, plus) = or_both (is_some (symbol_in key.LeftParen (item.Symbol s) at) || is_some (factor_operator s)) (is_some (sign s)) e in
    let (paren, factor) = or_both (is_some (symbol_in key.LeftParen (item.Symbol s) at)) (is_some (factor_operator s)) more in
    not_symbol s at ts (none_there (symbol_in key.LeftParen (item.Symbol s) at) paren) (none_there (factor_operator s) factor) (none_there (sign s) plus)
passes_kind (item.Name n) at ts e = absurd (true≢false e)
passes_kind (item.Integer n) at ts e = absurd (true≢false e)
passes_kind (item.Duration n) at ts e = refl
passes_kind item.Text at ts e = refl
passes_kind item.End at ts e = refl

abbrev a_zero : Item
a_zero = number_item 0 no_place

abbrev zero_is : PExpr
zero_is = EInteger 0 no_place

-- each item that begins an expression does
number_begins : (n : ℕ) (at : Span) → (e : ℕ) × Begins (λ b text. Expression e b text) (number_item n at ∷ [])
number_begins n at = (0, (EInteger n at, [], record { spells = refl; fits = omega arith; nested = omega arith }))

word_begins : (w : Word) → (e : ℕ) × Begins (λ b text. Expression e b text) (word_item w ∷ [])
word_begins w = (0, (EName w.name w.span, [], record { spells = refl; fits = omega arith; nested = omega arith }))

paren_begins : (at : Span) → (e : ℕ) × Begins (λ b text. Expression e b text) (symbol_item key.LeftParen at ∷ [])
paren_begins at = (
  1,
  (
    EParen zero_is (from_to at no_place),
    a_zero ∷ symbol_item key.RightParen no_place ∷ [],
    record { spells = (a_zero ∷ [], at, no_place, refl, refl, refl); fits = omega arith; nested = omega arith },
  ),
)

prefix_begins : (op : UnaryOp) (at : Span) → (e : ℕ) × Begins (λ b text. Expression e b text) (symbol_item (prefix_symbol op) at ∷ [])
prefix_begins op at = (1, (EUnary op zero_is (from_to at no_place), a_zero ∷ [], record { spells = (a_zero ∷ [], at, refl, omega (arith, unary_less op), refl, refl); fits = omega arith; nested = omega arith }))

abbrev placed_at : Span → UnaryOp → Prefix
placed_at at op = record { op = op; span = at }

symbol_begins : (s : Symbol) (at : Span) (paren factor plus : Bool) → is_some (symbol_in key.LeftParen (item.Symbol s) at) ≡ paren → is_some (factor_operator s) ≡ factor → is_some (sign s) ≡ plus →
    ((paren || factor) || plus) ≡ true → (e : ℕ) × Begins (λ b text. Expression e b text) (symbol_item s at ∷ [])
symbol_begins s at true factor plus is is' is'' e =
    let (b, some) = some_there (symbol key.LeftParen (symbol_item s at)) is in
    subst (λ k. (e : ℕ) × Begins (λ b text. Expression e b text) (k ∷ [])) (sym (symbol_is key.LeftParen (symbol_item s at) b some)) (paren_begins b)
symbol_begins s at false true plus is is' is'' e =
    let (op, some) = some_there (factor_operator s) is' in
    let (from, level) = abs_or_not_is (symbol_item s at) (placed_at at op) (ap (λ m. with_place m at) some) in
    subst (λ k. (e : ℕ) × Begins (λ b text. Expression e b text) (k ∷ [])) (sym from) (prefix_begins op at)
symbol_begins s at false false true is is' is'' e =
    let (op, some) = some_there (sign s) is'' in
    let (from, level) = plus_or_minus_is (symbol_item s at) (placed_at at op) (ap (λ m. with_place m at) some) in
    subst (λ k. (e : ℕ) × Begins (λ b text. Expression e b text) (k ∷ [])) (sym from) (prefix_begins op at)
symbol_begins s at false false false is is' is'' e = absurd (true≢false (sym e))

begins_kind : (kind : ItemKind) (at : Span) → begins_in kind at ≡ true → (e : ℕ) × Begins (λ b text. Expression e b text) (record { kind = kind; span = at } ∷ [])
begins_kind (item.Symbol s) at e = symbol_begins s at (is_some (symbol_in key.LeftParen (item.Symbol s) at)) (is_some (factor_operator s)) (is_some (sign s)) refl refl refl e
begins_kind (item.Name n) at e = word_begins (record { name = n; span = at })
begins_kind (item.Integer n) at e = number_begins n at
begins_kind (item.Duration n) at e = absurd (true≢false (sym e))
begins_kind item.Text at e = absurd (true≢false (sym e))
begins_kind item.End at e = absurd (true≢false (sym e))

abbrev pub Expressions : Texts Item PExpr
Expressions d e text = Expression d e text

pub expression_begins : (k : Item) → begins_expr k ≡ true → (e : ℕ) × Begins (Expressions e) (k ∷ [])
expression_begins k is = begins_kind k.kind k.span is

pub expression_passes : (k : Item) (ts : List Item) → begins_expr k ≡ false → expression 0 (k ∷ ts) ≡ Fault false (k ∷ ts)
expression_passes k ts is = passes_kind k.kind k.span ts is

pub law_expression : (d : ℕ) → Lawful d (expression d) (expression (suc d)) Expressions (Ends Logical)
law_expression d = law_is_expr d Logical

pub operand_careful : (d : ℕ) → Careful d (operand d) (operand (suc d)) (λ e a. NestedExpr e a) (Ends Logical)
operand_careful d = careful_fit (λ e deep a text is. below_inside (λ b i. Expression i b) e a text is) (λ a text is. inside_below (λ b i. Expression i b) d a text is)
    (careful_in_deeper law_expression expression_begins expression_passes refl d)

-- ---- `end [NAME] ;`

pub again_from : (n m : ℕ) (w v : Word) (b : Bool) → (n == m) ≡ b → (if b then Some w else None) ≡ Some v → (n ≡ m) × (w ≡ v)
again_from n m w v true is e = (grind (arith, is), some_same e)
again_from n m w v false is e = absurd (none_is e)

again_word : (name : Word) (m : Option Word) (v : Word) → again_if name m ≡ Some v → (m ≡ Some v) × (v.name.0 ≡ name.name.0)
again_word name None v e = absurd (none_is e)
again_word name (Some w) v e =
    let (is, same) = again_from name.name.0 w.name.0 w v (name.name.0 == w.name.0) refl e in
    (ap Some same, ap (λ u. u.name.0) (sym same) ∙ sym is)

abbrev numbered : ℕ → NameId
numbered n = record { 0 = n }

abbrev named_at : Span → NameId → Item
named_at at n = word_item record { name = n; span = at }

pub again_is : (name : Word) (k : Item) (v : Word) → again name k ≡ Some v → (at : Span) × (k ≡ word_item record { name = name.name; span = at })
again_is name k v e =
    let (is, number) = again_word name (word k) v e in
    (v.span, word_is k v is ∙ ap (λ n. named_at v.span (numbered n)) number)

pub again_takes : (name : Word) (at : Span) → again name (word_item record { name = name.name; span = at }) ≡ Some (record { name = name.name; span = at })
again_takes name at = ap (λ b. if b then Some (record { name = name.name; span = at }) else None) (equal_self name.name.0)

abbrev pub NameEnd : Word → Span → Spelling
NameEnd name close = May (Again name) ▷ KeyAt key.Semicolon close

module _ {A : Type 0} (d : ℕ) (name : Word) (tree : Span → A) (S : Item → Type 0) where
  abbrev Closes : Texts Item A
  Closes = Made tree (λ e close. KeyAt key.Semicolon close)

  end_is : (e : ℕ) (a : A) (text : List Item) → Or (Then (One (again name)) (λ w. Closes)) Closes e a text → Made tree (λ e close. NameEnd name close) e a text
  end_is e a text (inl (w, one, back, from, (k, one_is, some), (close, same, is))) =
      let (at, known) = again_is name k w some in
      (close, same, (one, back, from, inr (at, one_is ∙ ap (λ t. t ∷ []) known), is))
  end_is e a text (inr (close, same, is)) = (close, same, ([], text, refl, inl refl, is))

  is_end : (e : ℕ) (a : A) (text : List Item) → Made tree (λ e close. NameEnd name close) e a text → Or (Then (One (again name)) (λ w. Closes)) Closes e a text
  is_end e a text (close, same, (front, back, from, inl none, is)) = inr (close, same, from ∙ ap (λ l. l ++ back) none ∙ is)
  is_end e a text (close, same, (front, back, from, inr (at, one), is)) =
      inl (record { name = name.name; span = at }, front, back, from, (word_item record { name = name.name; span = at }, one, again_takes name at), (close, same, is))

  pub law_end_of : Lawful d (end_of name tree) (end_of name tree) (Made tree (λ e close. Key key.End ▷ NameEnd name close)) S
  law_end_of = made_key key.End tree (λ e close. NameEnd name close) (law_fit (λ e deep a text is. end_is e a text is) (is_end d)
      (law_on {test = again name} (λ w. law_closed d tree S) (law_closed d tree S).careful
      (record { begins_with = λ a text x (close, same, is) stop. rw is refl })
      (word_item record { name = name.name; span = no_place }) (record { name = name.name; span = no_place }) (again_takes name no_place)))

pub closing_end : (name : Word) → Closing (λ close. Key key.End ▷ NameEnd name close) (EndOf name)
closing_end name = closing_then (Key key.End) (closing_then (May (Again name)) (closing_key key.Semicolon))
