-- The laws of primaries and factors.
use Rattle.std.proofs.Common.{◌≡◌, ℕ, zero, suc, ◌≤◌, inl, inr, List, [], ◌∷◌, ◌++◌, Some, None, refl, sym, ap, ◌∙◌, subst, arith}
use Rattle.ada_tree.specs.declared.naming.Span.{Span}
use Rattle.ada_tree.specs.declared.naming.Word.{Word}
use Rattle.ada_tree.specs.declared.expressions.UnaryOp.{UnaryOp}
use Rattle.ada_tree.specs.declared.expressions.UnaryOp.TheVariants as unary
use Rattle.ada_tree.specs.PlainExpr.{PExpr, EInteger, EName, EIndex, EAttribute, EAttributeOf, EParen, EUnary, EBinary}
use Rattle.ada_tree.specs.WellPlaced.{factor, unary_level}
use Rattle.ada_lexer.specs.declared.symbols.Symbol.TheVariants as key
use Rattle.ada_expr_parser.specs.declared.items.Item.{Item}
use Rattle.ada_expr_parser.specs.declared.levels.Level.{Level}
use Rattle.ada_expr_parser.specs.declared.levels.Level.TheVariants.{Logical, Primary}
use Rattle.ada_expr_parser.specs.Tests.{same, symbol, word, number, Number}
use Rattle.ada_expr_parser.specs.Trees.{levels, indexed, attribute, attribute_of, in_parens}
use Rattle.ada_expr_parser.specs.Reading as reading
use Rattle.ada_expr_parser.specs.Grammar.{symbol_item, word_item, number_item, Spells}
use Rattle.ada_expr_parser.specs.readers.Readers.{Reader, bind}
use Rattle.ada_expr_parser.specs.readers.Grammars.{Texts, Never, Is, One, Then, Or, Below, Up_to, Starts}
use Rattle.ada_expr_parser.specs.readers.Lawful.{Lawful}
use Rattle.ada_expr_parser.proofs.readers.Binding.{law_pure, law_bind, law_then}
use Rattle.ada_expr_parser.proofs.readers.Listing.{law_token}
use Rattle.ada_expr_parser.proofs.readers.Choosing.{careful_refuse, careful_on, law_on}
use Rattle.ada_expr_parser.proofs.readers.Deepening.{law_below}
use Rattle.ada_expr_parser.proofs.readers.Fitting.{starts_is, starts_never, starts_or, starts_token, law_fit}
use Rattle.ada_parser.specs.expression_laws.Stopping.{EndsPrimary, Ends}
use Rattle.ada_parser.proofs.expression_laws.Tokens.{symbol_is, symbol_takes, word_is, number_is}
use Rattle.ada_parser.proofs.expression_laws.Chains.{Sp}
use Rattle.ada_parser.proofs.expression_laws.Operators.{low_binary}

pub no_place : Span
no_place = record { start = 0; end = 0 }

-- ---- what one parenthesis holds

abbrev pub Closed : (Span → PExpr) → Texts Item PExpr
Closed tree = Then (One (symbol key.RightParen)) (λ close. Is (tree close))

abbrev pub Content : (PExpr → Span → PExpr) → Texts Item PExpr
Content tree = Then (Up_to levels (Sp Logical)) (λ part. Closed (tree part))

pub law_closed : (d : ℕ) (tree : Span → PExpr) (S : Item → Type 0) → Lawful d (reading.closed tree) (reading.closed tree) (Closed tree) S
law_closed d tree S = law_then (law_token (symbol_item key.RightParen no_place) no_place (symbol_takes key.RightParen no_place)) (λ close. law_pure d (tree close) S)

pub close_ends : (at : Span) → Ends Logical (symbol_item key.RightParen at)
unfolding same
close_ends at = (((((refl, refl), refl), refl), refl), refl)

pub closed_starts : (d : ℕ) (tree : Span → PExpr) (S : Item → Type 0) → Starts d (Closed tree) S (Ends Logical)
closed_starts d tree S = starts_token (λ k at some. subst (Ends Logical) (sym (symbol_is key.RightParen k at some)) (close_ends at))

pub law_content : (d : ℕ) (i i' : Reader Item PExpr) (tree : PExpr → Span → PExpr) (S : Item → Type 0) → Lawful d i i' (Up_to levels (Sp Logical)) (Ends Logical) →
    Lawful d (bind i (λ part. reading.closed (tree part))) (bind i' (λ part. reading.closed (tree part))) (Content tree) S
law_content d i i' tree S inner = law_bind inner (λ part. law_closed d (tree part) S) (λ part. closed_starts d (tree part) S)

pub some_content : (tree : PExpr → Span → PExpr) → (e : ℕ) × (a : PExpr) × (f : List Item) × Content tree e a f
some_content tree = (
  0,
  tree (EInteger 0 no_place) no_place,
  number_item 0 no_place ∷ symbol_item key.RightParen no_place ∷ [],
  (
    EInteger 0 no_place,
    number_item 0 no_place ∷ [],
    symbol_item key.RightParen no_place ∷ [],
    refl,
    ((refl, omega arith), omega arith),
    (no_place, symbol_item key.RightParen no_place ∷ [], [], refl, (symbol_item key.RightParen no_place, refl, symbol_takes key.RightParen no_place), (refl, refl)),
  ),
)

-- what a parenthesis holds, in plain words
pub content_is : (tree : PExpr → Span → PExpr) (d : ℕ) (e : PExpr) (text : List Item) → Content tree d e text →
    (part : PExpr) × (front : List Item) × (close : Span) × (text ≡ front ++ symbol_item key.RightParen close ∷ []) × Spells part front × (levels part ≤ d) × (e ≡ tree part close)
content_is tree d e text (part, front, back, from, ((spells, high), low), (close, one, more, split, (k, one_is, some), (same, none))) =
    (part, front, close, from ∙ ap (λ l. front ++ l) (split ∙ ap (λ l. l ++ more) one_is ∙ ap (λ l. k ∷ l) none ∙ ap (λ l. l ∷ []) (symbol_is key.RightParen k close some)), spells, low, same)

pub is_content : (tree : PExpr → Span → PExpr) (d : ℕ) (part : PExpr) (front : List Item) (close : Span) → Spells part front → levels part ≤ d →
    Content tree d (tree part close) (front ++ symbol_item key.RightParen close ∷ [])
is_content tree d part front close spells low = (
  part,
  front,
  symbol_item key.RightParen close ∷ [],
  refl,
  ((spells, omega arith), low),
  (close, symbol_item key.RightParen close ∷ [], [], refl, (symbol_item key.RightParen close, refl, symbol_takes key.RightParen close), (refl, refl)),
)

-- ---- names

abbrev pub InParens : (PExpr → Span → PExpr) → Texts Item PExpr
InParens tree = Then (One (symbol key.LeftParen)) (λ lead. Below (Content tree))

abbrev pub AttributeRest : Word → Word → Texts Item PExpr
AttributeRest m w = Or (InParens (attribute_of m w)) (Is (attribute m w))

abbrev pub NameRest : Word → Texts Item PExpr
NameRest w = Or (InParens (indexed w)) (Or (Then (One (symbol key.Tick)) (λ tick. Then (One word) (AttributeRest w))) (Is (EName w.name w.span)))

abbrev pub PrimaryTexts : Texts Item PExpr
PrimaryTexts = Or (Then (One (symbol key.LeftParen)) (λ lead. Below (Content (in_parens lead)))) (Or (Then (One number) (λ n. Is (EInteger n.value n.span))) (Or (Then (One word) NameRest) Never))

-- what each next item is not
tick_passes : (k : Item) (at : Span) → symbol key.Tick k ≡ Some at → symbol key.LeftParen k ≡ None
unfolding same
tick_passes k at some = rw (symbol_is key.Tick k at some) refl

number_passes : (k : Item) (n : Number) → number k ≡ Some n → symbol key.LeftParen k ≡ None
number_passes k n some = rw (number_is k n some) refl

word_passes : (k : Item) (w : Word) → word k ≡ Some w → symbol key.LeftParen k ≡ None
word_passes k w some = rw (word_is k w some) refl

word_no_number : (k : Item) (w : Word) → word k ≡ Some w → number k ≡ None
word_no_number k w some = rw (word_is k w some) refl

pub some_word : Word
some_word = record { name = record { 0 = 0 }; span = no_place }

module _ (d : ℕ) (i i' : reading.Inner) (inner : (e : ℕ) → d ≡ suc e → (l : Level) → Lawful e (i l) (i' l) (Up_to levels (Sp l)) (Ends l)) where
  law_attribute : (m w : Word) → Lawful d (reading.attribute_rest d i m w) (reading.attribute_rest (suc d) i' m w) (AttributeRest m w) EndsPrimary
  law_attribute m w = law_below (λ e lead. bind (i Logical) (λ arg. reading.closed (attribute_of m w arg))) (λ e lead. bind (i' Logical) (λ arg. reading.closed (attribute_of m w arg)))
      (λ lead. some_content (attribute_of m w)) d
      (λ e is lead. law_content e (i Logical) (i' Logical) (attribute_of m w) EndsPrimary (inner e is Logical))
      (law_pure d (attribute m w) EndsPrimary) (starts_is (λ x stop. stop.0))

  pub law_name : (w : Word) → Lawful d (reading.name_rest d i w) (reading.name_rest (suc d) i' w) (NameRest w) EndsPrimary
  law_name w = law_below (λ e lead. bind (i Logical) (λ arg. reading.closed (indexed w arg))) (λ e lead. bind (i' Logical) (λ arg. reading.closed (indexed w arg)))
      (λ lead. some_content (indexed w)) d
      (λ e is lead. law_content e (i Logical) (i' Logical) (indexed w) EndsPrimary (inner e is Logical))
      (law_on (λ tick. law_then (law_token (word_item some_word) some_word refl) (law_attribute w))
      (law_pure d (EName w.name w.span) EndsPrimary).careful (starts_is (λ x stop. stop.1))
      (symbol_item key.Tick no_place) no_place (symbol_takes key.Tick no_place))
      (starts_or (starts_token tick_passes) (starts_is (λ x stop. stop.0)))

  law_primary_texts : Lawful d (reading.primary_at d i) (reading.primary_at (suc d) i') PrimaryTexts EndsPrimary
  law_primary_texts = law_below (λ e lead. bind (i Logical) (λ part. reading.closed (in_parens lead part))) (λ e lead. bind (i' Logical) (λ part. reading.closed (in_parens lead part)))
      (λ lead. some_content (in_parens lead)) d
      (λ e is lead. law_content e (i Logical) (i' Logical) (in_parens lead) EndsPrimary (inner e is Logical))
      (law_on (λ n. law_pure d (EInteger n.value n.span) EndsPrimary)
      (careful_on {test = word} law_name (careful_refuse d EndsPrimary) starts_never)
      (starts_or (starts_token word_no_number) starts_never)
      (number_item 0 no_place) (record { value = 0; span = no_place }) refl)
      (starts_or (starts_token number_passes) (starts_or (starts_token word_passes) starts_never))

-- ---- the texts of primaries in plain words

pub unary_less : (op : UnaryOp) → unary_level op ≤ factor
unary_less unary.Plus = omega arith
unary_less op = omega arith

parens_spell : (d : ℕ) (e : PExpr) (text : List Item) → Then (One (symbol key.LeftParen)) (λ lead. Below (Content (in_parens lead))) d e text → Up_to levels (Sp Primary) d e text
parens_spell zero e text (lead, one, back, from, token, never) = absurd never
parens_spell (suc d) e text (lead, one, back, from, (k, one_is, some), content) =
    let (part, front, close, split, spells, low, same) = content_is (in_parens lead) d e back content in
    rw same (((front, lead, close, spells, from ∙ ap (λ l. l ++ back) one_is ∙ ap (λ t. t ∷ back) (symbol_is key.LeftParen k lead some) ∙ ap (λ l. symbol_item key.LeftParen lead ∷ l) split, refl), omega arith), omega (arith, low))

index_spell : (d : ℕ) (w : Word) (e : PExpr) (text : List Item) → InParens (indexed w) d e text → Up_to levels (Sp Primary) d e (word_item w ∷ text)
index_spell zero w e text (lead, one, back, from, token, never) = absurd never
index_spell (suc d) w e text (lead, one, back, from, (k, one_is, some), content) =
    let (part, front, close, split, spells, low, same) = content_is (indexed w) d e back content in
    rw same (
      (
        (
          front,
          lead,
          close,
          spells,
          ap (λ l. word_item w ∷ l) (from ∙ ap (λ l. l ++ back) one_is ∙ ap (λ t. t ∷ back) (symbol_is key.LeftParen k lead some) ∙ ap (λ l. symbol_item key.LeftParen lead ∷ l) split),
          refl,
        ),
        omega arith,
      ),
      omega (arith, low),
    )

attribute_spell : (d : ℕ) (m w : Word) (tick : Span) (e : PExpr) (text : List Item) → AttributeRest m w d e text → Up_to levels (Sp Primary) d e (word_item m ∷ symbol_item key.Tick tick ∷ word_item w ∷ text)
attribute_spell zero m w tick e text (inl (lead, one, back, from, token, never)) = absurd never
attribute_spell (suc d) m w tick e text (inl (lead, one, back, from, (k, one_is, some), content)) =
    let (part, front, close, split, spells, low, same) = content_is (attribute_of m w) d e back content in
    rw same (
      (
        (
          front,
          tick,
          lead,
          close,
          spells,
          ap (λ l. word_item m ∷ symbol_item key.Tick tick ∷ word_item w ∷ l) (from ∙ ap (λ l. l ++ back) one_is ∙ ap (λ t. t ∷ back) (symbol_is key.LeftParen k lead some) ∙ ap (λ l. symbol_item key.LeftParen lead ∷ l) split),
          refl,
        ),
        omega arith,
      ),
      omega (arith, low),
    )
attribute_spell d m w tick e text (inr (same, none)) = rw same (rw none (((tick, refl, refl), omega arith), omega arith))

pub name_spell : (d : ℕ) (w : Word) (e : PExpr) (text : List Item) → NameRest w d e text → Up_to levels (Sp Primary) d e (word_item w ∷ text)
name_spell d w e text (inl index) = index_spell d w e text index
name_spell d w e text (inr (inl (tick, one, back, from, (k, one_is, some), (word, two, more, split, (h, two_is, other), rest)))) =
    let (spells, low) = attribute_spell d w word tick e more rest in
    let whole : text ≡ symbol_item key.Tick tick ∷ word_item word ∷ more =
    from ∙ ap (λ l. l ++ back) one_is ∙ ap (λ t. t ∷ back) (symbol_is key.Tick k tick some) ∙ ap (λ l. symbol_item key.Tick tick ∷ l) (split ∙ ap (λ l. l ++ more) two_is ∙ ap (λ t. t ∷ more) (word_is h word other)) in
    rw whole (spells, low)
name_spell d w e text (inr (inr (same, none))) = rw same (rw none ((refl, omega arith), omega arith))

primary_spell : (d : ℕ) (e : PExpr) (text : List Item) → PrimaryTexts d e text → Up_to levels (Sp Primary) d e text
primary_spell d e text (inl parens) = parens_spell d e text parens
primary_spell d e text (inr (inl (n, one, back, from, (k, one_is, some), (same, none)))) =
    let whole : text ≡ number_item n.value n.span ∷ [] = from ∙ ap (λ l. l ++ back) one_is ∙ ap (λ l. k ∷ l) none ∙ ap (λ t. t ∷ []) (number_is k n some) in
    rw same ((whole, omega arith), omega arith)
primary_spell d e text (inr (inr (inl (w, one, back, from, (k, one_is, some), rest)))) =
    let whole : text ≡ word_item w ∷ back = from ∙ ap (λ l. l ++ back) one_is ∙ ap (λ t. t ∷ back) (word_is k w some) in
    rw whole (name_spell d w e back rest)
primary_spell d e text (inr (inr (inr never))) = absurd never

-- and back
pub spell_primary : (d : ℕ) (e : PExpr) (text : List Item) → Up_to levels (Sp Primary) d e text → PrimaryTexts d e text
spell_primary d (EInteger n s) text ((from, high), low) =
    inr (inl (record { value = n; span = s }, number_item n s ∷ [], [], from, (number_item n s, refl, refl), (refl, refl)))
spell_primary d (EName a s) text ((from, high), low) =
    inr (inr (inl (record { name = a; span = s }, word_item (record { name = a; span = s }) ∷ [], [], from, (word_item (record { name = a; span = s }), refl, refl), inr (inr (refl, refl)))))
spell_primary zero (EIndex w e s) text (spells, low) = absurd (omega (arith, low))
spell_primary (suc d) (EIndex w e s) text (((part, lead, close, spells, from, place), high), low) =
    inr (inr (inl (
      w,
      word_item w ∷ [],
      symbol_item key.LeftParen lead ∷ (part ++ symbol_item key.RightParen close ∷ []),
      from,
      (word_item w, refl, refl),
      inl (
        lead,
        symbol_item key.LeftParen lead ∷ [],
        part ++ symbol_item key.RightParen close ∷ [],
        refl,
        (symbol_item key.LeftParen lead, refl, symbol_takes key.LeftParen lead),
        subst (λ p. Content (indexed w) d (EIndex w e p) (part ++ symbol_item key.RightParen close ∷ [])) (sym place) (is_content (indexed w) d e part close spells (omega (arith, low))),
      ),
    )))
spell_primary d (EAttribute m w s) text (((tick, from, place), high), low) =
    inr (inr (inl (
      m,
      word_item m ∷ [],
      symbol_item key.Tick tick ∷ word_item w ∷ [],
      from,
      (word_item m, refl, refl),
      inr (inl (
        tick,
        symbol_item key.Tick tick ∷ [],
        word_item w ∷ [],
        refl,
        (symbol_item key.Tick tick, refl, symbol_takes key.Tick tick),
        (w, word_item w ∷ [], [], refl, (word_item w, refl, refl), inr (ap (EAttribute m w) place, refl)),
      )),
    )))
spell_primary zero (EAttributeOf m w e s) text (spells, low) = absurd (omega (arith, low))
spell_primary (suc d) (EAttributeOf m w e s) text (((part, tick, lead, close, spells, from, place), high), low) =
    inr (inr (inl (
      m,
      word_item m ∷ [],
      symbol_item key.Tick tick ∷ word_item w ∷ symbol_item key.LeftParen lead ∷ (part ++ symbol_item key.RightParen close ∷ []),
      from,
      (word_item m, refl, refl),
      inr (inl (
        tick,
        symbol_item key.Tick tick ∷ [],
        word_item w ∷ symbol_item key.LeftParen lead ∷ (part ++ symbol_item key.RightParen close ∷ []),
        refl,
        (symbol_item key.Tick tick, refl, symbol_takes key.Tick tick),
        (
          w,
          word_item w ∷ [],
          symbol_item key.LeftParen lead ∷ (part ++ symbol_item key.RightParen close ∷ []),
          refl,
          (word_item w, refl, refl),
          inl (
            lead,
            symbol_item key.LeftParen lead ∷ [],
            part ++ symbol_item key.RightParen close ∷ [],
            refl,
            (symbol_item key.LeftParen lead, refl, symbol_takes key.LeftParen lead),
            subst (λ p. Content (attribute_of m w) d (EAttributeOf m w e p) (part ++ symbol_item key.RightParen close ∷ [])) (sym place) (is_content (attribute_of m w) d e part close spells (omega (arith, low))),
          ),
        ),
      )),
    )))
spell_primary zero (EParen e s) text (spells, low) = absurd (omega (arith, low))
spell_primary (suc d) (EParen e s) text (((part, lead, close, spells, from, place), high), low) =
    inl (
      lead,
      symbol_item key.LeftParen lead ∷ [],
      part ++ symbol_item key.RightParen close ∷ [],
      from,
      (symbol_item key.LeftParen lead, refl, symbol_takes key.LeftParen lead),
      subst (λ p. Content (in_parens lead) d (EParen e p) (part ++ symbol_item key.RightParen close ∷ [])) (sym place) (is_content (in_parens lead) d e part close spells (omega (arith, low))),
    )
spell_primary d (EUnary op e s) text ((spells, high), low) = let less = unary_less op in absurd (omega (arith, high, less))
spell_primary d (EBinary op l r s) text ((spells, high), low) = let less = low_binary op in absurd (omega (arith, high, less))

pub law_primary : (d : ℕ) (i i' : reading.Inner) → ((e : ℕ) → d ≡ suc e → (l : Level) → Lawful e (i l) (i' l) (Up_to levels (Sp l)) (Ends l)) →
    Lawful d (reading.primary_at d i) (reading.primary_at (suc d) i') (Up_to levels (Sp Primary)) EndsPrimary
law_primary d i i' inner = law_fit (λ e deep a text is. primary_spell e a text is) (spell_primary d) (law_primary_texts d i i' inner)
