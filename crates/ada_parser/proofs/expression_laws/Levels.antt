-- The laws of each level of the grammar of expressions, at every depth.
use Rattle.std.proofs.Common.{◌≡◌, ℕ, zero, suc, ◌≤◌, ◌<◌, ◌⊎◌, inl, inr, ⊎_elim, List, [], ◌∷◌, ◌++◌, Option, None, refl, sym, ap, ◌∙◌, subst, arith}
use Rattle.std.proofs.lemmas.List.{append-nil}
use Rattle.ada_tree.specs.declared.naming.Span.{Span}
use Rattle.ada_tree.specs.declared.expressions.UnaryOp.{UnaryOp}
use Rattle.ada_tree.specs.declared.expressions.UnaryOp.TheVariants as unary
use Rattle.ada_tree.specs.PlainExpr.{PExpr, EInteger, EName, EIndex, EAttribute, EAttributeOf, EParen, EUnary, EBinary}
use Rattle.ada_tree.specs.WellPlaced.{level, logical, relation, simple, term, factor, primary, binary_level, unary_level}
use Rattle.ada_lexer.specs.declared.symbols.Symbol.{Symbol}
use Rattle.ada_expr_parser.specs.declared.items.Item.{Item}
use Rattle.ada_expr_parser.specs.declared.levels.Level.{Level}
use Rattle.ada_expr_parser.specs.declared.levels.Level.TheVariants.{Logical, Relation, Simple, Term, Factor, Primary}
use Rattle.ada_expr_parser.specs.Tests.{same, Prefix, prefix, factor_operator, sign, tighter}
use Rattle.ada_expr_parser.specs.Trees.{levels, with_prefix}
use Rattle.ada_expr_parser.specs.Reading as reading
use Rattle.ada_expr_parser.specs.Grammar.{symbol_item, number_item, prefix_symbol, Spells, rank}
use Rattle.ada_expr_parser.specs.readers.Readers.{Reader, pure, bind}
use Rattle.ada_expr_parser.specs.readers.Grammars.{Texts, Is, One, Then, Or, Below, Up_to, first_of}
use Rattle.ada_expr_parser.specs.readers.Lawful.{Lawful}
use Rattle.ada_expr_parser.proofs.readers.Binding.{law_pure, law_bind}
use Rattle.ada_expr_parser.proofs.readers.Deepening.{law_below}
use Rattle.ada_expr_parser.proofs.readers.Fitting.{first_append, starts_is, law_fit}
use Rattle.ada_expr_parser.proofs.readers.Chaining.{law_chain}
use Rattle.ada_parser.specs.expression_laws.Stopping.{Ends}
use Rattle.ada_parser.proofs.expression_laws.Tokens.{abs_or_not_is, takes_abs_or_not, plus_or_minus_is, takes_plus_or_minus}
use Rattle.ada_parser.proofs.expression_laws.Behind.{split_le, fits_level}
use Rattle.ada_parser.proofs.expression_laws.Chains.{Sp, First, IsOther, chains, lawful_operators}
use Rattle.ada_parser.proofs.expression_laws.Primaries.{no_place, unary_less, law_primary}
use Rattle.ada_parser.proofs.expression_laws.Operators.{low_binary}

-- an operator and its operand
abbrev Prefixed : (Symbol → Option UnaryOp) → Level → Texts Item PExpr
Prefixed which l = Then (One (prefix which)) (λ p. Below (Then (Up_to levels (Sp l)) (λ part. Is (with_prefix p part))))

law_prefixed : (e : ℕ) (i i' : Reader Item PExpr) (l : Level) (p : Prefix) → Lawful e i i' (Up_to levels (Sp l)) (Ends l) →
    Lawful e (bind i (λ part. pure (with_prefix p part))) (bind i' (λ part. pure (with_prefix p part))) (Then (Up_to levels (Sp l)) (λ part. Is (with_prefix p part))) (Ends l)
law_prefixed e i i' l p inner = law_bind inner (λ part. law_pure e (with_prefix p part) (Ends l)) (λ part. starts_is (λ x stop. stop))

some_prefixed : (l : Level) (p : Prefix) → (e : ℕ) × (a : PExpr) × (f : List Item) × Then (Up_to levels (Sp l)) (λ part. Is (with_prefix p part)) e a f
some_prefixed l p = (0, with_prefix p (EInteger 0 no_place), number_item 0 no_place ∷ [], (EInteger 0 no_place, number_item 0 no_place ∷ [], [], refl, ((refl, rank_low l), omega arith), (refl, refl))) where
  rank_low : (l : Level) → rank l ≤ primary
  rank_low Logical = omega arith
  rank_low l = omega arith

-- in plain words
prefixed_is : (d : ℕ) (l : Level) (p : Prefix) (e : PExpr) (text : List Item) → Below (Then (Up_to levels (Sp l)) (λ part. Is (with_prefix p part))) d e text →
    (part : PExpr) × (e ≡ with_prefix p part) × Spells part text × (rank l ≤ level part) × (levels part < d)
prefixed_is zero l p e text never = absurd never
prefixed_is (suc d) l p e text (part, front, back, from, ((spells, high), low), (same, none)) =
    (part, same, subst (Spells part) (sym (from ∙ ap (λ t. front ++ t) none ∙ append-nil front)) spells, high, omega (arith, low))

is_prefixed : (d : ℕ) (l : Level) (p : Prefix) (part : PExpr) (text : List Item) → Spells part text → rank l ≤ level part → levels part < d →
    Below (Then (Up_to levels (Sp l)) (λ part. Is (with_prefix p part))) d (with_prefix p part) text
is_prefixed zero l p part text spells high low = absurd (omega (arith, low))
is_prefixed (suc d) l p part text spells high low = (part, text, [], sym (append-nil text), ((spells, high), omega (arith, low)), (refl, refl))

-- ---- factors

factor_spell : (d : ℕ) (e : PExpr) (text : List Item) → Or (Prefixed factor_operator Primary) (Up_to levels (Sp Primary)) d e text → Up_to levels (Sp Factor) d e text
factor_spell d e text (inl (p, one, back, from, (k, one_is, some), rest)) =
    let (is, lev) = abs_or_not_is k p some in
    let (part, same, spells, high, low) = prefixed_is d Primary p e back rest in
    rw same (((back, p.span, spells, omega (arith, lev, high), from ∙ ap (λ l. l ++ back) one_is ∙ ap (λ t. t ∷ back) is, refl), omega (arith, lev)), omega (arith, low))
factor_spell d e text (inr ((spells, high), low)) = ((spells, omega (arith, high)), low)

spell_factor : (d : ℕ) (e : PExpr) (text : List Item) → Up_to levels (Sp Factor) d e text → Or (Prefixed factor_operator Primary) (Up_to levels (Sp Primary)) d e text
spell_factor d (EUnary op e s) text (((part, at, spells, fits, from, place), high), low) =
    let lev : unary_level op ≡ factor = let less = unary_less op in omega (arith, high, less) in
    inl (
      record { op = op; span = at },
      symbol_item (prefix_symbol op) at ∷ [],
      part,
      from,
      (symbol_item (prefix_symbol op) at, refl, takes_abs_or_not op at lev),
      subst (λ p. Below (Then (Up_to levels (Sp Primary)) (λ x. Is (with_prefix (record { op = op; span = at }) x))) d (EUnary op e p) part) (sym place)
          (is_prefixed d Primary (record { op = op; span = at }) e part spells (omega (arith, lev, fits)) (omega (arith, low))),
    )
spell_factor d (EBinary op l r s) text ((spells, high), low) = let less = low_binary op in absurd (omega (arith, high, less))
spell_factor d (EInteger n s) text ((spells, high), low) = inr ((spells, omega arith), low)
spell_factor d (EName n s) text ((spells, high), low) = inr ((spells, omega arith), low)
spell_factor d (EIndex w e s) text ((spells, high), low) = inr ((spells, omega arith), low)
spell_factor d (EAttribute m w s) text ((spells, high), low) = inr ((spells, omega arith), low)
spell_factor d (EAttributeOf m w e s) text ((spells, high), low) = inr ((spells, omega arith), low)
spell_factor d (EParen e s) text ((spells, high), low) = inr ((spells, omega arith), low)

-- what a tree of a tight level does not begin with
primary_first : (e : PExpr) (text : List Item) (x : Item) → Spells e text → primary ≤ level e → prefix factor_operator (first_of x text) ≡ None
primary_first (EInteger n s) text x from high = rw from refl
primary_first (EName a s) text x from high = rw from refl
primary_first (EIndex w e s) text x (part, lead, close, spelled, from, place) high = rw from refl
primary_first (EAttribute m w s) text x (tick, from, place) high = rw from refl
primary_first (EAttributeOf m w e s) text x (part, tick, lead, close, spelled, from, place) high = rw from refl
primary_first (EParen e s) text x (part, lead, close, spelled, from, place) high = rw from refl
primary_first (EUnary op e s) text x spelled high = let less = unary_less op in absurd (omega (arith, high, less))
primary_first (EBinary op l r s) text x spelled high = let less = low_binary op in absurd (omega (arith, high, less))

no_sign : (op : UnaryOp) (at : Span) → term ≤ unary_level op → prefix sign (symbol_item (prefix_symbol op) at) ≡ None
no_sign unary.Plus at high = absurd (omega (arith, high))
no_sign unary.Minus at high = absurd (omega (arith, high))
no_sign unary.Abs at high = refl
no_sign unary.Not at high = refl

term_first : (e : PExpr) (text : List Item) (x : Item) → Spells e text → term ≤ level e → prefix sign (first_of x text) ≡ None
term_first (EInteger n s) text x from high = rw from refl
term_first (EName a s) text x from high = rw from refl
term_first (EIndex w e s) text x (part, lead, close, spelled, from, place) high = rw from refl
term_first (EAttribute m w s) text x (tick, from, place) high = rw from refl
term_first (EAttributeOf m w e s) text x (part, tick, lead, close, spelled, from, place) high = rw from refl
term_first (EParen e s) text x (part, lead, close, spelled, from, place) high = rw from refl
term_first (EUnary op e s) text x (part, at, spelled, fits, from, place) high = rw from (no_sign op at high)
term_first (EBinary op l r s) text x (front, sign, back, left, spelled, right, (fits, over), from, place) high =
    rw from (rw (first_append x front (sign ++ back)) (term_first l front (first_of x (sign ++ back)) left (let low = fits_level op l fits in omega (arith, low, high))))

-- ---- signed terms

signed_spell : (d : ℕ) (e : PExpr) (text : List Item) → Or (Prefixed sign Term) (Up_to levels (Sp Term)) d e text → Up_to levels (First Simple) d e text
signed_spell d e text (inl (p, one, back, from, (k, one_is, some), rest)) =
    let (is, lev) = plus_or_minus_is k p some in
    let (part, same, spells, high, low) = prefixed_is d Term p e back rest in
    rw same ((((back, p.span, spells, omega (arith, lev, high), from ∙ ap (λ l. l ++ back) one_is ∙ ap (λ t. t ∷ back) is, refl), omega (arith, lev)), tt), omega (arith, low))
signed_spell d e text (inr ((spells, high), low)) = (((spells, omega (arith, high)), other e high), low) where
  other : (e : PExpr) → term ≤ level e → IsOther Simple e
  other (EBinary op l r s) high = λ is. omega (arith, high, is)
  other e high = tt

above : (n : ℕ) → simple ≤ n → (n ≡ simple → ⊥) → term ≤ n
above n high other = ⊎_elim (λ less. less) (λ same. absurd (other same)) (split_le simple n high)

spell_sign : (d : ℕ) (op : UnaryOp) (e : PExpr) (s : Span) (text : List Item) → Spells (EUnary op e s) text → levels (EUnary op e s) ≤ d → unary_level op ≡ simple → Prefixed sign Term d (EUnary op e s) text
spell_sign d op e s text (part, at, spells, fits, from, place) low lev = (
  record { op = op; span = at },
  symbol_item (prefix_symbol op) at ∷ [],
  part,
  from,
  (symbol_item (prefix_symbol op) at, refl, takes_plus_or_minus op at lev),
  subst (λ p. Below (Then (Up_to levels (Sp Term)) (λ x. Is (with_prefix (record { op = op; span = at }) x))) d (EUnary op e p) part) (sym place)
      (is_prefixed d Term (record { op = op; span = at }) e part spells (omega (arith, lev, fits)) (omega (arith, low))),
)

spell_signed : (d : ℕ) (e : PExpr) (text : List Item) → Up_to levels (First Simple) d e text → Or (Prefixed sign Term) (Up_to levels (Sp Term)) d e text
spell_signed d (EUnary op e s) text (((spells, high), other), low) = ⊎_elim
    (λ less. inr ((spells, less), low))
    (λ same. inl (spell_sign d op e s text spells low same))
    (split_le simple (unary_level op) high)
spell_signed d (EBinary op l r s) text (((spells, high), other), low) = inr ((spells, above (binary_level op) high other), low)
spell_signed d (EInteger n s) text (((spells, high), other), low) = inr ((spells, omega arith), low)
spell_signed d (EName n s) text (((spells, high), other), low) = inr ((spells, omega arith), low)
spell_signed d (EIndex w e s) text (((spells, high), other), low) = inr ((spells, omega arith), low)
spell_signed d (EAttribute m w s) text (((spells, high), other), low) = inr ((spells, omega arith), low)
spell_signed d (EAttributeOf m w e s) text (((spells, high), other), low) = inr ((spells, omega arith), low)
spell_signed d (EParen e s) text (((spells, high), other), low) = inr ((spells, omega arith), low)

-- ---- first operands of chains

tighter_first : (l : Level) (e : PExpr) (text : List Item) → rank l < rank (tighter l) → Sp (tighter l) e text → First l e text
tighter_first l e text less (spells, high) = ((spells, omega (arith, less, high)), other e high) where
  other : (e : PExpr) → rank (tighter l) ≤ level e → IsOther l e
  other (EBinary op a b s) high = λ is. omega (arith, less, high, is)
  other e high = tt

-- where no sign or prefix has the level
first_tighter : (l : Level) (e : PExpr) (text : List Item) → rank (tighter l) ≤ suc (rank l) → rank l ≤ term → ((op : UnaryOp) → unary_level op ≡ rank l → ⊥) → First l e text → Sp (tighter l) e text
first_tighter l (EUnary op e s) text next low none ((spells, high), other) = (spells, ⊎_elim (λ less. omega (arith, less, next)) (λ same. absurd (none op same)) (split_le (rank l) (unary_level op) high))
first_tighter l (EBinary op a b s) text next low none ((spells, high), other) = (spells, ⊎_elim (λ less. omega (arith, less, next)) (λ same. absurd (other same)) (split_le (rank l) (binary_level op) high))
first_tighter l (EInteger n s) text next low none ((spells, high), other) = (spells, omega (arith, next, low))
first_tighter l (EName n s) text next low none ((spells, high), other) = (spells, omega (arith, next, low))
first_tighter l (EIndex w e s) text next low none ((spells, high), other) = (spells, omega (arith, next, low))
first_tighter l (EAttribute m w s) text next low none ((spells, high), other) = (spells, omega (arith, next, low))
first_tighter l (EAttributeOf m w e s) text next low none ((spells, high), other) = (spells, omega (arith, next, low))
first_tighter l (EParen e s) text next low none ((spells, high), other) = (spells, omega (arith, next, low))

unary_not : (n : ℕ) → (n ≡ simple → ⊥) → (n ≡ factor → ⊥) → (op : UnaryOp) → unary_level op ≡ n → ⊥
unary_not n one other unary.Plus same = one (sym same)
unary_not n one other unary.Minus same = one (sym same)
unary_not n one other unary.Abs same = other (sym same)
unary_not n one other unary.Not same = other (sym same)

-- ---- the levels, one on the other, where what stands deeper is lawful

module _ (d : ℕ) (i i' : reading.Inner) (inner : (e : ℕ) → d ≡ suc e → (l : Level) → Lawful e (i l) (i' l) (Up_to levels (Sp l)) (Ends l)) where
  law_factor : Lawful d (reading.factor_at d i) (reading.factor_at (suc d) i') (Up_to levels (Sp Factor)) (Ends Factor)
  law_factor = law_fit (λ e deep a text is. factor_spell e a text is) (spell_factor d)
      (law_below (λ e p. bind (i Primary) (λ part. pure (with_prefix p part))) (λ e p. bind (i' Primary) (λ part. pure (with_prefix p part)))
      (some_prefixed Primary) d (λ e is p. law_prefixed e (i Primary) (i' Primary) Primary p (inner e is Primary))
      (law_primary d i i' inner)
      (record { begins_with = λ e text x ((spells, high), low) stop. primary_first e text x spells high }))

  law_term : Lawful d (reading.term_at d i) (reading.term_at (suc d) i') (Up_to levels (Sp Term)) (Ends Term)
  law_term = law_chain (lawful_operators Term) (chains Term) d
      (law_fit (λ e deep a text (is, low). (tighter_first Term a text (omega arith) is, low))
      (λ a text (is, low). (first_tighter Term a text (omega arith) (omega arith) (unary_not term (λ e. omega (arith, e)) (λ e. omega (arith, e))) is, low)) law_factor)
      (λ e is. inner e is Factor)

  law_signed : Lawful d (reading.signed_at d i) (reading.signed_at (suc d) i') (Up_to levels (First Simple)) (Ends Term)
  law_signed = law_fit (λ e deep a text is. signed_spell e a text is) (spell_signed d)
      (law_below (λ e p. bind (i Term) (λ part. pure (with_prefix p part))) (λ e p. bind (i' Term) (λ part. pure (with_prefix p part)))
      (some_prefixed Term) d (λ e is p. law_prefixed e (i Term) (i' Term) Term p (inner e is Term))
      law_term
      (record { begins_with = λ e text x ((spells, high), low) stop. term_first e text x spells high }))

  law_simple : Lawful d (reading.simple_at d i) (reading.simple_at (suc d) i') (Up_to levels (Sp Simple)) (Ends Simple)
  law_simple = law_chain (lawful_operators Simple) (chains Simple) d law_signed (λ e is. inner e is Term)

  law_relation : Lawful d (reading.relation_at d i) (reading.relation_at (suc d) i') (Up_to levels (Sp Relation)) (Ends Relation)
  law_relation = law_chain (lawful_operators Relation) (chains Relation) d
      (law_fit (λ e deep a text (is, low). (tighter_first Relation a text (omega arith) is, low))
      (λ a text (is, low). (first_tighter Relation a text (omega arith) (omega arith) (unary_not relation (λ e. omega (arith, e)) (λ e. omega (arith, e))) is, low)) law_simple)
      (λ e is. inner e is Simple)

  law_logical : Lawful d (reading.logical_at d i) (reading.logical_at (suc d) i') (Up_to levels (Sp Logical)) (Ends Logical)
  law_logical = law_chain (lawful_operators Logical) (chains Logical) d
      (law_fit (λ e deep a text (is, low). (tighter_first Logical a text (omega arith) is, low))
      (λ a text (is, low). (first_tighter Logical a text (omega arith) (omega arith) (unary_not logical (λ e. omega (arith, e)) (λ e. omega (arith, e))) is, low)) law_relation)
      (λ e is. inner e is Relation)

  law_at : (l : Level) → Lawful d (reading.expr_at d i l) (reading.expr_at (suc d) i' l) (Up_to levels (Sp l)) (Ends l)
  law_at Logical = law_logical
  law_at Relation = law_relation
  law_at Simple = law_simple
  law_at Term = law_term
  law_at Factor = law_factor
  law_at Primary = law_primary d i i' inner

-- at every depth
pub law_expr : (d : ℕ) (l : Level) → Lawful d (reading.expr d l) (reading.expr (suc d) l) (Up_to levels (Sp l)) (Ends l)
law_expr zero l = law_at zero (reading.inner zero) (reading.inner 1) (λ e is. absurd (omega (arith, is))) l
law_expr (suc d) l = law_at (suc d) (reading.inner (suc d)) (reading.inner (suc (suc d)))
    (λ e is m. subst (λ n. Lawful n (reading.inner (suc d) m) (reading.inner (suc (suc d)) m) (Up_to levels (Sp m)) (Ends m)) (omega (arith, is)) (law_expr d m)) l
