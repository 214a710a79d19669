-- The chains of each level of the grammar, and what the law of chains asks of their operators.
use Rattle.std.proofs.Common.{◌≡◌, ℕ, ◌≤◌, ◌<◌, true, ◌⊎◌, inl, inr, ⊎_elim, List, [], ◌∷◌, ◌++◌, Option, Some, None, refl, sym, ap, ◌∙◌, subst, arith}
use Rattle.std.specs.Prelude.{if◌then◌else◌, is_some}
use Rattle.ada_tree.specs.declared.naming.Span.{Span}
use Rattle.ada_tree.specs.declared.naming.Word.{Word}
use Rattle.ada_tree.specs.declared.expressions.UnaryOp.{UnaryOp}
use Rattle.ada_tree.specs.declared.expressions.UnaryOp.TheVariants as unary
use Rattle.ada_tree.specs.declared.expressions.BinaryOp.{BinaryOp}
use Rattle.ada_tree.specs.declared.expressions.BinaryOp.TheVariants.{And, Or, Xor, AndThen, OrElse, Equal, NotEqual, Less, LessEqual, Greater, GreaterEqual, Plus, Minus, Times, Divide, Mod, Rem}
use Rattle.ada_tree.specs.PlainExpr.{PExpr, EInteger, EName, EIndex, EAttribute, EAttributeOf, EParen, EUnary, EBinary}
use Rattle.ada_tree.specs.WellPlaced.{level, primary, binary_level, unary_level, BinaryFits}
use Rattle.ada_lexer.specs.declared.symbols.Symbol.TheVariants as key
use Rattle.ada_expr_parser.specs.declared.items.ItemKind.{ItemKind}
use Rattle.ada_expr_parser.specs.declared.items.ItemKind.TheVariants as item
use Rattle.ada_expr_parser.specs.declared.items.Item.{Item}
use Rattle.ada_expr_parser.specs.declared.levels.Level.{Level}
use Rattle.ada_expr_parser.specs.declared.levels.Level.TheVariants.{Logical, Relation, Simple, Term, Factor, Primary}
use Rattle.ada_expr_parser.specs.Tests.{same, operator_in, operator_at, if_follows, may_follow, tighter}
use Rattle.ada_expr_parser.specs.Trees.{last_operator, span_of, from_to, joined}
use Rattle.ada_expr_parser.specs.Reading.{operators}
use Rattle.ada_expr_parser.specs.Grammar.{symbol_item, word_item, number_item, prefix_symbol, infix_symbol, SpellsOperator, Spells, rank}
use Rattle.ada_expr_parser.specs.readers.Grammars.{Joined, AreChains, first_of}
use Rattle.ada_expr_parser.specs.readers.Lawful.{LawfulOperators}
use Rattle.ada_expr_parser.proofs.readers.Fitting.{first_append}
use Rattle.ada_parser.specs.expression_laws.Stopping.{Ends}
use Rattle.ada_parser.proofs.expression_laws.Tokens.{none_is}
use Rattle.ada_parser.proofs.expression_laws.Behind.{split_le, fits_follows, follows_fits, fits_level}
use Rattle.ada_parser.proofs.expression_laws.Operators.{OperatorAt, IsNoSecond, test_in, takes_in, operator_from, reads_operator, begins_operator, low_binary}
use Rattle.common_lemmas.proofs.Options.{some_there}

-- the texts of a level of the grammar
abbrev pub Sp : Level → PExpr → List Item → Type 0
Sp l e text = Spells e text × (rank l ≤ level e)

-- those that are no chain of that very level
abbrev pub IsOther : Level → PExpr → Type 0
IsOther l (EBinary op a b s) = binary_level op ≡ rank l → ⊥
IsOther l e = Unit {0}

abbrev pub First : Level → PExpr → List Item → Type 0
First l e text = Sp l e text × IsOther l e

pub tighter_rank : (l : Level) (n : ℕ) → rank l < n → n ≤ primary → rank (tighter l) ≤ n
tighter_rank Logical n low high = omega (arith, low)
tighter_rank Relation n low high = omega (arith, low)
tighter_rank Simple n low high = omega (arith, low)
tighter_rank Term n low high = omega (arith, low)
tighter_rank Factor n low high = omega (arith, low)
tighter_rank Primary n low high = omega (arith, low, high)

rank_low : (l : Level) → rank l ≤ primary
rank_low Logical = omega arith
rank_low l = omega arith

unary_low : (op : UnaryOp) → unary_level op ≤ primary
unary_low unary.Plus = omega arith
unary_low op = omega arith

pub level_low : (e : PExpr) → level e ≤ primary
level_low (EBinary op a b s) = let low = low_binary op in omega (arith, low)
level_low (EUnary op a s) = unary_low op
level_low e = omega arith

pub over_rank : (l : Level) (op : BinaryOp) (n : ℕ) → binary_level op ≡ rank l → rank (tighter l) ≤ n → binary_level op < n
over_rank Logical op n same low = omega (arith, same, low)
over_rank Relation op n same low = omega (arith, same, low)
over_rank Simple op n same low = omega (arith, same, low)
over_rank Term op n same low = omega (arith, same, low)
over_rank Factor op n same low = let high = low_binary op in absurd (omega (arith, same, high))
over_rank Primary op n same low = let high = low_binary op in absurd (omega (arith, same, high))

-- ---- an operator with its operands, where T holds of the first one

-- an operator with its operands
abbrev pub Added : (PExpr → List Item → Type 0) → BinaryOp → PExpr → PExpr → Span → List Item → Type 0
Added T op a b s text =
    (front : List Item) × (sign : List Item) × (back : List Item) × T a front × SpellsOperator op sign × Spells b back × BinaryFits op a b
    × (text ≡ front ++ (sign ++ back)) × (s ≡ from_to (span_of a) (span_of b))

-- of trees of a level or a tighter one
abbrev pub OnLevel : (PExpr → List Item → Type 0) → Level → PExpr → List Item → Type 0
OnLevel T l e text = T e text × (rank l ≤ level e)

-- its operator is of that very level, and it is a chain, or it is of a tighter one
pub chain_opened : (T : PExpr → List Item → Type 0) (l : Level) (op : BinaryOp) (a b : PExpr) (s : Span) (text : List Item) → Added T op a b s text → rank l ≤ binary_level op
    → ((Added T op a b s text × (rank l ≤ binary_level op)) × (binary_level op ≡ rank l → ⊥)) ⊎ Joined joined (OperatorAt l) (OnLevel T l) (Sp (tighter l)) (EBinary op a b s) text
chain_opened T l op a b s text (front, sign, back, left, spelled, right, (fits, over), from, place) high = ⊎_elim
    (λ less. inl (((front, sign, back, left, spelled, right, (fits, over), from, place), high), λ same. omega (arith, less, same)))
    (λ same. inr (record {
      left = a;
      o = op;
      right = b;
      front = front;
      sign = sign;
      back = back;
      tree_is = ap (EBinary op a b) place;
      text_is = from;
      left_is = (left, let low = fits_level op a fits in omega (arith, low, same));
      sign_is = (spelled, same, fits_follows op a fits);
      right_is = (right, tighter_rank l (level b) (omega (arith, over, same)) (level_low b));
    }))
    (split_le (rank l) (binary_level op) high)

-- a chain is such an operator with its operands
pub chain_closed : (T : PExpr → List Item → Type 0) (l : Level) (e : PExpr) (text : List Item)
    → ((op : BinaryOp) (a b : PExpr) (s : Span) (text : List Item) → Added T op a b s text → T (EBinary op a b s) text)
    → Joined joined (OperatorAt l) (OnLevel T l) (Sp (tighter l)) e text → OnLevel T l e text
chain_closed T l e text makes more =
    let (spelled, same, follows) = more.sign_is in
    subst (λ t. OnLevel T l t text) (sym more.tree_is) (
      makes more.o more.left more.right (from_to (span_of more.left) (span_of more.right)) text (
        more.front,
        more.sign,
        more.back,
        more.left_is.0,
        spelled,
        more.right_is.0,
        (follows_fits more.o more.left (let low = more.left_is.1 in omega (arith, low, same)) follows, over_rank l more.o (level more.right) same more.right_is.1),
        more.text_is,
        refl,
      ),
      omega (arith, same),
    )

opened : (l : Level) (e : PExpr) (text : List Item) → Sp l e text → First l e text ⊎ Joined joined (OperatorAt l) (Sp l) (Sp (tighter l)) e text
opened l (EBinary op a b s) text (spells, high) = chain_opened Spells l op a b s text spells high
opened l e text spells = inl (spells, tt)

closed : (l : Level) (e : PExpr) (text : List Item) → First l e text ⊎ Joined joined (OperatorAt l) (Sp l) (Sp (tighter l)) e text → Sp l e text
closed l e text (inl (spells, other)) = spells
closed l e text (inr more) = chain_closed Spells l e text (λ op a b s t added. added) more

pub chains : (l : Level) → AreChains joined (OperatorAt l) (First l) (Sp (tighter l)) (Sp l)
chains l = record { opens = opened l; closes = closed l }

-- the first item of an expression is a name, a number, a parenthesis or an operator with one operand
module _ (R : Item → Type 0) (at_word : (w : Word) → R (word_item w)) (at_number : (n : ℕ) (s : Span) → R (number_item n s))
    (at_paren : (s : Span) → R (symbol_item key.LeftParen s)) (at_prefix : (op : UnaryOp) (s : Span) → R (symbol_item (prefix_symbol op) s)) where
  pub spells_first : (e : PExpr) (text : List Item) (x : Item) → Spells e text → R (first_of x text)
  spells_first (EInteger n s) text x from = rw from (at_number n s)
  spells_first (EName a s) text x from = rw from (at_word (record { name = a; span = s }))
  spells_first (EIndex w e s) text x (part, lead, close, spelled, from, place) = rw from (at_word w)
  spells_first (EAttribute m w s) text x (tick, from, place) = rw from (at_word m)
  spells_first (EAttributeOf m w e s) text x (part, tick, lead, close, spelled, from, place) = rw from (at_word m)
  spells_first (EParen e s) text x (part, lead, close, spelled, from, place) = rw from (at_paren lead)
  spells_first (EUnary op e s) text x (part, at, spelled, fits, from, place) = rw from (at_prefix op at)
  spells_first (EBinary op l r s) text x (front, sign, back, left, spelled, right, fits, from, place) =
      rw from (rw (first_append x front (sign ++ back)) (spells_first l front (first_of x (sign ++ back)) left))

-- an expression does not begin with the second word of an operator
prefix_no_second : (op : UnaryOp) (s : Span) → IsNoSecond (symbol_item (prefix_symbol op) s)
unfolding same
prefix_no_second unary.Plus s = (refl, refl)
prefix_no_second unary.Minus s = (refl, refl)
prefix_no_second unary.Abs s = (refl, refl)
prefix_no_second unary.Not s = (refl, refl)

no_second : (e : PExpr) (text : List Item) (x : Item) → Spells e text → IsNoSecond (first_of x text)
unfolding same
no_second e text x spelled = spells_first IsNoSecond (λ w. (refl, refl)) (λ n s. (refl, refl)) (λ s. (refl, refl)) prefix_no_second e text x spelled

-- an operator of a level ends what is tighter
operator_ends : (l : Level) (op : BinaryOp) (at : Span) → binary_level op ≡ rank l → Ends (tighter l) (symbol_item (infix_symbol op) at)
unfolding same
operator_ends Logical And at is = ((((refl, refl), refl), refl), refl)
operator_ends Logical Or at is = ((((refl, refl), refl), refl), refl)
operator_ends Logical Xor at is = ((((refl, refl), refl), refl), refl)
operator_ends Logical AndThen at is = ((((refl, refl), refl), refl), refl)
operator_ends Logical OrElse at is = ((((refl, refl), refl), refl), refl)
operator_ends Logical op at is = absurd (omega (arith, is))
operator_ends Relation Equal at is = (((refl, refl), refl), refl)
operator_ends Relation NotEqual at is = (((refl, refl), refl), refl)
operator_ends Relation Less at is = (((refl, refl), refl), refl)
operator_ends Relation LessEqual at is = (((refl, refl), refl), refl)
operator_ends Relation Greater at is = (((refl, refl), refl), refl)
operator_ends Relation GreaterEqual at is = (((refl, refl), refl), refl)
operator_ends Relation op at is = absurd (omega (arith, is))
operator_ends Simple Plus at is = ((refl, refl), refl)
operator_ends Simple Minus at is = ((refl, refl), refl)
operator_ends Simple op at is = absurd (omega (arith, is))
operator_ends Term Times at is = (refl, refl)
operator_ends Term Divide at is = (refl, refl)
operator_ends Term Mod at is = (refl, refl)
operator_ends Term Rem at is = (refl, refl)
operator_ends Term op at is = absurd (omega (arith, is))
operator_ends Factor op at is = let low = low_binary op in absurd (omega (arith, is, low))
operator_ends Primary op at is = let low = low_binary op in absurd (omega (arith, is, low))

goes_ends : (l : Level) (left : PExpr) (k : Item) → is_some (test_in l left k) ≡ true → Ends (tighter l) k
goes_ends l left k goes =
    let (b, some) = some_there (test_in l left k) goes in
    let (kind, lev, plain, may) = operator_from l (last_operator left) k.kind b some in
    subst (Ends (tighter l)) (ap (λ t. record { kind = t; span = k.span }) (sym kind)) (operator_ends l b k.span lev)

ends_tighter : (l : Level) (x : Item) → Ends l x → Ends (tighter l) x
ends_tighter Logical x is = is.0
ends_tighter Relation x is = is.0
ends_tighter Simple x is = is.0
ends_tighter Term x is = is.0
ends_tighter Factor x is = is
ends_tighter Primary x is = is

-- at an end no operator goes on, whatever the tree
free_may : (l : Level) (op : BinaryOp) → may_follow l None op ≡ true
free_may Logical op = refl
free_may Relation op = refl
free_may l op = refl

none_follows : (l : Level) (last m : Option BinaryOp) → if_follows l None m ≡ None → if_follows l last m ≡ None
none_follows l last (Some op) e = absurd (none_is (sym e ∙ ap (λ b. if b then Some op else None) (free_may l op)))
none_follows l last None e = refl

none_in : (l : Level) (last : Option BinaryOp) (kind : ItemKind) → operator_in l None kind ≡ None → operator_in l last kind ≡ None
none_in l last (item.Symbol s) e = none_follows l last (operator_at l s) e
none_in l last (item.Name n) e = refl
none_in l last (item.Integer n) e = refl
none_in l last (item.Duration n) e = refl
none_in l last item.Text e = refl
none_in l last item.End e = refl

no_operator : (l : Level) (x : Item) → Ends l x → operator_in l None x.kind ≡ None
no_operator Logical x is = is.1
no_operator Relation x is = is.1
no_operator Simple x is = is.1
no_operator Term x is = is.1
no_operator Factor x is = no_factor x.kind where
  no_factor : (kind : ItemKind) → operator_in Factor None kind ≡ None
  no_factor (item.Symbol s) = refl
  no_factor kind = refl
no_operator Primary x is = no_primary x.kind where
  no_primary : (kind : ItemKind) → operator_in Primary None kind ≡ None
  no_primary (item.Symbol s) = refl
  no_primary kind = refl

goes_so : (l : Level) (left : PExpr) (o : BinaryOp) (text : List Item) (x : Item) → OperatorAt l left o text → is_some (test_in l left (first_of x text)) ≡ true
goes_so l left o text x ((at, back, spelled, from), lev, follows) = rw from (ap is_some (takes_in l o left at lev follows))

no_place : Span
no_place = record { start = 0; end = 0 }

pub lawful_operators : (l : Level) → LawfulOperators (operators l) (OperatorAt l) (Sp (tighter l)) IsNoSecond (Ends (tighter l)) (Ends l)
lawful_operators l = record {
  joined = λ left o right. omega arith;
  reads = λ d left. reads_operator l d left;
  begins_so = goes_so l;
  some_operator = λ left k goes. let (b, some) = some_there (test_in l left k) goes in begins_operator l left k b some;
  some_operand = (EInteger 0 no_place, number_item 0 no_place ∷ [], (refl, rank_low (tighter l)), refl);
  before_operand = λ right text x spells stop. no_second right text x spells.0;
  before_operator = goes_ends l;
  at_end = ends_tighter l;
  ends = λ left x stop. ap is_some (none_in l (last_operator left) x.kind (no_operator l x stop));
}
