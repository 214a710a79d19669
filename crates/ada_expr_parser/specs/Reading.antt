-- How expressions are read: from left to right, by the next item. The depth is how many levels may stand below the root, and inner reads one level deeper.
use Rattle.std.specs.Prelude.{ℕ, zero, suc, Bool, false, Option, Some, None, is_some, if◌then◌else◌}
use Rattle.ada_expr_parser.specs.readers.Readers.{Reader, pure, refuse, bind, on, token, below, Operators, chain, chain_in}
use Rattle.ada_tree.specs.declared.naming.Span.{Span}
use Rattle.ada_tree.specs.declared.naming.Word.{Word}
use Rattle.ada_tree.specs.declared.expressions.BinaryOp.{BinaryOp}
use Rattle.ada_tree.specs.declared.expressions.BinaryOp.TheVariants.{And, Or, AndThen, OrElse}
use Rattle.ada_tree.specs.PlainExpr.{PExpr, EInteger, EName}
use Rattle.ada_lexer.specs.declared.symbols.Symbol.{Symbol}
use Rattle.ada_lexer.specs.declared.symbols.Symbol.TheVariants as key
use Rattle.ada_expr_parser.specs.declared.items.Item.{Item}
use Rattle.ada_expr_parser.specs.declared.levels.Level.{Level}
use Rattle.ada_expr_parser.specs.declared.levels.Level.TheVariants.{Logical, Relation, Simple, Term, Factor, Primary}
use Rattle.ada_expr_parser.specs.Tests.{same_operator, symbol, word, number, prefix, factor_operator, sign, operator_in}
use Rattle.ada_expr_parser.specs.Trees.{levels, last_operator, indexed, attribute, attribute_of, in_parens, with_prefix, joined}

-- an operator of one word, where it may have no second
abbrev pub plain_unless : Bool → BinaryOp → Reader Item BinaryOp
plain_unless was_short plain ts = if was_short then refuse ts else pure plain ts

-- the other word of a short-circuit form must stand, may stand or must not stand, by the operator of the chain so far (4.5.1)
abbrev pub short_form : Symbol → BinaryOp → BinaryOp → Bool → Bool → Reader Item BinaryOp
short_form second plain short was_plain was_short ts =
    if was_plain then pure plain ts else on (symbol second) (λ _. pure short) (plain_unless was_short plain) ts

abbrev pub is_last : BinaryOp → Option BinaryOp → Bool
is_last op (Some last) = same_operator last op
is_last op None = false

-- the rest of an operator that begins so, behind a tree with this operator or none
abbrev pub operator_rest : Option BinaryOp → BinaryOp → Reader Item BinaryOp
operator_rest last And = short_form key.Then And AndThen (is_last And last) (is_last AndThen last)
operator_rest last Or = short_form key.Else Or OrElse (is_last Or last) (is_last OrElse last)
operator_rest last op = pure op

-- the operators of a level: the next item goes on where it begins one of them that may stand behind the tree
abbrev pub operators : Level → Operators Item PExpr BinaryOp
operators level = record {
  join = joined;
  height = levels;
  goes_on = λ left x. is_some (operator_in level (last_operator left) x.kind);
  operator = λ left. on (λ x. operator_in level (last_operator left) x.kind) (operator_rest (last_operator left)) refuse;
}

-- behind the first word of an operator: its rest, an operand, and the chain goes on
abbrev pub behind_operator : Level → ℕ → Reader Item PExpr → ℕ → PExpr → Option BinaryOp → BinaryOp → Reader Item PExpr
behind_operator level d operand turns left last op =
    bind (operator_rest last op) (λ o. bind operand (λ right. chain_in (operators level) d operand turns (joined left o right)))

-- what reads one level deeper, by the level of the grammar
abbrev pub Inner : Type 0
Inner = Level → Reader Item PExpr

-- the closing parenthesis that must stand here
abbrev pub closed : (Span → PExpr) → Reader Item PExpr
closed tree = bind (token (symbol key.RightParen)) (λ close. pure (tree close))

-- behind the word of an attribute: an argument, or nothing (4.1.4)
abbrev pub attribute_rest : ℕ → Inner → Word → Word → Reader Item PExpr
attribute_rest d inner mark w =
    below d (symbol key.LeftParen) (λ e lead. bind (inner Logical) (λ arg. closed (attribute_of mark w arg))) (pure (attribute mark w))

-- behind an identifier: an index, an attribute, or nothing (4.1.1, 4.1.4)
abbrev pub name_rest : ℕ → Inner → Word → Reader Item PExpr
name_rest d inner name =
    below d (symbol key.LeftParen) (λ e lead. bind (inner Logical) (λ arg. closed (indexed name arg)))
    (on (symbol key.Tick) (λ tick. bind (token word) (attribute_rest d inner name)) (pure (EName name.name name.span)))

-- an expression in parentheses (4.4)
abbrev pub parens_or : ℕ → Inner → Reader Item PExpr → Reader Item PExpr
parens_or d inner other = below d (symbol key.LeftParen) (λ e lead. bind (inner Logical) (λ part. closed (in_parens lead part))) other

abbrev pub parens_at : ℕ → Inner → Reader Item PExpr
parens_at d inner = parens_or d inner refuse

-- an expression in parentheses, an integer, or what begins with an identifier (4.4)
abbrev pub primary_at : ℕ → Inner → Reader Item PExpr
primary_at d inner = parens_or d inner (on number (λ n. pure (EInteger n.value n.span)) (on word (name_rest d inner) refuse))

-- a primary, or one behind abs or not (4.4)
abbrev pub factor_at : ℕ → Inner → Reader Item PExpr
factor_at d inner =
    below d (prefix factor_operator) (λ e op. bind (inner Primary) (λ part. pure (with_prefix op part))) (primary_at d inner)

-- factors, nested to the left (4.4)
abbrev pub term_at : ℕ → Inner → Reader Item PExpr
term_at d inner = chain (operators Term) d (factor_at d inner) (inner Factor)

-- a term, or one behind a sign (4.4)
abbrev pub signed_at : ℕ → Inner → Reader Item PExpr
signed_at d inner =
    below d (prefix sign) (λ e op. bind (inner Term) (λ part. pure (with_prefix op part))) (term_at d inner)

-- terms, nested to the left, the first with a sign or without (4.4)
abbrev pub simple_at : ℕ → Inner → Reader Item PExpr
simple_at d inner = chain (operators Simple) d (signed_at d inner) (inner Term)

-- a simple expression, or two that are compared (4.4)
abbrev pub relation_at : ℕ → Inner → Reader Item PExpr
relation_at d inner = chain (operators Relation) d (simple_at d inner) (inner Simple)

-- relations, nested to the left, all joined by one operator (4.4)
abbrev pub logical_at : ℕ → Inner → Reader Item PExpr
logical_at d inner = chain (operators Logical) d (relation_at d inner) (inner Relation)

abbrev pub expr_at : ℕ → Inner → Inner
expr_at d inner Logical = logical_at d inner
expr_at d inner Relation = relation_at d inner
expr_at d inner Simple = simple_at d inner
expr_at d inner Term = term_at d inner
expr_at d inner Factor = factor_at d inner
expr_at d inner Primary = primary_at d inner

-- what reads one level deeper than the depth; below 0 there is nothing
abbrev pub inner : ℕ → Inner
inner zero level = refuse
inner (suc d) level = expr_at d (inner d) level

-- an expression of a level of the grammar, at a depth
abbrev pub expr : ℕ → Level → Reader Item PExpr
expr d level = expr_at d (inner d) level
