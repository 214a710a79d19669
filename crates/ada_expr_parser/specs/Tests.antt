-- Tests of the next item, and the operators of each level.
use Rattle.std.specs.Prelude.{ℕ, Bool, true, false, not, ◌||◌, Option, Some, None, is_some, if◌then◌else◌}
use denote.Enum.Bare.{sameb}
use Rattle.ada_lexer.specs.contracts.symbols.Symbol as symbol_type
use Rattle.ada_tree.specs.contracts.expressions.BinaryOp as operator_type
use Rattle.ada_tree.specs.declared.naming.Span.{Span}
use Rattle.ada_tree.specs.declared.naming.Word.{Word}
use Rattle.ada_tree.specs.declared.expressions.UnaryOp.{UnaryOp}
use Rattle.ada_tree.specs.declared.expressions.UnaryOp.TheVariants as unary
use Rattle.ada_tree.specs.declared.expressions.BinaryOp.{BinaryOp}
use Rattle.ada_tree.specs.declared.expressions.BinaryOp.TheVariants.{And, Or, Xor, AndThen, OrElse, Equal, NotEqual, Less, LessEqual, Greater, GreaterEqual, Plus, Minus, Times, Divide, Mod, Rem}
use Rattle.ada_lexer.specs.declared.symbols.Symbol.{Symbol}
use Rattle.ada_lexer.specs.declared.symbols.Symbol.TheVariants as key
use Rattle.ada_expr_parser.specs.declared.items.ItemKind.{ItemKind}
use Rattle.ada_expr_parser.specs.declared.items.ItemKind.TheVariants as item
use Rattle.ada_expr_parser.specs.declared.items.Item.{Item}
use Rattle.ada_expr_parser.specs.declared.levels.Level.{Level}
use Rattle.ada_expr_parser.specs.declared.levels.Level.TheVariants.{Logical, Relation, Simple, Term, Factor, Primary}

-- `==` on symbols, and on operators
unfoldable pub same : Symbol → Symbol → Bool
same = sameb symbol_type.the_type

unfoldable pub same_operator : BinaryOp → BinaryOp → Bool
same_operator = sameb operator_type.the_type

-- the place of an item that is this symbol
abbrev pub symbol_in : Symbol → ItemKind → Span → Option Span
symbol_in s (item.Symbol t) at = if same t s then Some at else None
symbol_in s _ at = None

abbrev pub symbol : Symbol → Item → Option Span
symbol s x = symbol_in s x.kind x.span

-- the identifier that an item is
abbrev pub word_in : ItemKind → Span → Option Word
word_in (item.Name id) at = Some record { name = id; span = at }
word_in _ at = None

abbrev pub word : Item → Option Word
word x = word_in x.kind x.span

-- an integer literal: its value, and its place
pub record Number : Type 0 where
  pub value : ℕ
  pub span : Span

abbrev pub number_in : ItemKind → Span → Option Number
number_in (item.Integer value) at = Some record { value = value; span = at }
number_in _ at = None

abbrev pub number : Item → Option Number
number x = number_in x.kind x.span

-- an operator with one operand, and its place
pub record Prefix : Type 0 where
  pub op : UnaryOp
  pub span : Span

-- the operator that a symbol is before a primary (4.5.6)
abbrev pub factor_operator : Symbol → Option UnaryOp
factor_operator key.Abs = Some unary.Abs
factor_operator key.Not = Some unary.Not
factor_operator _ = None

-- the sign that a symbol is before a term (4.5.4)
abbrev pub sign : Symbol → Option UnaryOp
sign key.Plus = Some unary.Plus
sign key.Minus = Some unary.Minus
sign _ = None

abbrev pub unary_in : (Symbol → Option UnaryOp) → ItemKind → Option UnaryOp
unary_in which (item.Symbol s) = which s
unary_in which _ = None

abbrev pub with_place : Option UnaryOp → Span → Option Prefix
with_place (Some op) at = Some record { op = op; span = at }
with_place None at = None

-- the operator of those that an item is
abbrev pub prefix : (Symbol → Option UnaryOp) → Item → Option Prefix
prefix which x = with_place (unary_in which x.kind) x.span

-- the operator between operands that a symbol is at a level, or that it begins: `and` and `or` begin the short-circuit forms (4.5)
abbrev pub logical_operator : Symbol → Option BinaryOp
logical_operator key.And = Some And
logical_operator key.Or = Some Or
logical_operator key.Xor = Some Xor
logical_operator _ = None

abbrev pub relational_operator : Symbol → Option BinaryOp
relational_operator key.Equal = Some Equal
relational_operator key.NotEqual = Some NotEqual
relational_operator key.Less = Some Less
relational_operator key.LessEqual = Some LessEqual
relational_operator key.Greater = Some Greater
relational_operator key.GreaterEqual = Some GreaterEqual
relational_operator _ = None

abbrev pub adding_operator : Symbol → Option BinaryOp
adding_operator key.Plus = Some Plus
adding_operator key.Minus = Some Minus
adding_operator _ = None

abbrev pub multiplying_operator : Symbol → Option BinaryOp
multiplying_operator key.Star = Some Times
multiplying_operator key.Slash = Some Divide
multiplying_operator key.Mod = Some Mod
multiplying_operator key.Rem = Some Rem
multiplying_operator _ = None

abbrev pub operator_at : Level → Symbol → Option BinaryOp
operator_at Logical s = logical_operator s
operator_at Relation s = relational_operator s
operator_at Simple s = adding_operator s
operator_at Term s = multiplying_operator s
operator_at Factor s = None
operator_at Primary s = None

-- whether a tree with this operator, or with none, goes on with a logical operator that begins so: a chain of `and` or `and then` only with `and`, of `or` or `or else` only with `or`, of `xor` only with `xor` (4.4)
abbrev pub goes_on_with : Option BinaryOp → BinaryOp → Bool
goes_on_with (Some And) op = same_operator op And
goes_on_with (Some AndThen) op = same_operator op And
goes_on_with (Some Or) op = same_operator op Or
goes_on_with (Some OrElse) op = same_operator op Or
goes_on_with (Some Xor) op = same_operator op Xor
goes_on_with _ op = true

-- a relation is an operand of no other
abbrev pub is_relation : Option BinaryOp → Bool
is_relation (Some Equal) = true
is_relation (Some NotEqual) = true
is_relation (Some Less) = true
is_relation (Some LessEqual) = true
is_relation (Some Greater) = true
is_relation (Some GreaterEqual) = true
is_relation _ = false

abbrev pub may_follow : Level → Option BinaryOp → BinaryOp → Bool
may_follow Logical last op = goes_on_with last op
may_follow Relation last op = not (is_relation last)
may_follow _ last op = true

abbrev pub if_follows : Level → Option BinaryOp → Option BinaryOp → Option BinaryOp
if_follows level last (Some op) = if may_follow level last op then Some op else None
if_follows level last None = None

-- the operator of a level that an item is, or begins, where it may stand behind a tree with this operator or none
abbrev pub operator_in : Level → Option BinaryOp → ItemKind → Option BinaryOp
operator_in level last (item.Symbol s) = if_follows level last (operator_at level s)
operator_in level last _ = None

-- the level of the operands behind the operators of a level
abbrev pub tighter : Level → Level
tighter Logical = Relation
tighter Relation = Simple
tighter Simple = Term
tighter Term = Factor
tighter Factor = Primary
tighter Primary = Primary

-- the item may begin an expression
abbrev pub begins_in : ItemKind → Span → Bool
begins_in (item.Integer value) at = true
begins_in (item.Name id) at = true
begins_in (item.Symbol s) at =
    is_some (symbol_in key.LeftParen (item.Symbol s) at) || is_some (unary_in factor_operator (item.Symbol s)) || is_some (unary_in sign (item.Symbol s))
begins_in _ at = false

abbrev pub begins_expr : Item → Bool
begins_expr x = begins_in x.kind x.span
