-- Grammar levels, and when a program is well placed: when its printed text has each part where the grammar has it. These are nine conditions (this project's rule).
use Rattle.std.specs.Prelude.{◌≡◌, ◌<◌, ◌≤◌, ◌⊎◌, ℕ, Bool, true, List, [], ◌∷◌, Option, None, IsSomeAnd, slice_get}
use Rattle.ada_tree.specs.declared.expressions.UnaryOp.{UnaryOp}
use Rattle.ada_tree.specs.declared.expressions.UnaryOp.TheVariants as unary
use Rattle.ada_tree.specs.declared.expressions.BinaryOp.{BinaryOp}
use Rattle.ada_tree.specs.declared.expressions.BinaryOp.TheVariants.{And, Or, Xor, AndThen, OrElse, Equal, NotEqual, Less, LessEqual, Greater, GreaterEqual, Plus, Minus, Times, Divide, Mod, Rem}
use Rattle.ada_tree.specs.PlainExpr.{PExpr, EUnary, EBinary}
use Rattle.ada_tree.specs.PlainStmt.{PHandler, handler, PHandlers, no_handler, handler_then}
use Rattle.ada_tree.specs.PlainDecl.{PInit, PDecl, DObject, DIntIo, DTask, DTaskBody, PDecls, no_decl, decl_then}
use Rattle.ada_tree.specs.PlainProgram.{PProgram}
use Rattle.ada_tree.specs.Every.{Rules, no_rules, EveryExpr, EveryProgram}
use Rattle.ada_tree.specs.Lexical.{IsIdentifier, IsInteger, IsDuration, IsStringContent}

-- the levels of the grammar of expressions, the loosest first: logical chains, relations, sums, products, factors and primaries
abbrev pub logical : ℕ
logical = 0

-- the level of relations (4.4)
abbrev pub relation : ℕ
relation = 1

-- the level of simple expressions, which are sums and signed terms (4.4)
abbrev pub simple : ℕ
simple = 2

-- the level of terms, which are products (4.4)
abbrev pub term : ℕ
term = 3

-- the level of factors, here `abs` and `not` (4.4)
abbrev pub factor : ℕ
factor = 4

-- the level of primaries, the tightest one (4.4)
abbrev pub primary : ℕ
primary = 5

-- the grammar level of an expression with that binary operator outermost (4.4, 4.5)
abbrev pub binary_level : BinaryOp → ℕ
binary_level And = logical
binary_level Or = logical
binary_level Xor = logical
binary_level AndThen = logical
binary_level OrElse = logical
binary_level Equal = relation
binary_level NotEqual = relation
binary_level Less = relation
binary_level LessEqual = relation
binary_level Greater = relation
binary_level GreaterEqual = relation
binary_level Plus = simple
binary_level Minus = simple
binary_level Times = term
binary_level Divide = term
binary_level Mod = term
binary_level Rem = term

-- the grammar level of an expression with that unary operator outermost (4.4, 4.5)
abbrev pub unary_level : UnaryOp → ℕ
unary_level unary.Plus = simple
unary_level unary.Minus = simple
unary_level unary.Abs = factor
unary_level unary.Not = factor

-- the level of an expression
abbrev pub level : PExpr → ℕ
level (EUnary op e s) = unary_level op
level (EBinary op l r s) = binary_level op
level _ = primary

-- an expression at whose end a further operator may stand, since it is a chain to which that operator belongs: sums go on with either sign, products with any of their operators, a logical chain with its own operator alone, and a relation with none
abbrev pub GoesOn : BinaryOp → PExpr → Type 0
GoesOn Plus e = level e ≡ simple
GoesOn Minus e = level e ≡ simple
GoesOn Times e = level e ≡ term
GoesOn Divide e = level e ≡ term
GoesOn Mod e = level e ≡ term
GoesOn Rem e = level e ≡ term
GoesOn op (EBinary oq l r s) = (oq ≡ op) × (binary_level op ≡ logical)
GoesOn op _ = ⊥

-- the operands of an operator are of a tighter level, the left one may be a chain that goes on
abbrev pub BinaryFits : BinaryOp → PExpr → PExpr → Type 0
BinaryFits op l r = ((binary_level op < level l) ⊎ GoesOn op l) × (binary_level op < level r)

-- a sign stands before a term, and `abs` and `not` before a primary
abbrev pub UnaryFits : UnaryOp → PExpr → Type 0
UnaryFits op e = unary_level op < level e

-- a handler for all other exceptions is the last one
abbrev pub LastIfOthers : PHandler → PHandlers → Type 0
LastIfOthers (handler [] l s) (handler_then y k) = ⊥
LastIfOthers _ _ = Unit {0}

-- of some handlers, only the last may be one for all other exceptions (11.2)
abbrev pub OthersLast : PHandlers → Type 0
OthersLast no_handler = Unit {0}
OthersLast (handler_then x k) = LastIfOthers x k × OthersLast k

-- the places of a task's pragmas go up from the first, and none is behind the last of its entries
abbrev pub GoUp : ℕ → ℕ → List ℕ → Type 0
GoUp first entries [] = Unit {0}
GoUp first entries (place ∷ places) = (first ≤ place) × (place ≤ entries) × GoUp place entries places

-- a constant has a value (3.2.1)
abbrev pub IsGiven : Bool → Option PInit → Type 0
IsGiven true None = ⊥
IsGiven _ _ = Unit {0}

-- only objects are declared in a task body (this project's rule)
abbrev pub AreObjects : PDecls → Type 0
AreObjects no_decl = Unit {0}
AreObjects (decl_then (DObject ws c x i s) l) = AreObjects l
AreObjects (decl_then _ l) = ⊥

-- a declaration that may stand behind a body: a body, a task, or an instance of INTEGER_IO (3.9)
abbrev pub IsLater : PDecl → Type 0
IsLater (DTaskBody w ds b s) = Unit {0}
IsLater (DTask t s) = Unit {0}
IsLater (DIntIo w s) = Unit {0}
IsLater _ = ⊥

-- all these declarations may stand after a body (3.9)
abbrev pub AreLater : PDecls → Type 0
AreLater no_decl = Unit {0}
AreLater (decl_then x l) = IsLater x × AreLater l

-- behind the first body only such declarations stand (3.9)
abbrev pub BodiesLast : PDecls → Type 0
BodiesLast no_decl = Unit {0}
BodiesLast (decl_then (DTaskBody w ds b s) l) = AreLater l
BodiesLast (decl_then _ l) = BodiesLast l

-- the nine conditions, in a program with these names
abbrev pub well_placed : List (List ℕ) → Rules
well_placed names = record {
  -- each operand of a looser level stands in parentheses
  unary = UnaryFits;
  binary = BinaryFits;
  bounds = λ first last. (simple ≤ level first) × (simple ≤ level last);
  -- each list has at least as many parts as the grammar asks
  parts = λ asked has. asked ≤ has;
  -- a handler `others` is the last
  handlers = OthersLast;
  -- each pragma of a task stands at a place among its entries, in the order in which it is printed
  pragmas = GoUp 0;
  -- each constant has a value
  object = IsGiven;
  -- a task body declares objects alone, and behind a body no other declarations stand
  inner = AreObjects;
  outer = BodiesLast;
  -- each name, number and string is one that the source can hold
  name = λ id. IsSomeAnd (slice_get names id.0) IsIdentifier;
  integer = IsInteger;
  duration = IsDuration;
  words = IsStringContent;
  -- no part stands deeper than 300
  nested = λ k. k ≤ 300;
}

-- the program is well placed
abbrev pub IsWellPlaced : PProgram → Type 0
IsWellPlaced p = EveryProgram (well_placed p.names) p

-- each name, number and string is one that the source can hold, and nothing else is asked
abbrev pub tokens : List (List ℕ) → Rules
tokens names = record no_rules {
  name = λ id. IsSomeAnd (slice_get names id.0) IsIdentifier;
  integer = IsInteger;
  duration = IsDuration;
  words = IsStringContent;
}

-- each name, number and string of the program is one that the source can hold
abbrev pub HasTokens : PProgram → Type 0
HasTokens p = EveryProgram (tokens p.names) p

-- each integer literal of an expression is one that the source can hold
abbrev pub HasIntegers : PExpr → Type 0
HasIntegers e = EveryExpr (record no_rules { integer = IsInteger }) 0 e
