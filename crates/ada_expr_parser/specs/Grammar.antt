-- The grammar: which items spell which tree (ANSI/MIL-STD-1815A chapters 3, 4, 5 and 9). Nothing here reads.
use Rattle.std.specs.Prelude.{◌≡◌, ℕ, ◌+◌, ◌≤◌, List, [], ◌∷◌, ◌++◌, Option, Some, None}
use Rattle.ada_tree.specs.declared.naming.Span.{Span}
use Rattle.ada_tree.specs.declared.naming.Word.{Word}
use Rattle.ada_tree.specs.declared.expressions.UnaryOp.{UnaryOp}
use Rattle.ada_tree.specs.declared.expressions.UnaryOp.TheVariants as unary
use Rattle.ada_tree.specs.declared.expressions.BinaryOp.{BinaryOp}
use Rattle.ada_tree.specs.declared.expressions.BinaryOp.TheVariants.{And, Or, Xor, AndThen, OrElse, Equal, NotEqual, Less, LessEqual, Greater, GreaterEqual, Plus, Minus, Times, Divide, Mod, Rem}
use Rattle.ada_tree.specs.PlainExpr.{PExpr, EInteger, EName, EIndex, EAttribute, EAttributeOf, EParen, EUnary, EBinary, PBounds, PSubind, PDrange, RGiven, RMarked}
use Rattle.ada_tree.specs.PlainStmt.{PTarget, PCallee, PArgs, PCall, PChoice}
use Rattle.ada_tree.specs.WellPlaced.{level, logical, relation, simple, term, factor, primary, UnaryFits, BinaryFits}
use Rattle.ada_lexer.specs.declared.symbols.Symbol.{Symbol}
use Rattle.ada_lexer.specs.declared.symbols.Symbol.TheVariants as key
use Rattle.ada_expr_parser.specs.declared.items.ItemKind.TheVariants as item
use Rattle.ada_expr_parser.specs.declared.items.Item.{Item}
use Rattle.ada_expr_parser.specs.declared.levels.Level.{Level}
use Rattle.ada_expr_parser.specs.declared.levels.Level.TheVariants.{Logical, Relation, Simple, Term, Factor, Primary}
use Rattle.ada_expr_parser.specs.Trees.{span_of, levels, from_to}

-- the items with these contents
abbrev pub symbol_item : Symbol → Span → Item
symbol_item s at = record { kind = item.Symbol s; span = at }

-- the item of a name where it stands (2.3)
abbrev pub word_item : Word → Item
word_item w = record { kind = item.Name w.name; span = w.span }

-- the item of an integer literal with this value, at this place (2.4)
abbrev pub number_item : ℕ → Span → Item
number_item n at = record { kind = item.Integer n; span = at }

-- the symbol of an operator before its operand (4.5.4, 4.5.6)
abbrev pub prefix_symbol : UnaryOp → Symbol
prefix_symbol unary.Plus = key.Plus
prefix_symbol unary.Minus = key.Minus
prefix_symbol unary.Abs = key.Abs
prefix_symbol unary.Not = key.Not

-- the symbol of an operator between its operands, and the first word of a short-circuit form (4.5)
abbrev pub infix_symbol : BinaryOp → Symbol
infix_symbol And = key.And
infix_symbol Or = key.Or
infix_symbol Xor = key.Xor
infix_symbol AndThen = key.And
infix_symbol OrElse = key.Or
infix_symbol Equal = key.Equal
infix_symbol NotEqual = key.NotEqual
infix_symbol Less = key.Less
infix_symbol LessEqual = key.LessEqual
infix_symbol Greater = key.Greater
infix_symbol GreaterEqual = key.GreaterEqual
infix_symbol Plus = key.Plus
infix_symbol Minus = key.Minus
infix_symbol Times = key.Star
infix_symbol Divide = key.Slash
infix_symbol Mod = key.Mod
infix_symbol Rem = key.Rem

-- the second word of a short-circuit form, and nothing for the other operators (4.5.1)
abbrev pub SpellsSecond : BinaryOp → List Item → Type 0
SpellsSecond AndThen text = (at : Span) × (text ≡ symbol_item key.Then at ∷ [])
SpellsSecond OrElse text = (at : Span) × (text ≡ symbol_item key.Else at ∷ [])
SpellsSecond op text = text ≡ []

-- the items of an operator between its operands
abbrev pub SpellsOperator : BinaryOp → List Item → Type 0
SpellsOperator op text = (at : Span) × (second : List Item) × SpellsSecond op second × (text ≡ symbol_item (infix_symbol op) at ∷ second)

-- The items spell the expression: its operators and operands stand in their order, each operand is of a level of the grammar that fits there, and each node has the place from its first item to its last (4.1.1, 4.1.4, 4.4).
abbrev pub Spells : PExpr → List Item → Type 0
Spells (EInteger n s) text = text ≡ number_item n s ∷ []
Spells (EName a s) text = text ≡ word_item record { name = a; span = s } ∷ []
Spells (EIndex w e s) text =
    (part : List Item) × (lead : Span) × (close : Span) × Spells e part
    × (text ≡ word_item w ∷ symbol_item key.LeftParen lead ∷ (part ++ symbol_item key.RightParen close ∷ [])) × (s ≡ from_to w.span close)
Spells (EAttribute m w s) text =
    (tick : Span) × (text ≡ word_item m ∷ symbol_item key.Tick tick ∷ word_item w ∷ []) × (s ≡ from_to m.span w.span)
Spells (EAttributeOf m w e s) text =
    (part : List Item) × (tick : Span) × (lead : Span) × (close : Span) × Spells e part
    × (text ≡ word_item m ∷ symbol_item key.Tick tick ∷ word_item w ∷ symbol_item key.LeftParen lead ∷ (part ++ symbol_item key.RightParen close ∷ []))
    × (s ≡ from_to m.span close)
Spells (EParen e s) text =
    (part : List Item) × (lead : Span) × (close : Span) × Spells e part
    × (text ≡ symbol_item key.LeftParen lead ∷ (part ++ symbol_item key.RightParen close ∷ [])) × (s ≡ from_to lead close)
Spells (EUnary op e s) text =
    (part : List Item) × (at : Span) × Spells e part × UnaryFits op e
    × (text ≡ symbol_item (prefix_symbol op) at ∷ part) × (s ≡ from_to at (span_of e))
Spells (EBinary op l r s) text =
    (front : List Item) × (sign : List Item) × (back : List Item) × Spells l front × SpellsOperator op sign × Spells r back × BinaryFits op l r
    × (text ≡ front ++ (sign ++ back)) × (s ≡ from_to (span_of l) (span_of r))

-- the number of a level of the grammar, the loosest first
abbrev pub rank : Level → ℕ
rank Logical = logical
rank Relation = relation
rank Simple = simple
rank Term = term
rank Factor = factor
rank Primary = primary

-- The items are an expression of this level of the grammar or a tighter one, and no more than d levels stand below its root.
pub record IsExpr (least : Level) (d : ℕ) (e : PExpr) (text : List Item) : Type 0 where
  pub spells : Spells e text
  pub fits : rank least ≤ level e
  pub nested : levels e ≤ d

-- `expr .. expr`, both simple expressions (3.5)
pub record IsBounds (d : ℕ) (b : PBounds) (text : List Item) : Type 0 where
  pub front : List Item
  pub at : Span
  pub back : List Item
  pub first : IsExpr Simple d b.first front
  pub last : IsExpr Simple d b.last back
  pub text_is : text ≡ front ++ (symbol_item key.DotDot at ∷ back)

-- the bounds behind a mark, where there are some
abbrev pub IsRangeOf : ℕ → Option PBounds → List Item → Type 0
IsRangeOf d None text = text ≡ []
IsRangeOf d (Some b) text = (at : Span) × (back : List Item) × IsBounds d b back × (text ≡ symbol_item key.Range at ∷ back)

-- a subtype indication, `NAME [range expr .. expr]` (3.3.2)
pub record IsSubind (d : ℕ) (x : PSubind) (text : List Item) : Type 0 where
  pub back : List Item
  pub bounds : IsRangeOf d x.bounds back
  pub text_is : text ≡ word_item x.mark ∷ back

-- a discrete range (3.6)
abbrev pub IsDrange : ℕ → PDrange → List Item → Type 0
IsDrange d (RGiven b) text = IsBounds d b text
IsDrange d (RMarked x) text = IsSubind d x text

-- an expression in parentheses, one level deeper
pub record IsEnclosed (d : ℕ) (e : PExpr) (text : List Item) : Type 0 where
  pub lead : Span
  pub close : Span
  pub part : List Item
  pub spells : Spells e part
  pub nested : levels e + 1 ≤ d
  pub text_is : text ≡ symbol_item key.LeftParen lead ∷ (part ++ symbol_item key.RightParen close ∷ [])

-- an index in parentheses, or nothing where there is none (4.1.1)
abbrev pub IsIndex : ℕ → Option PExpr → List Item → Type 0
IsIndex d None text = text ≡ []
IsIndex d (Some e) text = IsEnclosed d e text

-- a variable or a component, `NAME [( expr )]` (5.2)
pub record IsTarget (d : ℕ) (x : PTarget) (text : List Item) : Type 0 where
  pub back : List Item
  pub index : IsIndex d x.index back
  pub text_is : text ≡ word_item x.name ∷ back

-- a task or a member of an array of tasks, spelled likewise (9.5, and this project's arrays of tasks)
abbrev pub IsCallee : ℕ → PCallee → List Item → Type 0
IsCallee d x text = IsTarget d record { name = x.name; index = x.index } text

-- further expressions of a list, each behind a comma
abbrev pub AreMore : ℕ → List PExpr → List Item → Type 0
AreMore d [] text = text ≡ []
AreMore d (e ∷ more) text =
    (at : Span) × (front : List Item) × (back : List Item) × Spells e front × (levels e + 1 ≤ d) × AreMore d more back
    × (text ≡ symbol_item key.Comma at ∷ (front ++ back))

-- expressions in parentheses, one at least, each one level deeper (6.4)
abbrev pub AreEnclosed : ℕ → List PExpr → List Item → Type 0
AreEnclosed d [] text = ⊥
AreEnclosed d (e ∷ more) text =
    (lead : Span) × (front : List Item) × (back : List Item) × (close : Span) × Spells e front × (levels e + 1 ≤ d) × AreMore d more back
    × (text ≡ symbol_item key.LeftParen lead ∷ (front ++ (back ++ symbol_item key.RightParen close ∷ [])))

-- the second list in parentheses after an entry's name, or nothing where there is none (6.4, 9.5)
abbrev pub IsSecondList : ℕ → Option (List PExpr) → List Item → Type 0
IsSecondList d None text = text ≡ []
IsSecondList d (Some es) text = AreEnclosed d es text

-- the one or two lists behind an entry's name, where there are some (9.5)
abbrev pub AreArgs : ℕ → Option PArgs → List Item → Type 0
AreArgs d None text = text ≡ []
AreArgs d (Some x) text =
    (front : List Item) × (back : List Item) × AreEnclosed d x.first front × IsSecondList d x.second back × (text ≡ front ++ back)

-- an entry call, `callee . NAME [( exprs ) [( exprs )]]` (9.5)
pub record IsCall (d : ℕ) (x : PCall) (text : List Item) : Type 0 where
  pub front : List Item
  pub dot : Span
  pub back : List Item
  pub task : IsCallee d x.task front
  pub args : AreArgs d x.args back
  pub text_is : text ≡ front ++ (symbol_item key.Dot dot ∷ word_item x.entry ∷ back)

-- a choice of a case statement, `expr | expr .. expr` (3.7.3, 5.4)
abbrev pub IsChoiceOf : ℕ → PExpr → Option PExpr → List Item → Type 0
IsChoiceOf d first None text = IsExpr Logical d first text
IsChoiceOf d first (Some last) text = IsBounds d record { first = first; last = last } text

-- a choice of a case statement, an expression or a range (3.7.3, 5.4)
abbrev pub IsChoice : ℕ → PChoice → List Item → Type 0
IsChoice d x text = IsChoiceOf d x.first x.last text
