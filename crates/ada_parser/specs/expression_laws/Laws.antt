-- What the laws of expressions come to (4.4): each reader finds exactly the expressions of its level, each has one tree, and each fault is the first item that decides.
use Rattle.std.specs.Prelude.{◌≡◌, ℕ, ◌+◌, List, ◌++◌}
use Rattle.ada_tree.specs.PlainExpr.{PExpr, EBinary}
use Rattle.ada_expr_parser.specs.declared.items.Item.{Item}
use Rattle.ada_expr_parser.specs.declared.levels.Level.{Level}
use Rattle.ada_expr_parser.specs.Reading.{expr}
use Rattle.ada_expr_parser.specs.declared.levels.Level.TheVariants.{Logical, Simple, Primary}
use Rattle.ada_expr_parser.specs.Parts as parts
use Rattle.ada_expr_parser.specs.Grammar.{IsExpr, IsBounds, IsSubind, IsDrange, IsTarget, IsCall, IsChoice}
use Rattle.ada_expr_parser.specs.readers.Grammars.{Texts}
use Rattle.ada_expr_parser.specs.readers.Exactness.{FindsExactly, FaultsExactly}
use Rattle.ada_parser.specs.expression_laws.Stopping.{Ends, EndsMark, EndsRange, EndsTarget, EndsChoice}

-- Before an item that ends it, exactly the expressions of a level are found, and each has one tree.
abbrev pub FindsExpressions : Type 0
FindsExpressions = (l : Level) → FindsExactly (λ d. expr d l) (λ d e text. IsExpr l d e text) (Ends l)

-- A fault stands at the first item with which no expression of the level goes on, or only deeper ones.
abbrev pub RefusesExpressions : Type 0
RefusesExpressions = (l : Level) → FaultsExactly (λ d. expr d l) (λ d e text. IsExpr l d e text)

-- The same of bounds, subtype indications, discrete ranges, variables, entry calls and choices (3.3.2, 3.5, 3.6, 3.7.3, 5.2, 9.5).
pub record FindsParts : Type 0 where
  pub bounds : FindsExactly parts.bounds (λ d x text. IsBounds d x text) (Ends Simple)
  pub subind : FindsExactly parts.subind (λ d x text. IsSubind d x text) EndsMark
  pub drange : FindsExactly parts.drange (λ d x text. IsDrange d x text) EndsRange
  pub target : FindsExactly parts.target (λ d x text. IsTarget d x text) EndsTarget
  pub call : FindsExactly parts.call (λ d x text. IsCall d x text) EndsTarget
  pub choice : FindsExactly parts.choice (λ d x text. IsChoice d x text) EndsChoice

pub record RefusesParts : Type 0 where
  pub bounds : FaultsExactly parts.bounds (λ d x text. IsBounds d x text)
  pub subind : FaultsExactly parts.subind (λ d x text. IsSubind d x text)
  pub drange : FaultsExactly parts.drange (λ d x text. IsDrange d x text)
  pub target : FaultsExactly parts.target (λ d x text. IsTarget d x text)
  pub call : FaultsExactly parts.call (λ d x text. IsCall d x text)
  pub choice : FaultsExactly parts.choice (λ d x text. IsChoice d x text)

-- the operand that an expression begins with, behind which its operators stand
abbrev pub first_operand : PExpr → PExpr
first_operand (EBinary op l r s) = first_operand l
first_operand e = e

-- These items, put behind those of a first primary, are an expression that begins with this primary: its operators with their operands, or nothing.
abbrev pub GoesOnBehind : PExpr → List Item → Texts Item PExpr
GoesOnBehind first items d e text = IsExpr Logical d e (items ++ text) × (first_operand e ≡ first)

-- Behind each primary that has been read, at its own depth and each greater one, exactly what goes on behind it is found, and refused where nothing goes on so.
abbrev pub FindsBehind : Type 0
FindsBehind = (low : ℕ) (first : PExpr) (items : List Item) → IsExpr Primary low first items →
    FindsExactly (λ d. parts.expr_behind (low + d) first) (λ d e text. GoesOnBehind first items (low + d) e text) (Ends Logical)

abbrev pub RefusesBehind : Type 0
RefusesBehind = (low : ℕ) (first : PExpr) (items : List Item) → IsExpr Primary low first items →
    FaultsExactly (λ d. parts.expr_behind (low + d) first) (λ d e text. GoesOnBehind first items (low + d) e text)
