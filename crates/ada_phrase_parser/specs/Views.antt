-- How the values of the code are seen plainly.
use Rattle.std.specs.Prelude.{ℕ, Bool, ◌||◌, is_some, List, Option, None, map, option_map}
use Rattle.ada_tree.specs.declared.naming.Span.{Span}
use Rattle.ada_tree.specs.declared.expressions.Expr.{Expr}
use Rattle.ada_tree.specs.declared.statements.Formal.{Formal}
use Rattle.ada_tree.specs.PlainExpr.{PExpr, plain_expr}
use Rattle.ada_tree.specs.PlainStmt.{plain_formal}
use Rattle.ada_expr_parser.specs.declared.items.ItemKind.{ItemKind}
use Rattle.ada_expr_parser.specs.declared.levels.Level.TheVariants.{Logical, Relation, Simple, Term}
use Rattle.ada_expr_parser.specs.Tests.{operator_in}
use Rattle.ada_phrase_parser.specs.Spelling.{Source}
use Rattle.ada_phrase_parser.specs.Reading.{Delayed, Behind}
use Rattle.ada_phrase_parser.specs.declared.source.Source as code

-- the source of a text
abbrev pub told : code.Source → Source
told s = record { bytes = s.bytes.now; names = s.names.now }

-- a duration and its semicolon
abbrev pub delay_of : ℕ → Span → Delayed
delay_of n at = record { thousandths = n; close = at }

-- what stands behind an entry's name
abbrev pub behind_of : Option Expr → List Formal → Behind PExpr
behind_of index formals = record { index = option_map plain_expr index; formals = map plain_formal formals }

-- an operator between operands
abbrev pub is_operator : ItemKind → Bool
is_operator k = is_some (operator_in Term None k) || is_some (operator_in Simple None k) || is_some (operator_in Relation None k) || is_some (operator_in Logical None k)
