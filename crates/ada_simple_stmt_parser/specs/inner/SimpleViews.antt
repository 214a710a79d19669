-- How parts of simple statements of the code are seen plainly.
use Rattle.std.specs.Prelude.{Bool, true, false, List, Option, Some, None, option_map}
use Rattle.ada_tree.specs.declared.naming.Span.{Span}
use Rattle.ada_tree.specs.declared.naming.Word.{Word}
use Rattle.ada_tree.specs.declared.statements.Callee.{Callee}
use Rattle.ada_tree.specs.PlainExpr.{PExpr, EName, plain_expr}
use Rattle.ada_tree.specs.PlainStmt.{PTarget, PPart, PStmt, SPut, SPutLine}
use Rattle.ada_expr_parser.specs.Trees.{indexed}

-- a task, as it is spelled
abbrev pub as_target : Callee → PTarget
as_target x = record { name = x.name; index = option_map plain_expr x.index }

-- a variable or a component, as the expression that is spelled so and ends at this place
abbrev pub expr_of : Word → Option PExpr → Span → PExpr
expr_of w None close = EName w.name w.span
expr_of w (Some arg) close = indexed w arg close

-- what writes parts: with a new line behind them where this is true
abbrev pub put_of : Bool → List PPart → Span → PStmt
put_of true = SPutLine
put_of false = SPut
