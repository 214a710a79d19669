-- The codes of expressions, rows of statements and rows of handlers, whole: for the model of a struct whose contracts show one.
use Rattle.std.specs.Coded.{Coded, codes}
use Rattle.ada_tree.specs.PlainExpr.{PExpr}
use Rattle.ada_tree.specs.PlainStmt.{PStmts, PHandlers}
use Rattle.ada_tree.specs.inner.ExprCode as expression
use Rattle.ada_tree.specs.inner.StmtCode as statement

pub coded_expr : Coded PExpr
coded_expr = expression.coded_expr (hlevel codes)

coded_head : Coded statement.StmtHead
coded_head = hlevel (codes, coded_expr)

pub coded_stmts : Coded PStmts
coded_stmts = statement.coded_stmts coded_head

pub coded_handlers : Coded PHandlers
coded_handlers = statement.coded_handlers coded_head

pub ruleset tree_codes = (coded_expr, coded_stmts, coded_handlers)
