-- How parts of compound statements of the code are seen plainly.
use Rattle.std.specs.Prelude.{List, Option, Vec, map, option_map}
use Rattle.std.specs.declared.alloc.Global.{Global}
use Rattle.ada_tree.specs.declared.statements.CaseArm.{CaseArm}
use Rattle.ada_tree.specs.declared.statements.Handler.{Handler}
use Rattle.ada_tree.specs.declared.statements.Stmt.{Stmt}
use Rattle.ada_tree.specs.PlainStmt.{PStmts, PCaseArm, PHandler, plain_case_arm, plain_handler, seen}
use Rattle.ada_stmt_parser.specs.inner.ReadingStatements.{Whens}

-- the choices of a case statement, and the statements for others
abbrev pub case_whens : List CaseArm → Option (Vec Stmt Global) → Whens PCaseArm PStmts
case_whens arms others = record { parts = map plain_case_arm arms; others = option_map (λ v. seen v.items) others }

-- handlers, and the one for others
abbrev pub handler_whens : List Handler → Option Handler → Whens PHandler PHandler
handler_whens handlers others = record { parts = map plain_handler handlers; others = option_map plain_handler others }
