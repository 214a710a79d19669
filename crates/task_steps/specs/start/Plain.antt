-- A unit of the code as the unit of the definitions.
use Rattle.std.specs.Prelude.{Option, Some, None, map, option_copied}
use Rattle.ada_tree.specs.declared.statements.Body.{Body}
use Rattle.ada_tree.specs.PlainStmt.{PBody, no_stmt, no_handler, body, plain_body}
use Rattle.ada_tree.specs.PlainDecl.{decls_of, plain_decl}
use Rattle.task_model.specs.Starting as model
use Rattle.task_steps.specs.declared.start.units.Unit.{Unit}

-- the body of a unit; one that is not there is empty
abbrev pub body_or_empty : Option Body → PBody
body_or_empty None = body no_stmt no_handler
body_or_empty (Some b) = plain_body b

-- The unit of the definitions that a unit of the code is.
abbrev pub plain_unit : Unit → model.Unit
plain_unit u = record { in_main = u.in_main; decls = decls_of (map plain_decl u.decls.now); body = body_or_empty (option_copied u.body) }
