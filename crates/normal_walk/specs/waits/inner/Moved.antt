-- The index of an accept that moves in front of it, whatever its subtype (9.5).
use Rattle.std.specs.Prelude.{ℕ, ◌+◌, Option, Some, None}
use Rattle.ada_tree.specs.declared.naming.Span.{Span}
use Rattle.ada_tree.specs.TypeTable.{TypeTable}
use Rattle.ada_tree.specs.PlainExpr.{PExpr}
use Rattle.ada_tree.specs.PlainStmt.{SIf, PStmts, no_stmt, stmt_then, absent, PAltKind, AAccept, ADelay, ATerminate, arm, no_arm, arm_then}
use Rattle.task_model.specs.Setting.{Setting}
use Rattle.normal_model.specs.Making.{one, variable, assignment, moving}
use Rattle.normal_model.specs.Waits.{head_of}

-- the assignment of an index that moves
abbrev pub moved_before : Setting → Span → ℕ → Option PExpr → PStmts
moved_before g s k None = no_stmt
moved_before g s k (Some e) = one (assignment g s k e)

-- the index of an alternative that moves
abbrev pub kind_moving : TypeTable → PAltKind → Option PExpr
kind_moving types (AAccept accept stmts) = moving types (head_of accept).index
kind_moving types (ADelay duration stmts) = None
kind_moving types ATerminate = None

-- what an alternative with a guard puts in front of its wait, by its index that moves
abbrev pub under_front : Setting → Span → ℕ → Option PExpr → PStmts
under_front g s n None = no_stmt
under_front g s n (Some e) = one (SIf (arm_then (arm (variable g s n) (one (assignment g s (n + 1) e))) no_arm) absent s)

abbrev pub guarded_front : Setting → Span → ℕ → PExpr → Option PExpr → PStmts
guarded_front g s n e index = stmt_then (assignment g s n e) (under_front g s n index)
