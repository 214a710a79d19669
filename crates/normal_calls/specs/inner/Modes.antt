-- The assignments around a call, by the modes of the formals alone (6.4.1).
use Rattle.std.specs.Prelude.{ℕ, ◌+◌, List, [], ◌∷◌}
use Rattle.ada_tree.specs.declared.naming.Span.{Span}
use Rattle.ada_tree.specs.declared.statements.ParMode.{ParMode}
use Rattle.ada_tree.specs.PlainExpr.{PExpr}
use Rattle.ada_tree.specs.PlainStmt.{PStmts, no_stmt}
use Rattle.task_model.specs.Setting.{Setting}
use Rattle.task_model.specs.Frames.{in_front}
use Rattle.normal_model.specs.Calls.{actual_before, actual_behind}

-- what is made of actuals, one by one, whose variables are numbered from k on
abbrev pub each_actual : (ParMode → PExpr → ℕ → PStmts) → List ParMode → List PExpr → ℕ → PStmts
each_actual f [] es k = no_stmt
each_actual f (m ∷ ms) [] k = no_stmt
each_actual f (m ∷ ms) (e ∷ es) k = in_front (f m e k) (each_actual f ms es (k + 1))

-- in front of a call
abbrev pub modes_before : Setting → Span → List ParMode → List PExpr → ℕ → PStmts
modes_before g s ms es k = each_actual (actual_before g s) ms es k

-- behind it
abbrev pub modes_behind : Setting → Span → List ParMode → List PExpr → ℕ → PStmts
modes_behind g s ms es k = each_actual (actual_behind g s) ms es k
