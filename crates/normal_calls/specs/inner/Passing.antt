-- Variables one behind the other.
use Rattle.std.specs.Prelude.{ℕ, zero, suc, ◌+◌, List, [], ◌∷◌}
use Rattle.ada_tree.specs.declared.naming.Span.{Span}
use Rattle.ada_tree.specs.PlainExpr.{PExpr}
use Rattle.task_model.specs.Setting.{Setting}
use Rattle.normal_model.specs.Making.{variable}

-- so many variables, numbered from k on
abbrev pub variables_from : Setting → Span → ℕ → ℕ → List PExpr
variables_from g s k zero = []
variables_from g s k (suc n) = variable g s k ∷ variables_from g s (k + 1) n
