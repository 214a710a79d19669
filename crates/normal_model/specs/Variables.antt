-- The variables that the normal form adds to a unit, as declarations in the order of their numbers (3.2.1; this project's rule). The order is that of the text: those of a statement before those of what stands in it, those of an alternative before those of what stands in the alternative.
use Rattle.std.specs.Prelude.{ℕ, ◌+◌, false, List, [], ◌∷◌, ◌++◌, length, None}
use Rattle.ada_tree.specs.declared.naming.Span.{Span}
use Rattle.ada_tree.specs.PlainExpr.{PSubind}
use Rattle.ada_tree.specs.PlainStmt.{PStmt, SAbort, SCall, SAccept, SConditional, STimed, PAlt, alternative}
use Rattle.ada_tree.specs.PlainDecl.{OPlain, PDecl, DObject}
use Rattle.task_model.specs.Setting.{Setting}
use Rattle.normal_model.specs.Names.{variable_name}
use Rattle.normal_model.specs.Ranges.{word_at}
use Rattle.normal_model.specs.Making.{kept_subtypes}
use Rattle.normal_model.specs.Calls.{call_subtypes, select_subtypes}
use Rattle.normal_model.specs.RewrittenUnit.{RewrittenUnit}
use Rattle.normal_model.specs.Waits.{accept_kept, head_of, alternative_subtypes}
use Rattle.normal_model.specs.Aborts.{abort_subtypes}

-- ---- declarations

-- `DED_V1 : INTEGER;`
abbrev pub variable_declared : Setting → Span → PSubind → ℕ → PDecl
variable_declared g s subtype k = DObject (word_at s (variable_name g k) ∷ []) false (OPlain subtype) None s

-- the declarations of variables of these subtypes, numbered from k on
abbrev pub variables_declared : Setting → Span → List PSubind → ℕ → List PDecl
variables_declared g s [] k = []
variables_declared g s (x ∷ xs) k = variable_declared g s x k ∷ variables_declared g s xs (k + 1)

-- ---- statements

-- variables, and those of these subtypes behind them
abbrev pub more_variables : RewrittenUnit → Span → List PSubind → List PDecl → List PDecl
more_variables u s subtypes vars = vars ++ variables_declared u.setting s subtypes (length vars)

-- The variables of a unit behind those that a statement asks for itself.
abbrev pub statement_variables : RewrittenUnit → List PDecl → PStmt → List PDecl
statement_variables u vars (SCall c s) = more_variables u s (call_subtypes u.setting s c) vars
statement_variables u vars (SConditional c behind otherwise s) = more_variables u s (select_subtypes u.setting s c) vars
statement_variables u vars (STimed c behind duration after s) = more_variables u s (select_subtypes u.setting s c) vars
statement_variables u vars (SAccept accept s) = more_variables u s (kept_subtypes (accept_kept u s (head_of accept))) vars
statement_variables u vars (SAbort callees s) = more_variables u s (abort_subtypes u.setting s callees) vars
statement_variables u vars _ = vars

-- the place of an alternative
abbrev pub alternative_place : PAlt → Span
alternative_place (alternative guard what s) = s

-- The variables of a unit behind those that an alternative asks for itself.
abbrev pub alternative_variables : RewrittenUnit → List PDecl → PAlt → List PDecl
alternative_variables u vars x = more_variables u (alternative_place x) (alternative_subtypes u x) vars
