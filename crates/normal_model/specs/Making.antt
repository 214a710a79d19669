-- The pieces from which the normal form builds statements: variables, assignments to them, and values that are kept in them (5.2; this project's rule). What is added for a statement stands at the statement's place.
use Rattle.std.specs.Prelude.{ℕ, ◌+◌, if◌then◌else◌, List, [], ◌∷◌, map, Option, None, Some}
use Rattle.ada_tree.specs.declared.naming.Span.{Span}
use Rattle.ada_tree.specs.TypeTable.{TypeTable}
use Rattle.ada_static_rules.specs.StaticValue.{is_static}
use Rattle.ada_tree.specs.PlainExpr.{PExpr, EName, PSubind}
use Rattle.ada_tree.specs.PlainStmt.{PTarget, PStmt, SNull, SAssign, PStmts, no_stmt, stmt_then}
use Rattle.task_model.specs.Setting.{Setting}
use Rattle.normal_model.specs.Names.{variable_name}
use Rattle.normal_model.specs.Ranges.{word_at}

-- ---- statements

-- a row of one statement
abbrev pub one : PStmt → PStmts
one x = stmt_then x no_stmt

-- where nothing stands, `null;` does
abbrev pub or_null : Span → PStmts → PStmts
or_null s no_stmt = one (SNull s)
or_null s (stmt_then x l) = stmt_then x l

-- ---- variables

-- a variable of the normal form as a name in an expression, by its number from 0
abbrev pub variable : Setting → Span → ℕ → PExpr
variable g s k = EName (variable_name g k) s

-- a variable of the normal form as a target
abbrev pub variable_target : Setting → Span → ℕ → PTarget
variable_target g s k = record { name = word_at s (variable_name g k); index = None }

-- `DED_V1 := e;`
abbrev pub assignment : Setting → Span → ℕ → PExpr → PStmt
assignment g s k e = SAssign (variable_target g s k) e s

-- ---- values that are kept

-- A value that goes to a variable in front of a statement: the variable's subtype and the expression.
pub record Kept : Type 0 where
  pub subtype : PSubind
  pub value : PExpr

-- the assignments of values to variables that are numbered from k on
abbrev pub kept_before : Setting → Span → List Kept → ℕ → PStmts
kept_before g s [] k = no_stmt
kept_before g s (x ∷ xs) k = stmt_then (assignment g s k x.value) (kept_before g s xs (k + 1))

abbrev pub kept_subtypes : List Kept → List PSubind
kept_subtypes xs = map (λ x. x.subtype) xs

-- ---- indices

-- an expression is left out of the statement unless it is static
abbrev pub unless_static : TypeTable → PExpr → Option PExpr
unless_static types e = if is_static types e then None else Some e

-- The index that moves in front of its statement: one that is not static.
abbrev pub moving : TypeTable → Option PExpr → Option PExpr
moving types None = None
moving types (Some e) = unless_static types e

-- a value of this subtype, where there is one
abbrev pub kept_if : PSubind → Option PExpr → List Kept
kept_if subtype None = []
kept_if subtype (Some e) = record { subtype = subtype; value = e } ∷ []

-- the index that stands in a statement: the variable to which it moves, or as it is
abbrev pub index_left : Setting → Span → ℕ → Option PExpr → Option PExpr → Option PExpr
index_left g s k None index = index
index_left g s k (Some e) index = Some (variable g s k)
