-- Tasks, seen plainly.
use Rattle.std.proofs.Common.{◌≡◌, List, [], ◌∷◌, map, refl, ap}
use Rattle.ada_tree.specs.declared.statements.Callee.{Callee}
use Rattle.ada_tree.specs.PlainStmt.{plain_callee}
use Rattle.ada_expr_parser.specs.Parts.{callee_of}
use Rattle.ada_simple_stmt_parser.specs.inner.SimpleViews.{as_target}

-- tasks as they are spelled, and as tasks
pub callees_are : (xs : List Callee) → map callee_of (map as_target xs) ≡ map plain_callee xs
callees_are [] = refl
callees_are (x ∷ xs) = ap (λ l. plain_callee x ∷ l) (callees_are xs)
