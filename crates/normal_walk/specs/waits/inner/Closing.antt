-- The test whether all alternatives of a selective wait are closed, guard by guard (9.7.1).
use Rattle.std.specs.Prelude.{List, [], ◌∷◌, Option, Some, None}
use Rattle.ada_tree.specs.declared.naming.Span.{Span}
use Rattle.ada_tree.specs.declared.expressions.BinaryOp.TheVariants.{And}
use Rattle.ada_tree.specs.PlainExpr.{PExpr}
use Rattle.ada_tree.specs.PlainStmt.{PAlt, alternative}
use Rattle.tree_rewriting.specs.making.Chains.{chained}
use Rattle.normal_model.specs.Waits.{not_held}

-- a guard in front of others, where there is one
abbrev pub guard_or : Option PExpr → List PExpr → List PExpr
guard_or None es = es
guard_or (Some e) es = e ∷ es

-- the guards that alternatives have, in order
abbrev pub guards_in : List PAlt → List PExpr
guards_in [] = []
guards_in (alternative guard what s ∷ rest) = guard_or guard (guards_in rest)

-- the test that none of these guards holds, behind a test that is there
abbrev pub closed_from : Span → Option PExpr → List PExpr → Option PExpr
closed_from s test [] = test
closed_from s test (e ∷ es) = closed_from s (Some (chained And test (not_held s e) s)) es
