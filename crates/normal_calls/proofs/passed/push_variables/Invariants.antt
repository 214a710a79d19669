use Rattle.std.proofs.Common.{◌≡◌, ◌++◌, map}
use Rattle.ada_tree.specs.PlainExpr.{plain_expr}
use Rattle.normal_calls.specs.inner.Passing.{variables_from}
use Rattle.normal_calls.proofs.passed.push_variables.Given as goal

abbrev pub invariant-loop-place : goal.invariant-loop-place
invariant-loop-place g l = map plain_expr l.out.items ≡ map plain_expr l.initial.out.items ++ variables_from (g.M.Meanings.setting l.m) l.span l.number l.place
