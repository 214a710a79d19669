use Rattle.std.proofs.Common.{◌≡◌, map, take}
use Rattle.ada_tree.specs.PlainExpr.{plain_expr}
use Rattle.task_model.specs.Starting.{initial}
use Rattle.task_steps.proofs.start.initials.listed.Given as goal

-- the values of so many parts are there
abbrev pub invariant-loop-part : goal.invariant-loop-part
invariant-loop-part l = l.values.items ≡ map (initial l.names l.limits) (map plain_expr (take l.part-index l.parts))
