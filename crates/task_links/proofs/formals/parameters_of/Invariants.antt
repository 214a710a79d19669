use Rattle.std.proofs.Common.{◌≡◌, map, take}
use Rattle.ada_tree.specs.PlainStmt.{plain_formal}
use Rattle.task_model.specs.Setting.{parameters_of}
use Rattle.task_links.proofs.formals.parameters_of.Given as goal

-- the formals of so many declarations are there
abbrev pub invariant-loop-formal : goal.invariant-loop-formal
invariant-loop-formal l = l.parameters.items ≡ parameters_of l.names (map plain_formal (take l.formal-index l.formals))
