use Rattle.std.proofs.Common.{◌≡◌, map, drop}
use Rattle.ada_tree.specs.PlainStmt.{plain_formal}
use Rattle.task_model.specs.Setting.{parameters_of}
use Rattle.task_local.specs.rendezvous.inner.Conforming.{are_same}
use Rattle.task_local.proofs.rendezvous.conforming.are_same.Given as goal

-- the formals of the declarations that are left go with the formals that are left
abbrev pub invariant-loop-formal : goal.invariant-loop-formal
invariant-loop-formal l =
    are_same (parameters_of l.links.types (map plain_formal (drop l.formal-index l.formals))) l.rest ≡ are_same (parameters_of l.links.types (map plain_formal l.formals)) l.parameters
