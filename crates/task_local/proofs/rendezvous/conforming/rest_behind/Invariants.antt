use Rattle.std.proofs.Common.{◌≡◌, List, map, drop, ◌++◌}
use Rattle.task_links.specs.inner.Made.{parameter_named}
use Rattle.task_model.specs.declared.parameters.FormalParameter.{FormalParameter}
use Rattle.task_local.specs.rendezvous.inner.Conforming.{are_same}
use Rattle.task_local.proofs.rendezvous.conforming.rest_behind.Given as goal

-- the names that are left go with the formals that are left
abbrev pub invariant-loop-word : goal.invariant-loop-word
invariant-loop-word l =
    (behind : List FormalParameter) → are_same (map (parameter_named l.mode l.limits) (drop l.word-index l.words) ++ behind) l.rest ≡ are_same (map (parameter_named l.mode l.limits) l.words ++ behind) l.parameters
