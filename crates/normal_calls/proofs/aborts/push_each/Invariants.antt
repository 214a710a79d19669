use Rattle.std.proofs.Common.{◌≡◌, map, drop}
use Rattle.ada_tree.specs.PlainStmt.{plain_callee, seen}
use Rattle.task_model.specs.Frames.{in_front}
use Rattle.normal_model.specs.Aborts.{callees_aborted}
use Rattle.normal_calls.proofs.aborts.push_each.Given as goal

-- what stands there, in front of what is left
abbrev pub invariant-loop-callee : goal.invariant-loop-callee
invariant-loop-callee g l =
    in_front (seen l.initial.out.items) (callees_aborted (g.M.Meanings.setting l.m) l.span (map plain_callee l.callees) l.number)
    ≡ in_front (seen l.out.items) (callees_aborted (g.M.Meanings.setting l.m) l.span (map plain_callee (drop l.callee-index l.callees)) l.next)
