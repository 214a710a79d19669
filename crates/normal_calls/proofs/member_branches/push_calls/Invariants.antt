use Rattle.std.proofs.Common.{◌≡◌, ◌++◌, map, take}
use Rattle.ada_tree.specs.PlainStmt.{plain_call, plain_case_arm}
use Rattle.normal_model.specs.Making.{one}
use Rattle.normal_lookups.specs.pieces.Seen.{member_seen}
use Rattle.normal_calls.specs.inner.CallForms.{arm_for, branch}
use Rattle.normal_calls.proofs.member_branches.push_calls.Given as goal

abbrev pub invariant-loop-member : goal.invariant-loop-member
invariant-loop-member g l =
    map plain_case_arm l.arms.items
    ≡ map plain_case_arm l.initial.arms.items
    ++ map (λ x. arm_for l.call.task.name.span (λ w. one (branch l.form (g.M.Meanings.setting l.m) l.span (plain_call l.call) l.number w)) (member_seen l.span x)) (take l.member-index l.members)
