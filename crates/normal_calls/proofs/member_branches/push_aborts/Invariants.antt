use Rattle.std.proofs.Common.{◌≡◌, ◌++◌, map, take}
use Rattle.ada_tree.specs.PlainStmt.{plain_case_arm}
use Rattle.normal_model.specs.Aborts.{abort_of}
use Rattle.normal_lookups.specs.pieces.Seen.{member_seen}
use Rattle.normal_calls.specs.inner.CallForms.{arm_for}
use Rattle.normal_calls.proofs.member_branches.push_aborts.Given as goal

abbrev pub invariant-loop-member : goal.invariant-loop-member
invariant-loop-member l =
    map plain_case_arm l.arms.items
    ≡ map plain_case_arm l.initial.arms.items ++ map (λ x. arm_for l.callee.name.span (abort_of l.span) (member_seen l.span x)) (take l.member-index l.members)
