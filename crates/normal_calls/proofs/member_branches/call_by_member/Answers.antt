use Rattle.ada_tree.specs.PlainStmt.{plain_call, plain_callee}
use Rattle.normal_model.specs.Making.{one}
use Rattle.normal_calls.specs.inner.CallForms.{branch}
use Rattle.normal_calls.proofs.Branches.{case-kept}
use Rattle.normal_calls.proofs.member_branches.call_by_member.Goals as goal

pub returns : goal.returns
returns g c =
    case-kept (g.M.Meanings.setting c.args.m.now) c.args.span (plain_callee c.args.call.now.task) c.args.number (λ w. one (branch c.args.form (g.M.Meanings.setting c.args.m.now) c.args.span (plain_call c.args.call.now) c.args.number w)) c.members-members.result.now c.new-arms.result.items c.push_calls-done.new.arms.items c.push_calls-done.result c.keep_case_arms.result c.case_over.result
    (c.members-members.ensures c.args.span) c.new-arms.ensures.items c.push_calls-done.ensures c.keep_case_arms.ensures c.case_over.ensures
