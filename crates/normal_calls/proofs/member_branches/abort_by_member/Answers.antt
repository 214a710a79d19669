use Rattle.ada_tree.specs.PlainStmt.{plain_callee}
use Rattle.normal_model.specs.Aborts.{abort_of}
use Rattle.normal_calls.proofs.Branches.{case-kept}
use Rattle.normal_calls.proofs.member_branches.abort_by_member.Goals as goal

pub returns : goal.returns
returns g c =
    case-kept (g.M.Meanings.setting c.args.m.now) c.args.span (plain_callee c.args.callee.now) c.args.number (abort_of c.args.span) c.members-members.result.now c.new-arms.result.items c.push_aborts-done.new.arms.items c.push_aborts-done.result c.keep_case_arms.result c.case_over.result
    (c.members-members.ensures c.args.span) c.new-arms.ensures.items c.push_aborts-done.ensures c.keep_case_arms.ensures c.case_over.ensures
