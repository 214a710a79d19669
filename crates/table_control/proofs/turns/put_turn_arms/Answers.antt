use Rattle.table_control.proofs.Lists.{two-more}
use Rattle.ada_tree.specs.PlainStmt.{plain_case_arm}
use Rattle.table_control.proofs.turns.put_turn_arms.Goals as goal

pub returns : goal.returns
returns c =
    two-more plain_case_arm c.args.out.now.items c.push_case_arm.new.list.items c.push_case_arm-2.new.list.items c.go_arm.result c.done_arm.result _ _ c.push_case_arm-2.result c.in_ok-push_case_arm.ensures c.go_arm.ensures c.push_case_arm-2.ensures c.done_arm.ensures
