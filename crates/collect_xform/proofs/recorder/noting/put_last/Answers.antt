use Rattle.std.proofs.Common.{Ok, [], ◌∷◌, map}
use Rattle.ada_tree.specs.PlainStmt.{plain_case_arm}
use Rattle.collect_model.specs.Noting.{has_failed, at_end}
use Rattle.collect_model.specs.Recording.{on_failed, on_end}
use Rattle.collect_xform.specs.recorder.Branches.{arm_at}
use Rattle.collect_xform.proofs.recorder.Noted.{arm-put, arms-more}
use Rattle.collect_xform.proofs.recorder.noting.put_last.Goals as goal

pub returns : goal.returns
returns c =
    let n = c.args.n.now in
    let s = c.args.s in
    let old = map plain_case_arm c.args.out.now.items in
    let one = map plain_case_arm c.put_branch.new.out.items in
    let new = map plain_case_arm c.put_branch-2.new.out.items in
    arms-more old one new (arm_at s has_failed (on_failed n s) ∷ []) (arm_at s at_end (on_end n s)) c.put_branch-2.result
    (arm-put old one s has_failed (on_failed n s) (Ok tt) c.on_failed.result c.in_ok-put_branch.ensures c.on_failed.ensures)
    (arm-put one new s at_end (on_end n s) c.put_branch-2.result c.on_end.result c.put_branch-2.ensures c.on_end.ensures)
