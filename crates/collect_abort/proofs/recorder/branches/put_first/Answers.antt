use Rattle.std.proofs.Common.{Ok, [], ◌∷◌, map}
use Rattle.ada_tree.specs.PlainStmt.{plain_case_arm}
use Rattle.collect_model.specs.Noting.{before_call, has_begun, at_finish}
use Rattle.collect_xform.specs.recorder.Branches.{arm_at}
use Rattle.collect_xform.proofs.recorder.Noted.{arm-put, arms-more}
use Rattle.collect_model.specs.aborts.Recording.{on_before_call, on_begun, on_finish}
use Rattle.collect_abort.specs.Looked.{told_of}
use Rattle.collect_abort.proofs.recorder.branches.put_first.Goals as goal

pub returns : goal.returns
returns c =
    let x = told_of c.args.x.now in
    let s = c.args.s in
    let old = map plain_case_arm c.args.out.now.items in
    let one = map plain_case_arm c.put_branch.new.out.items in
    let two = map plain_case_arm c.put_branch-2.new.out.items in
    let new = map plain_case_arm c.put_branch-3.new.out.items in
    arms-more old two new (arm_at s before_call (on_before_call x.teller.added s) ∷ arm_at s has_begun (on_begun x s) ∷ []) (arm_at s at_finish (on_finish x s)) c.put_branch-3.result
    (arms-more old one two (arm_at s before_call (on_before_call x.teller.added s) ∷ []) (arm_at s has_begun (on_begun x s)) (Ok tt)
    (arm-put old one s before_call (on_before_call x.teller.added s) (Ok tt) c.on_before_call.result c.in_ok-put_branch.ensures c.on_before_call.ensures)
    (arm-put one two s has_begun (on_begun x s) (Ok tt) c.on_begun.result c.in_ok-put_branch-2.ensures c.on_begun.ensures))
    (arm-put two new s at_finish (on_finish x s) c.put_branch-3.result c.on_finish.result c.put_branch-3.ensures c.on_finish.ensures)
