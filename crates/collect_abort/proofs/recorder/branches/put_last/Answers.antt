use Rattle.std.proofs.Common.{Ok, [], ◌∷◌, map}
use Rattle.ada_tree.specs.PlainStmt.{plain_case_arm}
use Rattle.collect_model.specs.Noting.{at_end}
use Rattle.collect_model.specs.Recording.{on_end}
use Rattle.collect_xform.specs.recorder.Branches.{arm_at}
use Rattle.collect_xform.proofs.recorder.Noted.{arm-put, arms-more}
use Rattle.collect_model.specs.aborts.Noting.{at_abort}
use Rattle.collect_model.specs.aborts.Recording.{on_abort}
use Rattle.collect_abort.specs.Looked.{told_of}
use Rattle.collect_abort.specs.Branches.{back_arm}
use Rattle.collect_abort.proofs.recorder.branches.put_last.Goals as goal

pub returns : goal.returns
returns c =
    let x = told_of c.args.x.now in
    let s = c.args.s in
    let old = map plain_case_arm c.args.out.now.items in
    let one = map plain_case_arm c.put_back.new.out.items in
    let two = map plain_case_arm c.put_branch.new.out.items in
    let new = map plain_case_arm c.put_branch-2.new.out.items in
    arms-more old two new (back_arm x s ∷ arm_at s at_end (on_end x.teller.added s) ∷ []) (arm_at s at_abort (on_abort x s)) c.put_branch-2.result
    (arms-more old one two (back_arm x s ∷ []) (arm_at s at_end (on_end x.teller.added s)) (Ok tt)
    c.in_ok-put_back.ensures
    (arm-put one two s at_end (on_end x.teller.added s) (Ok tt) c.on_end.result c.in_ok-put_branch.ensures c.on_end.ensures))
    (arm-put two new s at_abort (on_abort x s) c.put_branch-2.result c.on_abort.result c.put_branch-2.ensures c.on_abort.ensures)
