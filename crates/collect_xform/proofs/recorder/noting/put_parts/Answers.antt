use Rattle.std.proofs.Common.{Ok, [], ◌∷◌, map, codes}
use Rattle.ada_tree.specs.PlainStmt.{PCaseArm, plain_case_arm}
use Rattle.collect_model.specs.Noting.{has_else, has_delay, has_call_else, has_expired}
use Rattle.collect_model.specs.Recording.{on_else, on_delay, on_other_part}
use Rattle.collect_xform.specs.recorder.Branches.{arm_at}
use Rattle.collect_xform.proofs.recorder.Noted.{arm-put, arms-more}
use Rattle.collect_xform.proofs.recorder.noting.put_parts.Goals as goal

pub returns : goal.returns
returns c =
    let n = c.args.n.now in
    let s = c.args.s in
    let old = map plain_case_arm c.args.out.now.items in
    let one = map plain_case_arm c.put_branch.new.out.items in
    let two = map plain_case_arm c.put_branch-2.new.out.items in
    let three = map plain_case_arm c.put_branch-3.new.out.items in
    let new = map plain_case_arm c.put_branch-4.new.out.items in
    let a : PCaseArm = arm_at s has_else (on_else n s) in
    let b : PCaseArm = arm_at s has_delay (on_delay n s) in
    let d : PCaseArm = arm_at s has_call_else (on_other_part n s (codes "C")) in
    arms-more old three new (a ∷ b ∷ d ∷ []) (arm_at s has_expired (on_other_part n s (codes "T"))) c.put_branch-4.result
    (arms-more old two three (a ∷ b ∷ []) d (Ok tt)
    (arms-more old one two (a ∷ []) b (Ok tt)
    (arm-put old one s has_else (on_else n s) (Ok tt) c.task_line.result c.in_ok-put_branch.ensures c.task_line.ensures)
    (arm-put one two s has_delay (on_delay n s) (Ok tt) c.delay_line.result c.in_ok-put_branch-2.ensures c.delay_line.ensures))
    (arm-put two three s has_call_else (on_other_part n s (codes "C")) (Ok tt) c.on_other_part.result c.in_ok-put_branch-3.ensures c.on_other_part.ensures))
    (arm-put three new s has_expired (on_other_part n s (codes "T")) c.put_branch-4.result c.on_other_part-2.result c.put_branch-4.ensures c.on_other_part-2.ensures)
