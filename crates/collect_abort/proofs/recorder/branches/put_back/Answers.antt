use Rattle.collect_abort.specs.Looked.{told_of}
use Rattle.collect_abort.specs.Branches.{back_arm}
use Rattle.collect_abort.proofs.Counted.{arm-kept}
use Rattle.collect_abort.proofs.recorder.branches.put_back.Goals as goal

pub returns : goal.returns
returns c =
    arm-kept c.args.out.now.items c.push_case_arm.new.list.items (back_arm (told_of c.args.x.now) c.args.s) c.push_case_arm.result c.back_arm.result c.push_case_arm.ensures c.back_arm.ensures
