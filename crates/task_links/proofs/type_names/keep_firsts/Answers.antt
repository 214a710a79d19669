use Rattle.task_links.proofs.KeepingLemmas.{first_step}
use Rattle.task_links.proofs.type_names.keep_firsts.Goals as goal

pub loop-mark-preserved : goal.loop-mark-preserved
loop-mark-preserved c =
    first_step c.args.map.now c.loop-mark.map c.keep_first.new.map c.args.marks.now c.loop-mark.mark-index _ c.loop-mark-test.true c.loop-mark.invariant c.in_ok-keep_first.ensures
