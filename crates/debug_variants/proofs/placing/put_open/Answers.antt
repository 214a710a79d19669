use Rattle.std.proofs.Common.{◌∙◌, get_or, refl}
use Rattle.std.proofs.lemmas.List.{get_or_default}
use Rattle.ded_io.proofs.Members.{wrote_member, wrote_member_stop}
use Rattle.ded_io.proofs.Writes.{wrote_none}
use Rattle.debug_variants.specs.VariantsOutcomes.{open_line}
use Rattle.debug_variants.proofs.placing.put_open.Goals as goal

pub loop-task-init : goal.loop-task-init
loop-task-init g c = (wrote_none _ _ _ _, refl)

pub loop-task-preserved : goal.loop-task-preserved
loop-task-preserved g c =
    let task = get_or c.args.tasks.now c.loop-task.task-index 0 in (
      wrote_member _ _ _ _ _ open_line c.args.tasks.now c.loop-task.task-index task _ _ _ (g.K.Sink.told c.args.out.now) (g.K.Sink.told c.loop-task.out)
          (g.K.Sink.told c.put_numbered.new.out) (open_line task) c.loop-task-test.true
          (get_or_default c.args.tasks.now c.loop-task.task-index 0 task c.loop-task-test.true) c.loop-task.invariant.0 c.in-Ok.ensures.bytes refl,
      c.in-Ok.ensures.cause ∙ c.loop-task.invariant.1,
    )

pub returns-in-Err-clause-bytes : goal.returns-in-Err-clause-bytes
returns-in-Err-clause-bytes g c =
    let task = get_or c.args.tasks.now c.loop-task.task-index 0 in
    wrote_member_stop _ _ _ _ _ _ open_line c.args.tasks.now c.loop-task.task-index task _ c.in-Err.error c.in-Err.error (g.K.Sink.told c.args.out.now) (g.K.Sink.told c.loop-task.out)
    (g.K.Sink.told c.put_numbered.new.out) (open_line task) c.loop-task-test.true
    (get_or_default c.args.tasks.now c.loop-task.task-index 0 task c.loop-task-test.true) c.loop-task.invariant.0 c.in-Err.ensures.bytes refl
