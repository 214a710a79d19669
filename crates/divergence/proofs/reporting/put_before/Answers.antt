use Rattle.std.proofs.Common.{◌∙◌, refl, arith}
use Rattle.ded_io.proofs.Writes.{wrote_none}
use Rattle.feasible.specs.Failing.{view_at}
use Rattle.divergence.specs.JudgeText.{task_part}
use Rattle.divergence.proofs.Telling.{settled_at, told_next, told_stop}
use Rattle.divergence.proofs.reporting.put_before.Goals as goal

pub put_task-requires : goal.put_task-requires
put_task-requires g c = settled_at c.args.j.now.tasks c.args.last c.loop-task.task c.requires (omega arith)

pub loop-task-init : goal.loop-task-init
loop-task-init g c = (wrote_none _ _ tt (g.K.Sink.told c.args.out.now), refl)

pub loop-task-preserved : goal.loop-task-preserved
loop-task-preserved g c = (
  told_next _ _ _ _ _ _ (task_part c.args.names.now c.args.numbers.now (view_at c.args.j.now.tasks)) c.loop-task.task _ _ _ (g.K.Sink.told c.args.out.now) (g.K.Sink.told c.loop-task.out)
      (g.K.Sink.told c.put_task.new.out) c.loop-task.invariant.0 c.in-Ok.ensures.bytes,
  c.in-Ok.ensures.cause ∙ c.loop-task.invariant.1,
)

pub returns-in-Err-clause-bytes : goal.returns-in-Err-clause-bytes
returns-in-Err-clause-bytes g c =
    told_stop _ _ _ _ _ _ (task_part c.args.names.now c.args.numbers.now (view_at c.args.j.now.tasks)) c.args.last c.loop-task.task _ c.in-Err.e c.in-Err.e (g.K.Sink.told c.args.out.now)
    (g.K.Sink.told c.loop-task.out) (g.K.Sink.told c.put_task.new.out) c.loop-task-test.true c.loop-task.invariant.0 c.in-Err.ensures.bytes
