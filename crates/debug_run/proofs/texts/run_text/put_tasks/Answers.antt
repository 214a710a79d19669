use Rattle.std.proofs.Common.{◌∙◌, drop, arith}
use Rattle.debug_run.specs.texts.RunText.{task_line, task_lines, lines_at}
use Rattle.debug_run.proofs.texts.Lining.{no_info, lines_more, lines_stop, lines_all, lines_beyond}
use Rattle.debug_run.proofs.texts.run_text.put_tasks.Goals as goal

pub loop-t-preserved : goal.loop-t-preserved
loop-t-preserved g c = (
  lines_more _ _ _ (task_line c.args.names.now) c.args.tasks.now c.loop-t.t no_info (g.K.Sink.told c.args.out.now) (g.K.Sink.told c.loop-t.out) (g.K.Sink.told c.put_task.new.out)
      (task_lines c.args.names.now c.args.tasks.now) c.loop-t-test.true c.loop-t.invariant.0 c.in-Ok.ensures.bytes,
  c.in-Ok.ensures.cause ∙ c.loop-t.invariant.1,
)

pub returns-in-Err-clause-bytes : goal.returns-in-Err-clause-bytes
returns-in-Err-clause-bytes g c =
    lines_stop _ c.in-Err.e (task_line c.args.names.now) c.args.tasks.now c.loop-t.t no_info (g.K.Sink.told c.args.out.now) (g.K.Sink.told c.loop-t.out) (g.K.Sink.told c.put_task.new.out)
    (task_lines c.args.names.now c.args.tasks.now) c.loop-t-test.true c.loop-t.invariant.0 c.in-Err.ensures.bytes

pub returns-clause-bytes : goal.returns-clause-bytes
returns-clause-bytes g c =
    lines_all _ _ _ (g.K.Sink.told c.args.out.now) (g.K.Sink.told c.loop-t.out) (task_lines c.args.names.now c.args.tasks.now)
    (lines_at (task_line c.args.names.now) c.loop-t.t (drop c.loop-t.t c.args.tasks.now)) c.loop-t.invariant.0
    (lines_beyond (task_line c.args.names.now) c.args.tasks.now c.loop-t.t (omega arith))
