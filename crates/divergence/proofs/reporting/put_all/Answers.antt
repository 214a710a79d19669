use Rattle.feasible.specs.Failing.{view_at}
use Rattle.divergence.specs.JudgeText.{task_part}
use Rattle.divergence.proofs.Telling.{told_last}
use Rattle.divergence.proofs.reporting.put_all.Goals as goal

pub returns-clause-bytes : goal.returns-clause-bytes
returns-clause-bytes g c =
    told_last _ _ _ (task_part c.args.names.now c.args.numbers.now (view_at c.args.j.now.tasks)) c.args.last (g.K.Sink.told c.args.out.now) (g.K.Sink.told c.put_to_last.new.out)
    c.put_to_last.ensures.bytes
