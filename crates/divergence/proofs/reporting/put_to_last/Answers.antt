use Rattle.std.proofs.Common.{arith}
use Rattle.divergence.proofs.Telling.{settled_at}
use Rattle.divergence.proofs.reporting.put_to_last.Goals as goal

pub put_task-requires : goal.put_task-requires
put_task-requires g c = settled_at c.args.j.now.tasks c.args.last c.args.last c.requires (omega arith)
