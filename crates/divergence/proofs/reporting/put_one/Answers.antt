use Rattle.std.proofs.Common.{[]}
use Rattle.std.proofs.lemmas.List.Elements.{All-head}
use Rattle.feasible.specs.Keeping.{IsSettled}
use Rattle.divergence.proofs.reporting.put_one.Goals as goal

pub put_task-requires : goal.put_task-requires
put_task-requires g c = All-head (IsSettled c.args.j.now.tasks) c.args.task [] c.requires
