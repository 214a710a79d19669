use Rattle.std.proofs.Common.{[], ◌∷◌}
use Rattle.std.proofs.lemmas.List.Elements.{All-head, All-tail}
use Rattle.feasible.specs.Keeping.{IsSettled}
use Rattle.divergence.proofs.reporting.put_two.Goals as goal

pub put_task-requires : goal.put_task-requires
put_task-requires g c = All-head (IsSettled c.args.j.now.tasks) c.args.caller (c.args.owner ∷ []) c.requires

pub put_task-requires-2 : goal.put_task-requires-2
put_task-requires-2 g c = All-head (IsSettled c.args.j.now.tasks) c.args.owner [] (All-tail (IsSettled c.args.j.now.tasks) c.args.caller (c.args.owner ∷ []) c.requires)
